use Rattle.fst_records.proofs.AlongRuns.{extends}
use Rattle.fst_records.proofs.law.extends_law.Goals as goal

pub returns : goal.returns
returns c = extends
