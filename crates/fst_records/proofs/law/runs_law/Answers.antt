use Rattle.fst_records.proofs.AlongRuns.{runs}
use Rattle.fst_records.proofs.law.runs_law.Goals as goal

pub returns : goal.returns
returns c = runs
