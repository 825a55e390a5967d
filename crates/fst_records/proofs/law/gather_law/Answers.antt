use Rattle.fst_records.proofs.Gathering.{gathers}
use Rattle.fst_records.proofs.law.gather_law.Goals as goal

pub returns : goal.returns
returns c = gathers
