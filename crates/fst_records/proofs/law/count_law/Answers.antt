use Rattle.fst_records.proofs.Counts.{as_many}
use Rattle.fst_records.proofs.law.count_law.Goals as goal

pub returns : goal.returns
returns c = as_many
