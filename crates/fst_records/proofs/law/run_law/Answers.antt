use Rattle.fst_records.proofs.Sorting.{sorted_run}
use Rattle.fst_records.proofs.law.run_law.Goals as goal

pub returns : goal.returns
returns c = sorted_run
