use Rattle.fst_merge.proofs.RunCounts.{run_names}
use Rattle.fst_merge.proofs.law.names_law.Goals as goal

pub returns : goal.returns
returns c = run_names
