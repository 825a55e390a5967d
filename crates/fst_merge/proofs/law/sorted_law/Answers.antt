use Rattle.fst_merge.proofs.OneList.{sorted_events}
use Rattle.fst_merge.proofs.law.sorted_law.Goals as goal

pub returns : goal.returns
returns c = sorted_events
