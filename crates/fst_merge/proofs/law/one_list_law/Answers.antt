use Rattle.fst_merge.proofs.OneList.{one_list}
use Rattle.fst_merge.proofs.law.one_list_law.Goals as goal

pub returns : goal.returns
returns c = one_list
