-- Lemmas by what they are used for.
use Rattle.fst_types.proofs.Laws.{height_at}
use Rattle.fst_parts.proofs.BranchLaws.{branches_at}
use Rattle.fst_parts.proofs.LabelLaws.{inserted_append}

-- the labels of one branch after those of another
pub ruleset labels_of_branches = (height_at, inserted_append, branches_at)
