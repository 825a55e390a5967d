use Rattle.fst_breadth.proofs.Determined.{same_entries}
use Rattle.fst_breadth.proofs.law.first_pairs_are_determined.Goals as goal

pub returns : goal.returns
returns c = same_entries
