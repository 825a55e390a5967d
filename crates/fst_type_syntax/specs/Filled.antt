-- That each choice in two written types has a branch, as a fact that a question keeps.
use Rattle.fst_types.specs.WrittenTree.{WrittenTree, HasBranches}
use Rattle.fst_terms.specs.FilledFacts.{both, has_prop}

-- that two written types have their branches is no more than a fact
pub both_prop : (s t : WrittenTree) → IsProp (HasBranches s × HasBranches t)
both_prop s t = both (has_prop s) (has_prop t)
