-- How many terms there are in a list.
use Rattle.std.proofs.Common.{◌≡◌, List, [], ◌∷◌, length, refl, ap, suc}
use Rattle.fst_terms.specs.CoreTree.{CoreTree}
use Rattle.fst_terms.specs.InRange.{terms_length}
use Rattle.fst_terms.specs.ModelCoreView.{cores_of}

-- as many as in their list
pub terms_length-cores : (ts : List CoreTree) → terms_length (cores_of ts) ≡ length ts
terms_length-cores [] = refl
terms_length-cores (t ∷ ts) = ap suc (terms_length-cores ts)
