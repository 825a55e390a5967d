-- The branches of a choice from one of them on.
use Rattle.std.proofs.Common.{◌≡◌, ◌∙◌, ◌+◌, ◌<◌, refl, sym, ap, ℕ, zero, suc, arith, List, [], ◌∷◌, length, drop, get_or, add-one}
use Rattle.fst_types.specs.Tree.{branch}
use Rattle.fst_types.specs.ModelView.{branches_of}
use Rattle.fst_types.specs.declared.ty.Branch.{Branch}

branches_from : (bs : List Branch) (i : ℕ) (d : Branch) → i < length bs →
    branches_of (drop i bs) ≡ branch (get_or bs i d).label (get_or bs i d).body (branches_of (drop (suc i) bs))
branches_from [] i d h = absurd (omega arith)
branches_from (b ∷ bs) zero d h = refl
branches_from (b ∷ bs) (suc i) d h = branches_from bs i d (omega arith)

-- the branches from a place on: the one there, and then the others
pub branches_at : (bs : List Branch) (i : ℕ) (b : Branch) → i < length bs → b ≡ get_or bs i b →
    branches_of (drop i bs) ≡ branch b.label b.body (branches_of (drop (i + 1) bs))
branches_at bs i b h is = rw add-one (branches_from bs i b h ∙ ap
    (λ x. branch x.label x.body (branches_of (drop (suc i) bs))) (sym is))
