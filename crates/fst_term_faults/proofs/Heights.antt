-- How high the parts of a list are.
use Rattle.std.proofs.Common.{ℕ, zero, suc, ◌<◌, ◌≤◌, List, [], ◌∷◌, length, get_or, arith}
use Rattle.fst_terms.specs.TermTree.{TermTree, term_height, terms_height, arms_height}
use Rattle.fst_terms.specs.ModelView.{terms_of, arms_of}
use Rattle.fst_terms.specs.declared.term.SourceArm.{SourceArm}

-- a term is no higher than the highest
pub terms_height_at : (ts : List TermTree) (i : ℕ) (d : TermTree) → i < length ts →
    term_height (get_or ts i d) ≤ terms_height (terms_of ts)
terms_height_at [] i d h = absurd (omega arith)
terms_height_at (t ∷ ts) zero d h = omega arith
terms_height_at (t ∷ ts) (suc i) d h = let h' : i < length ts = omega arith in omega (arith, terms_height_at ts i d h')

-- an arm is no higher than the highest
pub arms_height_at : (bs : List SourceArm) (i : ℕ) (d : SourceArm) → i < length bs →
    term_height ((get_or bs i d).body) ≤ arms_height (arms_of bs)
arms_height_at [] i d h = absurd (omega arith)
arms_height_at (b ∷ bs) zero d h = omega arith
arms_height_at (b ∷ bs) (suc i) d h = let h' : i < length bs = omega arith in omega (arith, arms_height_at bs i d h')
