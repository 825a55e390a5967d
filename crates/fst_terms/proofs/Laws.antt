-- What other crates cite of terms: the parts of one are no higher than the highest.
use Rattle.std.proofs.Common.{ℕ, zero, suc, ◌<◌, ◌≤◌, List, [], ◌∷◌, length, get_or, arith}
use Rattle.fst_terms.specs.CoreTree.{CoreTree, core_height, cores_height, core_arms_height}
use Rattle.fst_terms.specs.ModelCoreView.{cores_of, core_arms_of}
use Rattle.fst_terms.specs.declared.core_term.Arm.{Arm}

-- an argument is no higher than the highest
pub cores_height_at : (ts : List CoreTree) (i : ℕ) (d : CoreTree) → i < length ts →
    core_height (get_or ts i d) ≤ cores_height (cores_of ts)
cores_height_at [] i d h = absurd (omega arith)
cores_height_at (t ∷ ts) zero d h = omega arith
cores_height_at (t ∷ ts) (suc i) d h = let h' : i < length ts = omega arith in omega (arith, cores_height_at ts i d h')

-- an arm is no higher than the highest
pub core_arms_height_at : (bs : List Arm) (i : ℕ) (d : Arm) → i < length bs →
    core_height (get_or bs i d).body ≤ core_arms_height (core_arms_of bs)
core_arms_height_at [] i d h = absurd (omega arith)
core_arms_height_at (b ∷ bs) zero d h = omega arith
core_arms_height_at (b ∷ bs) (suc i) d h = let h' : i < length bs = omega arith in omega (arith, core_arms_height_at bs i d h')
