-- The places of binders.
use Rattle.std.proofs.Common.{◌≡◌, ◌<◌, ◌≤◌, refl, ℕ, zero, suc, arith, List, [], ◌∷◌, length, get_or}
use Rattle.fst_parts.specs.Place.{binder}

-- the binder at a place of the list
pub binder_read : (bs : List ℕ) (k d : ℕ) → k < length bs → binder bs k ≡ get_or bs k d
binder_read [] k d h = absurd (omega arith)
binder_read (b ∷ bs) zero d h = refl
binder_read (b ∷ bs) (suc k) d h = binder_read bs k d (omega arith)

pub binder_past : (bs : List ℕ) (k : ℕ) → length bs ≤ k → binder bs k ≡ 0
binder_past [] k h = refl
binder_past (b ∷ bs) zero h = absurd (omega arith)
binder_past (b ∷ bs) (suc k) h = binder_past bs k (omega arith)
