-- A choice by a test.
use Rattle.std.proofs.Common.{◌≡◌, ◌⊎◌, inl, inr, Bool, true, false, Some, None, refl}
use Rattle.fst_base.specs.Choice.{choose}

-- which way a test went
pub chosen : {A : Type 0} (b : Bool) (x y z : A) → choose b x y ≡ z → ((b ≡ true) × (x ≡ z)) ⊎ ((b ≡ false) × (y ≡ z))
unfolding choose
chosen true x y z e = inl (refl, e)
chosen false x y z e = inr (refl, e)

-- a value that is there by a test
pub some_chosen : {A : Type 0} (b : Bool) (x y : A) → choose b (Some x) None ≡ Some y → (b ≡ true) × (x ≡ y)
unfolding choose
some_chosen true x y e = (refl, cc)
some_chosen false x y e = absurd (cc e)

-- the choice where the test holds
pub choose_true : {A : Type 0} (b : Bool) (x y : A) → b ≡ true → choose b x y ≡ x
unfolding choose
choose_true b x y e = rw e refl

-- the choice where it fails
pub choose_false : {A : Type 0} (b : Bool) (x y : A) → b ≡ false → choose b x y ≡ y
unfolding choose
choose_false b x y e = rw e refl
