-- An end counts where its channel does, on its side.
use Rattle.std.proofs.Common.{◌≡◌, ℕ, ◌*◌, Bool, true, false, ◌&&◌, refl, arith}
use Rattle.fst_types.specs.declared.side.Side.{Side}
use Rattle.fst_types.specs.declared.side.Side.TheVariants.{Left, Right}
use Rattle.fst_runs.specs.Configs.{same_side}
use Rattle.fst_runs.specs.Wrong.{once}
use Rattle.fst_safety.specs.Turns.{on_side}

-- an end counts where its channel does, on its side
pub by_sides : (b : Bool) (s t : Side) (n : ℕ) → on_side s t (once b * n) ≡ once (b && same_side s t) * n
by_sides true Left Left n = refl
by_sides true Left Right n = omega arith
by_sides true Right Left n = omega arith
by_sides true Right Right n = refl
by_sides false Left Left n = refl
by_sides false Left Right n = omega arith
by_sides false Right Left n = omega arith
by_sides false Right Right n = refl

-- the same of one
pub by_side : (b : Bool) (s t : Side) → on_side s t (once b) ≡ once (b && same_side s t)
by_side true Left Left = refl
by_side true Left Right = refl
by_side true Right Left = refl
by_side true Right Right = refl
by_side false Left Left = refl
by_side false Left Right = refl
by_side false Right Left = refl
by_side false Right Right = refl
