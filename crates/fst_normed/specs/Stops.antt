-- What a stop of the decision shows.
use Rattle.std.specs.Prelude.{⊤}
use Rattle.fst_normed.specs.declared.stop.Stop.{Stop}
use Rattle.fst_normed.specs.declared.stop.Stop.TheVariants.{Difference, Spent, Memory}

-- a stop at a difference shows the first, one for want of rewrites the second
abbrev pub Shows : Stop → Type 0 → Type 0 → Type 0
Shows Difference P Q = P
Shows Spent P Q = Q
Shows Memory P Q = ⊤
