-- What a stop shows, by what shows it.
use Rattle.fst_normed.specs.declared.stop.Stop.{Stop}
use Rattle.fst_normed.specs.declared.stop.Stop.TheVariants.{Difference, Spent, Memory}
use Rattle.fst_normed.specs.Stops.{Shows}

-- what shows each shows what follows from it
pub shows_on : (s : Stop) (P Q P2 Q2 : Type 0) → (P → P2) → (Q → Q2) → Shows s P Q → Shows s P2 Q2
shows_on Difference P Q P2 Q2 f g h = f h
shows_on Spent P Q P2 Q2 f g h = g h
shows_on Memory P Q P2 Q2 f g h = tt
