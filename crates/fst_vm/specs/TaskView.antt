-- A task: its path, how many tasks it has forked, where its code runs, and whether it is ready.
use Rattle.std.specs.Prelude.{ℕ, Bool, List}
use Rattle.fst_machine.specs.Spots.{Spot}

-- what contracts see of a task; one that is ready has the room to go on after what it sends or receives
pub record TaskView : Type 0 where
  pub path : List ℕ
  pub forked : ℕ
  pub spot : Spot
  pub ready : Bool
