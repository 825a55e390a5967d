-- When a task can move, as a test of what it asks for.
use Rattle.std.specs.Prelude.{◌≡◌, ◌↔◌, ◌+◌, ◌&&◌, ℕ, Bool, true, false, Option, Some, None, List, length, nat_eq, nat_lt}
use Rattle.fst_types.specs.Tree.{Tree}
use Rattle.fst_types.specs.declared.side.Side.{Side}
use Rattle.fst_lts.specs.Histories.{opposite}
use Rattle.fst_types.specs.declared.ends.ChannelName.{ChannelName}
use Rattle.fst_machine.specs.Machine.{Program}
use Rattle.fst_machine.specs.declared.request.Request.{Request}
use Rattle.fst_machine.specs.declared.request.Request.TheVariants.{Step, New, Fork, Put, Get, Ended}
use Rattle.fst_runs.specs.Configs.{Path, Task}
use Rattle.fst_buffered.specs.Channels.{Channel, Config, seen}
use Rattle.fst_buffered.specs.Events.{Asks, CanMove}

-- a side can put something in: its view is whole, and there is room
abbrev pub can_put : Side → ℕ → Option Channel → Bool
can_put s capacity None = false
can_put s capacity (Some k) = nat_eq (seen s k) (length k.history) && nat_lt (length k.history)
    (seen (opposite s) k + capacity)

-- a side can take something: its view lacks an entry
abbrev pub can_take : Side → Option Channel → Bool
can_take s None = false
can_take s (Some k) = nat_lt (seen s k) (length k.history)

-- a task can move that asks for this, where the module has so many types
abbrev pub can : ℕ → ℕ → (ChannelName → Option Channel) → Request → Bool
can types capacity channels Step = true
can types capacity channels (New n) = nat_lt n types
can types capacity channels Fork = true
can types capacity channels (Put x ev) = can_put x.side capacity (channels x.channel)
can types capacity channels (Get x) = can_take x.side (channels x.channel)
can types capacity channels Ended = false

-- the test tells exactly which tasks can move
abbrev pub MovesExactly : Type 0
MovesExactly =
    (m : Program) (types : List Tree) (capacity : ℕ) (c : Config) (p : Path) (t : Task)
    (q : Request) → Asks m c p t q →
    (can (length types) capacity c.channels q ≡ true) ↔ CanMove m types capacity c p
