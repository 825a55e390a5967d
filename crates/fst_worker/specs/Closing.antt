-- Channels that are closed at the end of a run, and the order of their names.
use Rattle.std.specs.Prelude.{◌≡◌, ℕ, ◌+◌, List, map, sum_by, All}
use Rattle.std.specs.declared.cmp.Ordering.{Ordering}
use Rattle.fst_types.specs.Tree.{Tree}
use Rattle.fst_derivations.specs.Rules.{Surroundings}
use Rattle.fst_types.specs.declared.ends.ChannelName.{ChannelName}
use Rattle.fst_cell.specs.declared.answers.Closed.{Closed}
use Rattle.fst_cell.specs.End.{EndView}
use Rattle.fst_runs.specs.Logs.{Birth}
pub use Rattle.fst_records.specs.NameOrder.{name_cmp}
use Rattle.fst_safety.specs.Threads.{Thread}
use Rattle.fst_safety.specs.Turns.{of_ends}
use Rattle.fst_worker.specs.Works.{IsRun}
use Rattle.fst_worker.specs.Records.{Pair, IsShut}

-- ---- names in order

-- ends compare by the names of their channels
abbrev pub channel_cmp : EndView → EndView → Ordering
channel_cmp d e = name_cmp d.channel e.channel

-- the names of closed channels
abbrev pub names_of : List Closed → List ChannelName
names_of cs = map (λ (c : Closed). c.history.name) cs

-- ---- channels that are closed

-- these ends are all ends, open and spent, of the tasks of a run
pub record AreOfRun (es : List EndView) : Type 0 where
  pub surroundings : Surroundings
  pub type : Tree
  pub main : Birth
  pub threads : List Thread
  pub run : IsRun surroundings type main threads
  pub ends : (w : EndView → ℕ) → sum_by (of_ends w) threads ≡ sum_by w es

-- the two ends are those of a channel, in either order, and closing it gave this
pub record IsClosedTo (d e : EndView) (c : Closed) : Type 0 where
  pub pair : Pair
  pub ends : (w : EndView → ℕ) → w d + w e ≡ w pair.left + w pair.right
  pub shut : IsShut pair
  pub closed : pair.closed ≡ c
  pub named : c.history.name ≡ d.channel

-- these ends are the two ends of channels, and closing these gave this, one after the other
pub record AreClosedTo (es : List EndView) (cs : List Closed) : Type 0 where
  pub pairs : List Pair
  pub ends : (w : EndView → ℕ) → sum_by w es ≡ sum_by (λ (p : Pair). w p.left + w p.right) pairs
  pub shut : All IsShut pairs
  pub closed : map (λ (p : Pair). p.closed) pairs ≡ cs
