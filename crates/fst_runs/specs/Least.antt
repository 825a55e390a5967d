-- Which run is the least, and what a run answers.
use Rattle.std.specs.Prelude.{◌≡◌, ◌⊎◌, List, [], ◌∷◌, Some}
use Rattle.std.specs.Ordering.{nat_cmp}
use Rattle.std.specs.declared.cmp.Ordering.TheVariants.{Less}
use Rattle.std.specs.Cmp.Lexicographic.{slice_cmp}
use Rattle.fst_types.specs.Tree.{Tree}
use Rattle.fst_types.specs.declared.ends.EndName.{EndName}
use Rattle.fst_types.specs.declared.event.Event.{Event}
use Rattle.fst_machine.specs.Machine.{Program, request}
use Rattle.fst_machine.specs.declared.request.Request.TheVariants.{Put, Get}
use Rattle.fst_runs.specs.declared.event.CoreEvent.{CoreEvent}
use Rattle.fst_runs.specs.declared.event.CoreEvent.TheVariants.{Local, New, Fork, Meet}
use Rattle.fst_runs.specs.Configs.{Path, Task, Config}
use Rattle.fst_runs.specs.Events.{Write, Does, written}

-- one path comes before another: they are ordered as lists of numbers, a prefix first
abbrev pub IsBefore : Path → Path → Type 0
IsBefore p q = slice_cmp nat_cmp p q ≡ Less

-- the task with this path takes part in the event
abbrev pub TakesPart : Path → CoreEvent → Type 0
TakesPart p (Local q) = p ≡ q
TakesPart p (New q) = p ≡ q
TakesPart p (Fork q) = p ≡ q
TakesPart p (Meet q r h) = (p ≡ q) ⊎ (p ≡ r)

-- the task can move: an event in which it takes part is possible
abbrev pub CanMove : Program → List Tree → Config → Path → Type 0
CanMove m types c p = (e : CoreEvent) × (w : Write) × TakesPart p e × Does m types c e w

-- the event is one of the least task that can move
pub record IsLeast (m : Program) (types : List Tree) (c : Config) (e : CoreEvent) : Type 0 where
  pub path : Path
  pub takes_part : TakesPart path e
  pub none_before : (q : Path) → IsBefore q path → CanMove m types c q → ⊥

-- the run in which always the least task moves that can
abbrev pub RunsLeast : Program → List Tree → Config → List CoreEvent → Config → Type 0
RunsLeast m types c [] d = d ≡ c
RunsLeast m types c (e ∷ es) d = (w : Write) × Does m types c e w × IsLeast m types c e ×
    RunsLeast m types (written c w) es d

-- the task waits at an end
abbrev pub WaitsAt : Program → Config → Path → EndName → Type 0
WaitsAt m c p x =
    (t : Task) × (c.tasks p ≡ Some t) ×
    (((ev : Event) × (request m.families t.state ≡ Some (Put x ev))) ⊎
    (request m.families t.state ≡ Some (Get x)))
