-- Runs whose events have their stamps.
use Rattle.std.specs.Prelude.{◌≡◌, ℕ, List, [], ◌∷◌, Some, map}
use Rattle.fst_types.specs.Tree.{Tree}
use Rattle.fst_machine.specs.Machine.{Program}
use Rattle.fst_runs.specs.declared.event.CoreEvent.{CoreEvent}
use Rattle.fst_runs.specs.declared.event.Stamped.{Stamped}
use Rattle.fst_runs.specs.Configs.{Path, Task, Config}
use Rattle.fst_runs.specs.Events.{Write, Does, written}

-- each task that is written has this clock
abbrev pub IsStamp : Write → ℕ → Type 0
IsStamp w n = (p : Path) (t : Task) → w.tasks p ≡ Some t → t.clock ≡ n

-- the events are possible one after the other, each with its stamp, and lead to the second configuration
abbrev pub RunsAt : Program → List Tree → Config → List Stamped → Config → Type 0
RunsAt m types c [] d = d ≡ c
RunsAt m types c (e ∷ es) d = (w : Write) × Does m types c e.event w × IsStamp w e.stamp ×
    RunsAt m types (written c w) es d

-- the events without their stamps
abbrev pub events_in : List Stamped → List CoreEvent
events_in es = map (λ (e : Stamped). e.event) es
