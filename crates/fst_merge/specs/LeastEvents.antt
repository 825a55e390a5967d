-- The events of a module: those of its least run, sorted.
use Rattle.std.specs.Prelude.{◌≡◌, List, Some}
use Rattle.fst_terms.specs.CoreTree.{CoreTree}
use Rattle.fst_terms.specs.declared.core_module.Module.{Module}
use Rattle.fst_derivations.specs.Deriv.{Deriv}
use Rattle.fst_derivations.specs.Modules.{HasDerivations}
use Rattle.fst_runs.specs.declared.event.CoreEvent.{CoreEvent}
use Rattle.fst_runs.specs.declared.event.Stamped.{Stamped}
use Rattle.fst_runs.specs.Configs.{Config, program, main_body, started}
use Rattle.fst_runs.specs.Events.{IsLast}
use Rattle.fst_runs.specs.Least.{RunsLeast}
use Rattle.fst_runs.specs.Order.{AreSorted}
use Rattle.fst_runs.specs.StampedRuns.{RunsAt, events_in}
use Rattle.fst_safety.specs.Diamond.{IsArranged}

-- these are the events of the module's least run, which comes to an end, with their stamps, sorted
pub record AreEventsOf (m : Module) (main : CoreTree) (es : List Stamped) : Type 0 where
  pub run : List Stamped
  pub config : Config
  pub at : RunsAt (program m) m.types.items (started main) run config
  pub least : RunsLeast (program m) m.types.items (started main) (events_in run) config
  pub last : IsLast (program m) m.types.items config
  pub arranged : IsArranged run es
  pub sorted : AreSorted es
  -- in this order they are a run, too
  pub in_order : RunsAt (program m) m.types.items (started main) es config

-- the sorted events of whichever run of a module with derivations that comes to an end are these
abbrev pub SortedLaw : Type 0
SortedLaw = (m : Module) (ds : List Deriv) → HasDerivations m ds →
    (main : CoreTree) → main_body m.globals.items ≡ Some main →
    (es : List Stamped) (c : Config) → RunsAt (program m) m.types.items (started main) es c →
    IsLast (program m) m.types.items c → AreSorted es →
    (fs : List CoreEvent) (d : Config) →
    RunsLeast (program m) m.types.items (started main) fs d →
    IsLast (program m) m.types.items d → AreEventsOf m main es

-- and these are one list
abbrev pub OneListLaw : Type 0
OneListLaw = (m : Module) (ds : List Deriv) → HasDerivations m ds →
    (main : CoreTree) → main_body m.globals.items ≡ Some main →
    (es fs : List Stamped) → AreEventsOf m main es → AreEventsOf m main fs → es ≡ fs
