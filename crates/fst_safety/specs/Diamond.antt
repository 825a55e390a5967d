-- What is said of the orders in which the events of a run may happen.
use Rattle.std.specs.Prelude.{◌≡◌, ◌≤◌, ℕ, List, length, Some, sum_by}
use Rattle.fst_types.specs.Tree.{Tree}
use Rattle.fst_terms.specs.CoreTree.{CoreTree}
use Rattle.fst_terms.specs.declared.core_module.Module.{Module}
use Rattle.fst_derivations.specs.Deriv.{Deriv}
use Rattle.fst_derivations.specs.Modules.{HasDerivations}
use Rattle.fst_machine.specs.Machine.{Program}
use Rattle.fst_runs.specs.declared.event.CoreEvent.{CoreEvent}
use Rattle.fst_runs.specs.declared.event.Stamped.{Stamped}
use Rattle.fst_runs.specs.Configs.{Config, program, main_body, started}
use Rattle.fst_runs.specs.Events.{Write, written, Does, Runs, IsLast}
use Rattle.fst_runs.specs.Names.{HasMakers, HasParents}
use Rattle.fst_runs.specs.Wrong.{IsRight}
use Rattle.fst_runs.specs.Order.{AreSorted}
use Rattle.fst_runs.specs.StampedRuns.{RunsAt}

-- each of two events stays possible after the other and writes the same, and both orders lead to one configuration
abbrev pub Commutes : Program → List Tree → Config → CoreEvent → Write → CoreEvent → Write → Type 0
Commutes m types c a v b w = Does m types (written c v) b w × Does m types (written c w) a v ×
    (written (written c v) w ≡ written (written c w) v)

-- two different events that are possible in a configuration that isn't wrong, whose names are those that counts have given, commute
abbrev pub DiamondLaw : Type 0
DiamondLaw = (m : Program) (types : List Tree) (c : Config) → IsRight m c → HasMakers c →
    HasParents c →
    (a b : CoreEvent) (v w : Write) → Does m types c a v → Does m types c b w → (a ≡ b → ⊥) →
    Commutes m types c a v b w

-- where a run of such a module comes to an end, none is longer, and each that does is as long and ends in the same configuration
abbrev pub OneEnd : Type 0
OneEnd =
    (m : Module) (ds : List Deriv) → HasDerivations m ds →
    (e : CoreTree) → main_body m.globals.items ≡ Some e →
    (es : List CoreEvent) (d : Config) → Runs (program m) m.types.items (started e) es d →
    IsLast (program m) m.types.items d →
    (fs : List CoreEvent) (c : Config) → Runs (program m) m.types.items (started e) fs c →
    (length fs ≤ length es) × (IsLast (program m) m.types.items c → (length fs ≡ length es) ×
    (c ≡ d))

-- runs of such a module that come to an end have the same events with the same stamps, each as often
abbrev pub SameEvents : Type 0
SameEvents =
    (m : Module) (ds : List Deriv) → HasDerivations m ds →
    (e : CoreTree) → main_body m.globals.items ≡ Some e →
    (es fs : List Stamped) (c d : Config) → RunsAt (program m) m.types.items (started e) es c →
    IsLast (program m) m.types.items c → RunsAt (program m) m.types.items (started e) fs d →
    IsLast (program m) m.types.items d → (w : Stamped → ℕ) → sum_by w es ≡ sum_by w fs

-- the second list has the items of the first, each as often
abbrev pub IsArranged : List Stamped → List Stamped → Type 0
IsArranged es fs = (w : Stamped → ℕ) → sum_by w fs ≡ sum_by w es

-- so their events, sorted, are one list
abbrev pub OneOrder : Type 0
OneOrder =
    (m : Module) (ds : List Deriv) → HasDerivations m ds →
    (e : CoreTree) → main_body m.globals.items ≡ Some e →
    (es fs : List Stamped) (c d : Config) → RunsAt (program m) m.types.items (started e) es c →
    IsLast (program m) m.types.items c → RunsAt (program m) m.types.items (started e) fs d →
    IsLast (program m) m.types.items d → (gs hs : List Stamped) → IsArranged es gs → AreSorted gs →
    IsArranged fs hs → AreSorted hs → gs ≡ hs
