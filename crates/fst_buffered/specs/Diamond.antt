-- What is said of the orders in which things may happen in a buffered run.
use Rattle.std.specs.Prelude.{◌≡◌, ◌≤◌, ℕ, List, length, Some}
use Rattle.fst_types.specs.Tree.{Tree}
use Rattle.fst_terms.specs.CoreTree.{CoreTree}
use Rattle.fst_terms.specs.declared.core_module.Module.{Module}
use Rattle.fst_derivations.specs.Deriv.{Deriv}
use Rattle.fst_derivations.specs.Modules.{HasDerivations}
use Rattle.fst_machine.specs.Machine.{Program}
use Rattle.fst_runs.specs.Configs.{program, main_body}
use Rattle.fst_runs.specs.Names.{HasMakers, HasParents}
use Rattle.fst_buffered.specs.Channels.{Config, core, started}
use Rattle.fst_buffered.specs.Events.{Occurrence, Does, Runs, IsLast}
use Rattle.fst_buffered.specs.Wrong.{IsRight}

-- two different things that are possible in a configuration that isn't wrong, whose names are those that counts have given, are possible
-- one after the other, and lead to one configuration in both orders
abbrev pub BufferedDiamond : Type 0
BufferedDiamond =
    (m : Program) (types : List Tree) (capacity : ℕ) (c : Config) → IsRight m c →
    HasMakers (core c) → HasParents (core c) → (a b : Occurrence) (d e : Config) →
    Does m types capacity c a d → Does m types capacity c b e → (a ≡ b → ⊥) →
    (z : Config) × Does m types capacity d b z × Does m types capacity e a z

-- where a buffered run of a module that has derivations comes to an end, none with channels of that capacity is longer, and each that
-- does is as long and ends in the same configuration
abbrev pub OneBufferedEnd : Type 0
OneBufferedEnd =
    (m : Module) (ds : List Deriv) → HasDerivations m ds →
    (main : CoreTree) → main_body m.globals.items ≡ Some main →
    (capacity : ℕ) (es : List Occurrence) (d : Config) →
    Runs (program m) m.types.items capacity (started main) es d →
    IsLast (program m) m.types.items capacity d →
    (fs : List Occurrence) (c : Config) →
    Runs (program m) m.types.items capacity (started main) fs c →
    (length fs ≤ length es) × (IsLast (program m) m.types.items capacity c →
    (length fs ≡ length es) × (c ≡ d))
