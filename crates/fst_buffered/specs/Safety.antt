-- What is said of every buffered run of a module that has a derivation.
use Rattle.std.specs.Prelude.{◌≡◌, ℕ, List, [], Some}
use Rattle.fst_kinds.specs.WellFormed.{IsSession}
use Rattle.fst_terms.specs.CoreTree.{CoreTree}
use Rattle.fst_terms.specs.declared.core_module.Module.{Module}
use Rattle.fst_derivations.specs.Deriv.{Deriv}
use Rattle.fst_derivations.specs.Modules.{HasDerivations}
use Rattle.fst_types.specs.declared.ends.ChannelName.{ChannelName}
use Rattle.fst_machine.specs.Values.{Value}
use Rattle.fst_machine.specs.Machine.{pause, ended}
use Rattle.fst_runs.specs.Configs.{Task, program, main_body, main_path}
use Rattle.fst_safety.specs.Safety.{HasMainType}
use Rattle.fst_buffered.specs.Channels.{Channel, Config, started}
use Rattle.fst_buffered.specs.Events.{Occurrence, Runs}
use Rattle.fst_buffered.specs.Wrong.{IsRight}
use Rattle.fst_buffered.specs.Order.{IsInOrder}

-- nothing is wrong in the configuration; each channel's declared type is a closed well-formed session type; and where main has ended,
-- its value is one of main's declared type
pub record IsSafeAt (m : Module) (c : Config) : Type 0 where
  pub right : IsRight (program m) c
  pub sessions : (h : ChannelName) (k : Channel) → c.channels h ≡ Some k → IsSession [] k.declared
  pub result : (t : Task) (v : Value) → c.tasks main_path ≡ Some t →
      pause m.families.items t.state ≡ ended v → HasMainType m v

-- each buffered run of a module that has derivations is safe, for every capacity, and what is taken is what was put in
abbrev pub BufferedIsSafe : Type 0
BufferedIsSafe =
    (m : Module) (ds : List Deriv) → HasDerivations m ds →
    (e : CoreTree) → main_body m.globals.items ≡ Some e →
    (capacity : ℕ) (es : List Occurrence) (c : Config) →
    Runs (program m) m.types.items capacity (started e) es c → IsSafeAt m c × IsInOrder es
