-- The event of the least task that is marked is the least one.
use Rattle.std.proofs.Common.{◌≡◌, ◌∙◌, ℕ, false, sym}
use Rattle.std.proofs.lemmas.Bool.{false≢true}
use Rattle.fst_terms.specs.declared.core_module.Module.{Module}
use Rattle.fst_machine.specs.declared.code.Code.{Code}
use Rattle.fst_runs.specs.declared.event.CoreEvent.{CoreEvent}
use Rattle.fst_runs.specs.Configs.{Path, Config, program}
use Rattle.fst_runs.specs.Least.{IsBefore, TakesPart, IsLeast}
use Rattle.fst_process.specs.Kept.{Kept}
use Rattle.fst_process.specs.Reflects.{Reflects}
use Rattle.fst_process.proofs.Moving.{moves_ready}

-- an event is the least one where a task takes part in it before which none is marked
pub is_least : (m : Module) (k : Code) (n : ℕ) (d : Kept) (c : Config) (p : Path) (e : CoreEvent) → Reflects m k n d c →
    TakesPart p e →
    ((q : Path) → IsBefore q p → d.ready q ≡ false) → IsLeast (program m) m.types.items c e
is_least m k n d c p e r h f = record {
  path = p;
  takes_part = h;
  none_before = λ q b a. false≢true (sym (f q b) ∙ moves_ready m k n d c r q a.0 a.1 a.2 a.3);
}
