-- A run begins.
use Rattle.std.proofs.Common.{◌≡◌, ◌∙◌, zero, [], Some, None, sym, ap, subst}
use Rattle.std.specs.Prelude.{length, option_map, if◌then◌else◌}
use Rattle.fst_terms.specs.CoreTree.{CoreTree}
use Rattle.fst_terms.specs.declared.core_module.Module.{Module}
use Rattle.fst_machine.specs.declared.code.Code.{Code}
use Rattle.fst_machine.specs.Machine.{stuck, pause, begins}
use Rattle.fst_vm.specs.TaskView.{TaskView}
use Rattle.fst_vm.specs.Tasks.{HasNext, IsStart}
use Rattle.fst_runs.specs.Configs.{main_path, new_task, started, program}
use Rattle.fst_runs.specs.Wrong.{IsRight}
use Rattle.fst_runs.proofs.Laws.{same_path-itself}
use Rattle.fst_process.specs.declared.config.Config.{Config}
use Rattle.fst_process.specs.Kept.{Kept, nothing, settled}
use Rattle.fst_paths.specs.Paths.{has_path}
use Rattle.fst_paths.specs.ChannelLists.{many_in, named_in}
use Rattle.fst_vm.specs.SlotOf.{tasks_by_path}
use Rattle.fst_process.specs.KeptOf.{channel_of, kept_of}
use Rattle.fst_process.specs.Reflects.{Reflects}
use Rattle.fst_process.specs.Firing.{Settles, CanStart, IsBegun}
use Rattle.fst_paths.proofs.Laws.{none_numbered}
use Rattle.fst_process.proofs.Going.{IsOf}
use Rattle.fst_process.proofs.Begun.{begun}
use Rattle.fst_process.proofs.Rights.{right_fine, right_alive}
use Rattle.fst_process.proofs.Stepping.{settled_types}

-- nothing is kept in empty maps
pub kept_nothing : (k : Config) → tasks_by_path k.tasks ≡ (λ p. None) → k.channels.by_maker.entries ≡ [] → k.ready.keys ≡ [] →
    kept_of k ≡ nothing
kept_nothing k ts js rs = λ i. record {
  tasks = ts i;
  channels = λ h. (ap (λ es. named_in channel_of es h) js ∙ ap (option_map channel_of) (none_numbered h.count)) i;
  made = many_in (js i);
  ready = has_path (rs i);
}

main_alive : (m : Module) (e : CoreTree) → IsRight (program m) (started e) → pause m.families.items (begins e []) ≡ stuck → ⊥
main_alive m e right =
    right_alive m (started e) main_path (new_task (begins e []) zero) right
    (ap (λ b. if b then Some (new_task (begins e []) zero) else None) (same_path-itself main_path))

-- main's task asks for something at the beginning
pub start_next : (k : Code) (t : TaskView) → IsStart k t → CanStart k → HasNext k t
start_next k t s x =
    let there = ap (λ b. if b then Some (new_task (begins x.main []) zero) else None) (same_path-itself main_path) in
    let a = x.right.asks main_path (new_task (begins x.main []) zero) there in
    record {
      source = x.source;
      from = x.from;
      state = begins x.main [];
      is_in = s.begun x.source x.main x.from x.body;
      next = (a.0, a.1);
    }

-- what is kept once it is put in is the first configuration
pub start_begun : (k : Code) (t : TaskView) (d e : Kept) → d ≡ nothing → IsStart k t → Settles k t 0 d e → IsBegun k e
start_begun k t d e none s z = λ m main from body right.
    let inside = s.begun m main from body in
    let is : IsOf m k main_path z.slot (new_task (begins main []) zero) = record {
      path = z.stays.path ∙ s.path;
      rests = z.rests;
      is_in = z.stays.states m (begins main []) inside;
      asks = z.asked m (begins main []) inside (main_alive m main right);
      clock = z.clock;
      forked = z.stays.forked ∙ s.forked;
    } in
    subst (λ y. Reflects m k zero y (started main))
    (sym (settled_types m k t 0 d e from z ∙ ap (settled (length m.types.items) z.slot) none))
    (begun m k main z.slot from is (right_fine m (started main) right))
