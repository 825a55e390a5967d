use Rattle.std.proofs.Common.{◌≡◌, ◌∙◌, Some, None, sym, ap}
use Rattle.std.specs.Prelude.{option_map}
use Rattle.fst_paths.specs.Paths.{put_at}
use Rattle.fst_vm.specs.declared.kept.EndedTask.{EndedTask}
use Rattle.fst_vm.specs.SlotOf.{slot_of, slot_in, slot_of_ended, tasks_in}
use Rattle.fst_vm.proofs.KeptLaws.{slots_after, set_aside_after}
use Rattle.fst_vm.proofs.tasks.Tasks.set_aside.Goals as goal

pub returns-in_ok-push-in-Some : goal.returns-in_ok-push-in-Some
returns-in_ok-push-in-Some c =
    let k = c.args.self.now in
    let old = k.live.entries in
    let new = c.remove.new.self.entries in
    let it = c.in-Some.slot in
    let t : EndedTask = record { task = it.task; clock = it.clock } in
    let there : slot_in old c.args.path.now ≡ Some (slot_of it) = ap (slot_in old) (sym c.as_slice.ensures)
    ∙ ap (option_map slot_of) (sym c.in-Some.ensures.value) in
    let is = c.requires (slot_of it) there in
    let same : slot_of it ≡ slot_of_ended t = λ i. record { task = it.task; request = is.1 i; clock = it.clock } in
    let off = c.remove.ensures.updates in
    let gone : slot_in new ≡ put_at t.task.path None (slot_in old) =
    slots_after c.as_slice.result.now old new None off.1 off.3 ∙ ap
    (λ q. put_at q None (slot_in old)) (c.as_slice.ensures ∙ sym is.0) in
    ap (tasks_in new) c.in_ok-push-in-Some.ensures.items
    ∙ set_aside_after k.ended.items t old new gone (ap (slot_in old) is.0 ∙ there ∙ ap Some same)
