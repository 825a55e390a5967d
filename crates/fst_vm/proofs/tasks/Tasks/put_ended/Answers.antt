use Rattle.std.proofs.Common.{◌≡◌, ◌∙◌, Some, None, sym, ap}
use Rattle.fst_paths.specs.Paths.{put_at}
use Rattle.fst_vm.specs.declared.kept.EndedTask.{EndedTask}
use Rattle.fst_vm.specs.Slot.{Slot}
use Rattle.fst_vm.specs.SlotOf.{slot_of, slot_of_ended, slot_in, tasks_in}
use Rattle.fst_vm.proofs.KeptLaws.{slots_after, gone_after}
use Rattle.fst_vm.proofs.tasks.Tasks.put_ended.Goals as goal

pub returns : goal.returns
returns c =
    let k = c.args.self.now in
    let s = c.args.slot in
    let old = k.live.entries in
    let new = c.remove.new.self.entries in
    let t : EndedTask = record { task = s.task; clock = s.clock } in
    let same : slot_of_ended t ≡ slot_of s = λ i. record { task = t.task; request = sym c.requires i; clock = t.clock } in
    let off = c.remove.ensures.updates in
    let gone : slot_in new ≡ put_at t.task.path None (slot_in old) =
    slots_after c.as_slice.result.now old new None off.1 off.3 ∙ ap
    (λ q. put_at q None (slot_in old)) (c.as_slice.ensures ∙ c.path.ensures) in
    ap (tasks_in new) c.in_ok-push.ensures.items
    ∙ gone_after k.ended.items t old new gone
    ∙ ap (λ (z : Slot). put_at s.task.path (Some z) (tasks_in old k.ended.items)) same
