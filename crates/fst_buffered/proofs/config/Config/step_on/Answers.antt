use Rattle.std.proofs.Common.{◌≡◌, ◌∙◌, ◌+◌, ◌-◌, Some, None, is_some, refl, sym, ap, subst, arith}
use Rattle.std.specs.Prelude.{option_map, not}
use Rattle.std.specs.Coded.{Coded-set, coded_list, coded_ℕ}
use Rattle.std.proofs.Math.Logic.{∥∥₁_elim}
use Rattle.std.proofs.lemmas.Result.{on_ok_weaker}
use Rattle.fst_base.proofs.Options.{some_same, none_some}
use Rattle.fst_machine.specs.declared.request.Request.TheVariants as request
use Rattle.fst_paths.proofs.Laws.{put_here}
use Rattle.fst_vm.specs.Slot.{Slot, has_ended, is_live}
use Rattle.fst_vm.specs.SlotOf.{slot_of, slot_in}
use Rattle.fst_vm.proofs.Laws.{asks_nothing, its_slot, live_there, put_after}
use Rattle.fst_buffered.specs.KeptOf.{kept_of}
use Rattle.fst_buffered.specs.Running.{IsKept}
use Rattle.fst_buffered.proofs.Doing.{asks_it}
use Rattle.fst_buffered.proofs.KeptLaws.{settled_now}
use Rattle.fst_buffered.proofs.Running.{its_path}
use Rattle.fst_buffered.proofs.StepsOn.{at_slot, can_step_on, steps_to}
use Rattle.fst_buffered.proofs.config.Config.step_on.Goals as goal

pub step_on-requires : goal.step_on-requires
step_on-requires c =
    let k = c.args.self.now in
    let d = kept_of k in
    let p = c.args.path.now in
    let r = c.requires in
    let it = slot_of c.in-Some.slot.now in
    let there = its_slot k.tasks p c.as_slice.result.now c.in-Some.slot.now c.as_slice.ensures c.in-Some.ensures.value in
    can_step_on c.args.code.now c.args.capacity d p k.events it there (asks_it d p request.Step it r.asks there) r.next r.kept
    (c.args.steps + 1 - k.events) (omega (arith, r.few, r.more)) r.right

pub set_aside-requires : goal.set_aside-requires
set_aside-requires c = λ s at.
    let k = c.args.self.now in
    let d = kept_of k in
    let p = c.args.path.now in
    let code = c.args.code.now in
    let capacity = c.args.capacity in
    let r = c.requires in
    let it = slot_of c.in-Some.slot.now in
    let slot = c.step_on.new.slot in
    let count = c.in_ok-count-in-Some.count in
    let live = c.get_mut.follows.lender slot in
    let updates = (c.get_mut.follows.holds slot).3 (ap is_some (sym c.in-Some.ensures.value)) in
    let here : slot_in live.entries p ≡ Some (slot_of slot) = ap (slot_in live.entries) (sym c.as_slice.ensures)
    ∙ ap (option_map slot_of) updates.1 in
    let same : s ≡ slot_of slot = some_same (sym at ∙ here) in
    let there = its_slot k.tasks p c.as_slice.result.now c.in-Some.slot.now c.as_slice.ensures c.in-Some.ensures.value in
    let kept = steps_to code capacity d p k.events it there (asks_it d p request.Step it r.asks there) r.next r.kept count
    (slot_of slot) c.in_ok-count-in-Some.ensures.steps in
    let path : slot.task.path ≡ p =
    ∥∥₁_elim r.right (Coded-set (coded_list coded_ℕ) _ _) (its_path code capacity (k.events + count)
    (at_slot code capacity d p (slot_of slot)) p (slot_of slot) kept (put_here p (Some (slot_of slot)) d.tasks)) in (
      ap (λ (z : Slot). z.task.path) same ∙ path,
      ap (λ (z : Slot). z.request) same ∙ asks_nothing slot.request (sym c.has_ended.ensures ∙ c.if-has_ended.true),
    )

pub returns-then-has_ended-clause-kept : goal.returns-then-has_ended-clause-kept
returns-then-has_ended-clause-kept c =
    let k = c.args.self.now in
    let d = kept_of k in
    let p = c.args.path.now in
    let code = c.args.code.now in
    let capacity = c.args.capacity in
    let r = c.requires in
    let it = slot_of c.in-Some.slot.now in
    let slot = c.step_on.new.slot in
    let count = c.in_ok-count-in-Some.count in
    let updates = (c.get_mut.follows.holds slot).3 (ap is_some (sym c.in-Some.ensures.value)) in
    let tasks = put_after p c.as_slice.result.now slot k.tasks (c.get_mut.follows.lender slot) c.as_slice.ensures updates.1
    updates.3 in
    let there = its_slot k.tasks p c.as_slice.result.now c.in-Some.slot.now c.as_slice.ensures c.in-Some.ensures.value in
    on_ok_weaker c.set_aside.result
    (λ e. subst (IsKept code capacity (k.events + count))
    (sym (settled_now code capacity c.len.result p p (slot_of slot) k
    (record k {
      tasks = c.set_aside.new.self;
      channels = c.note.new.channels;
      ready = c.note.new.ready;
      events = k.events + count;
    })
    (c.len.ensures ∙ code.types.ok.0) refl (e ∙ tasks) c.in_ok-note-in-Some.ensures))
    (steps_to code capacity d p k.events it there (asks_it d p request.Step it r.asks there) r.next r.kept count
    (slot_of slot) c.in_ok-count-in-Some.ensures.steps)) c.set_aside.ensures

pub returns-then-has_ended-clause-some : goal.returns-then-has_ended-clause-some
returns-then-has_ended-clause-some c =
    let k = c.args.self.now in
    let there = its_slot k.tasks c.args.path.now c.as_slice.result.now c.in-Some.slot.now c.as_slice.ensures
    c.in-Some.ensures.value in
    let some = c.in_ok-count-in-Some.ensures.some (omega (arith, c.requires.more))
    (asks_it (kept_of k) c.args.path.now request.Step (slot_of c.in-Some.slot.now) c.requires.asks there) in
    on_ok_weaker c.set_aside.result (λ e. omega (arith, some)) c.set_aside.ensures

pub returns-then-has_ended-clause-most : goal.returns-then-has_ended-clause-most
returns-then-has_ended-clause-most c =
    on_ok_weaker c.set_aside.result (λ e. omega (arith, c.in_ok-count-in-Some.ensures.most, c.requires.more)) c.set_aside.ensures

pub returns-clause-kept : goal.returns-clause-kept
returns-clause-kept c =
    let k = c.args.self.now in
    let d = kept_of k in
    let p = c.args.path.now in
    let code = c.args.code.now in
    let capacity = c.args.capacity in
    let r = c.requires in
    let it = slot_of c.in-Some.slot.now in
    let slot = c.step_on.new.slot in
    let count = c.in_ok-count-in-Some.count in
    let live = c.get_mut.follows.lender slot in
    let updates = (c.get_mut.follows.holds slot).3 (ap is_some (sym c.in-Some.ensures.value)) in
    let tasks = put_after p c.as_slice.result.now slot k.tasks live c.as_slice.ensures updates.1 updates.3 in
    let there = its_slot k.tasks p c.as_slice.result.now c.in-Some.slot.now c.as_slice.ensures c.in-Some.ensures.value in
    subst (IsKept code capacity (k.events + count))
    (sym (settled_now code capacity c.len.result p p (slot_of slot) k
    (record k {
      tasks = record k.tasks { live = live };
      channels = c.note.new.channels;
      ready = c.note.new.ready;
      events = k.events + count;
    })
    (c.len.ensures ∙ code.types.ok.0) refl tasks c.in_ok-note-in-Some.ensures))
    (steps_to code capacity d p k.events it there (asks_it d p request.Step it r.asks there) r.next r.kept count
    (slot_of slot) c.in_ok-count-in-Some.ensures.steps)

pub returns-clause-some : goal.returns-clause-some
returns-clause-some c =
    let k = c.args.self.now in
    let there = its_slot k.tasks c.args.path.now c.as_slice.result.now c.in-Some.slot.now c.as_slice.ensures
    c.in-Some.ensures.value in
    let some = c.in_ok-count-in-Some.ensures.some (omega (arith, c.requires.more))
    (asks_it (kept_of k) c.args.path.now request.Step (slot_of c.in-Some.slot.now) c.requires.asks there) in
    omega (arith, some)

pub unreachable-requires : goal.unreachable-requires
unreachable-requires c =
    let k = c.args.self.now in
    let p = c.args.path.now in
    let (s, there, asks) = c.requires.asks in
    let none : slot_in k.tasks.live.entries p ≡ None = ap (slot_in k.tasks.live.entries) (sym c.as_slice.ensures)
    ∙ ap (option_map slot_of) (sym c.in-None.ensures.value) in
    let live = ap (λ o. is_live o) there ∙ ap (λ q. not (has_ended q)) asks in
    none_some (sym none ∙ sym (live_there k.tasks p live) ∙ there)
