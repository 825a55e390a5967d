use Rattle.std.proofs.Common.{◌≡◌, ◌∙◌, ◌+◌, ◌-◌, Some, None, is_some, sym, ap, subst, arith}
use Rattle.std.specs.Prelude.{option_map, not}
use Rattle.std.specs.Coded.{Coded-set, coded_list, coded_ℕ}
use Rattle.std.proofs.Math.Logic.{∥∥₁_elim}
use Rattle.fst_base.proofs.Options.{some_same, none_some}
use Rattle.fst_vm.specs.Slot.{Slot, has_ended, is_live}
use Rattle.fst_vm.specs.Going.{CanStepOn}
use Rattle.fst_vm.specs.SlotOf.{slot_of, slot_in}
use Rattle.fst_process.specs.KeptOf.{kept_of}
use Rattle.fst_process.proofs.Alone.{steps_first, steps_path, can_step_on, its_path}
use Rattle.fst_vm.proofs.Laws.{asks_nothing, its_slot, live_there, put_after}
use Rattle.fst_process.proofs.TaskLaws.{noted_on}
use Rattle.fst_process.proofs.config.Config.step_on.Goals as goal

pub step_on-requires : goal.step_on-requires
step_on-requires c =
    let k = c.args.self.now in
    let p = c.args.path.now in
    let d = kept_of k in
    let x = steps_first d p c.requires.first in
    let there = its_slot k.tasks p c.as_slice.result.now c.in-Some.slot.now c.as_slice.ensures c.in-Some.ensures.value in
    let most = c.args.steps + 1 - k.events in
    subst (CanStepOn c.args.code.now most) (some_same (sym x.there ∙ there))
    (can_step_on c.args.code.now d p k.events x most (omega (arith, c.requires.few, c.requires.more)) c.requires.right)

pub set_aside-requires : goal.set_aside-requires
set_aside-requires c = λ s at.
    let k = c.args.self.now in
    let p = c.args.path.now in
    let code = c.args.code.now in
    let d = kept_of k in
    let it = c.in-Some.slot.now in
    let slot = c.step_on.new.slot in
    let map = c.get_mut.follows.lender slot in
    let updates = (c.get_mut.follows.holds slot).3 (ap is_some (sym c.in-Some.ensures.value)) in
    let here : slot_in map.entries p ≡ Some (slot_of slot) = ap (slot_in map.entries) (sym c.as_slice.ensures)
    ∙ ap (option_map slot_of) updates.1 in
    let same : s ≡ slot_of slot = some_same (sym at ∙ here) in
    let x = steps_first d p c.requires.first in
    let there = its_slot k.tasks p c.as_slice.result.now it c.as_slice.ensures c.in-Some.ensures.value in
    let first : slot_of it ≡ x.slot = some_same (sym there ∙ x.there) in
    let path : it.task.path ≡ p =
    ∥∥₁_elim c.requires.right (Coded-set (coded_list coded_ℕ) _ _)
    (λ right. ap (λ (z : Slot). z.task.path) first
    ∙ its_path code d p k.events x (omega (arith, c.requires.few, c.requires.more)) right) in (
      ap (λ (z : Slot). z.task.path) same
          ∙ steps_path code c.in_ok-count-in-Some.count (slot_of it) (slot_of slot) c.in_ok-count-in-Some.ensures.steps ∙ path,
      ap (λ (z : Slot). z.request) same ∙ asks_nothing slot.request (sym c.has_ended.ensures ∙ c.if-has_ended.true),
    )

pub returns-then-has_ended-clause-steps : goal.returns-then-has_ended-clause-steps
returns-then-has_ended-clause-steps c =
    let k = c.args.self.now in
    let p = c.args.path.now in
    let code = c.args.code.now in
    let it = c.in-Some.slot.now in
    let slot = c.step_on.new.slot in
    let live = c.get_mut.follows.lender slot in
    let updates = (c.get_mut.follows.holds slot).3 (ap is_some (sym c.in-Some.ensures.value)) in
    let after = put_after p c.as_slice.result.now slot k.tasks live c.as_slice.ensures updates.1 updates.3 in
    record {
      slot = slot_of it;
      there = its_slot k.tasks p c.as_slice.result.now it c.as_slice.ensures c.in-Some.ensures.value;
      now = slot_of slot;
      steps = c.in_ok-count-in-Some.ensures.steps;
      after =
          noted_on code p c.len.result k
          (record k {
            tasks = c.set_aside.new.self;
            channels = c.note_again.new.channels;
            ready = c.note_again.new.ready;
            events =
                k.events + c.in_ok-count-in-Some.count;
          })
          (slot_of slot) (c.len.ensures ∙ code.types.ok.0)
          (c.in_ok-set_aside-in-Some.ensures ∙ after) c.in_ok-note_again-in-Some.ensures;
    }

pub returns-then-has_ended-clause-some : goal.returns-then-has_ended-clause-some
returns-then-has_ended-clause-some c =
    let k = c.args.self.now in
    let p = c.args.path.now in
    let x = steps_first (kept_of k) p c.requires.first in
    let there = its_slot k.tasks p c.as_slice.result.now c.in-Some.slot.now c.as_slice.ensures c.in-Some.ensures.value in
    c.in_ok-count-in-Some.ensures.some (omega (arith, c.requires.more))
    (ap (λ (s : Slot). s.request) (some_same (sym there ∙ x.there)) ∙ x.asked)

pub unreachable-requires : goal.unreachable-requires
unreachable-requires c =
    let k = c.args.self.now in
    let p = c.args.path.now in
    let x = steps_first (kept_of k) p c.requires.first in
    let none : slot_in k.tasks.live.entries p ≡ None = ap (slot_in k.tasks.live.entries) (sym c.as_slice.ensures)
    ∙ ap (option_map slot_of) (sym c.in-None.ensures.value) in
    let live = ap (λ o. is_live o) x.there ∙ ap (λ r. not (has_ended r)) x.asked in
    none_some (sym none ∙ sym (live_there k.tasks p live) ∙ x.there)

pub returns-clause-steps : goal.returns-clause-steps
returns-clause-steps c =
    let k = c.args.self.now in
    let p = c.args.path.now in
    let code = c.args.code.now in
    let it = c.in-Some.slot.now in
    let slot = c.step_on.new.slot in
    let live = c.get_mut.follows.lender slot in
    let updates = (c.get_mut.follows.holds slot).3 (ap is_some (sym c.in-Some.ensures.value)) in
    let after = put_after p c.as_slice.result.now slot k.tasks live c.as_slice.ensures updates.1 updates.3 in
    record {
      slot = slot_of it;
      there = its_slot k.tasks p c.as_slice.result.now it c.as_slice.ensures c.in-Some.ensures.value;
      now = slot_of slot;
      steps = c.in_ok-count-in-Some.ensures.steps;
      after =
          noted_on code p c.len.result k
          (record k {
            tasks = record k.tasks { live = live };
            channels = c.note_again.new.channels;
            ready = c.note_again.new.ready;
            events =
                k.events + c.in_ok-count-in-Some.count;
          })
          (slot_of slot) (c.len.ensures ∙ code.types.ok.0) (after) c.in_ok-note_again-in-Some.ensures;
    }

pub returns-clause-some : goal.returns-clause-some
returns-clause-some c =
    let k = c.args.self.now in
    let p = c.args.path.now in
    let x = steps_first (kept_of k) p c.requires.first in
    let there = its_slot k.tasks p c.as_slice.result.now c.in-Some.slot.now c.as_slice.ensures c.in-Some.ensures.value in
    c.in_ok-count-in-Some.ensures.some (omega (arith, c.requires.more))
    (ap (λ (s : Slot). s.request) (some_same (sym there ∙ x.there)) ∙ x.asked)
