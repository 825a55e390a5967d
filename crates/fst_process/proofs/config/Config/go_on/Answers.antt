use Rattle.std.proofs.Common.{◌≡◌, ◌∙◌, ◌<◌, Some, None, is_some, sym, ap, subst}
use Rattle.std.specs.Prelude.{option_map, not}
use Rattle.std.specs.Coded.{Coded-set, coded_list, coded_ℕ, le_prop}
use mathlib.Core.Bool.{Bool-set}
use mathlib.Core.HLevel.{⊥_prop}
use Rattle.std.proofs.Math.Logic.{∥∥₁_map, ∥∥₁_elim}
use Rattle.std.proofs.lemmas.Result.{on_ok_weaker}
use Rattle.fst_base.proofs.Options.{some_same, none_some}
use Rattle.fst_vm.specs.Tasks.{Takes, GoesOn}
use Rattle.fst_vm.specs.Slot.{Slot, is_live}
use Rattle.fst_vm.specs.SlotOf.{slot_of, slot_in}
use Rattle.fst_process.specs.KeptOf.{kept_of}
use Rattle.fst_vm.proofs.Laws.{asks_nothing, its_slot, live_there, put_after}
use Rattle.fst_process.proofs.TaskLaws.{gone_on}
use Rattle.fst_process.proofs.config.Config.go_on.Goals as goal

pub move_on-requires-clause-takes : goal.move_on-requires-clause-takes
move_on-requires-clause-takes c =
    let old = kept_of c.args.self.now in
    let there : old.tasks c.args.path.now ≡ Some (slot_of c.in-Some.slot.now) =
    its_slot c.args.self.now.tasks c.args.path.now c.as_slice.result.now c.in-Some.slot.now c.as_slice.ensures
    c.in-Some.ensures.value in
    ∥∥₁_map c.requires (λ x. subst (λ (s : Slot). Takes c.args.code.now s.task c.args.answer)
    (some_same (sym x.there ∙ there)) x.takes)

pub move_on-requires-clause-next : goal.move_on-requires-clause-next
move_on-requires-clause-next c = λ u g.
    let old = kept_of c.args.self.now in
    let there : old.tasks c.args.path.now ≡ Some (slot_of c.in-Some.slot.now) =
    its_slot c.args.self.now.tasks c.args.path.now c.as_slice.result.now c.in-Some.slot.now c.as_slice.ensures
    c.in-Some.ensures.value in
    ∥∥₁_map c.requires (λ x. x.next u (subst (λ (s : Slot). GoesOn c.args.code.now s.task c.args.answer u)
    (sym (some_same (sym x.there ∙ there))) g))

pub move_on-requires-clause-few : goal.move_on-requires-clause-few
move_on-requires-clause-few c =
    let old = kept_of c.args.self.now in
    let there : old.tasks c.args.path.now ≡ Some (slot_of c.in-Some.slot.now) =
    its_slot c.args.self.now.tasks c.args.path.now c.as_slice.result.now c.in-Some.slot.now c.as_slice.ensures
    c.in-Some.ensures.value in
    ∥∥₁_elim c.requires le_prop (λ x. subst (λ (s : Slot). s.clock < 4294967295) (some_same (sym x.there ∙ there)) x.few)

pub note_again-requires : goal.note_again-requires
note_again-requires c = ∥∥₁_elim c.requires (Bool-set _ _) (λ x. x.moves)

pub set_aside-requires : goal.set_aside-requires
set_aside-requires c = λ s at.
    let k = c.args.self.now in
    let p = c.args.path.now in
    let it = c.in-Some.slot.now in
    let slot = c.move_on.new.slot in
    let map = c.get_mut.follows.lender slot in
    let updates = (c.get_mut.follows.holds slot).3 (ap is_some (sym c.in-Some.ensures.value)) in
    let here : slot_in map.entries p ≡ Some (slot_of slot) = ap (slot_in map.entries) (sym c.as_slice.ensures)
    ∙ ap (option_map slot_of) updates.1 in
    let same : s ≡ slot_of slot = some_same (sym at ∙ here) in
    let there = its_slot k.tasks p c.as_slice.result.now it c.as_slice.ensures c.in-Some.ensures.value in
    let path : it.task.path ≡ p =
    ∥∥₁_elim c.requires (Coded-set (coded_list coded_ℕ) _ _)
    (λ x. ap (λ (z : Slot). z.task.path) (some_same (sym there ∙ x.there)) ∙ x.path) in
    let moves = c.in_ok-move_on-in-Some.ensures in (
      ap (λ (z : Slot). z.task.path) same ∙ moves.stays.path ∙ moves.goes_on.path ∙ path,
      ap (λ (z : Slot). z.request) same ∙ asks_nothing slot.request (sym c.has_ended.ensures ∙ c.if-has_ended.true),
    )

pub returns-then-has_ended : goal.returns-then-has_ended
returns-then-has_ended c =
    let k = c.args.self.now in
    let p = c.args.path.now in
    let code = c.args.code.now in
    let it = c.in-Some.slot.now in
    let slot = c.move_on.new.slot in
    let updates = (c.get_mut.follows.holds slot).3 (ap is_some (sym c.in-Some.ensures.value)) in
    let tasks = put_after p c.as_slice.result.now slot k.tasks (c.get_mut.follows.lender slot) c.as_slice.ensures updates.1
    updates.3 in
    on_ok_weaker c.set_aside.result
    (λ e. gone_on code p c.args.answer c.args.least c.len.result k
    (record k { tasks = c.set_aside.new.self; channels = c.note_again.new.channels; ready = c.note_again.new.ready })
    (slot_of it) (slot_of slot) (its_slot k.tasks p c.as_slice.result.now it c.as_slice.ensures c.in-Some.ensures.value)
    c.in_ok-move_on-in-Some.ensures (c.len.ensures ∙ code.types.ok.0) (e ∙ tasks) c.in_ok-note_again-in-Some.ensures)
    c.set_aside.ensures

pub returns-else-has_ended : goal.returns-else-has_ended
returns-else-has_ended c =
    let k = c.args.self.now in
    let p = c.args.path.now in
    let code = c.args.code.now in
    let it = c.in-Some.slot.now in
    let slot = c.move_on.new.slot in
    let live = c.get_mut.follows.lender slot in
    let updates = (c.get_mut.follows.holds slot).3 (ap is_some (sym c.in-Some.ensures.value)) in
    gone_on code p c.args.answer c.args.least c.len.result k
    (record k {
      tasks = record k.tasks { live = live };
      channels = c.note_again.new.channels;
      ready =
          c.note_again.new.ready;
    })
    (slot_of it) (slot_of slot) (its_slot k.tasks p c.as_slice.result.now it c.as_slice.ensures c.in-Some.ensures.value)
    c.in_ok-move_on-in-Some.ensures (c.len.ensures ∙ code.types.ok.0)
    (put_after p c.as_slice.result.now slot k.tasks live c.as_slice.ensures updates.1 updates.3)
    c.in_ok-note_again-in-Some.ensures

pub returns-in-None : goal.returns-in-None
returns-in-None c =
    let k = c.args.self.now in
    let p = c.args.path.now in
    let none : slot_in k.tasks.live.entries p ≡ None = ap (slot_in k.tasks.live.entries) (sym c.as_slice.ensures)
    ∙ ap (option_map slot_of) (sym c.in-None.ensures.value) in
    absurd (∥∥₁_elim c.requires ⊥_prop (λ x.
    let live = ap (λ o. is_live o) x.there ∙ ap not x.goes in
    none_some (sym none ∙ sym (live_there k.tasks p live) ∙ x.there)))
