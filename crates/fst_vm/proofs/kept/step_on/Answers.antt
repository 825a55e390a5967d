use Rattle.std.proofs.Common.{◌∙◌, sym}
use Rattle.std.specs.Coded.{le_prop}
use Rattle.std.proofs.Math.Logic.{∥∥₁_map, ∥∥₁_elim}
use Rattle.fst_vm.specs.SlotOf.{slot_of}
use Rattle.fst_vm.proofs.KeptLaws.{asks_step}
use Rattle.fst_vm.proofs.kept.step_on.Goals as goal

pub move_on-requires-clause-takes : goal.move_on-requires-clause-takes
move_on-requires-clause-takes c =
    let asked = asks_step c.loop-count.slot.request (sym c.is_step.ensures ∙ c.if-is_step.true) in
    ∥∥₁_map (c.requires c.loop-count.count (slot_of c.loop-count.slot) c.loop-count-test.true c.loop-count.invariant.steps asked)
    (λ x. x.takes)

pub move_on-requires-clause-next : goal.move_on-requires-clause-next
move_on-requires-clause-next c = λ u g.
    let asked = asks_step c.loop-count.slot.request (sym c.is_step.ensures ∙ c.if-is_step.true) in
    ∥∥₁_map (c.requires c.loop-count.count (slot_of c.loop-count.slot) c.loop-count-test.true c.loop-count.invariant.steps asked)
    (λ x. x.next u g)

pub move_on-requires-clause-few : goal.move_on-requires-clause-few
move_on-requires-clause-few c =
    let asked = asks_step c.loop-count.slot.request (sym c.is_step.ensures ∙ c.if-is_step.true) in
    ∥∥₁_elim (c.requires c.loop-count.count (slot_of c.loop-count.slot) c.loop-count-test.true c.loop-count.invariant.steps
    asked) le_prop (λ x. x.few)
