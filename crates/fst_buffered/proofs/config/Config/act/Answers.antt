use Rattle.std.proofs.Common.{◌∙◌, sym, ap}
use mathlib.Core.Bool.{Bool-set}
use mathlib.Core.HLevel.{⊥_prop}
use Rattle.std.proofs.Math.Logic.{∥∥₁_map, ∥∥₁_elim}
use Rattle.std.proofs.lemmas.Bool.{false≢true}
use Rattle.std.proofs.lemmas.Result.{on_ok_weaker}
use Rattle.std.specs.Prelude.{length}
use Rattle.fst_machine.specs.declared.request.Request.TheVariants as request
use Rattle.fst_vm.specs.SlotOf.{slot_of}
use Rattle.fst_buffered.specs.KeptOf.{kept_of}
use Rattle.fst_buffered.specs.Moving.{can}
use Rattle.fst_buffered.proofs.Doing.{mover_live, can_kept, local_can, local_steps}
use Rattle.fst_buffered.proofs.config.Config.act.Goals as goal

pub slot-requires : goal.slot-requires
slot-requires c =
    ∥∥₁_elim c.requires.can (Bool-set _ _) (mover_live c.args.code.now c.args.capacity (kept_of c.args.self.now) c.args.path.now)

pub go_on-requires-clause-can : goal.go_on-requires-clause-can
go_on-requires-clause-can c =
    ∥∥₁_map c.requires.can (local_can c.args.code.now c.args.capacity (kept_of c.args.self.now) c.args.path.now
    (slot_of c.slot.result.now) c.slot.ensures c.in-Step.is)

pub returns-in-Step : goal.returns-in-Step
returns-in-Step c =
    on_ok_weaker c.go_on.result (local_steps c.args.code.now c.args.capacity (kept_of c.args.self.now) c.args.path.now
    (slot_of c.slot.result.now) c.slot.ensures c.in-Step.is (kept_of c.go_on.new.self)) c.go_on.ensures.goes

pub open-requires-clause-asks : goal.open-requires-clause-asks
open-requires-clause-asks c = (slot_of c.slot.result.now, c.slot.ensures, c.in-New.is)

pub fork-requires-clause-asks : goal.fork-requires-clause-asks
fork-requires-clause-asks c = (slot_of c.slot.result.now, c.slot.ensures, c.in-Fork.is)

pub put-requires-clause-asks : goal.put-requires-clause-asks
put-requires-clause-asks c = (
  slot_of c.slot.result.now,
  c.slot.ensures,
  c.in-Put.is ∙ (λ i. request.Put (sym c.in_ok-end-in-Put.ensures i) (sym c.in_ok-event-in-Put.ensures i)),
)

pub take-requires-clause-asks : goal.take-requires-clause-asks
take-requires-clause-asks c = (
  slot_of c.slot.result.now,
  c.slot.ensures,
  c.in-Get.is ∙ ap request.Get (sym c.in_ok-end-in-Get.ensures),
)

pub returns-in-Ended : goal.returns-in-Ended
returns-in-Ended c =
    let d = kept_of c.args.self.now in
    let code = c.args.code.now in
    absurd (∥∥₁_elim c.requires.can ⊥_prop (λ x.
    false≢true (sym (ap (can (length code.types.items) c.args.capacity d.channels) c.in-Ended.is)
    ∙ can_kept code c.args.capacity d c.args.path.now (slot_of c.slot.result.now) c.slot.ensures x)))
