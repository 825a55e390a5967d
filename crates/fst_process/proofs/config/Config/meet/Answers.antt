use Rattle.std.proofs.Common.{◌∙◌, sym, ap}
use Rattle.std.specs.Coded.{le_prop}
use mathlib.Core.Bool.{Bool-set}
use Rattle.std.proofs.Math.Logic.{∥∥₁_map, ∥∥₁_elim}
use Rattle.std.proofs.lemmas.Result.{on_ok_weaker}
use Rattle.fst_types.specs.declared.event.Event.{Event}
use Rattle.fst_types.specs.declared.event.Entry.{Entry}
use Rattle.fst_machine.specs.declared.request.Request.TheVariants.{Put}
use Rattle.fst_runs.specs.declared.event.CoreEvent.TheVariants.{Meet}
use Rattle.fst_process.specs.Kept.{changed, passed}
use Rattle.fst_vm.specs.SlotOf.{slot_of}
use Rattle.fst_process.specs.KeptOf.{kept_of}
use Rattle.fst_process.proofs.Stepping.{clock_within}
use Rattle.fst_process.proofs.FireMeet.{sender_kept, receiver_kept, stamps_few, put_can, get_can, meet_happens}
use Rattle.fst_process.proofs.config.Config.meet.Goals as goal

pub slot-first-requires : goal.slot-first-requires
slot-first-requires c =
    ∥∥₁_elim c.requires (Bool-set _ _) (sender_kept c.args.code.now
    (kept_of c.args.self.now) c.args.sender.now c.args.receiver.now c.args.channel.now)

pub slot-second-requires : goal.slot-second-requires
slot-second-requires c =
    ∥∥₁_elim c.requires (Bool-set _ _) (receiver_kept c.args.code.now
    (kept_of c.args.self.now) c.args.sender.now c.args.receiver.now c.args.channel.now)

pub record-requires-clause-sent : goal.record-requires-clause-sent
record-requires-clause-sent c =
    let p = c.args.sender.now in
    clock_within c.args.code.now (kept_of c.args.self.now) p (slot_of c.slot-first.result.now)
    (Meet p c.args.receiver.now c.args.channel.now)
    c.slot-first.ensures c.requires

pub record-requires-clause-got : goal.record-requires-clause-got
record-requires-clause-got c =
    let q = c.args.receiver.now in
    clock_within c.args.code.now (kept_of c.args.self.now) q (slot_of c.slot-second.result.now)
    (Meet c.args.sender.now q c.args.channel.now)
    c.slot-second.ensures c.requires

pub record-requires-clause-stamps : goal.record-requires-clause-stamps
record-requires-clause-stamps c = λ j e.
    ∥∥₁_elim c.requires le_prop (stamps_few c.args.code.now
    (kept_of c.args.self.now) c.args.sender.now c.args.receiver.now c.args.channel.now j e)

pub go_on-requires : goal.go_on-requires
go_on-requires c =
    let s = slot_of c.slot-first.result.now in
    let o = slot_of c.slot-second.result.now in
    let entry : Entry = record {
      event = c.in_ok-passed-in-Put.passed;
      stamp = c.in_ok-stamp-in-Put.stamp;
      sent = s.clock;
      got =
          o.clock;
    } in
    ∥∥₁_map c.requires
    (put_can c.args.code.now (kept_of c.args.self.now) c.args.sender.now c.args.receiver.now c.args.channel.now s o
    c.slot-first.ensures c.slot-second.ensures
    (kept_of c.record.new.self) entry c.in_ok-stamp-in-Put.ensures.passed)

pub go_on-requires-in-Put : goal.go_on-requires-in-Put
go_on-requires-in-Put c =
    let s = slot_of c.slot-first.result.now in
    let o = slot_of c.slot-second.result.now in
    let entry : Entry = record {
      event = c.in_ok-passed-in-Put.passed;
      stamp = c.in_ok-stamp-in-Put.stamp;
      sent = s.clock;
      got =
          o.clock;
    } in
    let asks = c.in-Put.is ∙ ap (Put c.in-Put.field-0) (sym c.in_ok-copy-in-Put.ensures) in
    ∥∥₁_map c.requires
    (get_can c.args.code.now (kept_of c.args.self.now) c.args.sender.now c.args.receiver.now c.args.channel.now s o
    c.slot-first.ensures c.slot-second.ensures
    c.in-Put.field-0 c.in_ok-copy-in-Put.field-0 asks c.in_ok-stamp-in-Put.stamp (kept_of c.record.new.self)
    (kept_of c.go_on.new.self) entry
    c.in_ok-stamp-in-Put.ensures.passed c.in_ok-go_on-in-Put.ensures)

pub returns-in_ok-go_on-in-Put : goal.returns-in_ok-go_on-in-Put
returns-in_ok-go_on-in-Put c =
    let h = c.args.channel.now in
    let old = kept_of c.args.self.now in
    let s = slot_of c.slot-first.result.now in
    let o = slot_of c.slot-second.result.now in
    let stamp = c.in_ok-stamp-in-Put.stamp in
    let entry : Event → Entry = λ e. record { event = e; stamp = stamp; sent = s.clock; got = o.clock } in
    let same = c.in_ok-passed-in-Put.ensures ∙ sym c.in_ok-copy-in-Put.ensures in
    let asks = c.in-Put.is ∙ ap (Put c.in-Put.field-0) (sym c.in_ok-copy-in-Put.ensures) in
    on_ok_weaker c.go_on-in-Put.result
    (meet_happens c.args.code.now old c.args.sender.now c.args.receiver.now h s o c.slot-first.ensures c.slot-second.ensures
    c.in-Put.field-0 c.in_ok-copy-in-Put.field-0 asks stamp (kept_of c.record.new.self) (kept_of c.go_on.new.self)
    (kept_of c.go_on-in-Put.new.self)
    c.in_ok-stamp-in-Put.ensures.stamp (c.in_ok-stamp-in-Put.ensures.passed ∙ ap (λ e. changed h (passed (entry e)) old) same)
    c.in_ok-go_on-in-Put.ensures) c.go_on-in-Put.ensures
