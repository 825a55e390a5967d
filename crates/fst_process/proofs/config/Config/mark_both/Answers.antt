use Rattle.std.proofs.Common.{◌≡◌, ◌∙◌, ◌+◌, max, arith}
use Rattle.std.specs.Coded.{le_prop}
use mathlib.Core.Bool.{Bool-set}
use Rattle.std.proofs.Math.Logic.{∥∥₁_elim}
use Rattle.std.proofs.lemmas.Result.{on_ok_weaker}
use Rattle.fst_process.specs.declared.marks.Done.TheVariants.{Put, Got}
use Rattle.fst_vm.specs.SlotOf.{slot_of}
use Rattle.fst_process.specs.KeptOf.{kept_of}
use Rattle.fst_process.specs.Marking.{marks_in, with_mark}
use Rattle.fst_process.proofs.FireMeet.{sender_kept, receiver_kept}
use Rattle.fst_process.proofs.Stepping.{one_more}
use Rattle.fst_process.proofs.MarkLaws.{meeting_few, meet_marks}
use Rattle.fst_process.proofs.config.Config.mark_both.Goals as goal

pub slot-first-requires : goal.slot-first-requires
slot-first-requires c =
    ∥∥₁_elim c.requires (Bool-set _ _) (λ x. sender_kept x.0
    (kept_of c.args.self.now) c.args.sender.now c.args.receiver.now c.args.channel.now x.1)

pub slot-second-requires : goal.slot-second-requires
slot-second-requires c =
    ∥∥₁_elim c.requires (Bool-set _ _) (λ x. receiver_kept x.0
    (kept_of c.args.self.now) c.args.sender.now c.args.receiver.now c.args.channel.now x.1)

pub overflow_add-stamp : goal.overflow_add-stamp
overflow_add-stamp c =
    let few = ∥∥₁_elim c.requires le_prop
    (meeting_few (kept_of c.args.self.now) c.args.sender.now c.args.receiver.now c.args.channel.now
    (slot_of c.slot-first.result.now) c.slot-first.ensures (slot_of c.slot-second.result.now) c.slot-second.ensures
    c.last_stamp-last.result c.last_stamp-last.ensures) in
    omega (arith, few, c.max.ensures, c.max-stamp.ensures)

pub returns-in_ok-received-in-Put : goal.returns-in_ok-received-in-Put
returns-in_ok-received-in-Put c =
    let p = c.args.sender.now in
    let q = c.args.receiver.now in
    let s = slot_of c.slot-first.result.now in
    let o = slot_of c.slot-second.result.now in
    let x = c.in-Put.end in
    let ev = c.in-Put.event in
    let stamp = c.max-stamp.result + 1 in
    let old = marks_in c.args.all.now.entries in
    let mid = marks_in c.add_mark.new.all.entries in
    let first : mid ≡ with_mark p (record { done = Put x ev; stamp = stamp }) old = c.in_ok-add_mark-in-Put.ensures
    ∙ (λ i. with_mark p (record {
      done = Put (c.in_ok-own-in-Put.ensures i) (c.in_ok-sent-in-Put.ensures i);
      stamp = stamp;
    }) old) in
    on_ok_weaker c.add_mark-in-Put.result
    (λ second. meet_marks (kept_of c.args.self.now) p q c.args.channel.now s c.slot-first.ensures o c.slot-second.ensures x ev
    c.in-Put.is stamp
    (λ j e. one_more c.max-stamp.result _ (c.max-stamp.ensures
    ∙ (λ i. max (c.max.ensures i) (c.last_stamp-last.ensures j e i))))
    old mid (marks_in c.add_mark-in-Put.new.all.entries) first
    (second ∙ (λ i. with_mark q (record {
      done = Got (record { channel = c.in_ok-name-in-Put.ensures i; side = c.opposite.ensures i })
          (c.in_ok-received-in-Put.ensures i);
      stamp = stamp;
    }) mid))) c.add_mark-in-Put.ensures
