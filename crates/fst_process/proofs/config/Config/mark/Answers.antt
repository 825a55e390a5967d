use Rattle.std.proofs.Common.{◌∙◌, ◌+◌, OnOk, sym, ap, subst}
use mathlib.Core.Bool.{Bool-set}
use Rattle.std.proofs.Math.Logic.{∥∥₁_map, ∥∥₁_elim}
use Rattle.std.proofs.lemmas.Result.{on_ok_weaker}
use Rattle.fst_vm.specs.SlotOf.{slot_of}
use Rattle.fst_process.specs.KeptOf.{kept_of}
use Rattle.fst_process.specs.Firing.{IsPossible}
use Rattle.fst_process.specs.Marking.{marks_in, AddsMarks}
use Rattle.fst_process.proofs.FireFork.{fork_there, forks_now}
use Rattle.fst_process.proofs.Stepping.{one_more, clock_within}
use Rattle.fst_process.proofs.MarkLaws.{local_marks, new_marks, fork_marks}
use Rattle.fst_process.proofs.config.Config.mark.Goals as goal

pub child-requires : goal.child-requires
child-requires c =
    let p = c.in-Fork.path in
    let d = kept_of c.args.self.now in
    ∥∥₁_map (subst (λ e. ∥ IsPossible c.args.code.now d e ∥₁) c.in-Fork.is c.requires)
    (forks_now c.args.code.now d p (slot_of c.slot.result.now) c.slot.ensures)

pub mark_alone-requires-in-Fork-clause-there : goal.mark_alone-requires-in-Fork-clause-there
mark_alone-requires-in-Fork-clause-there c =
    let d = kept_of c.args.self.now in
    ∥∥₁_elim (subst (λ e. ∥ IsPossible c.args.code.now d e ∥₁) c.in-Fork.is c.requires) (Bool-set _ _)
    (fork_there c.args.code.now d c.in-Fork.path)

pub mark_alone-requires-in-Fork-clause-few : goal.mark_alone-requires-in-Fork-clause-few
mark_alone-requires-in-Fork-clause-few c = λ s there.
    let d = kept_of c.args.self.now in
    clock_within c.args.code.now d c.in-Fork.path s c.args.event.now there c.requires

pub mark_both-requires : goal.mark_both-requires
mark_both-requires c =
    let d = kept_of c.args.self.now in
    ∥∥₁_map (subst (λ e. ∥ IsPossible c.args.code.now d e ∥₁) c.in-Meet.is c.requires) (λ x. (c.args.code.now, x))

pub returns-in-Local : goal.returns-in-Local
returns-in-Local c =
    let d = kept_of c.args.self.now in
    let f = marks_in c.args.all.now.entries in
    let g = marks_in c.mark_alone.new.all.entries in
    subst (λ e. OnOk c.mark_alone.result (AddsMarks d e f g)) (sym c.in-Local.is)
    (on_ok_weaker c.mark_alone.result (local_marks d c.in-Local.path f g) c.mark_alone.ensures)

pub returns-in_ok-maker-in-New : goal.returns-in_ok-maker-in-New
returns-in_ok-maker-in-New c =
    let d = kept_of c.args.self.now in
    let f = marks_in c.args.all.now.entries in
    let g = marks_in c.mark_alone-in-New.new.all.entries in
    let p = c.in-New.path in
    subst (λ e. OnOk c.mark_alone-in-New.result (AddsMarks d e f g)) (sym c.in-New.is)
    (on_ok_weaker c.mark_alone-in-New.result
    (new_marks d p f g (record { maker = c.in_ok-maker-in-New.maker; count = c.made-count.result + 1 })
    (λ i. record {
      maker = c.in_ok-maker-in-New.ensures i;
      count = one_more c.made-count.result (d.made p) (c.made-count.ensures ∙ ap d.made c.as_slice.ensures) i;
    }))
    c.mark_alone-in-New.ensures)

pub returns-in_ok-forked-in-Fork : goal.returns-in_ok-forked-in-Fork
returns-in_ok-forked-in-Fork c =
    let d = kept_of c.args.self.now in
    let f = marks_in c.args.all.now.entries in
    let g = marks_in c.mark_alone-in-Fork.new.all.entries in
    let p = c.in-Fork.path in
    let s = slot_of c.slot.result.now in
    subst (λ e. OnOk c.mark_alone-in-Fork.result (AddsMarks d e f g)) (sym c.in-Fork.is)
    (on_ok_weaker c.mark_alone-in-Fork.result
    (λ h. fork_marks d p f g s c.slot.ensures c.in_ok-forked-in-Fork.forked
    (c.in_ok-forked-in-Fork.ensures ∙ c.path.ensures ∙ c.in_ok-child-in-Fork.ensures.child.path)
    (h s c.slot.ensures)) c.mark_alone-in-Fork.ensures)

pub returns-in-Meet : goal.returns-in-Meet
returns-in-Meet c =
    let d = kept_of c.args.self.now in
    let f = marks_in c.args.all.now.entries in
    let g = marks_in c.mark_both.new.all.entries in
    subst (λ e. OnOk c.mark_both.result (AddsMarks d e f g)) (sym c.in-Meet.is) c.mark_both.ensures
