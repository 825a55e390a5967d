use Rattle.std.proofs.Common.{◌∙◌, ◌++◌, refl, sym, ap, subst}
use Rattle.fst_process.specs.Resuming.{CanResume, IsResumed}
use Rattle.fst_process.specs.KeptOf.{kept_of}
use Rattle.fst_worker.specs.Closing.{AreOfRun, AreClosedTo}
use Rattle.fst_worker.specs.Ending.{AreTellable, ends_of}
use Rattle.fst_worker.proofs.Finished.{of_run, are_tellable, finished, counted_so, can_resume, is_out, is_kept}
use Rattle.fst_worker.proofs.finishing.settle.Goals as goal

pub close_all-requires : goal.close_all-requires
close_all-requires c =
    let ts = c.args.tasks.items in
    let taken = c.in_ok-bare.ensures.ends ∙ ap (λ es. es ++ ends_of ts) c.new-ends.ensures.items in
    subst AreOfRun (sym taken) (of_run c.args.code.now ts c.requires.run)

pub tell_all-requires-clause-can : goal.tell_all-requires-clause-can
tell_all-requires-clause-can c =
    let ts = c.args.tasks.items in
    let cs = c.in_ok-closed.closed.items in
    let taken = c.in_ok-bare.ensures.ends ∙ ap (λ es. es ++ ends_of ts) c.new-ends.ensures.items in
    let shut = subst (λ es. AreClosedTo es cs) taken c.in_ok-closed.ensures.closed in
    subst (AreTellable c.args.code.now c.in_ok-bare.bare.items) (sym c.as_slice-2.ensures.value)
    (are_tellable c.args.code.now ts c.requires.run cs shut c.in_ok-bare.bare.items c.in_ok-bare.ensures.bare)

pub returns-then-events-steps : goal.returns-then-events-steps
returns-then-events-steps c = λ d.
    let k = c.args.code.now in
    let ts = c.args.tasks.items in
    let cs = c.in_ok-closed.closed.items in
    let us = c.in_ok-told.told.items in
    let ls = c.in_ok-told.logs.items in
    let f = finished k ts c.new-ends.result.items c.strip_all.new.ends.items cs c.as_slice-2.result.now c.in_ok-bare.bare.items
    us ls c.new-ends.ensures.items
    c.in_ok-bare.ensures.ends c.in_ok-bare.ensures.bare c.in_ok-closed.ensures.closed c.in_ok-closed.ensures.order
    c.as_slice-2.ensures.value c.in_ok-told.ensures in
    let n = counted_so c.args.steps c.count_alone-alone.result c.count_entries-events.result ts c.as_slice.result.now cs
    c.as_slice-3.result.now c.as_slice.ensures.value c.count_alone-alone.ensures
    c.as_slice-3.ensures.value c.count_entries-events.ensures in
    is_out k ts cs us ls f d c.args.steps c.count_entries-events.result n c.if-events-steps.true

pub resumed-requires : goal.resumed-requires
resumed-requires c =
    let k = c.args.code.now in
    let ts = c.args.tasks.items in
    let cs = c.in_ok-closed.closed.items in
    let us = c.in_ok-told.told.items in
    let ls = c.in_ok-told.logs.items in
    let f = finished k ts c.new-ends.result.items c.strip_all.new.ends.items cs c.as_slice-2.result.now c.in_ok-bare.bare.items
    us ls c.new-ends.ensures.items
    c.in_ok-bare.ensures.ends c.in_ok-bare.ensures.bare c.in_ok-closed.ensures.closed c.in_ok-closed.ensures.order
    c.as_slice-2.ensures.value c.in_ok-told.ensures in
    ∣ subst (CanResume k us) (sym c.in_ok-channels.ensures) (can_resume k ts cs us ls f c.requires.run) ∣₁

pub returns : goal.returns
returns c = λ d.
    let k = c.args.code.now in
    let ts = c.args.tasks.items in
    let cs = c.in_ok-closed.closed.items in
    let us = c.in_ok-told.told.items in
    let ls = c.in_ok-told.logs.items in
    let f = finished k ts c.new-ends.result.items c.strip_all.new.ends.items cs c.as_slice-2.result.now c.in_ok-bare.bare.items
    us ls c.new-ends.ensures.items
    c.in_ok-bare.ensures.ends c.in_ok-bare.ensures.bare c.in_ok-closed.ensures.closed c.in_ok-closed.ensures.order
    c.as_slice-2.ensures.value c.in_ok-told.ensures in
    let n = counted_so c.args.steps c.count_alone-alone.result c.count_entries-events.result ts c.as_slice.result.now cs
    c.as_slice-3.result.now c.as_slice.ensures.value c.count_alone-alone.ensures
    c.as_slice-3.ensures.value c.count_entries-events.ensures in
    let v = kept_of c.in_ok-config.config in
    let kept = subst (λ hs. IsResumed k us hs v) c.in_ok-channels.ensures c.in_ok-config.ensures.resumed in
    is_kept k ts cs us ls f d c.args.steps c.count_entries-events.result n c.if-events-steps.false v kept c.stays_law.ensures
    (record { config = c.in_ok-config.config; logs = c.in_ok-told.logs }) refl c.in_ok-config.ensures.events refl
