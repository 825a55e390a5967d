use Rattle.std.proofs.Common.{◌++◌, ◌∙◌, List, ap, sym, take}
use Rattle.std.specs.Prelude.{map}
use Rattle.std.proofs.lemmas.List.{append_assoc, take_all}
use Rattle.fst_runs.specs.declared.event.Stamped.{Stamped}
use Rattle.fst_records.specs.Gathering.{event_at, gathered}
use Rattle.fst_merge.specs.Receipts.{deed_of, part_of}
use Rattle.fst_merge.proofs.Gathered.{marks_more}
use Rattle.fst_merge.proofs.merging.add_task.Goals as goal

pub loop-mark-preserved : goal.loop-mark-preserved
loop-mark-preserved c = λ all found.
    let p = c.args.task.now.path in
    let ks = c.deref-mark-items.result.now in
    let i = c.loop-mark.mark-index in
    let k = c.mark-item.result in
    let event = event_at all p k.stamp (deed_of k.done) in
    c.in_ok-add_mark.ensures all found
    ∙ ap (λ (es : List Stamped). es ++ event) (c.loop-mark.invariant all found)
    ∙ append_assoc c.args.events.now.items (gathered all (map (part_of p) (take i ks))) event
    ∙ ap (λ es. c.args.events.now.items ++ es) (sym (marks_more all p ks i k c.loop-mark-test.true c.mark-item.is))

pub returns : goal.returns
returns c = λ all found.
    let p = c.args.task.now.path in
    c.loop-mark.invariant all found
    ∙ ap (λ ks. c.args.events.now.items ++ gathered all (map (part_of p) ks))
    (take_all c.loop-mark.mark-index c.deref-mark-items.result.now c.loop-mark-test.false ∙ c.deref-mark-items.ensures.value)
