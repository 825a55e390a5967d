use Rattle.std.proofs.Common.{ap, arith}
use Rattle.std.proofs.lemmas.List.{at_drop_all}
use Rattle.std.proofs.lemmas.List.Sums.{sum_by-drop_more}
use Rattle.fst_runs.specs.declared.log.LogEntry.{LogEntry}
use Rattle.fst_records.specs.Growing.{alone}
use Rattle.fst_worker.specs.Finishing.{alone_in}
use Rattle.fst_worker.proofs.Counted.{alone_few}
use Rattle.fst_worker.proofs.finishing.count_log.Goals as goal

pub loop-entry-init : goal.loop-entry-init
loop-entry-init c = record { left = omega arith; few = omega arith }

pub loop-entry-preserved : goal.loop-entry-preserved
loop-entry-preserved c =
    let f = λ (e : LogEntry). alone e.answer in
    let d = c.entry-item.result in
    let s = sum_by-drop_more f c.args.log.now c.loop-entry.entry-index d c.loop-entry-test.true in
    let e = ap f c.entry-item.is in
    let few = alone_few d.answer in
    record {
      left = omega (arith, c.loop-entry.invariant.left, s, e, c.one_alone-count.ensures);
      few = omega (arith, c.loop-entry.invariant.few, few, c.one_alone-count.ensures);
    }

pub returns-clause-value : goal.returns-clause-value
returns-clause-value c =
    let none = at_drop_all alone_in c.args.log.now c.loop-entry.entry-index (omega (arith, c.loop-entry-test.false)) in
    omega (arith, c.loop-entry.invariant.left, none)
