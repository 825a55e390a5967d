use Rattle.std.proofs.Common.{◌∙◌, ◌<◌, ◌≤◌, length, sym, ap, arith}
use Rattle.fst_machine.specs.Spots.{filled}
use Rattle.fst_vm.proofs.SlotLaws.{filled_wider, filled_set}
use Rattle.fst_vm.proofs.slots.fill.Goals as goal

pub loop-values-preserved : goal.loop-values-preserved
loop-values-preserved c =
    let i = c.loop-values.invariant in
    let le : length c.loop-values.values.items ≤ c.args.k =
    omega (arith, c.len.ensures, c.loop-values-test.true, c.loop-values.values.ok) in
    record {
      same = ap (filled c.args.k c.args.value) c.push_reserved.ensures.items
          ∙ filled_wider c.args.k c.args.value c.loop-values.values.items le
          ∙ i.same;
      capacity = c.push_reserved.ensures.capacity ∙ i.capacity;
    }

pub returns-clause-values : goal.returns-clause-values
returns-clause-values c =
    let lt : c.args.k < length c.loop-values.values.items =
    omega (arith, c.len.ensures, c.loop-values-test.false, c.loop-values.values.ok) in
    sym (filled_set c.args.k c.args.value c.loop-values.values.items lt) ∙ c.loop-values.invariant.same
