use Rattle.std.proofs.Common.{arith}
use Rattle.fst_vm.proofs.TellLaws.{copied_more, copied_none}
use Rattle.fst_vm.proofs.answers.last_values.Goals as goal

pub loop-i-preserved-in_ok-push : goal.loop-i-preserved-in_ok-push
loop-i-preserved-in_ok-push c =
    record {
      within = omega (arith, c.loop-i.invariant.within);
      copied =
          copied_more c.loop-i.i c.args.count c.args.stack.now c.loop-i.values.items c.push.new.self.items c.in-Some.value.now
          c.in_ok-copy.field-0 c.loop-i-test.true
          c.loop-i.invariant.within c.in-Some.ensures c.in_ok-copy.ensures c.loop-i.invariant.copied c.in_ok-push.ensures.items;
    }

pub loop-i-preserved : goal.loop-i-preserved
loop-i-preserved c =
    record {
      within = omega (arith, c.loop-i.invariant.within);
      copied = copied_none c.loop-i.i c.args.count c.args.stack.now c.loop-i.values.items c.loop-i-test.true c.in_default.ensures
          c.loop-i.invariant.copied;
    }
