use Rattle.std.proofs.Common.{◌++◌, ◌∙◌, sym, ap, subst, arith, length, append-nil, get_or}
use Rattle.fst_base.proofs.Lists.{length-push}
use Rattle.fst_shared.specs.Numbers.{AreNumbers}
use Rattle.fst_shared.proofs.NumberLaws.{numbers_more}
use Rattle.fst_shared.proofs.numbers.row_numbers.Goals as goal

pub loop-rule-preserved : goal.loop-rule-preserved
loop-rule-preserved c =
    let before = c.loop-rule.invariant in
    let count = before.count in
    let first = before.kept in
    let next = c.in_ok-number.ensures.kept in
    let word = c.in_ok-number.ensures.word ∙ (λ i. c.as_slice.ensures i ++ c.each_once.ensures.empty i)
    ∙ append-nil c.rule-item.result.word in
    let is = ap (λ k. get_or c.args.rules.now k c.rule-item.result) (sym count) in
    record {
      kept = record {
        longer = (let a = first.longer in let b = next.longer in omega arith);
        kept = λ k l. next.kept k (let a = first.longer in omega arith) ∙ first.kept k l;
      };
      numbers = subst (AreNumbers c.concat.new.self c.args.rules.now) (sym c.in_ok-push.ensures.items)
          (numbers_more _ _ _ c.loop-rule.numbers.items c.rule-item.result c.in_ok-number.number before.numbers next
          (let lt = c.loop-rule-test.true in omega arith) (c.rule-item.is ∙ is)
          (record { within = c.in_ok-number.ensures.within; word = word }));
      count = (let longer = ap length c.in_ok-push.ensures.items in let one =
          length-push c.loop-rule.numbers.items c.in_ok-number.number in omega arith);
    }
