use Rattle.fst_arms.proofs.Numbers.{AreNumbered}
use Rattle.fst_arms.proofs.arms.maker_numbers.Given as goal

abbrev pub invariant-loop-arm : goal.invariant-loop-arm
invariant-loop-arm l = AreNumbered l.makers l.arms l.arm-index l.numbers.items
