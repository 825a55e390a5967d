use Rattle.std.proofs.Common.{◌≡◌, ◌+◌, ◌-◌, ◌*◌, length, map, codes}
use Rattle.fst_reading.specs.Lexeme.{spells}
use Rattle.fst_reading.specs.Reading.{sep_by_within}
use Rattle.fst_reading.proofs.Loops.{with_front}
use Rattle.fst_module_grammar.specs.TermReading.{expr_at, arm_by}
use Rattle.fst_module_grammar.specs.Levels.{arm_parts}
use Rattle.fst_module_grammar.specs.declared.operators.Level.TheVariants.{Sum}
use Rattle.fst_syntax.proofs.Inside.{rank}
use Rattle.fst_syntax.proofs.+reader.Given as goal

abbrev pub decreases-atoms::atom : goal.decreases-atoms::atom
decreases-atoms::atom l = 128 * l.left

abbrev pub decreases-atoms::arguments : goal.decreases-atoms::arguments
decreases-atoms::arguments l = 128 * l.left + 1

abbrev pub decreases-atoms::applications : goal.decreases-atoms::applications
decreases-atoms::applications l = 128 * l.left + 1

abbrev pub decreases-atoms::head : goal.decreases-atoms::head
decreases-atoms::head l = 128 * l.left + 80

abbrev pub decreases-operands::app : goal.decreases-operands::app
decreases-operands::app l = 128 * l.left + 2

abbrev pub decreases-operands::unary : goal.decreases-operands::unary
decreases-operands::unary l = 128 * l.left + 1

abbrev pub decreases-operands::compared : goal.decreases-operands::compared
decreases-operands::compared l = 128 * l.left + 30

abbrev pub decreases-operands::operand : goal.decreases-operands::operand
decreases-operands::operand l = 128 * l.left + rank l.level

abbrev pub decreases-operands::more : goal.decreases-operands::more
decreases-operands::more l = 128 * l.left + rank l.level + 1

abbrev pub decreases-operands::chain : goal.decreases-operands::chain
decreases-operands::chain l = 128 * l.left + rank l.level + 2

abbrev pub decreases-terms::expr : goal.decreases-terms::expr
decreases-terms::expr l = 128 * l.left + 60

abbrev pub decreases-terms::boxed : goal.decreases-terms::boxed
decreases-terms::boxed l = 128 * l.left + 61

abbrev pub decreases-atoms::boxed_atom : goal.decreases-atoms::boxed_atom
decreases-atoms::boxed_atom l = 128 * l.left + 1

abbrev pub decreases-operands::boxed_sum : goal.decreases-operands::boxed_sum
decreases-operands::boxed_sum l = 128 * l.left + rank Sum + 3

abbrev pub decreases-atoms::paren : goal.decreases-atoms::paren
decreases-atoms::paren l = 128 * l.left + 62

abbrev pub decreases-atoms::begun : goal.decreases-atoms::begun
decreases-atoms::begun l = 128 * l.left + 63

abbrev pub decreases-terms::lambda : goal.decreases-terms::lambda
decreases-terms::lambda l = 128 * l.left + 62

abbrev pub decreases-terms::let_in : goal.decreases-terms::let_in
decreases-terms::let_in l = 128 * l.left + 62

abbrev pub decreases-terms::if_else : goal.decreases-terms::if_else
decreases-terms::if_else l = 128 * l.left + 62

abbrev pub decreases-terms::arm : goal.decreases-terms::arm
decreases-terms::arm l = 128 * l.left + 61

abbrev pub decreases-terms::arms : goal.decreases-terms::arms
decreases-terms::arms l = 128 * l.left + 62

abbrev pub decreases-terms::with_arms : goal.decreases-terms::with_arms
decreases-terms::with_arms l = 128 * l.left + 63

abbrev pub invariant-terms::arms-loop : goal.invariant-terms::arms-loop
invariant-terms::arms-loop l =
    let comma = spells (codes ",") in
    let arm = arm_by (expr_at l.left) l.kind in
    (with_front (map arm_parts l.arms.items) (sep_by_within comma arm (l.end - l.counter) l.rest) ≡ sep_by_within comma arm
    (length l.tokens) l.tokens) × (l.end ≡ length l.tokens)

abbrev pub decreases-terms::then : goal.decreases-terms::then
decreases-terms::then l = 128 * l.left + 59
