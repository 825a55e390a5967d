use Rattle.std.proofs.Common.{◌≡◌, ◌++◌}
use Rattle.std.specs.String.{string_bytes}
use Rattle.fst_print.specs.ModuleTexts.{term_text}
use Rattle.fst_print.specs.Stack.{pieces_text, pieces_weight}
use Rattle.fst_print.proofs.terms.push_term_text.Given as goal

abbrev pub invariant-loop-piece : goal.invariant-loop-piece
invariant-loop-piece l = string_bytes l.text ++ pieces_text l.stack.items ≡ string_bytes l.fn.text ++ term_text l.fn.t

abbrev pub decreases-loop-piece : goal.decreases-loop-piece
decreases-loop-piece l = pieces_weight l.stack.items
