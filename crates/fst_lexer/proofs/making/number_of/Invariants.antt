use Rattle.std.proofs.Common.{◌≡◌, ◌≤◌, drop}
use Rattle.fst_base.specs.Limits.{greatest_number}
use Rattle.fst_lexer.specs.Tokens.{value_from}
use Rattle.fst_lexer.proofs.making.number_of.Given as goal

abbrev pub invariant-loop-p : goal.invariant-loop-p
invariant-loop-p l = (value_from l.value (drop l.p-index l.word) ≡ value_from 0 l.word) × (l.value ≤ greatest_number)
