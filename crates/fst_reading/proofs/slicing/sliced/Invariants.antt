use Rattle.std.proofs.Common.{◌≡◌, map, take}
use Rattle.fst_reading.specs.Lexeme.{lexeme}
use Rattle.fst_reading.proofs.slicing.sliced.Given as goal

abbrev pub invariant-loop-token : goal.invariant-loop-token
invariant-loop-token l = l.lexemes.items ≡ map (lexeme l.text) (take l.token-index l.tokens)
