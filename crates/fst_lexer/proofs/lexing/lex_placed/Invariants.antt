use Rattle.std.proofs.Common.{◌≤◌, length}
use Rattle.fst_lexer.specs.Tokens.{LexesTo}
use Rattle.fst_lexer.proofs.lexing.lex_placed.Given as goal

abbrev pub invariant-loop-rest : goal.invariant-loop-rest
invariant-loop-rest l = LexesTo l.text l.tokens.items l.first l.rest × (length l.rest ≤ length l.text)

abbrev pub decreases-loop-rest : goal.decreases-loop-rest
decreases-loop-rest l = length l.rest
