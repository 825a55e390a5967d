use Rattle.fst_lexer.proofs.OneLaws.{one_lexing}
use Rattle.fst_lexer.proofs.lexing.one_lexing.Goals as goal

pub returns : goal.returns
returns c = one_lexing
