use Rattle.fst_lexer.proofs.TokenLaws.{token_words}
use Rattle.fst_lexer.proofs.lexing.token_words.Goals as goal

pub returns : goal.returns
returns c = token_words
