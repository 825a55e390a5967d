use Rattle.fst_lexer.proofs.SpellingLaws.{spelling_law}
use Rattle.fst_lexer.proofs.lexing.spelled_words.Goals as goal

pub returns : goal.returns
returns c = spelling_law
