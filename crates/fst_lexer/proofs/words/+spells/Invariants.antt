use Rattle.std.proofs.Common.{length}
use Rattle.fst_lexer.proofs.words.+spells.Given as goal

abbrev pub decreases-spells : goal.decreases-spells
decreases-spells l = length l.text.now
