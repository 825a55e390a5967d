use Rattle.fst_types.specs.Height.{height}
use Rattle.fst_grammar.proofs.words.+push_word.Given as goal

abbrev pub decreases-push_word : goal.decreases-push_word
decreases-push_word l = height l.t.ty.now
