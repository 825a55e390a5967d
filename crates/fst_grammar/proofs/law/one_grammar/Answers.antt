use Rattle.fst_grammar.proofs.UniqueLaws.{one_grammar}
use Rattle.fst_grammar.proofs.law.one_grammar.Goals as goal

pub returns : goal.returns
returns c = one_grammar
