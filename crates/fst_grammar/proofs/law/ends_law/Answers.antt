use Rattle.fst_grammar.proofs.EndLaws.{ends_law}
use Rattle.fst_grammar.proofs.law.ends_law.Goals as goal

pub returns : goal.returns
returns c = ends_law
