use Rattle.fst_grammar.proofs.EndLaws.{stops_law}
use Rattle.fst_grammar.proofs.law.stops_law.Goals as goal

pub returns : goal.returns
returns c = stops_law
