use Rattle.fst_breadth.proofs.OneAnswer.{one_answer}
use Rattle.fst_breadth.proofs.law.search_is_determined.Goals as goal

pub returns : goal.returns
returns c = one_answer
