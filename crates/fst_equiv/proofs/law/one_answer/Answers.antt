use Rattle.fst_equiv.proofs.AnswerLaws.{one_answer_by}
use Rattle.fst_equiv.proofs.law.one_answer.Goals as goal

pub returns : goal.returns
returns c = one_answer_by c.one_grammar.ensures c.search_is_determined.ensures
