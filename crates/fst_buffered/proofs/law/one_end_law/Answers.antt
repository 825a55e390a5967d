use Rattle.fst_buffered.proofs.OneEnd.{one_end, answers_ends}
use Rattle.fst_buffered.proofs.law.one_end_law.Goals as goal

pub returns-clause-ends : goal.returns-clause-ends
returns-clause-ends c = one_end

pub returns-clause-answers : goal.returns-clause-answers
returns-clause-answers c = answers_ends
