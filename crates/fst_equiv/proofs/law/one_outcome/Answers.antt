use Rattle.fst_equiv.proofs.OutcomeLaws.{one_outcome_by, has_outcome}
use Rattle.fst_equiv.proofs.law.one_outcome.Goals as goal

pub returns : goal.returns
returns c = record { one = one_outcome_by c.one_answer.ensures; found = has_outcome }
