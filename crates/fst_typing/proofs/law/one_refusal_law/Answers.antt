use Rattle.fst_typing.proofs.OneModule.{accepted_is_not_refused, one_refusal}
use Rattle.fst_typing.proofs.law.one_refusal_law.Goals as goal

pub returns-clause-one : goal.returns-clause-one
returns-clause-one c = one_refusal c.one_outcome.ensures.one c.one_outcome.ensures.found c.plain_types_are_unique.ensures
    c.walk_law.ensures.faults

pub returns-clause-apart : goal.returns-clause-apart
returns-clause-apart c = accepted_is_not_refused c.one_outcome.ensures.one c.one_outcome.ensures.found
    c.plain_types_are_unique.ensures
