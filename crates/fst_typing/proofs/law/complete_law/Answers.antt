use Rattle.fst_typing.proofs.OneModule.{accepted_is_within}
use Rattle.fst_typing.proofs.Whole.{within_is_not_refused}
use Rattle.fst_typing.proofs.law.complete_law.Goals as goal

pub returns-clause-complete : goal.returns-clause-complete
returns-clause-complete c = within_is_not_refused c.comparison_law.ensures.differ c.plain_types_are_unique.ensures

pub returns-clause-accepted : goal.returns-clause-accepted
returns-clause-accepted c = accepted_is_within c.one_outcome.ensures.one c.one_outcome.ensures.found
    c.plain_types_are_unique.ensures
