use Rattle.fst_typing.proofs.Equality.{equality}
use Rattle.fst_typing.proofs.Whole.{derived_has_plain, refused_has_none}
use Rattle.fst_typing.proofs.law.refusal_law.Goals as goal

pub returns-clause-plain : goal.returns-clause-plain
returns-clause-plain c = derived_has_plain c.plain_derivation_law.ensures (λ vars. equality vars)

pub returns-clause-refused : goal.returns-clause-refused
returns-clause-refused c = refused_has_none c.comparison_law.ensures.differ c.plain_types_are_unique.ensures
    c.plain_derivation_law.ensures (λ vars. equality vars)
