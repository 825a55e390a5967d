use Rattle.std.proofs.Common.{◌∙◌, sym}
use Rattle.fst_written.proofs.OneLaws.{one_kind_fault, one_unprintable}
use Rattle.fst_written.proofs.law.one_first_type.Goals as goal

pub returns-clause-fault : goal.returns-clause-fault
returns-clause-fault c = λ m rs at byte f g.
    one_kind_fault m rs at byte f g (λ vars t f g a b. cc
    (sym ((c.walk_law.ensures.faults vars t f).1 a) ∙ (c.walk_law.ensures.faults vars t g).1 b))

pub returns-clause-field : goal.returns-clause-field
returns-clause-field c = one_unprintable
