use Rattle.std.proofs.Common.{ap}
use Rattle.fst_premises.specs.declared.fault.CheckFault.TheVariants.{Dropped}
use Rattle.fst_premises.proofs.Uses.{not_many}
use Rattle.fst_premises.proofs.parts.may_be_dropped.Goals as goal

pub returns-in_ok-copy-in-Once-clause-err : goal.returns-in_ok-copy-in-Once-clause-err
returns-in_ok-copy-in-Once-clause-err c =
    λ m. (
      λ many. not_many c.args.vars.now c.args.t.now c.in_ok-use_of.field-0 c.in_ok-use_of.ensures many c.in-Once.is,
      ap (Dropped c.args.at) c.in_ok-copy-in-Once.ensures,
    )
