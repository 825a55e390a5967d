use Rattle.std.proofs.Common.{length, ap, subst, arith}
use Rattle.fst_machine.specs.Code.{Lists}
use Rattle.fst_code.specs.Marks.{marked}
use Rattle.fst_code.proofs.ListsLaws.{lists_dropped}
use Rattle.fst_code.proofs.marks.forgotten.Goals as goal

pub variables_in-requires : goal.variables_in-requires
variables_in-requires c = omega (arith, ap length c.deref.ensures.value, c.in_ok-only.ensures.deep, c.requires.few)

pub returns : goal.returns
returns c = λ q f p ea eb. lists_dropped c.in_ok-variables_in.field-0.items (marked c.args.all.now) (marked c.args.branch.now)
    (marked c.in_ok-only.only.items) q f p ea eb c.in_ok-only.ensures.marks
    (subst (λ z. Lists c.in_ok-variables_in.field-0.items (marked z)) c.deref.ensures.value c.in_ok-variables_in.ensures.lists)
