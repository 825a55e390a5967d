use Rattle.std.proofs.Common.{subst}
use Rattle.fst_machine.specs.Code.{load}
use Rattle.fst_code.specs.Marks.{marked}
use Rattle.fst_code.specs.Written.{Pushes, compiled}
use Rattle.fst_code.proofs.FormLaws.{local_written}
use Rattle.fst_code.proofs.terms.write_local.Goals as goal

pub returns : goal.returns
returns c = λ fs at. local_written (compiled fs c.args.out.now)
    (compiled fs c.push_load.new.out) c.args.later.now.items c.mark.new.later.items at c.args.k
    (subst (λ z. Pushes (compiled fs c.args.out.now) (compiled fs c.push_load.new.out) (load (marked z c.args.k) c.args.k))
    c.deref.ensures.value (c.in_ok-push_load.ensures fs))
    c.mark.ensures.marks c.mark.ensures.deep
