use Rattle.std.proofs.Common.{length, suc, sym, subst}
use Rattle.fst_machine.specs.Standing.{LeadsBelow}
use Rattle.fst_code.specs.Written.{Pushes, compiled}
use Rattle.fst_code.proofs.PieceLaws.{closing_names}
use Rattle.fst_code.proofs.closing.push_closing.Goals as goal

pub push-requires : goal.push-requires
push-requires c = subst (LeadsBelow (suc (length c.args.out.now.code.items))) (sym c.closing_of.ensures)
    (closing_names c.args.is_task c.args.number (suc (length c.args.out.now.code.items)))

pub returns : goal.returns
returns c = λ fs. subst (Pushes (compiled fs c.args.out.now) (compiled fs c.push.new.out)) c.closing_of.ensures
    (c.in_ok-push.ensures fs)
