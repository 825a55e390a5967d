use Rattle.std.proofs.Common.{◌∙◌, length, suc, sym, ap, subst}
use Rattle.fst_machine.specs.Code.{load}
use Rattle.fst_machine.specs.Standing.{LeadsBelow}
use Rattle.fst_code.specs.Written.{Pushes, compiled}
use Rattle.fst_code.proofs.PieceLaws.{load_names}
use Rattle.fst_code.proofs.pieces.push_load.Goals as goal

pub push-requires : goal.push-requires
push-requires c = subst (LeadsBelow (suc (length c.args.out.now.code.items))) (sym c.load_of.ensures)
    (load_names c.is_marked-used.result c.args.k (suc (length c.args.out.now.code.items)))

pub returns : goal.returns
returns c = λ fs. subst (Pushes (compiled fs c.args.out.now) (compiled fs c.push.new.out))
    (c.load_of.ensures ∙ ap (λ z. load z c.args.k) c.is_marked-used.ensures) (c.in_ok-push.ensures fs)
