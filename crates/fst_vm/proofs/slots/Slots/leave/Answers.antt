use Rattle.std.proofs.Common.{◌∙◌, ap, arith}
use Rattle.std.specs.Prelude.{reverse}
use Rattle.fst_vm.proofs.SlotLaws.{left_turned}
use Rattle.fst_vm.proofs.slots.Slots.leave.Goals as goal

pub returns-then-count-len : goal.returns-then-count-len
returns-then-count-len c =
    ap reverse c.truncate.ensures.items
    ∙ left_turned c.self.inside.values.items c.args.self.now c.args.count c.len-len.result c.self.view_is
    (omega (arith, c.len-len.ensures, c.self.inside.values.ok)) (omega (arith, c.if-count-len.true))
