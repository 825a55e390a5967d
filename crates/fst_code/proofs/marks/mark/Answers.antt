use Rattle.std.proofs.Common.{◌≡◌, ◌∙◌, ◌-◌, true, length, set, ap, arith}
use Rattle.fst_code.specs.Marks.{marked}
use Rattle.fst_code.proofs.MarkLaws.{marked_set}
use Rattle.fst_code.proofs.marks.mark.Goals as goal

pub returns-clause-marks : goal.returns-clause-marks
returns-clause-marks c =
    let bs = c.args.later.now.items in
    let e : c.len.result ≡ length bs = omega (arith, c.args.later.now.ok.0, c.len.ensures) in
    ap (λ z. marked (set bs (z - 1 - c.args.k) true)) e ∙ marked_set bs c.args.k c.requires
