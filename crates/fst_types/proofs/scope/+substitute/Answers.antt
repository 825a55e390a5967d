use Rattle.std.proofs.Common.{◌∙◌, ap, sym, arith}
use Rattle.fst_types.proofs.ScopeLaws.{weight, outward_weight}
use Rattle.fst_types.proofs.scope.+substitute.Goals as goal

pub variable-substitute_within-requires : goal.variable-substitute_within-requires
variable-substitute_within-requires t c =
    let le = outward_weight c.args.scope.now c.args.k in
    let e = ap weight (sym c.outward.ensures ∙ c.in-Under.is) in
    (omega (arith, le, e, c.decreases), tt)
