use Rattle.std.proofs.Common.{◌∙◌, ap, sym, arith}
use Rattle.fst_types.proofs.ScopeLaws.{weight, outward_weight}
use Rattle.fst_types.proofs.counting.+substituted_size.Goals as goal

pub variable_size-substituted_size-requires : goal.variable_size-substituted_size-requires
variable_size-substituted_size-requires t c =
    let le = outward_weight c.args.scope.now c.args.k in
    let e = ap weight (sym c.outward.ensures ∙ c.in-Under.is) in
    (omega (arith, le, e, c.decreases), tt)
