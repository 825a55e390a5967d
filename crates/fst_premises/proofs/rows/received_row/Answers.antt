use Rattle.std.proofs.Common.{subst}
use Rattle.std.proofs.lemmas.Result.{err_from_is_err_and}
use Rattle.fst_premises.specs.Shown.{ShowsReceive}
use Rattle.fst_premises.proofs.rows.received_row.Goals as goal

pub returns-in_err-t-clause-refused : goal.returns-in_err-t-clause-refused
returns-in_err-t-clause-refused c =
    let f = c.in_err-t.field-0.0 in
    let p = err_from_is_err_and c.from_residual.result c.from_residual.ensures.1 in
    rw (p.1, p.2) (λ m. subst (λ o. ShowsReceive c.args.at o f) c.type_of.ensures (c.in_err-t.ensures.refused m))
