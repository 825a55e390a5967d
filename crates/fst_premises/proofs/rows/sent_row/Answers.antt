use Rattle.std.proofs.Common.{subst}
use Rattle.std.proofs.lemmas.Result.{err_from_is_err_and}
use Rattle.fst_derivations.specs.Deriv.{deriv_of, type_of}
use Rattle.fst_premises.specs.Shown.{ShowsSend}
use Rattle.fst_premises.proofs.rows.sent_row.Goals as goal

pub returns-in_err-t-clause-refused : goal.returns-in_err-t-clause-refused
returns-in_err-t-clause-refused c =
    let f = c.in_err-t.field-0.0 in
    let p = err_from_is_err_and c.from_residual.result c.from_residual.ensures.1 in
    rw (p.1, p.2) (λ m. subst (λ o. ShowsSend c.args.at (type_of (deriv_of c.args.d)) o f) c.type_of-2.ensures
    (subst (λ o. ShowsSend c.args.at o c.type_of-2.result.now f) c.type_of.ensures (c.in_err-t.ensures.refused m)))
