use Rattle.std.proofs.Common.{◌≡◌, rules, IsErrAnd}
use Rattle.fst_equiv.specs.declared.fault.EquivFault.{EquivFault}
use Rattle.fst_equiv.proofs.ComparisonLaws.{only_question, too_large_by}
use Rattle.fst_equiv.proofs.comparing.same_part.Goals as goal

pub returns-in_err-ask-clause-too_large : goal.returns-in_err-ask-clause-too_large
returns-in_err-ask-clause-too_large c =
    let s = c.args.t.now in
    let r = c.args.u.now in
    let from : IsErrAnd c.from_residual.result (λ (f : EquivFault). f ≡ c.in_err-ask.field-0.0) = search rules in
    too_large_by c.from_residual.result c.in_err-ask.field-0.0 from
    (λ e. (
      s,
      r,
      only_question c.args.budget s r (λ d. cc (c.if-same.false, c.same.ensures.1 d)),
      c.in_err-ask.ensures.too_large e,
    ))

pub returns-in-No-clause-answer : goal.returns-in-No-clause-answer
returns-in-No-clause-answer c =
    let s = c.args.t.now in
    let r = c.args.u.now in (
      s,
      r,
      only_question c.args.budget s r (λ e. cc (c.if-same.false, c.same.ensures.1 e)),
      rw c.in-No.is at c.in_ok-ask.ensures.verdict,
    )

pub returns-clause-answer : goal.returns-clause-answer
returns-clause-answer c =
    let s = c.args.t.now in
    let r = c.args.u.now in (
      s,
      r,
      only_question c.args.budget s r (λ e. cc (c.if-same.false, c.same.ensures.1 e)),
      rw c.in-Undecided.is at c.in_ok-ask.ensures.verdict,
    )
