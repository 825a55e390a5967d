use Rattle.std.proofs.lemmas.Result.{err_from_is_err_and}
use Rattle.fst_typing.specs.Checked.IsRefusal.{equation}
use Rattle.fst_typing.proofs.Accepting.{accepted_derived}
use Rattle.fst_typing.proofs.TextLaws.{refused_texts}
use Rattle.fst_typing.proofs.Whole.{shown_has_none, wants_memory}
use Rattle.fst_typing.proofs.checking.check.Goals as goal

pub returns-in_err-check_written-clause-refused : goal.returns-in_err-check_written-clause-refused
returns-in_err-check_written-clause-refused c =
    let p = err_from_is_err_and c.from_residual.result c.from_residual.ensures.1 in
    rw (p.1, p.2) (λ n. c.in_err-check_written.ensures.refused n c.args.budget)

pub returns-in_err-check_written-clause-texts : goal.returns-in_err-check_written-clause-texts
returns-in_err-check_written-clause-texts c =
    let p = err_from_is_err_and c.from_residual.result c.from_residual.ensures.1 in
    rw (p.1, p.2) (refused_texts c.args.m.now c.args.budget c.in_err-check_written.field-0.0
    (λ n. c.in_err-check_written.ensures.refused n c.args.budget))

pub returns-in_err-derivations-clause-refused : goal.returns-in_err-derivations-clause-refused
returns-in_err-derivations-clause-refused c =
    let p = err_from_is_err_and c.from_residual-in_err-derivations.result c.from_residual-in_err-derivations.ensures.1 in
    rw (p.1, p.2) (λ n. let h = c.in_err-derivations.ensures.refused n in
    equation h.0 c.in_ok-check_written.ensures.types c.in_ok-check_written.ensures.fields h.1 h.2)

pub returns-in_err-derivations-clause-texts : goal.returns-in_err-derivations-clause-texts
returns-in_err-derivations-clause-texts c =
    let p = err_from_is_err_and c.from_residual-in_err-derivations.result c.from_residual-in_err-derivations.ensures.1 in
    rw (p.1, p.2) (refused_texts c.args.m.now c.args.budget c.in_err-derivations.field-0.0
    (λ n. let h = c.in_err-derivations.ensures.refused n in
    equation h.0 c.in_ok-check_written.ensures.types c.in_ok-check_written.ensures.fields h.1 h.2))

pub returns-clause-derived : goal.returns-clause-derived
returns-clause-derived c = accepted_derived c.args.m.now c.args.budget _
    (record {
      types = c.in_ok-check_written.ensures.types;
      fields = c.in_ok-check_written.ensures.fields;
      main =
          c.in_ok-derivations.ensures.main;
      equations = c.in_ok-derivations.ensures.derived;
    })

pub returns-in_err-check_written-clause-groundless : goal.returns-in_err-check_written-clause-groundless
returns-in_err-check_written-clause-groundless c =
    let p = err_from_is_err_and c.from_residual.result c.from_residual.ensures.1 in
    rw (p.1, p.2) (λ i. shown_has_none c.refusal_law.ensures.refused c.args.m.now c.args.budget c.in_err-check_written.field-0.0 i
    (λ n. c.in_err-check_written.ensures.refused n c.args.budget))

pub returns-in_err-check_written-clause-complete : goal.returns-in_err-check_written-clause-complete
returns-in_err-check_written-clause-complete c =
    let p = err_from_is_err_and c.from_residual.result c.from_residual.ensures.1 in
    rw (p.1, p.2) (wants_memory c.complete_law.ensures.complete c.args.m.now c.args.budget c.in_err-check_written.field-0.0
    (λ n. c.in_err-check_written.ensures.refused n c.args.budget))

pub returns-in_err-derivations-clause-groundless : goal.returns-in_err-derivations-clause-groundless
returns-in_err-derivations-clause-groundless c =
    let p = err_from_is_err_and c.from_residual-in_err-derivations.result c.from_residual-in_err-derivations.ensures.1 in
    rw (p.1, p.2) (λ i. shown_has_none c.refusal_law.ensures.refused c.args.m.now c.args.budget c.in_err-derivations.field-0.0 i
    (λ n. let h = c.in_err-derivations.ensures.refused n in
    equation h.0 c.in_ok-check_written.ensures.types c.in_ok-check_written.ensures.fields h.1 h.2))

pub returns-in_err-derivations-clause-complete : goal.returns-in_err-derivations-clause-complete
returns-in_err-derivations-clause-complete c =
    let p = err_from_is_err_and c.from_residual-in_err-derivations.result c.from_residual-in_err-derivations.ensures.1 in
    rw (p.1, p.2) (wants_memory c.complete_law.ensures.complete c.args.m.now c.args.budget c.in_err-derivations.field-0.0
    (λ n. let h = c.in_err-derivations.ensures.refused n in
    equation h.0 c.in_ok-check_written.ensures.types c.in_ok-check_written.ensures.fields h.1 h.2))
