use Rattle.std.proofs.Common.{◌∙◌, refl, sym, length, codes}
use Rattle.std.proofs.lemmas.Result.{err_from_is_err_and}
use Rattle.fst_reading.specs.Lexeme.{spells}
use Rattle.fst_type_syntax.specs.TypeReading.{binder_at}
use Rattle.fst_reading.proofs.Loops.{begins_empty, goes_on, stops, runs_out, fails}
use Rattle.fst_type_syntax.proofs.questions.binders.Goals as goal

pub loop-init : goal.loop-init
loop-init c = (
  rw c.new-binders.ensures.items (begins_empty (spells (codes ",")) binder_at
      (length c.args.tokens.now) c.args.tokens.now),
  refl,
)

pub returns-in_err-binder : goal.returns-in_err-binder
returns-in_err-binder c =
    let p = err_from_is_err_and c.from_residual.result c.from_residual.ensures.1 in
    rw (p.1, p.2) (fails (spells (codes ",")) binder_at c.loop.binders.items
    (length c.args.tokens.now) c.loop.counter c.loop.rest.now _ _ c.loop-test.true c.in_err-binder.ensures c.loop.invariant.0)

pub returns-then-not-comes : goal.returns-then-not-comes
returns-then-not-comes c =
    let last = stops (spells (codes ",")) binder_at c.loop.binders.items
    (length c.args.tokens.now) c.loop.counter c.loop.rest.now _ c.in_ok-binder.binder c.in_ok-binder.remaining.now
    c.loop-test.true c.in_ok-binder.ensures (sym c.comes.ensures ∙ c.if-not-comes.true) c.loop.invariant.0 in
    rw c.in_ok-push.ensures.items last

pub loop-preserved : goal.loop-preserved
loop-preserved c =
    let next = goes_on (spells (codes ",")) binder_at c.loop.binders.items
    (length c.args.tokens.now) c.loop.counter c.loop.rest.now _ c.in_ok-binder.binder c.in_ok-binder.remaining.now
    c.loop-test.true c.in_ok-binder.ensures (sym c.comes.ensures ∙ c.if-not-comes.false) c.loop.invariant.0 in
    (rw (c.in_ok-push.ensures.items, c.behind-rest.ensures) next, refl)

pub returns : goal.returns
returns c =
    runs_out (spells (codes ",")) binder_at c.loop.binders.items
    (length c.args.tokens.now) c.loop.counter c.loop.rest.now _ c.loop-test.false c.loop.invariant.0
