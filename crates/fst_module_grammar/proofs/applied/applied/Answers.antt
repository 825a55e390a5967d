use Rattle.std.proofs.Common.{◌∙◌, ◌∷◌, refl, sym, length, codes}
use Rattle.std.proofs.lemmas.Result.{err_from_is_err_and}
use Rattle.fst_reading.specs.Lexeme.{spells}
use Rattle.fst_reading.specs.Reading.{andthen, word}
use Rattle.fst_module_grammar.specs.TermReading.{inside, expr_at, type_atom_with, applied_with}
use Rattle.fst_reading.proofs.ManyLoops.{begins_empty, goes_on, stops, runs_out, fails}
use Rattle.fst_module_grammar.proofs.applied.applied.Goals as goal

pub loop-init : goal.loop-init
loop-init c = (
  rw c.new-arguments.ensures.items
      (begins_empty (spells (codes "@")) (andthen (word (codes "@"))
      (λ k. type_atom_with (expr_at c.args.left ∷ inside c.args.left))) (length c.args.tokens.now) c.args.tokens.now),
  refl,
)

pub returns-then-not-comes : goal.returns-then-not-comes
unfolding applied_with
returns-then-not-comes c =
    stops (spells (codes "@")) (andthen (word (codes "@")) (λ k. type_atom_with (expr_at c.args.left ∷ inside c.args.left)))
    c.loop.arguments.items (length c.args.tokens.now) c.loop.counter c.loop.rest.now _
    (sym c.comes.ensures ∙ c.if-not-comes.true) c.loop.invariant.0

pub returns-in_err-argument : goal.returns-in_err-argument
unfolding applied_with
returns-in_err-argument c =
    let p = err_from_is_err_and c.from_residual.result c.from_residual.ensures.1 in
    rw (p.1, p.2) (fails (spells (codes "@")) (andthen (word (codes "@"))
    (λ k. type_atom_with (expr_at c.args.left ∷ inside c.args.left))) c.loop.arguments.items
    (length c.args.tokens.now) c.loop.counter c.loop.rest.now _ _
    c.loop-test.true (sym c.comes.ensures ∙ c.if-not-comes.false) c.in_err-argument.ensures c.loop.invariant.0)

pub loop-preserved : goal.loop-preserved
loop-preserved c =
    let next = goes_on (spells (codes "@")) (andthen (word (codes "@"))
    (λ k. type_atom_with (expr_at c.args.left ∷ inside c.args.left))) c.loop.arguments.items
    (length c.args.tokens.now) c.loop.counter c.loop.rest.now _ c.in_ok-argument.argument c.in_ok-argument.remaining.now
    c.loop-test.true (sym c.comes.ensures ∙ c.if-not-comes.false) c.in_ok-argument.ensures c.loop.invariant.0 in
    (rw (c.in_ok-push.ensures.items, c.identity-rest.ensures) next, refl)

pub returns : goal.returns
unfolding applied_with
returns c =
    runs_out (spells (codes "@")) (andthen (word (codes "@")) (λ k. type_atom_with (expr_at c.args.left ∷ inside c.args.left)))
    c.loop.arguments.items (length c.args.tokens.now) c.loop.counter c.loop.rest.now _ c.loop-test.false c.loop.invariant.0
