use Rattle.std.proofs.Common.{◌∙◌, refl, sym, length}
use Rattle.std.proofs.lemmas.Result.{err_from_is_err_and}
use Rattle.fst_reading.specs.Reading.{one, map_reader}
use Rattle.fst_reading.specs.Lexeme.{lower_of}
use Rattle.fst_module_grammar.specs.Grammar.{bound}
use Rattle.fst_module_grammar.specs.TermReading.{is_lower, names}
use Rattle.fst_reading.proofs.ManyLoops.{begins_empty, goes_on, stops, runs_out, fails}
use Rattle.fst_module_grammar.proofs.names.names.Goals as goal

pub loop-init : goal.loop-init
loop-init c = (
  rw c.new-names.ensures.items (begins_empty is_lower (map_reader bound (one lower_of))
      (length c.args.tokens.now) c.args.tokens.now),
  refl,
)

pub returns-then-not-comes_lower : goal.returns-then-not-comes_lower
unfolding names
returns-then-not-comes_lower c =
    stops is_lower (map_reader bound (one lower_of)) c.loop.names.items
    (length c.args.tokens.now) c.loop.counter c.loop.rest.now _
    (sym c.comes_lower.ensures ∙ c.if-not-comes_lower.true) c.loop.invariant.0

pub returns-in_err-name : goal.returns-in_err-name
unfolding names
returns-in_err-name c =
    let p = err_from_is_err_and c.from_residual.result c.from_residual.ensures.1 in
    rw (p.1, p.2) (fails is_lower (map_reader bound (one lower_of)) c.loop.names.items
    (length c.args.tokens.now) c.loop.counter c.loop.rest.now _ _
    c.loop-test.true (sym c.comes_lower.ensures ∙ c.if-not-comes_lower.false) c.in_err-name.ensures c.loop.invariant.0)

pub loop-preserved : goal.loop-preserved
loop-preserved c =
    let next = goes_on is_lower (map_reader bound (one lower_of)) c.loop.names.items
    (length c.args.tokens.now) c.loop.counter c.loop.rest.now _ c.in_ok-name.name c.in_ok-name.remaining.now
    c.loop-test.true (sym c.comes_lower.ensures ∙ c.if-not-comes_lower.false) c.in_ok-name.ensures c.loop.invariant.0 in
    (rw (c.in_ok-push.ensures.items, c.identity-rest.ensures) next, refl)

pub returns : goal.returns
unfolding names
returns c =
    runs_out is_lower (map_reader bound (one lower_of)) c.loop.names.items
    (length c.args.tokens.now) c.loop.counter c.loop.rest.now _ c.loop-test.false c.loop.invariant.0
