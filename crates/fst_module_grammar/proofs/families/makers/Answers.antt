use Rattle.std.proofs.Common.{◌∙◌, refl, sym, ap, length, map, codes}
use Rattle.std.proofs.lemmas.Result.{err_from_is_err_and}
use Rattle.std.proofs.lemmas.List.{map-append}
use Rattle.fst_terms.specs.ModuleTree.{maker}
use Rattle.fst_reading.specs.Lexeme.{spells}
use Rattle.fst_reading.proofs.Loops.{begins_empty, goes_on, stops, runs_out, fails}
use Rattle.fst_module_grammar.specs.DeclReading.{maker_at}
use Rattle.fst_module_grammar.proofs.families.makers.Goals as goal

pub loop-init : goal.loop-init
loop-init c = (
  rw c.new-makers.ensures.items (begins_empty (spells (codes "|")) (maker_at c.args.left)
      (length c.args.tokens.now) c.args.tokens.now),
  refl,
)

pub returns-in_err-maker : goal.returns-in_err-maker
returns-in_err-maker c =
    let p = err_from_is_err_and c.from_residual.result c.from_residual.ensures.1 in
    rw (p.1, p.2) (fails (spells (codes "|")) (maker_at c.args.left) (map maker c.loop.makers.items)
    (length c.args.tokens.now) c.loop.counter c.loop.rest.now _ _
    c.loop-test.true c.in_err-maker.ensures c.loop.invariant.0)

pub returns-then-not-comes : goal.returns-then-not-comes
returns-then-not-comes c =
    let last = stops (spells (codes "|")) (maker_at c.args.left) (map maker c.loop.makers.items)
    (length c.args.tokens.now) c.loop.counter c.loop.rest.now _
    (maker c.in_ok-maker.maker) c.in_ok-maker.remaining.now c.loop-test.true c.in_ok-maker.ensures
    (sym c.comes.ensures ∙ c.if-not-comes.true) c.loop.invariant.0 in
    let items = ap (map maker) c.in_ok-push.ensures.items ∙ map-append maker c.loop.makers.items _ in
    rw items last

pub loop-preserved : goal.loop-preserved
loop-preserved c =
    let next = goes_on (spells (codes "|")) (maker_at c.args.left) (map maker c.loop.makers.items)
    (length c.args.tokens.now) c.loop.counter c.loop.rest.now _
    (maker c.in_ok-maker.maker) c.in_ok-maker.remaining.now c.loop-test.true c.in_ok-maker.ensures
    (sym c.comes.ensures ∙ c.if-not-comes.false) c.loop.invariant.0 in
    let items = ap (map maker) c.in_ok-push.ensures.items ∙ map-append maker c.loop.makers.items _ in
    (rw (items, c.behind-rest.ensures) next, refl)

pub returns : goal.returns
returns c =
    runs_out (spells (codes "|")) (maker_at c.args.left) (map maker c.loop.makers.items)
    (length c.args.tokens.now) c.loop.counter c.loop.rest.now _ c.loop-test.false c.loop.invariant.0
