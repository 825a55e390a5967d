use Rattle.std.proofs.Common.{◌<◌, ◌∙◌, refl, sym, ap, length, map, codes, arith}
use Rattle.std.proofs.lemmas.Result.{err_from_is_err_and}
use Rattle.std.proofs.lemmas.List.{map-append}
use Rattle.fst_reading.specs.Lexeme.{spells}
use Rattle.fst_reading.proofs.Loops.{begins_empty, goes_on, stops, runs_out, fails}
use Rattle.fst_module_grammar.specs.TermReading.{expr_at, arm_by}
use Rattle.fst_module_grammar.specs.Levels.{operator_of, operand_with, arm_parts}
use Rattle.fst_syntax.proofs.Chains.{chain_stops, chain_shut, chain_goes_on, chain_fails}
use Rattle.fst_syntax.proofs.Applying.{applications_stop, applications_shut, applications_go_on, applications_fail, arguments_stop, arguments_shut, arguments_go_on, arguments_fail}
use Rattle.fst_syntax.proofs.+reader.Goals as goal

pub terms::arms-loop-init : goal.terms::arms-loop-init
terms::arms-loop-init t c = (
  rw c.new-arms.ensures.items
      (begins_empty (spells (codes ",")) (arm_by (expr_at c.args.left) c.args.kind) (length c.args.tokens.now) c.args.tokens.now),
  refl,
)

pub terms::arms-returns-in_err-arm : goal.terms::arms-returns-in_err-arm
terms::arms-returns-in_err-arm t c =
    let arm = arm_by (expr_at c.args.left) c.args.kind in
    let p = err_from_is_err_and c.from_residual.result c.from_residual.ensures.1 in
    rw (p.1, p.2) (fails (spells (codes ",")) arm (map arm_parts c.loop.arms.items)
    (length c.args.tokens.now) c.loop.counter c.loop.rest.now _ _ c.loop-test.true c.in_err-arm.ensures c.loop.invariant.0)

pub terms::arms-returns-then-not-comes : goal.terms::arms-returns-then-not-comes
terms::arms-returns-then-not-comes t c =
    let arm = arm_by (expr_at c.args.left) c.args.kind in
    let last = stops (spells (codes ",")) arm (map arm_parts c.loop.arms.items)
    (length c.args.tokens.now) c.loop.counter c.loop.rest.now _ (arm_parts c.in_ok-arm.arm) c.in_ok-arm.remaining.now
    c.loop-test.true c.in_ok-arm.ensures (sym c.comes.ensures ∙ c.if-not-comes.true) c.loop.invariant.0 in
    let items = ap (map arm_parts) c.in_ok-push.ensures.items ∙ map-append arm_parts c.loop.arms.items _ in
    rw items last

pub terms::arms-loop-preserved : goal.terms::arms-loop-preserved
terms::arms-loop-preserved t c =
    let arm = arm_by (expr_at c.args.left) c.args.kind in
    let next = goes_on (spells (codes ",")) arm (map arm_parts c.loop.arms.items)
    (length c.args.tokens.now) c.loop.counter c.loop.rest.now _ (arm_parts c.in_ok-arm.arm) c.in_ok-arm.remaining.now
    c.loop-test.true c.in_ok-arm.ensures (sym c.comes.ensures ∙ c.if-not-comes.false) c.loop.invariant.0 in
    let items = ap (map arm_parts) c.in_ok-push.ensures.items ∙ map-append arm_parts c.loop.arms.items _ in
    (rw (items, c.behind-rest.ensures) next, refl)

pub terms::arms-returns : goal.terms::arms-returns
terms::arms-returns t c =
    let arm = arm_by (expr_at c.args.left) c.args.kind in
    runs_out (spells (codes ",")) arm (map arm_parts c.loop.arms.items)
    (length c.args.tokens.now) c.loop.counter c.loop.rest.now _ c.loop-test.false c.loop.invariant.0

pub atoms::applications-returns-then-not-begins_atom : goal.atoms::applications-returns-then-not-begins_atom
atoms::applications-returns-then-not-begins_atom t c =
    applications_stop c.args.at c.args.term.now c.args.tokens.now _ (sym c.begins_atom.ensures ∙ c.if-not-begins_atom.true)

pub atoms::applications-returns-then-left-eq0 : goal.atoms::applications-returns-then-left-eq0
atoms::applications-returns-then-left-eq0 t c =
    rw c.if-left-eq0.true (applications_shut c.args.at c.args.term.now c.args.tokens.now
    (sym c.begins_atom.ensures ∙ c.if-not-begins_atom.false))

pub atoms::applications-returns-in_err-argument : goal.atoms::applications-returns-in_err-argument
atoms::applications-returns-in_err-argument t c =
    let p = err_from_is_err_and c.from_residual.result c.from_residual.ensures.1 in
    let lt : 0 < c.args.left = omega arith in
    rw (p.1, p.2) (applications_fail c.args.at c.args.term.now c.args.tokens.now c.args.left _ lt
    (sym c.begins_atom.ensures ∙ c.if-not-begins_atom.false) c.in_err-argument.ensures)

pub atoms::applications-returns : goal.atoms::applications-returns
atoms::applications-returns t c =
    let lt : 0 < c.args.left = omega arith in
    let step = applications_go_on c.args.at c.args.term.now c.args.tokens.now c.args.left c.in_ok-argument.argument
    c.in_ok-argument.rest.now lt (sym c.begins_atom.ensures ∙ c.if-not-begins_atom.false) c.in_ok-argument.ensures in
    rw (step, ← c.in_ok-apply.ensures) c.applications.ensures

pub atoms::arguments-returns-then-not-begins_atom : goal.atoms::arguments-returns-then-not-begins_atom
atoms::arguments-returns-then-not-begins_atom t c =
    arguments_stop c.args.items.now.items c.args.tokens.now _ (sym c.begins_atom.ensures ∙ c.if-not-begins_atom.true)

pub atoms::arguments-returns-then-left-eq0 : goal.atoms::arguments-returns-then-left-eq0
atoms::arguments-returns-then-left-eq0 t c =
    rw c.if-left-eq0.true (arguments_shut c.args.items.now.items c.args.tokens.now
    (sym c.begins_atom.ensures ∙ c.if-not-begins_atom.false))

pub atoms::arguments-returns-in_err-item : goal.atoms::arguments-returns-in_err-item
atoms::arguments-returns-in_err-item t c =
    let p = err_from_is_err_and c.from_residual.result c.from_residual.ensures.1 in
    let lt : 0 < c.args.left = omega arith in
    rw (p.1, p.2) (arguments_fail c.args.items.now.items c.args.tokens.now c.args.left _ lt
    (sym c.begins_atom.ensures ∙ c.if-not-begins_atom.false) c.in_err-item.ensures)

pub atoms::arguments-returns : goal.atoms::arguments-returns
atoms::arguments-returns t c =
    let lt : 0 < c.args.left = omega arith in
    let step = arguments_go_on c.args.items.now.items c.args.tokens.now c.args.left c.in_ok-item.item c.in_ok-item.rest.now lt
    (sym c.begins_atom.ensures ∙ c.if-not-begins_atom.false) c.in_ok-item.ensures in
    rw (step, ← c.in_ok-push.ensures.items) c.arguments.ensures

pub operands::more-returns-in-None : goal.operands::more-returns-in-None
operands::more-returns-in-None t c =
    chain_stops (operator_of c.args.level) (operand_with c.args.level) c.args.at c.args.term.now c.args.tokens.now _
    c.in-None.ensures

pub operands::more-returns-then-left-eq0 : goal.operands::more-returns-then-left-eq0
operands::more-returns-then-left-eq0 t c =
    let sign = c.in-Some.ensures in
    rw c.if-left-eq0.true (chain_shut (operator_of c.args.level)
    (operand_with c.args.level) c.args.at c.args.term.now c.args.tokens.now sign.0 c.in-Some.op c.in-Some.behind.now sign.1
    sign.2)

pub operands::more-returns-in_err-second-in-Some : goal.operands::more-returns-in_err-second-in-Some
operands::more-returns-in_err-second-in-Some t c =
    let sign = c.in-Some.ensures in
    let p = err_from_is_err_and c.from_residual.result c.from_residual.ensures.1 in
    let lt : 0 < c.args.left = omega arith in
    rw (p.1, p.2) (chain_fails (operator_of c.args.level)
    (operand_with c.args.level) c.args.at c.args.term.now c.args.tokens.now sign.0 c.in-Some.op c.in-Some.behind.now sign.1
    sign.2
    c.args.left _ lt c.in_err-second-in-Some.ensures)

pub operands::more-returns-in_ok-operate-in-Some : goal.operands::more-returns-in_ok-operate-in-Some
operands::more-returns-in_ok-operate-in-Some t c =
    let sign = c.in-Some.ensures in
    let lt : 0 < c.args.left = omega arith in
    let step = chain_goes_on (operator_of c.args.level)
    (operand_with c.args.level) c.args.at c.args.term.now c.args.tokens.now sign.0 c.in-Some.op c.in-Some.behind.now sign.1
    sign.2
    c.args.left c.in_ok-second-in-Some.second c.in_ok-second-in-Some.rest.now lt c.in_ok-second-in-Some.ensures in
    rw (step, ← c.in_ok-operate-in-Some.ensures) c.more.ensures
