use Rattle.std.proofs.Common.{◌∙◌, refl, sym, length}
use Rattle.std.proofs.lemmas.Result.{err_from_is_err_and}
use Rattle.fst_type_syntax.specs.TypeReading.{starts_type_atom, atom_with, seq_at, type_at}
use Rattle.fst_module_grammar.specs.DeclReading.{fields_at}
use Rattle.fst_reading.proofs.ManyLoops.{begins_empty, goes_on, stops, runs_out, fails}
use Rattle.fst_module_grammar.proofs.families.fields.Goals as goal

pub loop-init : goal.loop-init
loop-init c =
    let atom = atom_with (seq_at c.args.left) (type_at c.args.left) in
    (rw c.new-fields.ensures.items (begins_empty starts_type_atom atom (length c.args.tokens.now) c.args.tokens.now), refl)

pub returns-then-not-comes_type : goal.returns-then-not-comes_type
unfolding fields_at
returns-then-not-comes_type c =
    let atom = atom_with (seq_at c.args.left) (type_at c.args.left) in
    stops starts_type_atom atom c.loop.fields.items (length c.args.tokens.now) c.loop.counter c.loop.rest.now _
    (sym c.comes_type.ensures ∙ c.if-not-comes_type.true) c.loop.invariant.0

pub returns-in_err-field : goal.returns-in_err-field
unfolding fields_at
returns-in_err-field c =
    let atom = atom_with (seq_at c.args.left) (type_at c.args.left) in
    let p = err_from_is_err_and c.from_residual.result c.from_residual.ensures.1 in
    rw (p.1, p.2) (fails starts_type_atom atom c.loop.fields.items (length c.args.tokens.now) c.loop.counter c.loop.rest.now _ _
    c.loop-test.true (sym c.comes_type.ensures ∙ c.if-not-comes_type.false) c.in_err-field.ensures c.loop.invariant.0)

pub loop-preserved : goal.loop-preserved
loop-preserved c =
    let atom = atom_with (seq_at c.args.left) (type_at c.args.left) in
    let next = goes_on starts_type_atom atom c.loop.fields.items
    (length c.args.tokens.now) c.loop.counter c.loop.rest.now _ c.in_ok-field.field c.in_ok-field.remaining.now
    c.loop-test.true (sym c.comes_type.ensures ∙ c.if-not-comes_type.false) c.in_ok-field.ensures c.loop.invariant.0 in
    (rw (c.in_ok-push.ensures.items, c.identity-rest.ensures) next, refl)

pub returns : goal.returns
unfolding fields_at
returns c =
    let atom = atom_with (seq_at c.args.left) (type_at c.args.left) in
    runs_out starts_type_atom atom c.loop.fields.items
    (length c.args.tokens.now) c.loop.counter c.loop.rest.now _ c.loop-test.false c.loop.invariant.0
