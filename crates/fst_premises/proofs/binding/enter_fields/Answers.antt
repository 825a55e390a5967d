use Rattle.std.proofs.Common.{◌≡◌, ◌∙◌, ◌<◌, arith, get_or, length, subst, sym}
use Rattle.std.proofs.lemmas.Option.{same_Some, slice_get_within}
use Rattle.std.proofs.lemmas.Result.{err_from_is_err_and}
use Rattle.fst_derivations.specs.Parts.{IsFormed}
use Rattle.fst_premises.specs.Scenes.{check_in}
use Rattle.fst_premises.proofs.Entering.{EnteredSoFar, entered_end, entered_large, entered_start, entered_step, formed_at}
use Rattle.fst_premises.proofs.binding.enter_fields.Goals as goal

pub loop-i-init : goal.loop-i-init
loop-i-init c = entered_start (check_in c.args.scene) c.args.binders.now c.args.fields.now c.args.context.now

pub type_at-t-requires : goal.type_at-t-requires
type_at-t-requires c =
    let few : c.loop-i.i < length c.args.fields.now = omega (arith, c.requires.long, c.loop-i-test.true) in
    let formed = formed_at c.args.scene.vars.now c.args.scene.module.now.types.items c.args.fields.now c.requires.there.0
    c.loop-i.i 0 c.requires.there.1 c.requires.there.2 few in
    slice_get_within c.args.scene.module.now.types.items (get_or c.args.fields.now c.loop-i.i 0) formed.0 formed.1

pub enter-requires : goal.enter-requires
enter-requires c =
    let few : c.loop-i.i < length c.args.fields.now = omega (arith, c.requires.long, c.loop-i-test.true) in
    let formed = formed_at c.args.scene.vars.now c.args.scene.module.now.types.items c.args.fields.now c.requires.there.0
    c.loop-i.i 0 c.requires.there.1 c.requires.there.2 few in
    let same = same_Some formed.0 c.type_at-t.result.now (sym formed.1 ∙ c.type_at-t.ensures) in
    subst (IsFormed c.args.scene.vars.now) (same ∙ sym c.in_ok-copied.ensures) formed.2

pub loop-i-preserved : goal.loop-i-preserved
loop-i-preserved c =
    let few : c.loop-i.i < length c.args.fields.now = omega (arith, c.requires.long, c.loop-i-test.true) in
    let e = c.in_ok-enter.ensures in
    entered_step (check_in c.args.scene) c.args.binders.now c.args.fields.now c.loop-i.i c.index-binders-i.result
    c.type_at-t.result.now c.in_ok-copied.copied e.0 c.args.context.now c.loop-i.context c.enter.new.context
    c.loop-i.invariant c.loop-i-test.true few (sym c.index-binders-i.is) c.type_at-t.ensures c.in_ok-fits.ensures.fits
    c.in_ok-copied.ensures e.1 e.2

pub returns-in_err-fits-clause-refused : goal.returns-in_err-fits-clause-refused
returns-in_err-fits-clause-refused c =
    let few : c.loop-i.i < length c.args.fields.now = omega (arith, c.requires.long, c.loop-i-test.true) in
    let p = err_from_is_err_and c.from_residual.result c.from_residual.ensures.1 in
    rw (p.1, p.2) (λ ts at m. entered_large (check_in c.args.scene) c.args.binders.now c.args.fields.now c.loop-i.i
    c.index-binders-i.result c.type_at-t.result.now c.args.context.now c.loop-i.context ts c.in_err-fits.field-0.0
    c.loop-i.invariant c.loop-i-test.true few (sym c.index-binders-i.is) c.type_at-t.ensures at c.in_err-fits.ensures.refused)

pub returns-clause-entered : goal.returns-clause-entered
returns-clause-entered c =
    let done : c.loop-i.i ≡ length c.args.binders.now = omega (arith, c.loop-i-test.false, c.loop-i.auto.i-end) in
    λ ts at. entered_end (check_in c.args.scene) c.args.binders.now c.args.fields.now c.args.context.now c.loop-i.context
    (subst (λ n. EnteredSoFar (check_in c.args.scene) c.args.binders.now c.args.fields.now n c.args.context.now c.loop-i.context)
    done c.loop-i.invariant) c.requires.long ts at
