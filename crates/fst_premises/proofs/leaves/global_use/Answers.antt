use Rattle.std.proofs.Common.{◌≡◌, ◌∙◌, ap, arith, inl, inr, length, refl, subst, sym}
use Rattle.std.proofs.lemmas.Option.{slice_get_read, slice_get_within}
use Rattle.std.proofs.lemmas.Result.{err_from_is_err_and}
use Rattle.fst_types.specs.Instance.{instantiated}
use Rattle.fst_types.specs.Size.{HasTooManyNodes}
use Rattle.fst_kinds.specs.WellFormed.{IsInstantiation}
use Rattle.fst_premises.specs.Checks.{IsInSize}
use Rattle.fst_premises.specs.Scenes.{check_in}
use Rattle.fst_premises.specs.Shown.{ShowsArguments}
use Rattle.fst_premises.specs.declared.fault.CheckFault.TheVariants.{TypeArguments}
use Rattle.fst_premises.proofs.GlobalUses.{global_typed}
use Rattle.fst_premises.proofs.leaves.global_use.Goals as goal

pub returns-then-ks-wanted-clause-refused : goal.returns-then-ks-wanted-clause-refused
returns-then-ks-wanted-clause-refused c =
    let there = slice_get_read c.args.scene.module.now.globals.items
    (length c.args.scene.module.now.globals.items) c.args.k c.index-entry.result.now refl c.requires.ready.range.0
    c.index-entry.ensures in
    let same : c.len-wanted.result ≡ length c.index-entry.result.now.kinds.items =
    omega (arith, c.len-wanted.ensures, c.index-entry.result.now.kinds.ok.0) in
    λ m. (
      c.index-entry.result.now,
      there,
      inl (
        λ e. c.if-ks-wanted.true (e ∙ sym same),
        ap (TypeArguments c.args.at (length c.args.ks.now)) same,
      ),
    )

pub returns-in_err-args-clause-refused : goal.returns-in_err-args-clause-refused
returns-in_err-args-clause-refused c =
    let there = slice_get_read c.args.scene.module.now.globals.items
    (length c.args.scene.module.now.globals.items) c.args.k c.index-entry.result.now refl c.requires.ready.range.0
    c.index-entry.ensures in
    let same : c.len-wanted.result ≡ length c.index-entry.result.now.kinds.items =
    omega (arith, c.len-wanted.ensures, c.index-entry.result.now.kinds.ok.0) in
    let p = err_from_is_err_and c.from_residual.result c.from_residual.ensures.1 in
    rw (p.1, p.2) (λ m. (
      c.index-entry.result.now,
      there,
      inr (inl (
        c.if-ks-wanted.false ∙ same,
        subst
            (λ xs. ShowsArguments (check_in c.args.scene) c.args.ks.now xs c.in_err-args.field-0.0) c.deref.ensures.value
            (c.in_err-args.ensures.refused m),
      )),
    ))

pub type_at-signature-requires : goal.type_at-signature-requires
type_at-signature-requires c =
    let there = slice_get_read c.args.scene.module.now.globals.items
    (length c.args.scene.module.now.globals.items) c.args.k c.index-entry.result.now refl c.requires.ready.range.0
    c.index-entry.ensures in
    let formed = c.requires.set_up.signatures c.args.k c.index-entry.result.now there in
    slice_get_within c.args.scene.module.now.types.items c.index-entry.result.now.signature formed.0 formed.1

pub returns-then-instance_size-gt-MOST_NODES-clause-refused : goal.returns-then-instance_size-gt-MOST_NODES-clause-refused
returns-then-instance_size-gt-MOST_NODES-clause-refused c =
    let there = slice_get_read c.args.scene.module.now.globals.items
    (length c.args.scene.module.now.globals.items) c.args.k c.index-entry.result.now refl c.requires.ready.range.0
    c.index-entry.ensures in
    let large : HasTooManyNodes (instantiated c.deref-2.result.now c.type_at-signature.result.now) =
    omega (arith, c.if-instance_size-gt-MOST_NODES.true, c.instance_size.ensures) in
    λ m. (
      c.index-entry.result.now,
      there,
      inr (inr (
        c.type_at-signature.result.now,
        c.in_ok-args.args.items,
        c.type_at-signature.ensures,
        c.in_ok-args.ensures.there,
        subst (λ xs. IsInstantiation c.args.scene.vars.now xs c.in_ok-args.args.items) c.deref.ensures.value
            c.in_ok-args.ensures.below,
        record {
          large = subst (λ xs. HasTooManyNodes (instantiated xs c.type_at-signature.result.now)) c.deref-2.ensures.value
              large;
          is = refl;
        },
      )),
    )

pub returns-clause-typed : goal.returns-clause-typed
returns-clause-typed c =
    let within : IsInSize (instantiated c.deref-2.result.now c.type_at-signature.result.now) =
    omega (arith, c.if-instance_size-gt-MOST_NODES.false, c.instance_size.ensures) in
    let same : c.deref-2.result.now ≡ c.deref-3.result.now = c.deref-2.ensures.value ∙ sym c.deref-3.ensures.value in
    let small : IsInSize c.in_ok-instantiate.field-0 =
    subst IsInSize (ap (λ xs. instantiated xs c.type_at-signature.result.now) same ∙ sym c.in_ok-instantiate.ensures)
    within in
    let there = slice_get_read c.args.scene.module.now.globals.items
    (length c.args.scene.module.now.globals.items) c.args.k c.index-entry.result.now refl c.requires.ready.range.0
    c.index-entry.ensures in
    global_typed (check_in c.args.scene) c.args.at c.args.k c.args.ks.now c.args.context.now _ c.index-entry.result.now
    c.type_at-signature.result.now c.in_ok-instantiate.field-0 c.in_ok-args.args.items c.instances_keep_kinds.ensures
    there (c.requires.set_up.signatures c.args.k c.index-entry.result.now there) c.type_at-signature.ensures
    c.in_ok-args.ensures.there (subst (λ xs. IsInstantiation c.args.scene.vars.now xs c.in_ok-args.args.items)
    c.deref.ensures.value c.in_ok-args.ensures.below)
    (c.in_ok-instantiate.ensures ∙ ap (λ xs. instantiated xs c.type_at-signature.result.now) c.deref-3.ensures.value) small
    c.leaf.ensures
