use Rattle.std.proofs.Common.{◌∙◌, refl}
use Rattle.fst_terms.specs.ModuleTree.{signature}
use Rattle.fst_declarations.specs.Declarations.{known_in}
use Rattle.fst_names.proofs.FaultlessLaws.{signature_sound}
use Rattle.fst_names.proofs.PartLaws.{parts_added, signature_added}
use Rattle.fst_names.proofs.parts.add_signature.Goals as goal

pub add_type-requires : goal.add_type-requires
add_type-requires g c =
    let sound = signature_sound g.ds (known_in c.args.declarations.now) c.args.binder.now c.args.variables.now c.args.w.now
    c.requires.1.1 in
    (c.requires.0, (c.requires.1.0, rw (c.in_ok-vars.ensures.own sound.once) sound.faultless))

pub returns : goal.returns
returns g c = λ es are.
    let known = known_in c.args.declarations.now in
    let sound = signature_sound g.ds known c.args.binder.now c.args.variables.now c.args.w.now c.requires.1.1 in
    parts_added g.ds known es (signature c.args.binder.now c.args.variables.now c.args.w.now) c.args.parts.now _ are
    (signature_added g.ds known c.args.binder.now c.args.variables.now c.args.w.now c.in_ok-vars.vars c.in_ok-number_of.field-0
    c.args.parts.now _ (c.in_ok-vars.ensures.own sound.once) c.in_ok-add_type.ensures
    (c.in_ok-number_of.ensures ∙ c.len.ensures ∙ c.args.parts.now.list.types.ok.0) refl c.in_ok-push.ensures.items refl)
