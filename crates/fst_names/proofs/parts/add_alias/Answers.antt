use Rattle.std.proofs.Common.{refl}
use Rattle.fst_terms.specs.ModuleTree.{alias}
use Rattle.fst_declarations.specs.Declarations.{known_in}
use Rattle.fst_names.proofs.FaultlessLaws.{alias_type_sound}
use Rattle.fst_names.proofs.PartLaws.{alias_added, parts_added}
use Rattle.fst_names.proofs.parts.add_alias.Goals as goal

pub add_type-requires : goal.add_type-requires
add_type-requires g c =
    let sound = alias_type_sound g.ds (known_in c.args.declarations.now) c.args.binder.now c.args.w.now c.requires.1.1 in
    (c.requires.0, (c.requires.1.0, rw c.args.declarations.now.none sound))

pub returns : goal.returns
returns g c = λ es are.
    let known = known_in c.args.declarations.now in
    parts_added g.ds known es (alias c.args.binder.now c.args.w.now) c.args.parts.now _ are
    (alias_added g.ds known c.args.binder.now c.args.w.now _ c.args.parts.now _ c.args.declarations.now.none
    c.in_ok-add_type.ensures refl refl refl)
