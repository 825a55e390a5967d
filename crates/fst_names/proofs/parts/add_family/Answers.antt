use Rattle.std.proofs.Common.{map, refl}
use Rattle.fst_terms.specs.ModuleTree.{family, maker}
use Rattle.fst_declarations.specs.Declarations.{known_in}
use Rattle.fst_names.proofs.PartLaws.{family_added, parts_added}
use Rattle.fst_names.proofs.parts.add_family.Goals as goal

pub returns : goal.returns
returns g c = λ es are.
    let known = known_in c.args.declarations.now in
    parts_added g.ds known es (family c.args.binder.now (map maker c.args.makers.now)) c.args.parts.now _ are
    (family_added g.ds known c.args.binder.now (map maker c.args.makers.now)
    (record { name = c.in_ok-name.name; makers = c.in_ok-makers.makers }) c.args.parts.now _ c.in_ok-makers.ensures.types
    c.in_ok-name.ensures
    c.in_ok-makers.ensures.makers c.in_ok-push.ensures.items refl refl)
