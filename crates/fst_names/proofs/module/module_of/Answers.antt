use Rattle.std.proofs.Common.{subst}
use Rattle.fst_declarations.specs.Declarations.{known_in}
use Rattle.fst_names.specs.Parts.{AreParts}
use Rattle.fst_names.proofs.ModuleLaws.{built, is_resolved}
use Rattle.fst_names.proofs.WholeLaws.{whole, few}
use Rattle.fst_names.proofs.module.module_of.Goals as goal

pub invariant_of-result : goal.invariant_of-result
invariant_of-result g c =
    let d = c.args.declarations.now in
    let known = known_in d in
    let p = c.in_ok-list.field-0 in
    let new = c.add_globals.new.list in
    let entries = c.in_ok-globals.globals.items in
    let parts = subst (λ z. AreParts z known z p) c.requires.0 c.in_ok-list.ensures in
    let is = built g.ds d p entries new c.requires.1.0 parts c.in_ok-globals.ensures.globals c.in_ok-globals.ensures.list in
    record {
      whole = whole g.ds known p.families.items entries new.types.items new.places.items is;
      few = few g.ds known p.families.items entries new.types.items new.places.items is c.requires.1.1;
    }

pub returns : goal.returns
returns g c =
    let d = c.args.declarations.now in
    let p = c.in_ok-list.field-0 in
    let parts = subst (λ z. AreParts z (known_in d) z p) c.requires.0 c.in_ok-list.ensures in
    is_resolved g.ds (known_in d) _ (built g.ds d p c.in_ok-globals.globals.items c.add_globals.new.list c.requires.1.0 parts
    c.in_ok-globals.ensures.globals c.in_ok-globals.ensures.list)
