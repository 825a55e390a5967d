use Rattle.std.proofs.Common.{◌∙◌, [], ◌∷◌, ◌++◌, ap, sym}
use Rattle.fst_terms.specs.Naming.{type_of}
use Rattle.fst_names.proofs.FaultlessTrees.{all_stand, low_type, same_scope, trees_long}
use Rattle.fst_names.proofs.PartLaws.{one_longer}
use Rattle.fst_names.proofs.parts.add_type.Goals as goal

pub named-requires-clause-depth : goal.named-requires-clause-depth
named-requires-clause-depth g c = low_type g.ds c.args.declarations.now c.requires.0 c.args.vars.now c.args.w.now c.requires.1.1

pub named-requires-clause-trees : goal.named-requires-clause-trees
named-requires-clause-trees g c = rw c.requires.1.0 (trees_long g.ds c.args.declarations.now c.requires.0)

pub named-requires-clause-known : goal.named-requires-clause-known
named-requires-clause-known g c = rw c.requires.1.0
    (all_stand g.ds c.args.declarations.now c.requires.0 c.args.vars.now c.args.w.now)

pub returns : goal.returns
returns g c =
    one_longer _ _ _ c.in_ok-named.field-0 (ap (λ s. type_of s c.args.w.now)
    (sym (same_scope g.ds c.args.declarations.now c.requires.0 c.args.vars.now)) ∙ rw c.requires.1.0 at c.in_ok-named.ensures)
    c.in_ok-push.ensures.items (c.in_ok-push-2.ensures.items ∙ ap (λ n. c.args.list.now.places.items ++ n ∷ []) c.place.ensures)
