use Rattle.std.proofs.Common.{◌∙◌, ◌++◌, ◌∷◌, [], arith}
use Rattle.fst_value.proofs.Kept.{kept_is, kept_tree}
use Rattle.fst_value.proofs.Joining.{parts_from, turned_kept}
use Rattle.fst_value.proofs.join.join_turned.Goals as goal

pub rotate_left-requires : goal.rotate_left-requires
rotate_left-requires c =
    let p = parts_from c.args.values.now.items c.deref-2.result.now c.pop.new.self.items c.in-Some.last c.args.at c.args.count
    c.in-Ok.body.items c.in_ok-behind.behind c.deref-2.ensures.value c.in_ok-behind.ensures c.in-Some.ensures.items
    c.requires.some c.in-Ok.ensures.nodes in
    omega (arith, p.within, c.in-Ok.body.ok)

pub invariant_of-push_reserved : goal.invariant_of-push_reserved
invariant_of-push_reserved c =
    let p = parts_from c.args.values.now.items c.deref-2.result.now c.pop.new.self.items c.in-Some.last c.args.at c.args.count
    c.in-Ok.body.items c.in_ok-behind.behind c.deref-2.ensures.value c.in_ok-behind.ensures c.in-Some.ensures.items
    c.requires.some c.in-Ok.ensures.nodes in
    kept_is c.args.root c.rotate_left.new.self.items _
    (turned_kept c.args.root _ _ _ _ _ _ _ p c.rotate_left.ensures.items c.requires.root)

pub returns-in-Ok-clause-joined : goal.returns-in-Ok-clause-joined
returns-in-Ok-clause-joined c =
    let p = parts_from c.args.values.now.items c.deref-2.result.now c.pop.new.self.items c.in-Some.last c.args.at c.args.count
    c.in-Ok.body.items c.in_ok-behind.behind c.deref-2.ensures.value c.in_ok-behind.ensures c.in-Some.ensures.items
    c.requires.some c.in-Ok.ensures.nodes in
    let t = kept_tree c.args.root c.rotate_left.new.self.items _
    (turned_kept c.args.root _ _ _ _ _ _ _ p c.rotate_left.ensures.items c.requires.root) in
    let below = c.in-Ok.ensures.values ∙ p.below in
    c.push_reserved-in-Ok.ensures.items ∙ (λ i. below i ++ t i ∷ [])
