use Rattle.std.proofs.Common.{◌∙◌, ◌∷◌, []}
use Rattle.fst_parts.proofs.KeyLaws.{put_leaf, put_keeps}
use Rattle.fst_parts.proofs.CountLaws.{leaf_known}
use Rattle.fst_parts.proofs.numbers.number_leaf.Goals as goal

pub put-requires : goal.put-requires
put-requires c = leaf_known _ _ c.args.form c.args.holds _
    (c.in_ok-key.ensures.items ∙ λ i. c.mark.ensures i ∷ c.number.ensures i ∷ c.args.holds ∷ []) c.of_leaf-counts.ensures

pub returns-clause-stands : goal.returns-clause-stands
returns-clause-stands c = put_leaf _ _ _ c.args.form c.args.holds c.in_ok-at.at
    (c.in_ok-key.ensures.items ∙ λ i. c.mark.ensures i ∷ c.number.ensures i ∷ c.args.holds ∷ []) c.in_ok-at.ensures.keys
    c.in_ok-at.ensures.place

pub returns-clause-kept : goal.returns-clause-kept
returns-clause-kept c = put_keeps _ _ _ c.in_ok-at.ensures.keys
