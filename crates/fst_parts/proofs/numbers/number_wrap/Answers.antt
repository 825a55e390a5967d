use Rattle.std.proofs.Common.{◌∙◌, ◌∷◌, []}
use Rattle.fst_parts.proofs.KeyLaws.{put_wrap, put_keeps}
use Rattle.fst_parts.proofs.CountLaws.{wrap_known}
use Rattle.fst_parts.proofs.numbers.number_wrap.Goals as goal

pub put-requires : goal.put-requires
put-requires c =
    wrap_known _ _ c.args.form c.args.part _ _ c.requires.few
    (c.in_ok-key.ensures.items ∙ λ i. c.mark.ensures i ∷ c.args.part ∷ c.number.ensures i ∷ []) c.counts.ensures
    c.of_wrap-counts.ensures

pub returns-clause-stands : goal.returns-clause-stands
returns-clause-stands c = put_wrap _ _ _ c.args.form c.args.part c.in_ok-at.at
    (c.in_ok-key.ensures.items ∙ λ i. c.mark.ensures i ∷ c.args.part ∷ c.number.ensures i ∷ []) c.in_ok-at.ensures.keys
    c.in_ok-at.ensures.place

pub returns-clause-kept : goal.returns-clause-kept
returns-clause-kept c = put_keeps _ _ _ c.in_ok-at.ensures.keys
