use Rattle.std.proofs.Common.{◌∙◌, ◌∷◌, []}
use Rattle.fst_parts.proofs.KeyLaws.{put_fork, put_keeps}
use Rattle.fst_parts.proofs.CountLaws.{fork_known}
use Rattle.fst_parts.proofs.numbers.number_fork.Goals as goal

pub put-requires : goal.put-requires
put-requires c =
    fork_known _ _ c.args.form c.args.first c.args.second _ _ _ c.requires.few
    (c.in_ok-key.ensures.items ∙ λ i. c.mark.ensures i ∷ c.args.first ∷ c.args.second ∷ c.number.ensures i ∷ [])
    c.counts.ensures c.counts-2.ensures c.of_fork-counts.ensures

pub returns-clause-stands : goal.returns-clause-stands
returns-clause-stands c = put_fork _ _ _ c.args.form c.args.first c.args.second c.in_ok-at.at
    (c.in_ok-key.ensures.items ∙ λ i. c.mark.ensures i ∷ c.args.first ∷ c.args.second ∷ c.number.ensures i ∷ [])
    c.in_ok-at.ensures.keys c.in_ok-at.ensures.place

pub returns-clause-kept : goal.returns-clause-kept
returns-clause-kept c = put_keeps _ _ _ c.in_ok-at.ensures.keys
