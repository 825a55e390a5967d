use Rattle.fst_parts.proofs.KeyLaws.{put_link, put_keeps}
use Rattle.fst_parts.proofs.CountLaws.{link_known}
use Rattle.fst_parts.proofs.numbers.number_link.Goals as goal

pub put-requires : goal.put-requires
put-requires c =
    link_known _ _ c.args.name.now c.args.first c.args.second _ _ _ c.requires.few c.in_ok-key.ensures c.counts.ensures
    c.counts-2.ensures c.of_link-counts.ensures

pub returns-clause-stands : goal.returns-clause-stands
returns-clause-stands c = put_link _ _ _ c.args.name.now c.args.first c.args.second c.in_ok-at.at c.in_ok-key.ensures
    c.in_ok-at.ensures.keys c.in_ok-at.ensures.place

pub returns-clause-kept : goal.returns-clause-kept
returns-clause-kept c = put_keeps _ _ _ c.in_ok-at.ensures.keys
