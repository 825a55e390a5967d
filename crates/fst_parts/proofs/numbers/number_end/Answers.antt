use Rattle.fst_parts.proofs.KeyLaws.{put_end, put_keeps}
use Rattle.fst_parts.proofs.CountLaws.{end_known}
use Rattle.fst_parts.proofs.numbers.number_end.Goals as goal

pub put-requires : goal.put-requires
put-requires c = end_known _ _ _ c.new-key.ensures.items c.of_end.ensures

pub returns-clause-stands : goal.returns-clause-stands
returns-clause-stands c = put_end _ _ _ c.in_ok-at.at c.new-key.ensures.items c.in_ok-at.ensures.keys c.in_ok-at.ensures.place

pub returns-clause-kept : goal.returns-clause-kept
returns-clause-kept c = put_keeps _ _ _ c.in_ok-at.ensures.keys
