use Rattle.fst_cert.proofs.WayLaws.{cut_there}
use Rattle.fst_cert.proofs.ways.cut_place.Goals as goal

pub returns-then-at-word-clause-some : goal.returns-then-at-word-clause-some
returns-then-at-word-clause-some c = cut_there c.args.marks.now c.args.word.now c.in_ok-at.at c.in_ok-at.ensures.within
    c.in_ok-at.ensures.some
