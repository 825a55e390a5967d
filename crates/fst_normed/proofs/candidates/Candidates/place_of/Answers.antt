use Rattle.fst_normed.proofs.CandidateLaws.{added, once}
use Rattle.fst_normed.proofs.candidates.Candidates.place_of.Goals as goal

pub returns-clause-added : goal.returns-clause-added
returns-clause-added c = rw (← c.self.view_is) (added c.self.inside.pairs.keys c.insert_full.new.self.keys
    (c.args.x, c.args.y) c.in_ok-at.ensures.keys)

pub returns-clause-once : goal.returns-clause-once
returns-clause-once c = once c.insert_full.new.self.keys c.in_ok-at.ensures.unique
