use Rattle.fst_norms.proofs.NormLaws.{exact}
use Rattle.fst_norms.proofs.rounds.norms.Goals as goal

pub returns-clause-each : goal.returns-clause-each
returns-clause-each c = exact _ _ c.improve.ensures.sound c.loop-test.ensures.settled
