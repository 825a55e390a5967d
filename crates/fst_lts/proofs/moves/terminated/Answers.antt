use Rattle.fst_lts.proofs.ResidualLaws.{terminated_exactly}
use Rattle.fst_lts.proofs.moves.terminated.Goals as goal

pub returns-clause-unlabelled : goal.returns-clause-unlabelled
returns-clause-unlabelled c vars h = rw c.is_terminated.ensures (terminated_exactly vars c.args.t.now h)
