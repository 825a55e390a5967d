use Rattle.fst_worker.proofs.Pools.{pools}
use Rattle.fst_worker.proofs.law.pool_law.Goals as goal

pub returns : goal.returns
returns c = pools
