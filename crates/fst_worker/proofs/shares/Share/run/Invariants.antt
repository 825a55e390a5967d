use Rattle.fst_worker.specs.Passes.{Passes}
use Rattle.fst_worker.proofs.shares.Share.run.Given as goal

abbrev pub invariant-loop-pass : goal.invariant-loop-pass
invariant-loop-pass g l = Passes l.fn.code l.fn.steps l.fn.self l.self
