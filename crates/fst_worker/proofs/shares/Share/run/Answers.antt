use Rattle.fst_worker.proofs.Goes.{runs_on}
use Rattle.fst_worker.proofs.Passing.{passes_then}
use Rattle.fst_worker.proofs.shares.Share.run.Goals as goal

pub pass-passed-requires-in-loop-pass-clause-fit : goal.pass-passed-requires-in-loop-pass-clause-fit
pass-passed-requires-in-loop-pass-clause-fit g c =
    runs_on c.args.code.now _ c.args.self.now c.loop-pass.self c.loop-pass.invariant c.requires.fit

pub loop-pass-preserved : goal.loop-pass-preserved
loop-pass-preserved g c =
    passes_then c.args.code.now c.args.steps c.args.self.now c.loop-pass.self c.pass-passed-in-loop-pass.new.self
    c.loop-pass.invariant c.pass-passed-in-loop-pass.ensures
