use Rattle.std.proofs.Common.{◌∙◌, arith}
use Rattle.fst_worker.proofs.Goes.{runs_on}
use Rattle.fst_worker.proofs.Passing.{pass_ends}
use Rattle.fst_worker.proofs.shares.Share.pass.Goals as goal

pub visit-walk-requires-clause-fit : goal.visit-walk-requires-clause-fit
visit-walk-requires-clause-fit g c = runs_on c.args.code.now _ c.args.self.now c.loop-i.self c.loop-i.invariant.passes
    c.requires.fit

pub loop-i-preserved : goal.loop-i-preserved
loop-i-preserved g c = record {
  passes = c.visit-walk.ensures.visits c.args.self.now c.loop-i.invariant.passes;
  kept = c.visit-walk.ensures.kept;
  len = c.visit-walk.ensures.len ∙ c.loop-i.invariant.len;
  room = c.visit-walk.ensures.room;
}

pub returns : goal.returns
returns g c =
    let e = c.loop-i.self.tasks.ok.0 in
    let len = c.loop-i.invariant.len in
    let n = c.len-i-end.ensures in
    let hi = c.loop-i.auto.i-end in
    let t = c.loop-i-test.false in
    pass_ends c.args.code.now c.args.steps c.loop-i.walk.kept c.loop-i.i c.loop-i.walk.halted c.args.self.now c.loop-i.self
    c.retire.new.self c.loop-i.invariant.kept (omega (arith, e, len, n, hi, t))
    c.loop-i.invariant.passes c.retire.ensures.retires c.retire.ensures.same
