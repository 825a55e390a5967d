use Rattle.std.proofs.Common.{◌∙◌, Ok, ap, subst, refl, arith}
use Rattle.fst_worker.specs.Passes.{StepsAt}
use Rattle.fst_worker.proofs.Steps.{within}
use Rattle.fst_worker.proofs.Goes.{clock_there, runs_on}
use Rattle.fst_worker.proofs.Passing.{at_none, at_gained, at_offered, at_left, at_over, at_wanting, at_events, at_clock}
use Rattle.fst_worker.proofs.shares.Share.run_at.Goals as goal

pub loop-self-init : goal.loop-self-init
loop-self-init g c = record {
  runs = at_none c.args.code.now c.args.i c.args.self.now (within c.args.self.now c.args.i c.requires.at);
  tasks = refl;
  ended = refl;
  room = omega arith;
}

pub step_at-requires-clause-fit : goal.step_at-requires-clause-fit
step_at-requires-clause-fit g c = runs_on c.args.code.now _ c.args.self.now c.loop-self.self c.loop-self.invariant.runs
    c.requires.fit

pub returns-in_default-clause-stops : goal.returns-in_default-clause-stops
returns-in_default-clause-stops g c =
    at_wanting c.args.code.now c.args.i c.args.self.now c.loop-self.self c.step_at.new.self c.loop-self.invariant.runs
    c.args.steps c.in_default.field-0 c.in_default.ensures.steps

pub loop-self-smaller : goal.loop-self-smaller
loop-self-smaller g c =
    let l = c.in-Ok.ensures.later c.in-Gained.field-0 (ap Ok c.in-Gained.is) in
    let t = c.loop-self.invariant.tasks in
    let e = ap (λ t. t.clock) c.index.ensures ∙ clock_there c.loop-self.self.tasks.items c.args.i c.index.result.now
    (within c.loop-self.self c.args.i (let a = c.requires.at in omega (arith, t, a))) in
    let b = c.if-index-steps.true in
    omega (arith, l, e, b)

pub loop-self-preserved : goal.loop-self-preserved
loop-self-preserved g c = record {
  runs = at_gained c.args.code.now c.args.i c.args.self.now c.loop-self.self c.step_at.new.self c.loop-self.invariant.runs
      c.in-Gained.field-0
      (subst (λ m. StepsAt c.args.code.now c.args.i (Ok m) c.loop-self.self c.step_at.new.self) c.in-Gained.is
      c.in-Ok.ensures.steps);
  tasks = c.step_at.ensures.len.0 ∙ c.loop-self.invariant.tasks;
  ended = c.step_at.ensures.len.1 ∙ c.loop-self.invariant.ended;
  room = let a = c.step_at.ensures.room in let b = c.loop-self.invariant.room in omega (arith, a, b);
}

pub returns-in-Offered-clause-stops : goal.returns-in-Offered-clause-stops
returns-in-Offered-clause-stops g c =
    at_offered c.args.code.now c.args.i c.args.self.now c.loop-self.self c.step_at.new.self c.loop-self.invariant.runs
    c.args.steps
    (subst (λ m. StepsAt c.args.code.now c.args.i (Ok m) c.loop-self.self c.step_at.new.self) c.in-Offered.is
    c.in-Ok.ensures.steps)

pub returns-in-Left-clause-stops : goal.returns-in-Left-clause-stops
returns-in-Left-clause-stops g c =
    at_left c.args.code.now c.args.i c.args.self.now c.loop-self.self c.step_at.new.self c.loop-self.invariant.runs c.args.steps
    (subst (λ m. StepsAt c.args.code.now c.args.i (Ok m) c.loop-self.self c.step_at.new.self) c.in-Left.is c.in-Ok.ensures.steps)

pub returns-in-Over-clause-stops : goal.returns-in-Over-clause-stops
returns-in-Over-clause-stops g c =
    at_over c.args.code.now c.args.i c.args.self.now c.loop-self.self c.step_at.new.self c.loop-self.invariant.runs c.args.steps
    (subst (λ m. StepsAt c.args.code.now c.args.i (Ok m) c.loop-self.self c.step_at.new.self) c.in-Over.is c.in-Ok.ensures.steps)

pub returns-else-index-steps-clause-stops : goal.returns-else-index-steps-clause-stops
returns-else-index-steps-clause-stops g c =
    let a = c.requires.at in
    let t = c.loop-self.invariant.tasks in
    let e = ap (λ t. t.clock) c.index.ensures ∙ clock_there c.loop-self.self.tasks.items c.args.i c.index.result.now
    (within c.loop-self.self c.args.i (omega (arith, t, a))) in
    let b = c.if-index-steps.false in
    at_clock c.args.code.now c.args.i c.args.self.now c.loop-self.self c.loop-self.invariant.runs c.args.steps
    (within c.args.self.now c.args.i a) (omega (arith, e, b))

pub returns-after-loop-self-clause-stops : goal.returns-after-loop-self-clause-stops
returns-after-loop-self-clause-stops g c = at_events c.args.code.now c.args.i c.args.self.now c.loop-self.self
    c.loop-self.invariant.runs c.args.steps c.loop-self-test.false
