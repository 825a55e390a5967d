use Rattle.std.proofs.Common.{◌<◌, Ok, sym, subst}
use Rattle.fst_worker.specs.Passes.{StepsAt, clock_at}
use Rattle.fst_worker.proofs.Steps.{within}
use Rattle.fst_worker.proofs.Goes.{steps_noted, steps_wanting, clock_steps, ok_same}
use Rattle.fst_worker.proofs.shares.Share.step_at.Goals as goal

pub returns-in_default-clause-steps : goal.returns-in_default-clause-steps
returns-in_default-clause-steps g c =
    steps_wanting c.args.code.now c.args.i c.args.self.now c.turn_at.new.self (within c.args.self.now c.args.i c.requires.at)
    (record { events = c.turn_at.ensures.same.0; moved = c.turn_at.ensures.same.1 }) c.in_default.field-0
    c.in_default.ensures.turns

pub returns-clause-steps : goal.returns-clause-steps
returns-clause-steps g c =
    subst (StepsAt c.args.code.now c.args.i (Ok c.in-Ok.told) c.args.self.now) (sym c.note.ensures)
    (steps_noted c.args.code.now c.args.i c.args.self.now c.turn_at.new.self (within c.args.self.now c.args.i c.requires.at)
    (record { events = c.turn_at.ensures.same.0; moved = c.turn_at.ensures.same.1 }) c.in-Ok.told c.in-Ok.ensures.turns)

pub returns-clause-later : goal.returns-clause-later
returns-clause-later g c b e =
    subst (λ w. clock_at c.args.self.now.tasks.items c.args.i < clock_at w.tasks.items c.args.i) (sym c.note.ensures)
    (clock_steps c.args.code.now c.args.i c.args.self.now c.turn_at.new.self (within c.args.self.now c.args.i c.requires.at)
    (record { events = c.turn_at.ensures.same.0; moved = c.turn_at.ensures.same.1 }) c.in-Ok.told c.requires.fit
    c.in-Ok.ensures.turns b (ok_same _ _ e))
