use Rattle.fst_command.proofs.OutcomeLaws.{worked_outcome}
use Rattle.fst_command.proofs.running.outcome_of_workers.Goals as goal

pub run_workers-requires-clause-right : goal.run_workers-requires-clause-right
run_workers-requires-clause-right g c κs within = c.in_ok-code.ensures.begins

pub returns : goal.returns
returns g c =
    worked_outcome c.args.options.steps c.args.m.now c.in_ok-code.code c.in_ok-code.ensures
    c.run_workers.result c.run_workers.ensures.answer
