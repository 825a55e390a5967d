use Rattle.fst_instances.proofs.InstanceDuals.{instantiated-dual}
use Rattle.fst_instances.proofs.InstanceMoves.{step_led}
use Rattle.fst_instances.proofs.LedLaws.{one_variable, unled_steps, unled_ends, instance_moves, led_ahead, led_over, session_few}
use Rattle.fst_instances.proofs.law.instance_moves_law.Goals as goal

pub returns : goal.returns
returns c = record {
  steps = unled_steps;
  moves = instance_moves;
  ends = unled_ends;
  variable = one_variable;
  argument = step_led;
  ahead = led_ahead;
  over = led_over;
  few = session_few;
  duals = instantiated-dual;
}
