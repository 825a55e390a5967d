use Rattle.std.proofs.Common.{◌+◌}
use Rattle.std.specs.Prelude.{codes}
use Rattle.std.specs.String.{string_bytes}
use Rattle.fst_make.specs.Made.{call_text, fork_text, receiver}
use Rattle.fst_make.proofs.MadeLaws.{four_written}
use Rattle.fst_make.proofs.making.push_receiver_equation.Goals as goal

pub returns : goal.returns
returns c =
    four_written c.push_call.result (string_bytes c.args.text.now) (string_bytes c.push_receiver.new.text)
    (string_bytes c.push_str.new.self)
    (string_bytes c.push_fork.new.text) (string_bytes c.push_call.new.text) (receiver c.args.i)
    (codes " s = let (a, b) = new !Int in ") (fork_text c.args.i)
    (call_text (c.args.i + 1)) c.in_ok-push_receiver.ensures c.in_ok-push_str.ensures.bytes c.in_ok-push_fork.ensures
    c.push_call.ensures
