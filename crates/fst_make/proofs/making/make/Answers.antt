use Rattle.std.specs.String.{string_bytes}
use Rattle.fst_make.proofs.MadeLaws.{one_more}
use Rattle.fst_make.proofs.making.make.Goals as goal

pub loop-i-preserved : goal.loop-i-preserved
loop-i-preserved c =
    one_more c.args.n c.loop-i.i (string_bytes c.loop-i.text)
    (string_bytes c.push_channel_lines.new.text) c.loop-i-test.true c.in_ok-push_channel_lines.ensures c.loop-i.invariant
