use Rattle.std.proofs.Common.{◌≡◌, reverse, true, false, refl, arith}
use Rattle.fst_lts.specs.Step.{terminated}
use Rattle.fst_report.proofs.PartLaws.{let_go, moves_first, some_nodes}
use Rattle.fst_report.proofs.residual.take_apart.Goals as goal

pub returns-then-terminated : goal.returns-then-terminated
returns-then-terminated c =
    let over : terminated c.args.part ≡ true = cc (c.terminated.ensures.ends, c.if-terminated.true, c.part.view_is) in
    record {
      moves = let_go (reverse c.args.parts.now.items) c.args.part over;
      less = omega (arith, some_nodes c.args.part);
    }

pub returns-else-terminated : goal.returns-else-terminated
returns-else-terminated c =
    let more : terminated c.args.part ≡ false = cc (c.terminated.ensures.ends, c.if-terminated.false, c.part.view_is) in
    record {
      moves = rw c.part.view_is (moves_first (reverse c.args.parts.now.items) c.args.part more);
      less = refl;
    }
