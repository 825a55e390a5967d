use Rattle.fst_norms.proofs.Laws.{same_or_differ}
use Rattle.fst_breadth.proofs.difference.least.Goals as goal

pub unreachable-requires : goal.unreachable-requires
unreachable-requires c =
    same_or_differ c.args.g.now.rules.items c.args.u.now c.args.v.now
    (rw c.in-Equal.is at c.in_ok-trace.ensures.equal) c.requires.differ
