use Rattle.std.proofs.Common.{arith}
use Rattle.fst_io.proofs.Pieces.{Appends-piece}
use Rattle.fst_io.proofs.writing.write_all.Goals as goal

pub loop-done-preserved : goal.loop-done-preserved
loop-done-preserved g c = record {
  added = Appends-piece _ _ _ c.args.bytes.now c.loop-done.done c.in-Ok.n c.loop-done.invariant.added c.in-Ok.ensures.bytes;
  within = omega (arith, c.in-Ok.ensures.bound);
  later = omega (arith, c.in-Ok.ensures.later);
}
