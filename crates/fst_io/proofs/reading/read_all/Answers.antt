use Rattle.std.proofs.Common.{◌≤◌, ◌+◌, ℕ, length, arith, rules}
use Rattle.std.proofs.lemmas.List.{length-take}
use Rattle.fst_io.specs.GivingUp.{LosesAtMost}
use Rattle.fst_io.proofs.Pieces.{lost_piece}
use Rattle.fst_io.proofs.reading.read_all.Goals as goal

-- where memory runs out, the last piece is lost too
pub returns-in_err-extend_from_slice-in-Ok-clause-fault : goal.returns-in_err-extend_from_slice-in-Ok-clause-fault
returns-in_err-extend_from_slice-in-Ok-clause-fault g c =
    let count : length c.loop-chunk.all.items + c.in-Ok.n ≤ c.args.limit + 1 =
    omega (arith, c.in-Ok.ensures.bound, c.read.auto.buffer, length-take {A = ℕ}) in
    let lost : LosesAtMost (c.args.limit + 1) (g.S.Source.left c.args.source.now) (g.S.Source.left c.read.new.self) =
    lost_piece _ _ _ c.loop-chunk.all.items c.read.new.buffer c.in-Ok.n _ c.loop-chunk.invariant.taken c.in-Ok.ensures.bytes.0
    count in
    search rules
