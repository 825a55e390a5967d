use Rattle.std.proofs.Common.{◌+◌, ◌≤◌, length, arith}
use Rattle.fst_io.proofs.Pieces.{piece_taken, nothing_left}
use Rattle.fst_io.proofs.steady.SteadySourceSource.read.Goals as goal

pub returns-clause-bytes : goal.returns-clause-bytes
returns-clause-bytes c =
    let s = c.args.self.now in
    let within : s.next + c.min-n.result ≤ length s.bytes.items = omega (arith, s.bytes.ok.0) in (
      piece_taken s.bytes.items c.copy_from_slice.new.self _ s.next c.min-n.result _
          (rw c.deref.ensures.value at c.copy_from_slice.ensures.after) (omega arith) within,
      λ none room. nothing_left s.bytes.items (s.next + c.min-n.result) (omega (arith, s.bytes.ok.0)),
    )
