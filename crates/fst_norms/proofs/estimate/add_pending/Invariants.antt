use Rattle.std.proofs.Common.{◌≡◌, ◌<◌, length}
use Rattle.std.specs.Prelude.{All}
use Rattle.fst_words.specs.Words.{Productions, row_of}
use Rattle.fst_norms.specs.Pending.{IsPending}
use Rattle.fst_norms.proofs.estimate.add_pending.Given as goal

abbrev pub invariant-loop-rule : goal.invariant-loop-rule
invariant-loop-rule l =
    (rows : Productions) → l.number < length rows → row_of rows l.number ≡ l.rules →
    All (IsPending rows) l.initial.pending.items → All (IsPending rows) l.pending.items
