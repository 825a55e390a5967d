-- What the estimate of the norms keeps of the rules, and of the bounds found so far.
use Rattle.std.specs.Prelude.{◌≡◌, ◌<◌, length, All}
use Rattle.std.specs.BinaryHeap.{heap_items}
use Rattle.fst_words.specs.Words.{Productions, row_of}
use Rattle.fst_norms.specs.declared.estimate.Pending.{Pending}
use Rattle.fst_norms.specs.declared.estimate.Estimate.{Estimate}
use Rattle.fst_norms.specs.Bounds.{IsSound}

-- it names a rule of the grammar
pub record IsPending (rows : Productions) (p : Pending) : Type 0 where
  pub number : p.number < length rows
  pub rule : p.rule < length (row_of rows p.number)

-- one sound bound, or none, for each non-terminal; what was found are bounds of non-terminals
pub record IsEstimate (rows : Productions) (e : Estimate) : Type 0 where
  pub len : length e.bounds.items ≡ length rows
  pub sound : IsSound rows e.bounds.items
  pub found : All (λ x. x.1 < length rows) (heap_items e.found)
