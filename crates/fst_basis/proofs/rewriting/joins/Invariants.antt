use Rattle.std.proofs.Common.{◌≡◌, drop}
use Rattle.fst_basis.specs.Parted.{word_of}
use Rattle.fst_basis.specs.Rewrites.{chained}
use Rattle.fst_basis.proofs.rewriting.joins.Given as goal

abbrev pub invariant-loop-step : goal.invariant-loop-step
invariant-loop-step l = chained l.marks l.basis
    (drop l.step-index l.chain) (word_of l.word) ≡ chained l.marks l.basis l.chain l.fn.from
