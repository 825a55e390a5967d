use Rattle.std.proofs.Common.{◌+◌, ◌*◌, ℕ, ◌<◌, get_or}
use Rattle.fst_types.specs.declared.label.Label.{Label}
use Rattle.fst_lts.specs.Step.{step}
use Rattle.fst_base.specs.Agreement.{AgreeTo, BothOrNeither}
use Rattle.fst_lts.proofs.depth.+agree.Given as goal

abbrev pub invariant-agree_after_all-loop-label : goal.invariant-agree_after_all-loop-label
invariant-agree_after_all-loop-label l =
    (k : ℕ) (d : Label) → k < l.label-index → BothOrNeither (AgreeTo step step l.depth) (step l.s (get_or l.labels k d))
    (step l.r (get_or l.labels k d))

abbrev pub decreases-agree_within : goal.decreases-agree_within
decreases-agree_within l = 4 * l.depth

abbrev pub decreases-agree_deeper : goal.decreases-agree_deeper
decreases-agree_deeper l = 4 * l.depth + 3

abbrev pub decreases-agree_after_all : goal.decreases-agree_after_all
decreases-agree_after_all l = 4 * l.depth + 2

abbrev pub decreases-agree_after : goal.decreases-agree_after
decreases-agree_after l = 4 * l.depth + 1
