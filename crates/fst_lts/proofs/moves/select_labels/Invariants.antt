use Rattle.std.proofs.Common.{◌≡◌, ◌++◌, drop}
use Rattle.fst_types.specs.ModelView.{branches_of}
use Rattle.fst_types.specs.declared.label.Label.TheVariants.{Select}
use Rattle.fst_lts.specs.Step.{choice_labels}
use Rattle.fst_lts.proofs.moves.select_labels.Given as goal

abbrev pub invariant-loop-branch : goal.invariant-loop-branch
invariant-loop-branch l = l.found.items ++ choice_labels Select
    (branches_of (drop l.branch-index l.branches)) ≡ choice_labels Select (branches_of l.branches)
