use Rattle.std.proofs.Common.{◌≡◌, drop}
use Rattle.fst_types.specs.ModelView.{branches_of}
use Rattle.fst_types.specs.declared.label.Label.TheVariants.{Select}
use Rattle.fst_lts.specs.Step.{branch_at}
use Rattle.fst_lts.proofs.moves.selected.Given as goal

abbrev pub invariant-loop-branch : goal.invariant-loop-branch
invariant-loop-branch l = branch_at Select (branches_of (drop l.branch-index l.branches)) l.a ≡ branch_at Select
    (branches_of l.branches) l.a
