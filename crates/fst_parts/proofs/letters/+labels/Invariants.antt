use Rattle.std.proofs.Common.{◌≡◌, ◌+◌, ◌*◌, drop}
use Rattle.fst_types.specs.Height.{height, height_all}
use Rattle.fst_types.specs.ModelView.{branches_of}
use Rattle.fst_base.specs.Order.{IsRising}
use Rattle.fst_parts.specs.Labels.{branch_labels}
use Rattle.fst_parts.specs.Letters.{with_labels}
use Rattle.fst_parts.specs.Views.{branch_label}
use Rattle.fst_parts.proofs.letters.+labels.Given as goal
use Rattle.fst_types.specs.Order.{label_cmp}

abbrev pub decreases-add_labels : goal.decreases-add_labels
decreases-add_labels l = 2 * height l.t.now

abbrev pub decreases-add_branches : goal.decreases-add_branches
decreases-add_branches l = 2 * height_all (branches_of l.branches.now) + 1

abbrev pub invariant-add_branches-loop-branch : goal.invariant-add_branches-loop-branch
invariant-add_branches-loop-branch l = record {
  rising : IsRising label_cmp l.letters.items;
  rest : with_labels l.letters.items (branch_labels (branch_label l.offers) (branches_of (drop l.branch-index l.branches)))
      ≡ with_labels l.initial.letters.items (branch_labels (branch_label l.offers) (branches_of l.branches));
}
