use Rattle.std.proofs.Common.{◌≡◌, ◌+◌, ◌*◌, ◌≤◌, ◌++◌, drop, length}
use Rattle.std.specs.Prelude.{codes, max}
use Rattle.std.specs.String.{string_bytes}
use Rattle.fst_types.specs.Height.{height, height_all}
use Rattle.fst_types.specs.ModelView.{branches_of}
use Rattle.fst_type_print.specs.Texts.{branch_texts, family_names, separated_text}
use Rattle.fst_type_print.proofs.types.+types.Given as goal

abbrev pub invariant-push_others-loop-branch : goal.invariant-push_others-loop-branch
invariant-push_others-loop-branch l = record {
  written : l.depth ≤ length (string_bytes l.text);
  text : string_bytes l.text ++ separated_text (codes ", ")
      (branch_texts (family_names l.families) l.depth (branches_of (drop l.branch-index l.others))) ≡ string_bytes l.initial.text
      ++ separated_text (codes ", ") (branch_texts (family_names l.families) l.depth (branches_of l.others));
}

abbrev pub decreases-push_type : goal.decreases-push_type
decreases-push_type l = 5 * height l.t.now

abbrev pub decreases-push_enclosed : goal.decreases-push_enclosed
decreases-push_enclosed l = 5 * height l.t.now + 1

abbrev pub decreases-push_rec : goal.decreases-push_rec
decreases-push_rec l = 5 * height l.body.now + 1

abbrev pub decreases-push_pair : goal.decreases-push_pair
decreases-push_pair l = 5 * max (height l.first.now) (height l.second.now) + 1

abbrev pub decreases-push_choice : goal.decreases-push_choice
decreases-push_choice l = 5 * height_all (branches_of l.branches.now) + 4

abbrev pub decreases-push_branch : goal.decreases-push_branch
decreases-push_branch l = 5 * height l.branch.now.body + 1

abbrev pub decreases-push_others : goal.decreases-push_others
decreases-push_others l = 5 * height_all (branches_of l.others.now) + 2

abbrev pub decreases-push_branches : goal.decreases-push_branches
decreases-push_branches l = 5 * height_all (branches_of l.branches.now) + 3
