use Rattle.std.proofs.Common.{◌≡◌, ◌+◌, ◌*◌, ◌++◌, drop}
use Rattle.std.specs.Prelude.{codes, max}
use Rattle.std.specs.String.{string_bytes}
use Rattle.fst_types.specs.ModelWrittenHeight.{height, height_all}
use Rattle.fst_types.specs.ModelWrittenView.{written_branches}
use Rattle.fst_type_print.specs.WrittenTexts.{written_branch_texts}
use Rattle.fst_type_print.specs.Texts.{separated_text}
use Rattle.fst_type_print.proofs.written.+written.Given as goal

abbrev pub invariant-push_others-loop-branch : goal.invariant-push_others-loop-branch
invariant-push_others-loop-branch l = string_bytes l.text ++ separated_text (codes ", ")
    (written_branch_texts (written_branches (drop l.branch-index l.others))) ≡ string_bytes l.initial.text ++ separated_text
    (codes ", ") (written_branch_texts (written_branches l.others))

abbrev pub decreases-push_written : goal.decreases-push_written
decreases-push_written l = 8 * height l.t.now

abbrev pub decreases-push_enclosed : goal.decreases-push_enclosed
decreases-push_enclosed l = 8 * height l.t.now + 1

abbrev pub decreases-push_atom : goal.decreases-push_atom
decreases-push_atom l = 8 * height l.t.now + 2

abbrev pub decreases-push_seq : goal.decreases-push_seq
decreases-push_seq l = 8 * height l.t.now + 2

abbrev pub decreases-push_pair : goal.decreases-push_pair
decreases-push_pair l = 8 * max (height l.first.now) (height l.second.now) + 1

abbrev pub decreases-push_branch : goal.decreases-push_branch
decreases-push_branch l = 8 * height l.branch.now.body + 3

abbrev pub decreases-push_others : goal.decreases-push_others
decreases-push_others l = 8 * height_all (written_branches l.others.now) + 4

abbrev pub decreases-push_branches : goal.decreases-push_branches
decreases-push_branches l = 8 * height_all (written_branches l.branches.now) + 5

abbrev pub decreases-push_choice : goal.decreases-push_choice
decreases-push_choice l = 8 * height_all (written_branches l.branches.now) + 6
