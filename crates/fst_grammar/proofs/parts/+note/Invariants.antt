use Rattle.std.proofs.Common.{◌≡◌, ◌+◌, ◌*◌, ◌^◌, ◌<◌, drop, map}
use Rattle.fst_types.specs.Height.{height, height_all}
use Rattle.fst_types.specs.Size.{nodes_all}
use Rattle.fst_types.specs.ModelView.{branches_of}
use Rattle.fst_parts.specs.Shapes.{shape_of_all}
use Rattle.fst_parts.specs.Keys.{Stands}
use Rattle.fst_parts.specs.Once.{with_parts}
use Rattle.fst_grammar.specs.Parts.{parts_all}
use Rattle.fst_parts.specs.Views.{part_of, place_in, places_of, IsKept}
use Rattle.fst_grammar.proofs.parts.+note.Given as goal

abbrev pub decreases-note_all : goal.decreases-note_all
decreases-note_all l = 4 * height l.t.ty.now + 3

abbrev pub decreases-note_entered : goal.decreases-note_entered
decreases-note_entered l = 4 * height l.t.ty.now + 2

abbrev pub decreases-note_own : goal.decreases-note_own
decreases-note_own l = 4 * height l.t.ty.now + 1

abbrev pub decreases-note_branches : goal.decreases-note_branches
decreases-note_branches l = 4 * height_all (branches_of l.branches.now) + 4

abbrev pub invariant-note_branches-loop-branch : goal.invariant-note_branches-loop-branch
invariant-note_branches-loop-branch l = record {
  fits : l.place + nodes_all (branches_of (drop l.branch-index l.branches)) < 2 ^ 31;
  part : Stands l.trees l.list (shape_of_all (branches_of (drop l.branch-index l.branches)));
  kept : IsKept l.trees l.parts;
  rest : with_parts (map part_of l.parts.found.items)
      (parts_all (place_in l.whole.ty.now l.place (places_of l.binders)) (branches_of (drop l.branch-index l.branches)))
      ≡ with_parts (map part_of l.initial.parts.found.items)
      (parts_all (place_in l.whole.ty.now l.at (places_of l.binders)) (branches_of l.branches));
}
