use Rattle.std.proofs.Common.{◌+◌, ◌*◌, drop}
use Rattle.fst_types.specs.Height.{height, height_all}
use Rattle.fst_types.specs.ModelView.{branches_of}
use Rattle.fst_types.specs.Scoped.{AllScoped}
use Rattle.fst_types.specs.Order.{AreSorted, EachChoiceBelow}
use Rattle.fst_samples.proofs.building.+sound.Given as goal

abbrev pub invariant-all_sound-loop-branch : goal.invariant-all_sound-loop-branch
invariant-all_sound-loop-branch l = record {
  scoped : AllScoped l.n (branches_of (drop l.branch-index l.branches)) → AllScoped l.n (branches_of l.branches);
  sorted : EachChoiceBelow AreSorted (branches_of (drop l.branch-index l.branches)) →
      EachChoiceBelow AreSorted (branches_of l.branches);
}

abbrev pub decreases-sound : goal.decreases-sound
decreases-sound l = 2 * height l.t.now

abbrev pub decreases-all_sound : goal.decreases-all_sound
decreases-all_sound l = 2 * height_all (branches_of l.branches.now) + 1
