use Rattle.std.proofs.Common.{◌+◌, ◌*◌, drop}
use Rattle.fst_types.specs.Height.{height, height_all}
use Rattle.fst_types.specs.ModelView.{branches_of}
use Rattle.fst_types.specs.Named.{AllNamedWithin}
use Rattle.fst_samples.proofs.texts.+named.Given as goal

abbrev pub invariant-all_named-loop-branch : goal.invariant-all_named-loop-branch
invariant-all_named-loop-branch l = record {
  named : AllNamedWithin l.families (branches_of (drop l.branch-index l.branches)) →
      AllNamedWithin l.families (branches_of l.branches);
}

abbrev pub decreases-named : goal.decreases-named
decreases-named l = 2 * height l.t.now

abbrev pub decreases-all_named : goal.decreases-all_named
decreases-all_named l = 2 * height_all (branches_of l.branches.now) + 1
