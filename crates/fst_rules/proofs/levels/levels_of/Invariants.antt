use Rattle.std.proofs.Common.{◌≡◌, ◌≤◌}
use Rattle.fst_terms.specs.CoreTree.{core_height}
use Rattle.fst_derivations.specs.Deriv.{deriv_of}
use Rattle.fst_rules.specs.Levels.{AreLower, rest_walk, surroundings_at}
use Rattle.fst_rules.specs.Walks.{after, walk_of}
use Rattle.fst_rules.proofs.levels.levels_of.Given as goal

abbrev pub invariant-loop-levels : goal.invariant-loop-levels
invariant-loop-levels l = record {
  walk : walk_of (surroundings_at l.place) l.term (deriv_of l.derivation) ≡ after
      (walk_of (surroundings_at l.place) l.head (deriv_of l.below)) (rest_walk (surroundings_at l.place) l.levels.items);
  low : core_height l.head ≤ core_height l.term;
  lower : AreLower (core_height l.term) l.levels.items;
}

abbrev pub decreases-loop-levels : goal.decreases-loop-levels
decreases-loop-levels l = core_height l.head
