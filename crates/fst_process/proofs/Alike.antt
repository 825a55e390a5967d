-- What a value of code means is what it looks like.
use Rattle.fst_value.specs.ValueTree as tree
use Rattle.fst_value.specs.ValueTree.{ValueTree, ValueTrees}
use Rattle.fst_machine.specs.Code.{Compiled}
use Rattle.fst_machine.specs.Values as value
use Rattle.fst_machine.specs.Values.{Value, Values}
use Rattle.fst_machine.specs.Standing.{Means, MeanAll}
use Rattle.fst_process.specs.Reports.{IsAlike, AreAlike}

mutual
  -- a value that code keeps is alike to the one that it means
  pub means_alike : (c : Compiled) (x : ValueTree) (v : Value) → Means c x v → IsAlike x v
  means_alike c (tree.int n) v e = e
  means_alike c (tree.bool b) v e = e
  means_alike c (tree.char n) v e = e
  means_alike c tree.unit v e = e
  means_alike c (tree.pair x y) v e = (e.0, e.1, e.2, means_alike c x e.0 e.3, means_alike c y e.1 e.4)
  means_alike c (tree.make n o xs) v e = (e.0, e.1, mean_all_alike c xs e.0 e.3)
  means_alike c (tree.function l xs) v e = (e.0, e.1, e.3)
  means_alike c (tree.end x) v e = e

  mean_all_alike : (c : Compiled) (xs : ValueTrees) (vs : Values) → MeanAll c xs vs → AreAlike xs vs
  mean_all_alike c tree.none value.no_values e = tt
  mean_all_alike c tree.none (value.value v vs) e = e
  mean_all_alike c (tree.value x xs) value.no_values e = e
  mean_all_alike c (tree.value x xs) (value.value v vs) e = (means_alike c x v e.0, mean_all_alike c xs vs e.1)
