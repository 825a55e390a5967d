-- A value as a tree, without where it lies in memory.
use Rattle.std.specs.Prelude.{ℕ, ℤ, Bool}
use Rattle.fst_types.specs.declared.ends.EndName.{EndName}

mutual
  -- a value: make has the number of its data type, that of its constructor in it, and its fields; a function its number in
  -- the code and the values that it captured
  pub data ValueTree : Type 0 where
    int : ℤ → ValueTree
    bool : Bool → ValueTree
    char : ℕ → ValueTree
    unit : ValueTree
    pair : ValueTree → ValueTree → ValueTree
    make : ℕ → ℕ → ValueTrees → ValueTree
    function : ℕ → ValueTrees → ValueTree
    end : EndName → ValueTree

  -- values in order
  pub data ValueTrees : Type 0 where
    none : ValueTrees
    value : ValueTree → ValueTrees → ValueTrees
