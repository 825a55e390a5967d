-- What the names in an equation stand for, and what is put behind the types of a module, by what the code keeps of them.
use Rattle.std.specs.Prelude.{◌≡◌, ◌+◌, ◌++◌, List, length, map, Some}
use Rattle.fst_term_faults.specs.CodeSurroundings.{surroundings_of}
use Rattle.fst_term_faults.specs.TermFaults.{Surroundings}
use Rattle.fst_term_names.specs.CodeNumbers.{numbers_of}
use Rattle.fst_term_names.specs.CoreTerms.{Numbers}
use Rattle.fst_term_names.specs.TermTypes.{TypeUse, begins_at, tree_of}
use Rattle.fst_term_names.specs.declared.meanings.Meanings.{Meanings}
use Rattle.fst_term_names.specs.declared.meanings.TypeList.{TypeList}

-- what is in scope
abbrev pub scope_in : Meanings → Surroundings
scope_in m = surroundings_of m.around.now

-- what the names of globals and constructors stand for
abbrev pub numbers_in : Meanings → Numbers
numbers_in m = numbers_of m.around.now

-- behind the types stand those that some written ones stand for, each with the byte at which it begins
pub record AreAdded (s : Surroundings) (uses : List TypeUse) (old new : TypeList) : Type 0 where
  pub types : map Some new.types.items ≡ map Some old.types.items ++ map (tree_of s) uses
  pub places : new.places.items ≡ old.places.items ++ map begins_at uses
  pub count : length new.types.items ≡ length old.types.items + length uses
