-- What a module without faults declares.
use Rattle.std.specs.Prelude.{◌≡◌, ◌+◌, ◌<◌, ◌^◌, ℕ, false, List, [], Option, Some, IsSome, slice_get, slice_index_or}
use Rattle.std.specs.Borrow.{Bor}
use Rattle.fst_types.specs.ModelWrittenHeight.{height}
use Rattle.fst_types.specs.Tree.{Tree}
use Rattle.fst_types.specs.declared.written.Written.{Written}
use Rattle.fst_terms.specs.Filled.{IsModuleFilled}
use Rattle.fst_terms.specs.ModuleTree.{Declared}
use Rattle.fst_terms.specs.Naming.{type_of}
use Rattle.fst_scopes.specs.Graph.{alias_scope}
use Rattle.fst_scopes.specs.declared.types.TypeEntry.TheVariants as entry
use Rattle.fst_declarations.specs.Declarations.{AreDeclarations, known_in}
use Rattle.fst_declarations.specs.ModuleFaults.{module_faults}
use Rattle.fst_declarations.specs.declared.declarations.Declarations.{Declarations}

-- this is what a module declares, and it has no faults
pub record IsFaultless (ds : List Declared) (d : Declarations) : Type 0 where
  -- what is kept is what these declare
  pub declared : AreDeclarations ds d
  -- their names and sizes have no fault
  pub faultless : module_faults ds (known_in d) ≡ []
  -- each choice has a branch, each data type a constructor, and so on
  pub filled : IsModuleFilled ds

-- the type of an alias stands for something, where the names in it stand for these trees, and is not too high
pub record IsReady (d : Declarations) (trees : List (Option Tree)) (k : ℕ) : Type 0 where
  pub known : (w : Bor Written) → slice_index_or d.aliases.looped.items k false ≡ false →
      slice_get d.types.entries.items k ≡ Some (entry.Alias w) →
      IsSome (type_of (alias_scope d.types trees) w.now)
  pub depth : (w : Bor Written) → slice_get d.types.entries.items k ≡ Some (entry.Alias w) →
      0 + height w.now < 2 ^ 32
