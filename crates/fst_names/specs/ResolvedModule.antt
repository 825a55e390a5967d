-- The module that a source stands for.
use Rattle.std.specs.Prelude.{◌≡◌, ◌≤◌, All, List, [], map, Option, Some, None}
use Rattle.fst_base.specs.Limits.{most_nodes}
use Rattle.fst_types.specs.Size.{nodes}
use Rattle.fst_terms.specs.ModuleTree.{Declared}
use Rattle.fst_terms.specs.declared.core_module.Module.{Module}
use Rattle.fst_scopes.specs.Aliases.{Known, IsKnown}
use Rattle.fst_scopes.specs.First.{first_fault}
use Rattle.fst_scopes.specs.TypeNames.{type_declared}
use Rattle.fst_scopes.specs.declared.fault.NameFault.{NameFault}
use Rattle.fst_declarations.specs.ModuleFaults.{module_faults}
use Rattle.fst_names.specs.Modules.{TypeAt, family_parts, families_from, global_parts, module_globals, module_types}

-- a source without faults stands for a module: its types, with the bytes at which they begin, its data types and its globals;
-- and none of its types is larger than types may be
pub record IsResolvedModule (ds : List Declared) (m : Module) : Type 0 where
  pub known : Known
  pub is_known : IsKnown (type_declared ds) known
  pub faultless : module_faults ds known ≡ []
  pub types : map Some m.types.items ≡ map (λ (t : TypeAt). t.stands) (module_types ds known)
  pub places : m.places.items ≡ map (λ (t : TypeAt). t.at) (module_types ds known)
  pub families : map family_parts m.families.items ≡ families_from 0 ds
  pub globals : map global_parts m.globals.items ≡ module_globals ds known
  pub small : All (λ t. nodes t ≤ most_nodes) m.types.items

-- a source has this fault first, with what is known of its aliases, which is one thing
pub record IsFirstFault (ds : List Declared) (f : NameFault) : Type 0 where
  pub known : Known
  pub is_known : IsKnown (type_declared ds) known
  pub first : (other : Known) → IsKnown (type_declared ds) other →
      first_fault (module_faults ds other) ≡ Some f

-- the module that a source stands for, or the first of its faults
abbrev pub IsAnswer : List Declared → Option Module → Option NameFault → Type 0
IsAnswer ds (Some m) kept = IsResolvedModule ds m
IsAnswer ds None kept = (f : NameFault) × (kept ≡ Some f) × IsFirstFault ds f

-- the parts of two modules are the same
pub record AreSame (m n : Module) : Type 0 where
  pub types : m.types.items ≡ n.types.items
  pub places : m.places.items ≡ n.places.items
  pub families : map family_parts m.families.items ≡ map family_parts n.families.items
  pub globals : map global_parts m.globals.items ≡ map global_parts n.globals.items

-- a source stands for one module at most
pub record OneModuleLaw : Type 0 where
  pub one : (ds : List Declared) (m n : Module) → IsResolvedModule ds m → IsResolvedModule ds n →
      AreSame m n
