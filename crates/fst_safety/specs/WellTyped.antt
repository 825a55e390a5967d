-- What runs need of a module: each body has its type in every closing instance, and values of data types can be printed.
use Rattle.std.specs.Prelude.{◌≡◌, ℕ, List, [], Some, slice_get}
use Rattle.std.specs.List.{AllByRecursion}
use Rattle.fst_types.specs.Tree.{Tree}
use Rattle.fst_types.specs.Instance.{instantiated}
use Rattle.fst_types.specs.declared.family.Family.{Family}
use Rattle.fst_types.specs.declared.family.Maker.{Maker}
use Rattle.fst_kinds.specs.WellFormed.{IsInstantiation}
use Rattle.fst_terms.specs.InRange.{maker_of, maker_named}
use Rattle.fst_terms.specs.declared.global.GlobalEntry.{GlobalEntry}
use Rattle.fst_derivations.specs.Parts.{IsFormed, AreAt}
use Rattle.fst_derivations.specs.Modules.{IsPrintable}
use Rattle.fst_derivations.specs.Rules.{Surroundings}
use Rattle.fst_machine.specs.Machine.{Program}
use Rattle.fst_runs.specs.Configs.{bodies}
use Rattle.fst_safety.specs.Running.{HasType}

-- the type is closed, and its values can be printed
pub record IsFieldType (t : Tree) : Type 0 where
  pub formed : IsFormed [] t
  pub printable : IsPrintable t

-- what a module with derivations gives to the terms that run
pub record IsWellTyped (m : Surroundings) : Type 0 where
  -- the body of a global has each closing instance of its signature as its type
  pub bodies_typed : (k : ℕ) (g : GlobalEntry) (t : Tree) (args : List Tree) →
      slice_get m.globals k ≡ Some g → slice_get m.types g.signature ≡ Some t →
      IsInstantiation [] g.kinds.items args → HasType m [] g.body (instantiated args t)
  -- the fields of constructors can be printed
  pub fields : (n o : ℕ) (c : Maker) (ts : List Tree) →
      maker_of (slice_get m.families n) o ≡ Some c → AreAt m.types c.fields.items ts →
      AllByRecursion IsFieldType ts
  -- a constructor is found by its name
  pub names : (n o : ℕ) (f : Family) (c : Maker) → slice_get m.families n ≡ Some f →
      slice_get f.makers.items o ≡ Some c → maker_named c.name f.makers.items ≡ Some c

-- the program of a module
abbrev pub program_in : Surroundings → Program
program_in m = record { families = m.families; bodies = bodies m.globals }
