-- The first fault of the types that stand in a module.
use Rattle.std.specs.Prelude.{◌≡◌, ℕ, List, Option, Some, MatchOption, slice_get, ⊤}
use Rattle.std.specs.List.{AllByRecursion}
use Rattle.fst_types.specs.Tree.{Tree}
use Rattle.fst_kinds.specs.Faults.{IsFirstFault}
use Rattle.fst_kinds.specs.declared.fault.KindFault.{KindFault}
use Rattle.fst_kinds.specs.declared.fault.KindFault.TheVariants as kind
use Rattle.fst_terms.specs.declared.core_module.Module.{Module}
use Rattle.fst_derivations.specs.Parts.{IsFormed}
use Rattle.fst_written.specs.First.{IsFirst}
use Rattle.fst_written.specs.Readings.{Reading, readings, begins, IsFormedReading}
use Rattle.fst_written.specs.declared.fault.WrittenFault.{WrittenFault}
use Rattle.fst_written.specs.declared.kinds.Placed.{Placed}
use Rattle.fst_written.specs.declared.fault.WrittenFault.TheVariants.{Kinds, Memory}

-- the type begins at this byte, isn't well formed over the variables in scope, and has this first fault
pub record HasFault (m : Module) (r : Reading) (at : ℕ) (fault : KindFault) : Type 0 where
  pub type : Tree
  pub is : slice_get m.types.items r.number ≡ Some type
  pub begins : slice_get m.places.items r.number ≡ Some at
  pub unformed : IsFormed r.vars type → ⊥
  pub fails : IsFirstFault r.vars type fault

-- of these types, the first in order of text that isn't well formed begins at this byte and has this fault
pub record IsFirstKindFault (m : Module) (rs : List Reading) (at : ℕ)
    (fault : KindFault) : Type 0 where
  pub reading : Reading
  pub first : IsFirst (begins m) (IsFormedReading m) rs reading
  pub fails : HasFault m reading at fault

-- the fault is that of the first type of the module, in order of text, that isn't well formed
abbrev pub IsWrittenFault : Module → WrittenFault → Type 0
IsWrittenFault m (Kinds at fault) = IsFirstKindFault m (readings m) at fault
IsWrittenFault m Memory = ⊤

-- these types are well formed, or the first in order of text that isn't has this fault
abbrev pub IsLeast : Module → List Reading → Option Placed → Type 0
IsLeast m rs found = MatchOption found (AllByRecursion (IsFormedReading m) rs)
    (λ p. IsFirstKindFault m rs p.at p.fault)

-- a fault that a written type of a module may have: its variables are bound
abbrev pub IsWrittenKindFault : KindFault → Type 0
IsWrittenKindFault kind.NotContractive = ⊤
IsWrittenKindFault (kind.WrongKind got wanted) = ⊤
IsWrittenKindFault (kind.UnboundType k) = ⊥
IsWrittenKindFault (kind.DoubleLabel l) = ⊤
IsWrittenKindFault kind.Memory = ⊥

-- the same of what the check of written types finds
abbrev pub IsTold : WrittenFault → Type 0
IsTold (Kinds at fault) = IsWrittenKindFault fault
IsTold Memory = ⊤
