-- Which modules are accepted, with which derivations, and why a module is refused.
use Rattle.std.specs.Prelude.{◌≡◌, ◌⊎◌, ◌<◌, ℕ, ⊤, true, List, [], length, Option, None, Some, slice_get, codes}
use Rattle.std.specs.List.{AllByRecursion}
use Rattle.std.specs.Str.{bytes_eq}
use Rattle.fst_types.specs.Tree.{Tree}
use Rattle.fst_types.specs.declared.kind.Kind.{Kind}
use Rattle.fst_kinds.specs.declared.fault.KindFault.{KindFault}
use Rattle.fst_terms.specs.declared.core_module.Module.{Module}
use Rattle.fst_terms.specs.declared.global.GlobalEntry.{GlobalEntry}
use Rattle.fst_context.specs.Scope.{empty}
use Rattle.fst_context.specs.Vars.{no_vars}
use Rattle.fst_equiv.specs.Comparison.{IsComparison, IsTooLargeComparison}
use Rattle.fst_equiv.specs.declared.comparing.Same.TheVariants.{Undecided}
use Rattle.fst_derivations.specs.Deriv.{Deriv}
use Rattle.fst_derivations.specs.Parts.{IsConversion}
use Rattle.fst_derivations.specs.Rules.{Mode, within}
use Rattle.fst_derivations.specs.Modules.{surroundings, family_types, AreFamiliesPrintable, ArePlainlyDerived, AreTypesFormed, Equation, HasMain, HasPlainDerivations, IsMain, IsPrintable}
use Rattle.fst_written.specs.Faults.{IsFirstKindFault, IsWrittenKindFault}
use Rattle.fst_written.specs.First.{IsFirst}
use Rattle.fst_written.specs.Printable.{IsFirstUnprintable}
use Rattle.fst_written.specs.Readings.{readings}
use Rattle.fst_premises.specs.Checks.{Check, IsInSize}
use Rattle.fst_typing.specs.Typed.{checking}
use Rattle.fst_premises.specs.Shown.{IsShown}
use Rattle.fst_typing.specs.Equations.{ShowsEquation}
use Rattle.fst_premises.specs.declared.fault.CheckFault.{CheckFault}
use Rattle.fst_typing.specs.declared.globals.Refused.{Refused}
use Rattle.fst_premises.specs.declared.fault.CheckFault.TheVariants.{Kinds, NotPrintable, TypeArguments}

-- what an equation is checked with, in a module, over variables of these kinds
abbrev pub check_over : Module → ℕ → List Kind → Check
check_over m budget vars = record {
  surroundings = surroundings m vars;
  places = m.places.items;
  budget = budget;
}

-- how the check of a module makes plain derivations over such variables
abbrev pub checking_over : Module → ℕ → List Kind → Mode
checking_over m budget vars = checking (check_over m budget vars)

-- the global is named main
abbrev pub IsNamedMain : GlobalEntry → Type 0
IsNamedMain g = bytes_eq g.name (codes "main") ≡ true

-- the equation has this plain derivation at its signature
abbrev pub IsEquationDerived : Module → ℕ → GlobalEntry → Deriv → Type 0
IsEquationDerived m budget g d =
    (t : Tree) × (slice_get m.types.items g.signature ≡ Some t) ×
    Equation (surroundings m g.kinds.items)
    (checking_over m budget g.kinds.items) g.body t [] no_vars d

-- the equation has a plain derivation, and main has no variables and a printable type
pub record IsGlobalAccepted (m : Module) (budget : ℕ) (g : GlobalEntry) : Type 0 where
  pub main : IsNamedMain g → IsMain m.types.items g
  pub derivation : Deriv
  pub derived : IsEquationDerived m budget g derivation

-- the module is accepted with these plain derivations, in which each type is within its size and all questions are answered within
-- the budget
abbrev pub IsAccepted : Module → ℕ → List Deriv → Type 0
IsAccepted m budget ds = HasPlainDerivations m (checking_over m budget) ds

-- two equal types whose question is neither left undecided within the budget nor too large
pub record IsAnswered (vars : List Kind) (budget : ℕ) (found wanted : Tree) : Type 0 where
  pub conversion : IsConversion vars found wanted
  pub decided : (g : _) (pairs : _) → IsComparison found wanted budget (Undecided g pairs) → ⊥
  pub fits : IsTooLargeComparison found wanted budget → ⊥

-- the module has these plain derivations, and their types and questions are within the limits
abbrev pub HasDerivationsWithin : Module → ℕ → List Deriv → Type 0
HasDerivationsWithin m budget ds = HasPlainDerivations m
    (λ vars. within IsInSize (IsAnswered vars budget)) ds

-- main has variables, or a type whose values can't be printed
abbrev pub ShowsMain : Module → GlobalEntry → CheckFault → Type 0
ShowsMain m g f =
    ((g.kinds.items ≡ [] → ⊥) × (f ≡ TypeArguments g.signature_at (length g.kinds.items) 0))
    ⊎ ((g.kinds.items ≡ []) × ((t : Tree) × (slice_get m.types.items g.signature ≡ Some t) ×
    (IsPrintable t → ⊥) × (f ≡ NotPrintable g.signature_at t)))

-- a global is refused: it is main, and that is no type for it, or its equation is refused
abbrev pub ShowsGlobal : Module → ℕ → GlobalEntry → CheckFault → Type 0
ShowsGlobal m budget g f =
    (IsNamedMain g × ShowsMain m g f)
    ⊎ ((IsNamedMain g → IsMain m.types.items g) ×
    ((t : Tree) × (slice_get m.types.items g.signature ≡ Some t) ×
    ShowsEquation (check_over m budget g.kinds.items) g.body t empty f))

-- the module is refused, for the first of these in order: a written type that isn't well formed, a field that can't be
-- printed, a global that is refused, where each global is accepted whose equation begins before this one's, or begins where
-- it does and stands before it
pub data IsRefusal (m : Module) (budget : ℕ) (f : CheckFault) : Type 0 where
  kinds : (at : ℕ) (fault : KindFault) → IsFirstKindFault m (readings m) at fault →
      IsWrittenKindFault fault → f ≡ Kinds at fault → IsRefusal m budget f
  field : (k at : ℕ) (t : Tree) → AreTypesFormed m →
      IsFirstUnprintable m (family_types m.families.items) k →
      slice_get m.places.items k ≡ Some at → slice_get m.types.items k ≡ Some t →
      f ≡ NotPrintable at t → IsRefusal m budget f
  equation : (g : GlobalEntry) → AreTypesFormed m →
      AreFamiliesPrintable m.types.items m.families.items →
      IsFirst (λ (h : GlobalEntry). h.at) (IsGlobalAccepted m budget) m.globals.items g →
      ShowsGlobal m budget g f → IsRefusal m budget f

-- ---- while the equations are looked at

-- what was found of some globals: their derivations, or the refusal of one among them, where each of them is accepted whose
-- equation begins before this one's, or begins where it does and stands before it
unfoldable pub IsFoundOf : Module → ℕ → List GlobalEntry → List Deriv → Option Refused → Type 0
IsFoundOf m budget gs ds None =
    ArePlainlyDerived m (checking_over m budget) gs ds × HasMain m.types.items gs ×
    AllByRecursion (IsGlobalAccepted m budget) gs
IsFoundOf m budget gs ds (Some r) =
    (g : GlobalEntry) × IsFirst (λ (h : GlobalEntry). h.at) (IsGlobalAccepted m budget) gs g ×
    (r.at ≡ g.at) × IsShown r.fault (ShowsGlobal m budget g r.fault)

-- the equation of the global begins before that of the refused one
abbrev pub IsEarlier : Option Refused → GlobalEntry → Type 0
IsEarlier None g = ⊤
IsEarlier (Some r) g = g.at < r.at
