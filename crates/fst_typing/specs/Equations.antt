-- The plain derivation of an equation, and why an equation is refused.
use Rattle.std.specs.Prelude.{◌≡◌, ℕ, false}
use Rattle.fst_types.specs.Tree.{Tree}
use Rattle.fst_types.specs.declared.kind.Use.{Use}
use Rattle.fst_terms.specs.CoreTree.{CoreTree, lambda}
use Rattle.fst_terms.specs.declared.binder.Binder.{Binder}
use Rattle.fst_context.specs.Scope.{Scope, at_or_not, left, Takes}
use Rattle.fst_derivations.specs.Deriv.{Deriv}
use Rattle.fst_derivations.specs.Parts.{HasUse}
use Rattle.fst_derivations.specs.Modules.{Equation, HasNoParameter, IsParameter}
use Rattle.fst_premises.specs.Checks.{Check, IsInSize}
use Rattle.fst_typing.specs.Typed.{checking}
use Rattle.fst_premises.specs.Scopes.{inside}
use Rattle.fst_premises.specs.Shown.{IsTooLargeAt, IsUnused, place}
use Rattle.fst_typing.specs.Shown.{First, IsUnequal, Shows}
use Rattle.fst_premises.specs.Parameters.{with_parameter}
use Rattle.fst_premises.specs.declared.fault.CheckFault.{CheckFault}

-- d is the plain derivation of the equation at this type, with just the linear variables that were taken between the scopes
abbrev pub IsEquationTyped : Check → Tree → Scope → Scope → CoreTree → Deriv → Type 0
IsEquationTyped c t before after e d = Takes
    (λ u. Equation c.surroundings (checking c) e t before.variables u d) before after

-- the term is refused, or its type isn't this one
abbrev pub ShowsResult : Check → CoreTree → Tree → Scope → CheckFault → Type 0
ShowsResult c e t s f = First c e s (Shows c e s f) (λ z u. IsUnequal c (place e) u t f)

-- what is under a parameter has its plain derivation, and doesn't use the parameter
pub record LeavesUnused (c : Check) (x : Binder) (t : Tree) (s : Scope) (e : CoreTree)
    (f : CheckFault) : Type 0 where
  pub scope : Scope
  pub derivation : Deriv
  pub typed : IsEquationTyped c t s scope e derivation
  pub unused : IsUnused scope 0 x f

-- an equation is refused at this type
pub data ShowsEquation (c : Check) : CoreTree → Tree → Scope → CheckFault → Type 0 where
  -- its first parameter's type is over its size
  large : {at k : ℕ} {uses : Use} {x : Binder} {e : CoreTree} {t : Tree} {s : Scope}
      {f : CheckFault} →
      (p : IsParameter c.surroundings.types at uses k x t) → IsTooLargeAt x.at p.from f →
      ShowsEquation c (lambda at uses k x e) t s f
  -- what is under the parameter is refused
  inner : {at k : ℕ} {uses n : Use} {x : Binder} {e : CoreTree} {t : Tree} {s : Scope}
      {f : CheckFault} →
      (p : IsParameter c.surroundings.types at uses k x t) → IsInSize p.from →
      HasUse c.surroundings.vars p.from n →
      ShowsEquation c e p.to (with_parameter x p.from n (inside uses s)) f →
      ShowsEquation c (lambda at uses k x e) t s f
  -- it doesn't use the parameter
  unused : {at k : ℕ} {uses n : Use} {x : Binder} {e : CoreTree} {t : Tree} {s : Scope}
      {f : CheckFault} →
      (p : IsParameter c.surroundings.types at uses k x t) → IsInSize p.from →
      HasUse c.surroundings.vars p.from n →
      LeavesUnused c x p.to (with_parameter x p.from n (inside uses s)) e f →
      ShowsEquation c (lambda at uses k x e) t s f
  -- the term under all parameters is refused, or its type isn't the result's
  result : {e : CoreTree} {t : Tree} {s : Scope} {f : CheckFault} →
      HasNoParameter c.surroundings.types e t → ShowsResult c e t s f → ShowsEquation c e t s f

-- d is the derivation of what is under a parameter of the first type, within its size, which is used
pub record IsParameterTyped (c : Check) (x : Binder) (from to : Tree) (before after : Scope)
    (e : CoreTree) (d : Deriv) : Type 0 where
  pub uses : Use
  pub has : HasUse c.surroundings.vars from uses
  pub small : IsInSize from
  pub inner : Scope
  pub typed : IsEquationTyped c to (with_parameter x from uses before) inner e d
  pub used : at_or_not inner.there 0 ≡ false
  pub left : after ≡ left inner
