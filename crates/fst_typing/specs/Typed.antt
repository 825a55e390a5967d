-- What the checker finds.
use Rattle.std.specs.Prelude.{◌≡◌, List, length}
use Rattle.fst_types.specs.Tree.{Tree}
use Rattle.fst_terms.specs.CoreTree.{CoreTree, CoreList}
use Rattle.fst_terms.specs.declared.binder.Binder.{Binder}
use Rattle.fst_context.specs.Scope.{Scope, Variable, Takes}
use Rattle.fst_context.specs.Vars.{Vars}
use Rattle.fst_equiv.specs.Comparison.{IsComparison}
use Rattle.fst_equiv.specs.declared.comparing.Same.TheVariants as same
use Rattle.fst_derivations.specs.Deriv.{Deriv, Derivs}
use Rattle.fst_derivations.specs.Parts.{IsConversion, AreVariables}
use Rattle.fst_derivations.specs.Rules.{Mode, within, Fields}
use Rattle.fst_premises.specs.Checks.{Check, IsInSize, AreInSize, IsPlainBy, IsTypedBy}
use Rattle.fst_premises.specs.Scopes.{entered_all, left_all, AreUsed}

-- two well-formed types that are equal, which is found within the budget
pub record IsKnown (c : Check) (found wanted : Tree) : Type 0 where
  pub conversion : IsConversion c.surroundings.vars found wanted
  pub yes : IsComparison found wanted c.budget same.Yes

-- how a check makes plain derivations: each type is within its size, and those that are compared are known to be equal
abbrev pub checking : Check → Mode
checking c = within IsInSize (IsKnown c)

-- a row of such a derivation, of a well-formed type
abbrev pub IsPlain : Check → CoreTree → List Variable → Deriv → Vars → Type 0
IsPlain c = IsPlainBy (IsKnown c) c

-- d is the plain derivation of the term, with just the linear variables that were taken between the scopes
abbrev pub IsTyped : Check → Scope → Scope → CoreTree → Deriv → Type 0
IsTyped c = IsTypedBy (IsKnown c) c

-- ds are the plain derivations of a constructor's arguments at the types of its fields
abbrev pub AreFieldsTyped : Check → CoreList → List Tree → Scope → Scope → Derivs → Type 0
AreFieldsTyped c es ts before after ds = Takes
    (λ u. Fields c.surroundings (checking c) es ts before.variables u ds) before after

-- d is the plain derivation of the term under these names, whose variables have these types, within their size, and are used
pub record IsTypedUnder (c : Check) (xs : List Binder) (ts : List Tree) (before after : Scope)
    (e : CoreTree) (d : Deriv) : Type 0 where
  pub variables : List Variable
  pub types : AreVariables c.surroundings.vars ts variables
  pub small : AreInSize ts
  pub long : length xs ≡ length variables
  pub inner : Scope
  pub typed : IsTyped c (entered_all xs variables before) inner e d
  pub used : AreUsed (length xs) inner
  pub left : after ≡ left_all (length xs) inner
