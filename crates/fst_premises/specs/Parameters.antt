-- The parameters in front of an equation.
use Rattle.std.specs.Prelude.{◌≡◌, List, [], ◌∷◌, ℕ, slice_get, Some}
use Rattle.fst_types.specs.Tree.{Tree, arrow}
use Rattle.fst_types.specs.declared.kind.Use.{Use}
use Rattle.fst_terms.specs.CoreTree.{CoreTree, lambda}
use Rattle.fst_terms.specs.declared.binder.Binder.{Binder}
use Rattle.fst_context.specs.Scope.{Scope, entered}
use Rattle.fst_derivations.specs.Parts.{HasUse}
use Rattle.fst_premises.specs.Checks.{Check, IsInSize}
use Rattle.fst_premises.specs.Scopes.{inside}
use Rattle.fst_premises.specs.declared.parameters.Parameter.{Parameter}

-- a scope with a parameter of this type and use
abbrev pub with_parameter : Binder → Tree → Use → Scope → Scope
with_parameter x t n s = entered x.name (record { type = t; uses = n }) s

-- at this type the term has this parameter in front
pub record HasParameter (c : Check) (e : CoreTree) (t : Tree) (p : Parameter) : Type 0 where
  pub at : ℕ
  pub number : ℕ
  pub term : e ≡ lambda at p.uses number p.binder.now p.body.now
  pub place : at ≡ p.binder.now.at
  pub wanted : t ≡ p.wanted.now
  pub type : t ≡ arrow p.uses p.from.now p.to.now
  pub written : slice_get c.surroundings.types number ≡ Some p.from.now

-- the parameter, whose type is within its size, is entered between the scopes
pub record IsEntered (c : Check) (p : Parameter) (before after : Scope) : Type 0 where
  pub uses : Use
  pub has : HasUse c.surroundings.vars p.from.now uses
  pub small : IsInSize p.from.now
  pub is : after ≡ with_parameter p.binder.now p.from.now uses (inside p.uses before)

-- at this type the term has these parameters in front, the first outermost, which are entered between the scopes; under them
-- is b at the type r
abbrev pub AreEntered : Check → CoreTree → Tree → Scope → List Parameter → CoreTree → Tree → Scope →
    Type 0
AreEntered c e t before [] b r after = (e ≡ b) × (t ≡ r) × (before ≡ after)
AreEntered c e t before (p ∷ ps) b r after =
    HasParameter c e t p × ((z : Scope) × IsEntered c p before z ×
    AreEntered c p.body.now p.to.now z ps b r after)
