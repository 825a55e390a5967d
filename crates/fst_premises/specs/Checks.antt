-- What a check is made with, and what it finds of a term.
use Rattle.std.specs.Prelude.{◌≤◌, ℕ, List}
use Rattle.std.specs.List.{AllByRecursion}
use Rattle.fst_base.specs.Limits.{most_nodes}
use Rattle.fst_types.specs.Size.{nodes}
use Rattle.fst_types.specs.Tree.{Tree}
use Rattle.fst_terms.specs.CoreTree.{CoreTree}
use Rattle.fst_context.specs.Scope.{Scope, Variable, Takes}
use Rattle.fst_context.specs.Vars.{Vars}
use Rattle.fst_derivations.specs.Deriv.{Deriv, type_of}
use Rattle.fst_derivations.specs.Parts.{IsFormed}
use Rattle.fst_derivations.specs.Rules.{Surroundings, Row, within}

-- what a check is made with: what the terms speak of, where each type of the module is written, and the budget of a question
pub record Check : Type 0 where
  pub surroundings : Surroundings
  pub places : List ℕ
  pub budget : ℕ

-- a type within its size
abbrev pub IsInSize : Tree → Type 0
IsInSize t = nodes t ≤ most_nodes

-- so is each of these types
abbrev pub AreInSize : List Tree → Type 0
AreInSize ts = AllByRecursion IsInSize ts

-- a row of a plain derivation, of a well-formed type, where types that are compared are related by E, and each type of a term and
-- of a variable that is bound is within its size
pub record IsPlainBy (E : Tree → Tree → Type 0) (c : Check) (e : CoreTree) (g : List Variable)
    (d : Deriv) (u : Vars) : Type 0 where
  pub rule : Row c.surroundings (within IsInSize E) e g u d
  pub formed : IsFormed c.surroundings.vars (type_of d)
  pub small : IsInSize (type_of d)

-- d is such a derivation of the term, with just the linear variables that were taken between the scopes
abbrev pub IsTypedBy : (Tree → Tree → Type 0) → Check → Scope → Scope → CoreTree → Deriv → Type 0
IsTypedBy E c before after e d = Takes (IsPlainBy E c e before.variables d) before after

-- the same where no two types are compared, as of a variable; so it is one by any relation
abbrev pub IsTypedAlone : Check → Scope → Scope → CoreTree → Deriv → Type 0
IsTypedAlone = IsTypedBy (λ s t. ⊥)
