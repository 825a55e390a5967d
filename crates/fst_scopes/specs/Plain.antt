-- What each type of a module or a question is.
use Rattle.std.specs.Prelude.{◌≡◌, ℕ, List, Some}
use Rattle.fst_types.specs.Tree.{Tree}
use Rattle.fst_types.specs.Named.{IsNamedWithin}
use Rattle.fst_types.specs.Order.{IsSorted}
use Rattle.fst_types.specs.Scoped.{IsScoped}
use Rattle.fst_types.specs.Variables.{HasVariablesBelow}
use Rattle.fst_terms.specs.Naming.{Scope}

-- a type with so many binders around and so many data types, whose branches stand in order
pub record IsPlain (families n : ℕ) (t : Tree) : Type 0 where
  pub scoped : IsScoped n t
  pub sorted : IsSorted t
  pub named : IsNamedWithin families t

-- what is declared stands for types that no binder around reaches, with branches in order, and with these data types
pub record AllPlain (families : ℕ) (s : Scope) : Type 0 where
  pub declared : (x : List ℕ) (t : Tree) → s.declared x ≡ Some (Some t) → IsPlain families 0 t
  pub otherwise : (t : Tree) → s.otherwise ≡ Some t → IsPlain families 0 t

-- what is declared stands for types without variables of a signature
pub record DeclaresClosed (s : Scope) : Type 0 where
  pub declared : (x : List ℕ) (t : Tree) → s.declared x ≡ Some (Some t) → HasVariablesBelow 0 t
  pub otherwise : (t : Tree) → s.otherwise ≡ Some t → HasVariablesBelow 0 t
