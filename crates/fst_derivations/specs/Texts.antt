-- Which types can be written as texts.
use Rattle.std.specs.Prelude.{ℕ, List, ⊤}
use Rattle.std.specs.List.{AllByRecursion}
use Rattle.fst_types.specs.Tree.{Tree}
use Rattle.fst_types.specs.Named.{IsNamedWithin}
use Rattle.fst_types.specs.Scoped.{IsScoped}
use Rattle.fst_context.specs.Scope.{Variable}
use Rattle.fst_derivations.specs.Rules.{Binding, fields, rest}

-- no recursion variable is free in the type, and each data type that it names is one of the first n
pub record HasText (n : ℕ) (t : Tree) : Type 0 where
  pub scoped : IsScoped 0 t
  pub named : IsNamedWithin n t

-- so it is with each of these types
abbrev pub AllHaveText : ℕ → List Tree → Type 0
AllHaveText n ts = AllByRecursion (HasText n) ts

-- and with the type of each of these variables
abbrev pub VariablesHaveText : ℕ → List Variable → Type 0
VariablesHaveText n vs = AllByRecursion (λ (v : Variable). HasText n v.type) vs

-- and with the type whose rest the variables of arms hold
abbrev pub BindingHasText : ℕ → Binding → Type 0
BindingHasText n (fields makers) = ⊤
BindingHasText n (rest t) = HasText n t
