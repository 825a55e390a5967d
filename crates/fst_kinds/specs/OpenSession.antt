-- Session types with free recursion variables, and what session types are put for them.
use Rattle.std.specs.Prelude.{◌≡◌, ◌≤◌, ℕ, zero, suc, List, [], ◌∷◌, length, true, Option, IfSome, ⊤}
use Rattle.fst_types.specs.Tree.{Tree}
use Rattle.fst_types.specs.declared.kind.Kind.{Kind}
use Rattle.fst_types.specs.Order.{IsOrdered}
use Rattle.fst_types.specs.Scoped.{IsScoped}
use Rattle.fst_types.specs.Substitution.{EnvHas, AllClosed}
use Rattle.fst_kinds.specs.Kinds.{HasSessionKind}
use Rattle.fst_kinds.specs.Contractive.{guards, IsContractive}
use Rattle.fst_kinds.specs.WellFormed.{IsSession}

-- as a well-formed session type, but for n recursion variables that may be free
pub record IsOpenSession (vars : List Kind) (n : ℕ) (s : Tree) : Type 0 where
  pub kinded : HasSessionKind vars s
  pub contractive : IsContractive s
  pub scoped : IsScoped n s
  pub ordered : IsOrdered s

-- what the first n binders stand for guards
abbrev pub GuardsTo : ℕ → List (Option Tree) → Type 0
GuardsTo zero env = ⊤
GuardsTo (suc n) [] = ⊤
GuardsTo (suc n) (o ∷ env) = IfSome o (λ t. guards t ≡ true) × GuardsTo n env

-- each binder stands for a session type, and each of the first n for one that guards
pub record IsPut (vars : List Kind) (n : ℕ) (env : List (Option Tree)) : Type 0 where
  pub closed : AllClosed env
  pub sessions : EnvHas (IsSession vars) env
  pub enough : n ≤ length env
  pub guarded : GuardsTo n env
