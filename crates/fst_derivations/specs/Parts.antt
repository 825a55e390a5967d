-- What the rules ask of types, of variables and of arms.
use Rattle.std.specs.Prelude.{◌≡◌, ◌⊎◌, ℕ, List, [], ◌∷◌, map, slice_get, Some, ⊤}
use Rattle.fst_types.specs.Tree.{Tree, plain}
use Rattle.fst_types.specs.declared.base.Base.TheVariants.{Int, Char}
use Rattle.fst_types.specs.declared.kind.Kind.{Kind}
use Rattle.fst_types.specs.declared.kind.Use.{Use}
use Rattle.fst_types.specs.declared.label.Label.TheVariants.{Offer}
use Rattle.fst_kinds.specs.WellFormed.{IsWellFormed}
use Rattle.fst_lts.specs.Step.{labels}
use Rattle.fst_lts.specs.Equal.{IsEqual}
use Rattle.fst_context.specs.Scope.{Variable, is_once}
use Rattle.fst_context.specs.Vars.{Vars, under}

-- the type is well formed over the variables of a signature
abbrev pub IsFormed : List Kind → Tree → Type 0
IsFormed vars t = (k : Kind) × IsWellFormed vars t k

-- the type is well formed, and its values may be used so often
pub record HasUse (vars : List Kind) (t : Tree) (uses : Use) : Type 0 where
  pub kind : Kind
  pub formed : IsWellFormed vars t kind
  pub is : kind.uses ≡ uses

-- two well-formed types, of which a derivation of the one is turned into one of the other where they are equal
pub record IsConversion (vars : List Kind) (found wanted : Tree) : Type 0 where
  pub left : IsFormed vars found
  pub right : IsFormed vars wanted
  pub equal : IsEqual vars found wanted

-- two well-formed types, equal or not
pub record IsAnyConversion (vars : List Kind) (found wanted : Tree) : Type 0 where
  pub left : IsFormed vars found
  pub right : IsFormed vars wanted

-- the types with these numbers
abbrev pub AreAt : List Tree → List ℕ → List Tree → Type 0
AreAt types [] [] = ⊤
AreAt types [] (t ∷ ts) = ⊥
AreAt types (k ∷ ks) [] = ⊥
AreAt types (k ∷ ks) (t ∷ ts) = (slice_get types k ≡ Some t) × AreAt types ks ts

-- variables of these types, in order
abbrev pub AreVariables : List Kind → List Tree → List Variable → Type 0
AreVariables vars [] [] = ⊤
AreVariables vars [] (v ∷ vs) = ⊥
AreVariables vars (t ∷ ts) [] = ⊥
AreVariables vars (t ∷ ts) (v ∷ vs) = (v.type ≡ t) × HasUse vars t v.uses × AreVariables vars ts vs

-- a context with these variables entered, the last innermost
abbrev pub enter_all : List Variable → List Variable → List Variable
enter_all [] g = g
enter_all (v ∷ vs) g = enter_all vs (v ∷ g)

-- the set inside these variables, with those that are linear
abbrev pub under_all : List Variable → Vars → Vars
under_all [] u = u
under_all (v ∷ vs) u = under_all vs (under (is_once v.uses) u)

-- the type moves by these labels of an offered choice, of which there is one at least, and by no other
pub record IsOffering (t : Tree) (names : List (List ℕ)) : Type 0 where
  pub labels : labels t ≡ map Offer names
  pub some : names ≡ [] → ⊥

-- the types that are compared by their order
abbrev pub IsComparable : Tree → Type 0
IsComparable t = (t ≡ plain Int) ⊎ (t ≡ plain Char)
