-- Well-formed types, and types that may be put for the variables of a signature.
use Rattle.std.specs.Prelude.{◌≡◌, List, [], ◌∷◌, true, ⊤}
use Rattle.fst_types.specs.Tree.{Tree}
use Rattle.fst_types.specs.Scoped.{IsScoped}
use Rattle.fst_types.specs.Order.{IsOrdered}
use Rattle.fst_types.specs.declared.kind.Kind.{Kind}
use Rattle.fst_types.specs.declared.kind.Use.{Use}
use Rattle.fst_kinds.specs.Kinds.{HasKind, session, subkind}
use Rattle.fst_kinds.specs.Contractive.{IsContractive}

-- the type has this kind and is contractive; no recursion variable is free, and each choice has its branches in byte order, no label twice
pub record IsWellFormed (vars : List Kind) (t : Tree) (k : Kind) : Type 0 where
  pub kinded : HasKind vars t k
  pub contractive : IsContractive t
  pub scoped : IsScoped 0 t
  pub ordered : IsOrdered t

-- a well-formed session type: its kind is below 1S
abbrev pub IsSession : List Kind → Tree → Type 0
IsSession vars t = (u : Use) × IsWellFormed vars t (session u)

-- the type is well formed, of a kind below k; outer has the kinds of the variables that it may hold
pub record IsInstance (outer : List Kind) (k : Kind) (t : Tree) : Type 0 where
  pub kind : Kind
  pub well_formed : IsWellFormed outer t kind
  pub below : subkind kind k ≡ true

-- an instantiation gives each variable a well-formed type whose kind is below the variable's; outer has the kinds of the variables that these types may hold
abbrev pub IsInstantiation : List Kind → List Kind → List Tree → Type 0
IsInstantiation outer [] [] = ⊤
IsInstantiation outer [] (t ∷ ts) = ⊥
IsInstantiation outer (k ∷ vars) [] = ⊥
IsInstantiation outer (k ∷ vars) (t ∷ ts) = IsInstance outer k t × IsInstantiation outer vars ts

-- a closing instantiation gives each variable a closed type
abbrev pub IsClosing : List Kind → List Tree → Type 0
IsClosing vars args = IsInstantiation [] vars args
