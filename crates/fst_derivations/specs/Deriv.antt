-- Derivations without where they lie in memory.
use Rattle.std.specs.Prelude.{List, [], ◌∷◌}
use Rattle.fst_types.specs.Tree.{Tree}
use Rattle.fst_derivations.specs.declared.derivation.Derivation.{Derivation, Row', Convert', Row_of-Derivation, end_of-Derivation, more_of-Derivation}

mutual
  -- a row: the type of a term, and the derivations of its parts; a conversion: the type found, the type wanted
  pub data Deriv : Type 0 where
    row : Tree → Derivs → Deriv
    convert : Tree → Tree → Deriv → Deriv

  -- the derivations of parts in order of text
  pub data Derivs : Type 0 where
    none : Derivs
    part : Deriv → Derivs → Derivs

-- the type that a derivation gives to its term
abbrev pub type_of : Deriv → Tree
type_of (row t ds) = t
type_of (convert s t d) = t

-- one part
abbrev pub one : Deriv → Derivs
one d = part d none

-- two parts
abbrev pub two : Deriv → Deriv → Derivs
two d e = part d (one e)

-- three parts
abbrev pub three : Deriv → Deriv → Deriv → Derivs
three d e f = part d (two e f)

abbrev mutual
  -- the plain form of a derivation
  pub deriv_of : Derivation → Deriv
  deriv_of (Row' t shape parts) = row t (derivs_of parts)
  deriv_of (Convert' s t p d) = convert s t (deriv_of d)

  -- the plain forms of a row's parts
  pub derivs_of : {m : _} → Row_of-Derivation m → Derivs
  derivs_of end_of-Derivation = none
  derivs_of (more_of-Derivation d rest) = part (deriv_of d) (derivs_of rest)

-- the plain forms of some derivations
abbrev pub parts_of : List Derivation → Derivs
parts_of [] = none
parts_of (d ∷ ds) = part (deriv_of d) (parts_of ds)
