-- The faults of names and sizes that a type has.
use Rattle.std.specs.Prelude.{ℕ, Bool, List, [], ◌∷◌, ◌++◌, nat_lt, Option, Some, None, if◌then◌else◌}
use Rattle.fst_base.specs.Limits.{most_nodes}
use Rattle.fst_types.specs.Size.{nodes}
use Rattle.fst_types.specs.Tree.{Tree}
use Rattle.fst_types.specs.WrittenTree.{WrittenTree, WrittenBranches, skip, send, receive, close, wait, select, offer, seq, rec, named, plain, arrow, pair, none, branch}
use Rattle.fst_terms.specs.Naming.{Scope, within, standing, place_of, is_there, place, type_of}
use Rattle.fst_scopes.specs.declared.fault.NameFault.{NameFault}
use Rattle.fst_scopes.specs.declared.fault.NameFault.TheVariants.{Unbound, TooLarge}

-- a name is among others
abbrev pub is_among : List (List ℕ) → List ℕ → Bool
is_among others x = is_there (place_of others x)

-- a name at its place, unless it is in scope
abbrev pub unless_there : {A : Type 0} → ℕ → List ℕ → Option A → List NameFault
unless_there at x (Some t) = []
unless_there at x None = Unbound at x ∷ []

abbrev mutual
  -- the names in a type that aren't in scope, in order of text
  pub unbound : Scope → WrittenTree → List NameFault
  unbound s (skip at) = []
  unbound s (send at b) = []
  unbound s (receive at b) = []
  unbound s (close at) = []
  unbound s (wait at) = []
  unbound s (select at bs) = unbound_in s bs
  unbound s (offer at bs) = unbound_in s bs
  unbound s (seq at t u) = unbound s t ++ unbound s u
  unbound s (rec at x t) = unbound (within x s) t
  unbound s (named at x) = unless_there at x (standing s x)
  unbound s (plain at b) = []
  unbound s (arrow at uses t u) = unbound s t ++ unbound s u
  unbound s (pair at t u) = unbound s t ++ unbound s u

  -- those in some branches
  pub unbound_in : Scope → WrittenBranches → List NameFault
  unbound_in s none = []
  unbound_in s (branch l t bs) = unbound s t ++ unbound_in s bs

-- that a type at this place has more nodes than a type may have
abbrev pub too_large : ℕ → Option Tree → List NameFault
too_large at (Some t) = if nat_lt most_nodes (nodes t) then TooLarge at ∷ [] else []
too_large at None = []

-- the faults of a type
abbrev pub type_faults : Scope → WrittenTree → List NameFault
type_faults s w = unbound s w ++ too_large (place w) (type_of s w)
