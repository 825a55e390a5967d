-- The types that are written in a term.
use Rattle.std.specs.Prelude.{ℕ, List, [], ◌∷◌, ◌++◌, map, Option}
use Rattle.fst_types.specs.Tree.{Tree}
use Rattle.fst_types.specs.WrittenTree.{WrittenTree}
use Rattle.fst_terms.specs.Naming as naming
use Rattle.fst_terms.specs.Naming.{type_of}
use Rattle.fst_terms.specs.TermTree.{TermTree, named, int, bool, char, unit, pair, make, lambda, apply, let_in, split, if_else, case_of, operate, negate, new, send, receive, close, wait, select, match_with, fork, seq, TermList, no_terms, term, TermArms, no_arms, arm}
use Rattle.fst_term_faults.specs.TermFaults.{Surroundings}

-- a type in a term, which may have the variables of the signature in it, or none, where a channel is made
pub data TypeUse : Type 0 where
  with_variables : WrittenTree → TypeUse
  without : WrittenTree → TypeUse

abbrev mutual
  -- the types in a term, in order of text
  pub written_in : TermTree → List TypeUse
  written_in (named at x ts) = map with_variables ts
  written_in (int at n) = []
  written_in (bool at b) = []
  written_in (char at c) = []
  written_in (unit at) = []
  written_in (pair at t u) = written_in t ++ written_in u
  written_in (make at x ts) = written_in_all ts
  written_in (lambda at u a x t) = with_variables a ∷ written_in t
  written_in (apply at t u) = written_in t ++ written_in u
  written_in (let_in at x t u) = written_in t ++ written_in u
  written_in (split at x y t u) = written_in t ++ written_in u
  written_in (if_else at t u v) = written_in t ++ (written_in u ++ written_in v)
  written_in (case_of at t bs) = written_in t ++ written_in_arms bs
  written_in (operate at o t u) = written_in t ++ written_in u
  written_in (negate at t) = written_in t
  written_in (new at a) = without a ∷ []
  written_in (send at t u) = written_in t ++ written_in u
  written_in (receive at t) = written_in t
  written_in (close at t) = written_in t
  written_in (wait at t) = written_in t
  written_in (select at l t) = written_in t
  written_in (match_with at t bs) = written_in t ++ written_in_arms bs
  written_in (fork at t) = written_in t
  written_in (seq at t u) = written_in t ++ written_in u

  -- those in some terms
  pub written_in_all : TermList → List TypeUse
  written_in_all no_terms = []
  written_in_all (term t ts) = written_in t ++ written_in_all ts

  -- those in some arms
  pub written_in_arms : TermArms → List TypeUse
  written_in_arms no_arms = []
  written_in_arms (arm l bs t arms) = written_in t ++ written_in_arms arms

-- what a type in a term stands for
abbrev pub tree_of : Surroundings → TypeUse → Option Tree
tree_of s (with_variables w) = type_of s.types w
tree_of s (without w) = type_of s.closed w

-- the byte at which it begins
abbrev pub begins_at : TypeUse → ℕ
begins_at (with_variables w) = naming.place w
begins_at (without w) = naming.place w
