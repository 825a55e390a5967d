-- The faults of names and sizes that a term has.
use Rattle.std.specs.Prelude.{ℕ, suc, List, [], ◌∷◌, ◌++◌, length, reverse, Option, Some, None, ◌==◌, if◌then◌else◌}
use Rattle.fst_types.specs.WrittenTree.{WrittenTree}
use Rattle.fst_terms.specs.declared.binder.Binder.{Binder}
use Rattle.fst_terms.specs.Naming.{Scope, place_of, or_else}
use Rattle.fst_terms.specs.TermTree.{TermTree, named, int, bool, char, unit, pair, make, lambda, apply, let_in, split, if_else, case_of, operate, negate, new, send, receive, close, wait, select, match_with, fork, seq, TermList, no_terms, term, TermArms, no_arms, arm}
use Rattle.fst_scopes.specs.declared.fault.NameFault.{NameFault}
use Rattle.fst_scopes.specs.declared.fault.NameFault.TheVariants.{Unbound, Arity}
use Rattle.fst_scopes.specs.Faults.{unless_there, type_faults}
use Rattle.fst_scopes.specs.Twice.{names}

-- what is in scope in an equation: the globals, the constructors with the numbers of their fields, and the types, with the
-- variables of its signature and, where a channel is made, without any
pub record Surroundings : Type 0 where
  pub globals : List (List ℕ)
  pub makers : List ℕ → Option ℕ
  pub types : Scope
  pub closed : Scope

-- the faults of some types
abbrev pub types_faults : Scope → List WrittenTree → List NameFault
types_faults s [] = []
types_faults s (t ∷ ts) = type_faults s t ++ types_faults s ts

-- a name in a term is that of a variable around it, innermost first, or of a global; before `@` it is that of a global
abbrev pub name_faults : List (List ℕ) → List (List ℕ) → ℕ → List ℕ → List WrittenTree →
    List NameFault
name_faults locals globals at x [] =
    unless_there at x (or_else (place_of locals x) (place_of globals x))
name_faults locals globals at x (t ∷ ts) = unless_there at x (place_of globals x)

-- a constructor, or its pattern, has as many parts as the constructor has fields
abbrev pub maker_faults : ℕ → List ℕ → ℕ → Option ℕ → List NameFault
maker_faults at x got None = Unbound at x ∷ []
maker_faults at x got (Some wanted) = if got == wanted then [] else Arity at got wanted ∷ []

-- how many terms there are
abbrev pub terms_length : TermList → ℕ
terms_length no_terms = 0
terms_length (term t ts) = suc (terms_length ts)

-- the names of binders, of which later ones hide earlier ones, in front of those around
abbrev pub within : List Binder → List (List ℕ) → List (List ℕ)
within bs locals = reverse (names bs) ++ locals

abbrev mutual
  -- the faults of a term under these variables, the innermost first, in order of text
  pub term_faults : Surroundings → List (List ℕ) → TermTree → List NameFault
  term_faults s xs (named at x ts) = name_faults xs s.globals at x ts ++ types_faults s.types ts
  term_faults s xs (int at n) = []
  term_faults s xs (bool at b) = []
  term_faults s xs (char at c) = []
  term_faults s xs (unit at) = []
  term_faults s xs (pair at t u) = term_faults s xs t ++ term_faults s xs u
  term_faults s xs (make at x ts) = maker_faults at x (terms_length ts)
      (s.makers x) ++ terms_faults s xs ts
  term_faults s xs (lambda at u a x t) = type_faults s.types a ++ term_faults s (x.name ∷ xs) t
  term_faults s xs (apply at t u) = term_faults s xs t ++ term_faults s xs u
  term_faults s xs (let_in at x t u) = term_faults s xs t ++ term_faults s (x.name ∷ xs) u
  term_faults s xs (split at x y t u) = term_faults s xs t ++ term_faults s (y.name ∷ x.name ∷ xs) u
  term_faults s xs (if_else at t u v) =
      term_faults s xs t ++ (term_faults s xs u ++ term_faults s xs v)
  term_faults s xs (case_of at t bs) = term_faults s xs t ++ cases_faults s xs bs
  term_faults s xs (operate at o t u) = term_faults s xs t ++ term_faults s xs u
  term_faults s xs (negate at t) = term_faults s xs t
  term_faults s xs (new at a) = type_faults s.closed a
  term_faults s xs (send at t u) = term_faults s xs t ++ term_faults s xs u
  term_faults s xs (receive at t) = term_faults s xs t
  term_faults s xs (close at t) = term_faults s xs t
  term_faults s xs (wait at t) = term_faults s xs t
  term_faults s xs (select at l t) = term_faults s xs t
  term_faults s xs (match_with at t bs) = term_faults s xs t ++ matches_faults s xs bs
  term_faults s xs (fork at t) = term_faults s xs t
  term_faults s xs (seq at t u) = term_faults s xs t ++ term_faults s xs u

  -- those of some terms
  pub terms_faults : Surroundings → List (List ℕ) → TermList → List NameFault
  terms_faults s xs no_terms = []
  terms_faults s xs (term t ts) = term_faults s xs t ++ terms_faults s xs ts

  -- those of the arms of a `case`
  pub cases_faults : Surroundings → List (List ℕ) → TermArms → List NameFault
  cases_faults s xs no_arms = []
  cases_faults s xs (arm l bs t arms) =
      maker_faults l.at l.name (length bs)
      (s.makers l.name) ++ (term_faults s (within bs xs) t ++ cases_faults s xs arms)

  -- those of the arms of a `match`, whose labels are no names
  pub matches_faults : Surroundings → List (List ℕ) → TermArms → List NameFault
  matches_faults s xs no_arms = []
  matches_faults s xs (arm l bs t arms) = term_faults s (within bs xs) t ++ matches_faults s xs arms
