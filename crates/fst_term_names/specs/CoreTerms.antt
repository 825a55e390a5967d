-- Terms with numbers in place of names.
use Rattle.std.specs.Prelude.{ℕ, suc, ◌+◌, List, [], ◌∷◌, length, unwrap_or, Option, Some, None}
use Rattle.fst_types.specs.WrittenTree.{WrittenTree}
use Rattle.fst_terms.specs.CoreTree as core
use Rattle.fst_terms.specs.CoreTree.{CoreTree, CoreList, CoreArms}
use Rattle.fst_terms.specs.Naming.{place_of}
use Rattle.fst_terms.specs.TermTree.{TermTree, named, int, bool, char, unit, pair, make, lambda, apply, let_in, split, if_else, case_of, operate, negate, new, send, receive, close, wait, select, match_with, fork, seq, TermList, no_terms, term, TermArms, no_arms, arm}
use Rattle.fst_term_faults.specs.TermFaults.{within}
use Rattle.fst_term_names.specs.TermTypes.{written_in}

-- what the names of globals and constructors stand for: the number of a global is its place; a constructor has the number of
-- its data type and its own there
pub record Numbers : Type 0 where
  pub globals : List (List ℕ)
  pub makers : List ℕ → Option (ℕ × ℕ)

-- as many numbers as there are types, from one on
abbrev pub from : ℕ → List WrittenTree → List ℕ
from n [] = []
from n (t ∷ ts) = n ∷ from (suc n) ts

-- the number of a global; 0 where there is none
abbrev pub number : Option ℕ → ℕ
number o = unwrap_or o 0

-- the term of a name: a variable, or a global with its type arguments, which is meant before `@` whatever variables there are
abbrev pub name_term : Numbers → ℕ → ℕ → List ℕ → List WrittenTree → Option ℕ → CoreTree
name_term s n at x [] (Some k) = core.local at k
name_term s n at x [] None = core.global at (number (place_of s.globals x)) []
name_term s n at x (t ∷ ts) o = core.global at (number (place_of s.globals x)) (from n (t ∷ ts))

-- a constructor with its arguments; number 0 where there is none
abbrev pub maker_term : ℕ → CoreList → Option (ℕ × ℕ) → CoreTree
maker_term at ts (Some k) = core.make at k.0 k.1 ts
maker_term at ts None = core.make at 0 0 ts

abbrev mutual
  -- a term under these variables, the innermost first, where its types have the numbers from n on, in order of text
  pub core_term : Numbers → List (List ℕ) → ℕ → TermTree → CoreTree
  core_term s xs n (named at x ts) = name_term s n at x ts (place_of xs x)
  core_term s xs n (int at i) = core.int at i
  core_term s xs n (bool at b) = core.bool at b
  core_term s xs n (char at c) = core.char at c
  core_term s xs n (unit at) = core.unit at
  core_term s xs n (pair at t u) = core.pair at (core_term s xs n t)
      (core_term s xs (n + length (written_in t)) u)
  core_term s xs n (make at x ts) = maker_term at (core_terms s xs n ts) (s.makers x)
  core_term s xs n (lambda at u a x t) = core.lambda at u n x (core_term s (x.name ∷ xs) (suc n) t)
  core_term s xs n (apply at t u) = core.apply at (core_term s xs n t)
      (core_term s xs (n + length (written_in t)) u)
  core_term s xs n (let_in at x t u) =
      core.let_in at x (core_term s xs n t)
      (core_term s (x.name ∷ xs) (n + length (written_in t)) u)
  core_term s xs n (split at x y t u) =
      core.split at x y (core_term s xs n t)
      (core_term s (y.name ∷ x.name ∷ xs) (n + length (written_in t)) u)
  core_term s xs n (if_else at t u v) =
      core.if_else at (core_term s xs n t) (core_term s xs (n + length (written_in t)) u)
      (core_term s xs (n + length (written_in t) + length (written_in u)) v)
  core_term s xs n (case_of at t bs) =
      core.case_of at (core_term s xs n t) (core_arms s xs (n + length (written_in t)) bs)
  core_term s xs n (operate at o t u) =
      core.operate at o (core_term s xs n t) (core_term s xs (n + length (written_in t)) u)
  core_term s xs n (negate at t) = core.negate at (core_term s xs n t)
  core_term s xs n (new at a) = core.new at n
  core_term s xs n (send at t u) = core.send at (core_term s xs n t)
      (core_term s xs (n + length (written_in t)) u)
  core_term s xs n (receive at t) = core.receive at (core_term s xs n t)
  core_term s xs n (close at t) = core.close at (core_term s xs n t)
  core_term s xs n (wait at t) = core.wait at (core_term s xs n t)
  core_term s xs n (select at l t) = core.select at l (core_term s xs n t)
  core_term s xs n (match_with at t bs) =
      core.match_with at (core_term s xs n t) (core_arms s xs (n + length (written_in t)) bs)
  core_term s xs n (fork at t) = core.fork at (core_term s xs n t)
  core_term s xs n (seq at t u) = core.seq at (core_term s xs n t)
      (core_term s xs (n + length (written_in t)) u)

  -- some terms
  pub core_terms : Numbers → List (List ℕ) → ℕ → TermList → CoreList
  core_terms s xs n no_terms = core.no_terms
  core_terms s xs n (term t ts) = core.term (core_term s xs n t)
      (core_terms s xs (n + length (written_in t)) ts)

  -- some arms
  pub core_arms : Numbers → List (List ℕ) → ℕ → TermArms → CoreArms
  core_arms s xs n no_arms = core.no_arms
  core_arms s xs n (arm l bs t arms) =
      core.arm l.name bs (core_term s (within bs xs) n t)
      (core_arms s xs (n + length (written_in t)) arms)
