-- Which variables a term has free. A variable is its number outward, as a term writes it.
use Rattle.std.specs.Prelude.{ℕ, zero, suc, Bool, true, false, ◌||◌, List, [], ◌∷◌}
use Rattle.fst_terms.specs.declared.binder.Binder.{Binder}
use Rattle.fst_terms.specs.CoreTree.{CoreTree, local, global, int, bool, char, unit, pair, make, lambda, apply, let_in, split, if_else, case_of, operate, negate, new, send, receive, close, wait, select, match_with, fork, seq, CoreList, no_terms, term, CoreArms, no_arms, arm}

-- the two numbers are the same
abbrev pub is : ℕ → ℕ → Bool
is zero zero = true
is zero (suc n) = false
is (suc k) zero = false
is (suc k) (suc n) = is k n

-- what stays of a set of variables outside its innermost binder
abbrev pub outside : (ℕ → Bool) → ℕ → Bool
outside p k = p (suc k)

-- and outside these binders
abbrev pub outside_all : List Binder → (ℕ → Bool) → ℕ → Bool
outside_all [] p k = p k
outside_all (x ∷ xs) p k = outside_all xs p (suc k)

abbrev mutual
  -- the variable is free in the term
  pub free : CoreTree → ℕ → Bool
  free (local at j) k = is j k
  free (global at g ts) k = false
  free (int at n) k = false
  free (bool at b) k = false
  free (char at c) k = false
  free (unit at) k = false
  free (pair at e f) k = free e k || free f k
  free (make at n o es) k = free_in es k
  free (lambda at u t x e) k = free e (suc k)
  free (apply at e f) k = free e k || free f k
  free (let_in at x e f) k = free e k || free f (suc k)
  free (split at x y e f) k = free e k || free f (suc (suc k))
  free (if_else at e f g) k = free e k || (free f k || free g k)
  free (case_of at e bs) k = free e k || free_below bs k
  free (operate at o e f) k = free e k || free f k
  free (negate at e) k = free e k
  free (new at t) k = false
  free (send at e f) k = free e k || free f k
  free (receive at e) k = free e k
  free (close at e) k = free e k
  free (wait at e) k = free e k
  free (select at l e) k = free e k
  free (match_with at e bs) k = free e k || free_below bs k
  free (fork at e) k = free e k
  free (seq at e f) k = free e k || free f k

  -- it is free in one of these terms
  pub free_in : CoreList → ℕ → Bool
  free_in no_terms k = false
  free_in (term e es) k = free e k || free_in es k

  -- it is free in one of these arms, below what the arm binds
  pub free_below : CoreArms → ℕ → Bool
  free_below no_arms k = false
  free_below (arm l xs e bs) k = outside_all xs (free e) k || free_below bs k
