-- How many terms and bound names the globals of a module have.
use Rattle.std.specs.Prelude.{ℕ, suc, ◌+◌, ◌^◌, List, [], ◌∷◌, length}
use Rattle.fst_terms.specs.declared.global.GlobalEntry.{GlobalEntry}
use Rattle.fst_terms.specs.CoreTree.{CoreTree, local, global, int, bool, char, unit, pair, make, lambda, apply, let_in, split, if_else, case_of, operate, negate, new, send, receive, close, wait, select, match_with, fork, seq, CoreList, no_terms, term, CoreArms, no_arms, arm}

-- a module has fewer terms, bound names and types than this
abbrev pub core_limit : ℕ
core_limit = 2 ^ 32

abbrev mutual
  -- how many terms and bound names a term has, itself among them
  pub core_count : CoreTree → ℕ
  core_count (local at k) = 1
  core_count (global at k ts) = suc (length ts)
  core_count (int at n) = 1
  core_count (bool at b) = 1
  core_count (char at c) = 1
  core_count (unit at) = 1
  core_count (pair at s t) = suc (core_count s + core_count t)
  core_count (make at f k ts) = suc (cores_count ts)
  core_count (lambda at u a x t) = suc (suc (core_count t))
  core_count (apply at s t) = suc (core_count s + core_count t)
  core_count (let_in at x s t) = suc (suc (core_count s + core_count t))
  core_count (split at x y s t) = suc (suc (suc (core_count s + core_count t)))
  core_count (if_else at s t u) = suc (core_count s + (core_count t + core_count u))
  core_count (case_of at t bs) = suc (core_count t + core_arms_count bs)
  core_count (operate at o s t) = suc (core_count s + core_count t)
  core_count (negate at t) = suc (core_count t)
  core_count (new at a) = 1
  core_count (send at s t) = suc (core_count s + core_count t)
  core_count (receive at t) = suc (core_count t)
  core_count (close at t) = suc (core_count t)
  core_count (wait at t) = suc (core_count t)
  core_count (select at l t) = suc (core_count t)
  core_count (match_with at t bs) = suc (core_count t + core_arms_count bs)
  core_count (fork at t) = suc (core_count t)
  core_count (seq at s t) = suc (core_count s + core_count t)

  -- how many these terms have
  pub cores_count : CoreList → ℕ
  cores_count no_terms = 0
  cores_count (term t ts) = core_count t + cores_count ts

  -- how many these arms have
  pub core_arms_count : CoreArms → ℕ
  core_arms_count no_arms = 0
  core_arms_count (arm l xs t bs) = suc (length xs + (core_count t + core_arms_count bs))

-- how many terms, bound names and type variables these globals have, themselves among them
abbrev pub globals_count : List GlobalEntry → ℕ
globals_count [] = 0
globals_count (g ∷ gs) = suc (length g.kinds.items + (core_count g.body + globals_count gs))
