-- How many terms, bound names and types a module has.
use Rattle.std.specs.Prelude.{ℕ, suc, ◌+◌, ◌^◌, List, [], ◌∷◌, length}
use Rattle.fst_types.specs.WrittenTree.{WrittenTree, WrittenBranches, none, branch}
use Rattle.fst_types.specs.WrittenTree as written
use Rattle.fst_terms.specs.TermTree.{TermTree, named, int, bool, char, unit, pair, make, lambda, apply, let_in, split, if_else, case_of, operate, negate, new, send, receive, close, wait, select, match_with, fork, seq, TermList, no_terms, term, TermArms, no_arms, arm}
use Rattle.fst_terms.specs.ModuleTree.{Maker, Declared, family, alias, signature, equation}

-- a module has fewer terms, bound names and types than this
abbrev pub part_limit : ℕ
part_limit = 2 ^ 30

abbrev mutual
  -- how many types a written type has, itself among them
  pub type_count : WrittenTree → ℕ
  type_count (written.skip at) = 1
  type_count (written.send at b) = 1
  type_count (written.receive at b) = 1
  type_count (written.close at) = 1
  type_count (written.wait at) = 1
  type_count (written.select at bs) = suc (branches_count bs)
  type_count (written.offer at bs) = suc (branches_count bs)
  type_count (written.seq at s t) = suc (type_count s + type_count t)
  type_count (written.rec at x t) = suc (type_count t)
  type_count (written.named at x) = 1
  type_count (written.plain at b) = 1
  type_count (written.arrow at u s t) = suc (type_count s + type_count t)
  type_count (written.pair at s t) = suc (type_count s + type_count t)

  -- how many types these branches have
  pub branches_count : WrittenBranches → ℕ
  branches_count none = 0
  branches_count (branch l t bs) = type_count t + branches_count bs

-- how many types these types have
abbrev pub types_count : List WrittenTree → ℕ
types_count [] = 0
types_count (t ∷ ts) = type_count t + types_count ts

abbrev mutual
  -- how many terms, bound names and types a term has, itself among them; the label of an arm is a name too
  pub term_count : TermTree → ℕ
  term_count (named at x ts) = suc (types_count ts)
  term_count (int at n) = 1
  term_count (bool at b) = 1
  term_count (char at c) = 1
  term_count (unit at) = 1
  term_count (pair at s t) = suc (term_count s + term_count t)
  term_count (make at x ts) = suc (terms_count ts)
  term_count (lambda at u a x t) = suc (suc (type_count a + term_count t))
  term_count (apply at s t) = suc (term_count s + term_count t)
  term_count (let_in at x s t) = suc (suc (term_count s + term_count t))
  term_count (split at x y s t) = suc (suc (suc (term_count s + term_count t)))
  term_count (if_else at s t u) = suc (term_count s + (term_count t + term_count u))
  term_count (case_of at t bs) = suc (term_count t + arms_count bs)
  term_count (operate at o s t) = suc (term_count s + term_count t)
  term_count (negate at t) = suc (term_count t)
  term_count (new at a) = suc (type_count a)
  term_count (send at s t) = suc (term_count s + term_count t)
  term_count (receive at t) = suc (term_count t)
  term_count (close at t) = suc (term_count t)
  term_count (wait at t) = suc (term_count t)
  term_count (select at l t) = suc (term_count t)
  term_count (match_with at t bs) = suc (term_count t + arms_count bs)
  term_count (fork at t) = suc (term_count t)
  term_count (seq at s t) = suc (term_count s + term_count t)

  -- how many these terms have
  pub terms_count : TermList → ℕ
  terms_count no_terms = 0
  terms_count (term t ts) = term_count t + terms_count ts

  -- how many these arms have
  pub arms_count : TermArms → ℕ
  arms_count no_arms = 0
  arms_count (arm l xs t bs) = suc (length xs + (term_count t + arms_count bs))

-- how many names and types these constructors have
abbrev pub makers_count : List Maker → ℕ
makers_count [] = 0
makers_count (m ∷ ms) = suc (types_count m.fields + makers_count ms)

-- how many terms, bound names and types a declaration has, and a module
abbrev pub decl_count : Declared → ℕ
decl_count (family x ms) = suc (makers_count ms)
decl_count (alias x t) = suc (type_count t)
decl_count (signature x bs t) = suc (length bs + type_count t)
decl_count (equation x xs t) = suc (length xs + term_count t)

-- how many terms, binders and types the declarations have together
abbrev pub module_count : List Declared → ℕ
module_count [] = 0
module_count (d ∷ ds) = decl_count d + module_count ds
