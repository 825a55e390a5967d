-- That a module is filled has one proof at most, so a module can keep it.
use Rattle.std.specs.Prelude.{List, [], ◌∷◌, length}
use Rattle.std.proofs.Math.Nat.{ℕ_set}
use Rattle.fst_types.specs.WrittenTree as written
use Rattle.fst_types.specs.WrittenTree.{WrittenTree, WrittenBranches, none, branch, HasBranches, HaveBranches}
use Rattle.fst_terms.specs.TermTree.{TermTree, named, int, bool, char, unit, pair, make, lambda, apply, let_in, split, if_else, case_of, operate, negate, new, send, receive, close, wait, select, match_with, fork, seq, TermList, no_terms, term, TermArms, no_arms, arm}
use Rattle.fst_terms.specs.ModuleTree.{Maker, Declared, family, alias, signature, equation}
use Rattle.fst_terms.specs.Filled.{HaveTypesFilled, HasArm, BindOne, IsFilled, AreFilled, HaveArmsFilled, HasMaker, HaveFieldsFilled, IsDeclFilled, IsModuleFilled}

-- two facts of which each has one proof at most
pub both : {A B : Type 0} → IsProp A → IsProp B → IsProp (A × B)
both p q x y i = (p x.0 y.0 i, q x.1 y.1 i)

-- and three
pub all_three : {A B C : Type 0} → IsProp A → IsProp B → IsProp C → IsProp (A × B × C)
all_three p q r x y i = (p x.0 y.0 i, q x.1 y.1 i, r x.2 y.2 i)

-- and four
pub all_four : {A B C D : Type 0} → IsProp A → IsProp B → IsProp C → IsProp D →
    IsProp (A × B × C × D)
all_four p q r s x y i = (p x.0 y.0 i, q x.1 y.1 i, r x.2 y.2 i, s x.3 y.3 i)

always : IsProp (Unit {0})
always x y i = tt

never : IsProp ⊥
never x = absurd x

mutual
  -- that a written type has its branches
  pub has_prop : (t : WrittenTree) → IsProp (HasBranches t)
  has_prop (written.skip at) = always
  has_prop (written.send at b) = always
  has_prop (written.receive at b) = always
  has_prop (written.close at) = always
  has_prop (written.wait at) = always
  has_prop (written.select at none) = never
  has_prop (written.select at (branch l t bs)) = both (has_prop t) (have_prop bs)
  has_prop (written.offer at none) = never
  has_prop (written.offer at (branch l t bs)) = both (has_prop t) (have_prop bs)
  has_prop (written.seq at s t) = both (has_prop s) (has_prop t)
  has_prop (written.rec at n t) = has_prop t
  has_prop (written.named at n) = always
  has_prop (written.plain at b) = always
  has_prop (written.arrow at u s t) = both (has_prop s) (has_prop t)
  has_prop (written.pair at s t) = both (has_prop s) (has_prop t)

  have_prop : (bs : WrittenBranches) → IsProp (HaveBranches bs)
  have_prop none = always
  have_prop (branch l t bs) = both (has_prop t) (have_prop bs)

types_prop : (ts : List WrittenTree) → IsProp (HaveTypesFilled ts)
types_prop [] = always
types_prop (t ∷ ts) = both (has_prop t) (types_prop ts)

arm_prop : (bs : TermArms) → IsProp (HasArm bs)
arm_prop no_arms = never
arm_prop (arm l xs t bs) = always

one_prop : (bs : TermArms) → IsProp (BindOne bs)
one_prop no_arms = always
one_prop (arm l xs t bs) = both (ℕ_set (length xs) 1) (one_prop bs)

mutual
  term_prop : (t : TermTree) → IsProp (IsFilled t)
  term_prop (named at x ts) = types_prop ts
  term_prop (int at n) = always
  term_prop (bool at b) = always
  term_prop (char at c) = always
  term_prop (unit at) = always
  term_prop (pair at s t) = both (term_prop s) (term_prop t)
  term_prop (make at x ts) = terms_prop ts
  term_prop (lambda at u a x t) = both (has_prop a) (term_prop t)
  term_prop (apply at s t) = both (term_prop s) (term_prop t)
  term_prop (let_in at x s t) = both (term_prop s) (term_prop t)
  term_prop (split at x y s t) = both (term_prop s) (term_prop t)
  term_prop (if_else at s t u) = all_three (term_prop s) (term_prop t) (term_prop u)
  term_prop (case_of at t bs) = all_three (arm_prop bs) (term_prop t) (arms_prop bs)
  term_prop (operate at o s t) = both (term_prop s) (term_prop t)
  term_prop (negate at t) = term_prop t
  term_prop (new at a) = has_prop a
  term_prop (send at s t) = both (term_prop s) (term_prop t)
  term_prop (receive at t) = term_prop t
  term_prop (close at t) = term_prop t
  term_prop (wait at t) = term_prop t
  term_prop (select at l t) = term_prop t
  term_prop (match_with at t bs) = all_four (arm_prop bs) (one_prop bs) (term_prop t) (arms_prop bs)
  term_prop (fork at t) = term_prop t
  term_prop (seq at s t) = both (term_prop s) (term_prop t)

  terms_prop : (ts : TermList) → IsProp (AreFilled ts)
  terms_prop no_terms = always
  terms_prop (term t ts) = both (term_prop t) (terms_prop ts)

  arms_prop : (bs : TermArms) → IsProp (HaveArmsFilled bs)
  arms_prop no_arms = always
  arms_prop (arm l xs t bs) = both (term_prop t) (arms_prop bs)

maker_prop : (ms : List Maker) → IsProp (HasMaker ms)
maker_prop [] = never
maker_prop (m ∷ ms) = always

fields_prop : (ms : List Maker) → IsProp (HaveFieldsFilled ms)
fields_prop [] = always
fields_prop (m ∷ ms) = both (types_prop m.fields) (fields_prop ms)

decl_prop : (d : Declared) → IsProp (IsDeclFilled d)
decl_prop (family x ms) = both (maker_prop ms) (fields_prop ms)
decl_prop (alias x t) = has_prop t
decl_prop (signature x bs t) = has_prop t
decl_prop (equation x xs t) = term_prop t

pub module_prop : (ds : List Declared) → IsProp (IsModuleFilled ds)
module_prop [] = always
module_prop (d ∷ ds) = both (decl_prop d) (module_prop ds)
