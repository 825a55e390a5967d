-- What the grammar gives of each module: whatever has parts of a kind has at least one of them.
use Rattle.std.specs.Prelude.{◌≡◌, List, [], ◌∷◌, length}
use Rattle.fst_types.specs.WrittenTree.{WrittenTree, HasBranches}
use Rattle.fst_terms.specs.TermTree.{TermTree, named, int, bool, char, unit, pair, make, lambda, apply, let_in, split, if_else, case_of, operate, negate, new, send, receive, close, wait, select, match_with, fork, seq, TermList, no_terms, term, TermArms, no_arms, arm}
use Rattle.fst_terms.specs.ModuleTree.{Maker, Declared, family, alias, signature, equation}

-- each choice in these types has a branch
abbrev pub HaveTypesFilled : List WrittenTree → Type 0
HaveTypesFilled [] = Unit {0}
HaveTypesFilled (t ∷ ts) = HasBranches t × HaveTypesFilled ts

-- there is an arm
abbrev pub HasArm : TermArms → Type 0
HasArm no_arms = ⊥
HasArm (arm l xs t bs) = Unit {0}

-- each arm binds one variable
abbrev pub BindOne : TermArms → Type 0
BindOne no_arms = Unit {0}
BindOne (arm l xs t bs) = (length xs ≡ 1) × BindOne bs

abbrev mutual
  -- in the term each choice has a branch, each `case` and each `match` has an arm, and each arm of a `match` binds one variable
  pub IsFilled : TermTree → Type 0
  IsFilled (named at x ts) = HaveTypesFilled ts
  IsFilled (int at n) = Unit {0}
  IsFilled (bool at b) = Unit {0}
  IsFilled (char at c) = Unit {0}
  IsFilled (unit at) = Unit {0}
  IsFilled (pair at s t) = IsFilled s × IsFilled t
  IsFilled (make at x ts) = AreFilled ts
  IsFilled (lambda at u a x t) = HasBranches a × IsFilled t
  IsFilled (apply at s t) = IsFilled s × IsFilled t
  IsFilled (let_in at x s t) = IsFilled s × IsFilled t
  IsFilled (split at x y s t) = IsFilled s × IsFilled t
  IsFilled (if_else at s t u) = IsFilled s × IsFilled t × IsFilled u
  IsFilled (case_of at t bs) = HasArm bs × IsFilled t × HaveArmsFilled bs
  IsFilled (operate at o s t) = IsFilled s × IsFilled t
  IsFilled (negate at t) = IsFilled t
  IsFilled (new at a) = HasBranches a
  IsFilled (send at s t) = IsFilled s × IsFilled t
  IsFilled (receive at t) = IsFilled t
  IsFilled (close at t) = IsFilled t
  IsFilled (wait at t) = IsFilled t
  IsFilled (select at l t) = IsFilled t
  IsFilled (match_with at t bs) = HasArm bs × BindOne bs × IsFilled t × HaveArmsFilled bs
  IsFilled (fork at t) = IsFilled t
  IsFilled (seq at s t) = IsFilled s × IsFilled t

  -- so it is in each of these terms
  pub AreFilled : TermList → Type 0
  AreFilled no_terms = Unit {0}
  AreFilled (term t ts) = IsFilled t × AreFilled ts

  -- so it is in the term of each of these arms
  pub HaveArmsFilled : TermArms → Type 0
  HaveArmsFilled no_arms = Unit {0}
  HaveArmsFilled (arm l xs t bs) = IsFilled t × HaveArmsFilled bs

-- there is a constructor
abbrev pub HasMaker : List Maker → Type 0
HasMaker [] = ⊥
HasMaker (m ∷ ms) = Unit {0}

-- each choice in the fields of these constructors has a branch
abbrev pub HaveFieldsFilled : List Maker → Type 0
HaveFieldsFilled [] = Unit {0}
HaveFieldsFilled (m ∷ ms) = HaveTypesFilled m.fields × HaveFieldsFilled ms

-- so it is in what is declared, and a data type has a constructor
abbrev pub IsDeclFilled : Declared → Type 0
IsDeclFilled (family x ms) = HasMaker ms × HaveFieldsFilled ms
IsDeclFilled (alias x t) = HasBranches t
IsDeclFilled (signature x bs t) = HasBranches t
IsDeclFilled (equation x xs t) = IsFilled t

-- so it is in each declaration of a module
abbrev pub IsModuleFilled : List Declared → Type 0
IsModuleFilled [] = Unit {0}
IsModuleFilled (d ∷ ds) = IsDeclFilled d × IsModuleFilled ds
