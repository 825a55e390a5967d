-- Over how many type variables the types in a module stand, and which types stand nowhere in it.
use Rattle.std.specs.Prelude.{◌≡◌, ℕ, ⊤, List, [], ◌∷◌, ◌++◌, length, slice_get, Contains, Option, Some, None}
use Rattle.fst_types.specs.Tree.{Tree}
use Rattle.fst_types.specs.Variables.{HasVariablesBelow}
use Rattle.fst_types.specs.declared.family.Maker.{Maker}
use Rattle.fst_terms.specs.declared.global.GlobalEntry.{GlobalEntry}
use Rattle.fst_terms.specs.CoreTree.{CoreTree, local, global, int, bool, char, unit, pair, make, lambda, apply, let_in, split, if_else, case_of, operate, negate, new, send, receive, close, wait, select, match_with, fork, seq, CoreList, no_terms, term, CoreArms, no_arms, arm}

-- ---- how many variables

-- there is a type, and it has only the first n variables
abbrev pub IsTypeOver : ℕ → Option Tree → Type 0
IsTypeOver n None = ⊥
IsTypeOver n (Some t) = HasVariablesBelow n t

-- so it is with the types of these numbers
abbrev pub AreTypesOver : List Tree → ℕ → List ℕ → Type 0
AreTypesOver types n [] = ⊤
AreTypesOver types n (k ∷ ks) = IsTypeOver n (slice_get types k) × AreTypesOver types n ks

abbrev mutual
  -- the types in a term have only the first n variables, and that of a new channel has none
  pub HasTypesOver : List Tree → ℕ → CoreTree → Type 0
  HasTypesOver types n (local at k) = ⊤
  HasTypesOver types n (global at k ts) = AreTypesOver types n ts
  HasTypesOver types n (int at i) = ⊤
  HasTypesOver types n (bool at v) = ⊤
  HasTypesOver types n (char at c) = ⊤
  HasTypesOver types n (unit at) = ⊤
  HasTypesOver types n (pair at s t) = HasTypesOver types n s × HasTypesOver types n t
  HasTypesOver types n (make at f k ts) = HaveTypesOver types n ts
  HasTypesOver types n (lambda at u a x t) = IsTypeOver n (slice_get types a) ×
      HasTypesOver types n t
  HasTypesOver types n (apply at s t) = HasTypesOver types n s × HasTypesOver types n t
  HasTypesOver types n (let_in at x s t) = HasTypesOver types n s × HasTypesOver types n t
  HasTypesOver types n (split at x y s t) = HasTypesOver types n s × HasTypesOver types n t
  HasTypesOver types n (if_else at s t u) = HasTypesOver types n s × HasTypesOver types n t ×
      HasTypesOver types n u
  HasTypesOver types n (case_of at t bs) = HasTypesOver types n t × HaveArmTypesOver types n bs
  HasTypesOver types n (operate at o s t) = HasTypesOver types n s × HasTypesOver types n t
  HasTypesOver types n (negate at t) = HasTypesOver types n t
  HasTypesOver types n (new at a) = IsTypeOver 0 (slice_get types a)
  HasTypesOver types n (send at s t) = HasTypesOver types n s × HasTypesOver types n t
  HasTypesOver types n (receive at t) = HasTypesOver types n t
  HasTypesOver types n (close at t) = HasTypesOver types n t
  HasTypesOver types n (wait at t) = HasTypesOver types n t
  HasTypesOver types n (select at l t) = HasTypesOver types n t
  HasTypesOver types n (match_with at t bs) = HasTypesOver types n t × HaveArmTypesOver types n bs
  HasTypesOver types n (fork at t) = HasTypesOver types n t
  HasTypesOver types n (seq at s t) = HasTypesOver types n s × HasTypesOver types n t

  -- so have those in each of these terms
  pub HaveTypesOver : List Tree → ℕ → CoreList → Type 0
  HaveTypesOver types n no_terms = ⊤
  HaveTypesOver types n (term t ts) = HasTypesOver types n t × HaveTypesOver types n ts

  -- so have those in the term of each arm
  pub HaveArmTypesOver : List Tree → ℕ → CoreArms → Type 0
  HaveArmTypesOver types n no_arms = ⊤
  HaveArmTypesOver types n (arm l xs t bs) = HasTypesOver types n t × HaveArmTypesOver types n bs

-- the type of each global, and the types in its body, have only variables of which it has the kinds
abbrev pub AreGlobalsOver : List Tree → List GlobalEntry → Type 0
AreGlobalsOver types [] = ⊤
AreGlobalsOver types (g ∷ gs) = IsTypeOver (length g.kinds.items) (slice_get types g.signature) ×
    HasTypesOver types (length g.kinds.items) g.body × AreGlobalsOver types gs

-- ---- which types

abbrev mutual
  -- the numbers of the types in a term
  pub type_numbers : CoreTree → List ℕ
  type_numbers (local at k) = []
  type_numbers (global at k ts) = ts
  type_numbers (int at i) = []
  type_numbers (bool at v) = []
  type_numbers (char at c) = []
  type_numbers (unit at) = []
  type_numbers (pair at s t) = type_numbers s ++ type_numbers t
  type_numbers (make at f k ts) = all_type_numbers ts
  type_numbers (lambda at u a x t) = a ∷ type_numbers t
  type_numbers (apply at s t) = type_numbers s ++ type_numbers t
  type_numbers (let_in at x s t) = type_numbers s ++ type_numbers t
  type_numbers (split at x y s t) = type_numbers s ++ type_numbers t
  type_numbers (if_else at s t u) = type_numbers s ++ (type_numbers t ++ type_numbers u)
  type_numbers (case_of at t bs) = type_numbers t ++ arm_type_numbers bs
  type_numbers (operate at o s t) = type_numbers s ++ type_numbers t
  type_numbers (negate at t) = type_numbers t
  type_numbers (new at a) = a ∷ []
  type_numbers (send at s t) = type_numbers s ++ type_numbers t
  type_numbers (receive at t) = type_numbers t
  type_numbers (close at t) = type_numbers t
  type_numbers (wait at t) = type_numbers t
  type_numbers (select at l t) = type_numbers t
  type_numbers (match_with at t bs) = type_numbers t ++ arm_type_numbers bs
  type_numbers (fork at t) = type_numbers t
  type_numbers (seq at s t) = type_numbers s ++ type_numbers t

  -- of those in some terms
  pub all_type_numbers : CoreList → List ℕ
  all_type_numbers no_terms = []
  all_type_numbers (term t ts) = type_numbers t ++ all_type_numbers ts

  -- of those in some arms
  pub arm_type_numbers : CoreArms → List ℕ
  arm_type_numbers no_arms = []
  arm_type_numbers (arm l xs t bs) = type_numbers t ++ arm_type_numbers bs

-- the numbers of the types of globals, and of those in their bodies
abbrev pub global_numbers : List GlobalEntry → List ℕ
global_numbers [] = []
global_numbers (g ∷ gs) = g.signature ∷ (type_numbers g.body ++ global_numbers gs)

-- the numbers of the types of fields
abbrev pub field_numbers : List Maker → List ℕ
field_numbers [] = []
field_numbers (m ∷ ms) = m.fields.items ++ field_numbers ms

-- each type that has none of these numbers has no variables
abbrev pub AreOthersClosed : List ℕ → List Tree → Type 0
AreOthersClosed numbers types = (k : ℕ) (t : Tree) → slice_get types k ≡ Some t →
    (Contains numbers k → ⊥) → HasVariablesBelow 0 t
