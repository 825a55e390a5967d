-- What the numbers in a module stand for: each is one of the parts that it counts.
use Rattle.std.specs.Prelude.{◌≡◌, ℕ, ◌+◌, ◌<◌, ◌^◌, suc, Bool, ⊤, List, [], ◌∷◌, ◌++◌, length, map, slice_get, Option, Some, None, codes, if◌then◌else◌}
use Rattle.std.specs.List.{IsDistinct, count_by}
use Rattle.std.specs.Str.{bytes_eq}
use Rattle.fst_types.specs.Tree.{Tree}
use Rattle.fst_types.specs.Order.{EachChoice, AreSorted}
use Rattle.fst_types.specs.Scoped.{IsScoped}
use Rattle.fst_types.specs.Named.{IsNamedWithin}
use Rattle.fst_types.specs.declared.family.Maker.{Maker}
use Rattle.fst_types.specs.declared.family.Family.{Family}
use Rattle.fst_terms.specs.declared.global.GlobalEntry.{GlobalEntry}
use Rattle.fst_terms.specs.Variables.{AreTypesOver, AreGlobalsOver, AreOthersClosed, field_numbers, global_numbers}
use Rattle.fst_terms.specs.CoreTree.{CoreTree, local, global, int, bool, char, unit, pair, make, lambda, apply, let_in, split, if_else, case_of, operate, negate, new, send, receive, close, wait, select, match_with, fork, seq, CoreList, no_terms, term, CoreArms, no_arms, arm}

-- the constructors of these data types, one data type after the other
abbrev pub makers : List Family → List Maker
makers [] = []
makers (f ∷ fs) = f.makers.items ++ makers fs

-- the first constructor with this name
abbrev pub maker_named : List ℕ → List Maker → Option Maker
maker_named x [] = None
maker_named x (m ∷ ms) = if bytes_eq x m.name then Some m else maker_named x ms

-- a constructor of a data type that may be there
abbrev pub maker_of : Option Family → ℕ → Option Maker
maker_of (Some f) k = slice_get f.makers.items k
maker_of None k = None

-- there is a constructor, and it has so many fields
abbrev pub HasFields : Option Maker → ℕ → Type 0
HasFields (Some m) n = length m.fields.items ≡ n
HasFields None n = ⊥

-- numbers below n
abbrev pub AreNumbersBelow : ℕ → List ℕ → Type 0
AreNumbersBelow n [] = ⊤
AreNumbersBelow n (k ∷ ks) = (k < n) × AreNumbersBelow n ks

-- how many terms there are
abbrev pub terms_length : CoreList → ℕ
terms_length no_terms = 0
terms_length (term t ts) = suc (terms_length ts)

-- there is an arm
abbrev pub HasCoreArm : CoreArms → Type 0
HasCoreArm no_arms = ⊥
HasCoreArm (arm l xs t bs) = ⊤

-- what the numbers in a term may stand for: the data types, and how many globals and types there are
pub record Bounds : Type 0 where
  pub families : List Family
  pub globals : ℕ
  pub types : ℕ

abbrev mutual
  -- under so many binders each variable of the term has its own, each global, constructor and type is there, a constructor
  -- has as many terms as fields, and each `case` and each `match` has an arm
  pub IsInRange : Bounds → ℕ → CoreTree → Type 0
  IsInRange b n (local at k) = k < n
  IsInRange b n (global at k ts) = (k < b.globals) × AreNumbersBelow b.types ts
  IsInRange b n (int at i) = ⊤
  IsInRange b n (bool at v) = ⊤
  IsInRange b n (char at c) = ⊤
  IsInRange b n (unit at) = ⊤
  IsInRange b n (pair at s t) = IsInRange b n s × IsInRange b n t
  IsInRange b n (make at f k ts) = HasFields (maker_of (slice_get b.families f) k)
      (terms_length ts) × AreInRange b n ts
  IsInRange b n (lambda at u a x t) = (a < b.types) × IsInRange b (suc n) t
  IsInRange b n (apply at s t) = IsInRange b n s × IsInRange b n t
  IsInRange b n (let_in at x s t) = IsInRange b n s × IsInRange b (suc n) t
  IsInRange b n (split at x y s t) = IsInRange b n s × IsInRange b (suc (suc n)) t
  IsInRange b n (if_else at s t u) = IsInRange b n s × IsInRange b n t × IsInRange b n u
  IsInRange b n (case_of at t bs) = HasCoreArm bs × IsInRange b n t × AreCasesInRange b n bs
  IsInRange b n (operate at o s t) = IsInRange b n s × IsInRange b n t
  IsInRange b n (negate at t) = IsInRange b n t
  IsInRange b n (new at a) = a < b.types
  IsInRange b n (send at s t) = IsInRange b n s × IsInRange b n t
  IsInRange b n (receive at t) = IsInRange b n t
  IsInRange b n (close at t) = IsInRange b n t
  IsInRange b n (wait at t) = IsInRange b n t
  IsInRange b n (select at l t) = IsInRange b n t
  IsInRange b n (match_with at t bs) = HasCoreArm bs × IsInRange b n t × AreMatchesInRange b n bs
  IsInRange b n (fork at t) = IsInRange b n t
  IsInRange b n (seq at s t) = IsInRange b n s × IsInRange b n t

  -- so it is in each of these terms
  pub AreInRange : Bounds → ℕ → CoreList → Type 0
  AreInRange b n no_terms = ⊤
  AreInRange b n (term t ts) = IsInRange b n t × AreInRange b n ts

  -- so it is in the term of each arm of a `case`, which binds as many variables as its constructor has fields
  pub AreCasesInRange : Bounds → ℕ → CoreArms → Type 0
  AreCasesInRange b n no_arms = ⊤
  AreCasesInRange b n (arm l xs t bs) = HasFields (maker_named l (makers b.families)) (length xs) ×
      IsInRange b (length xs + n) t × AreCasesInRange b n bs

  -- so it is in the term of each arm of a `match`, which binds one variable
  pub AreMatchesInRange : Bounds → ℕ → CoreArms → Type 0
  AreMatchesInRange b n no_arms = ⊤
  AreMatchesInRange b n (arm l xs t bs) =
      (length xs ≡ 1) × IsInRange b (suc n) t × AreMatchesInRange b n bs

-- the fields of constructors are types that are there
abbrev pub HaveFieldsInRange : ℕ → List Maker → Type 0
HaveFieldsInRange n [] = ⊤
HaveFieldsInRange n (m ∷ ms) = AreNumbersBelow n m.fields.items × HaveFieldsInRange n ms

-- each data type has a constructor, whose fields are types that are there
abbrev pub AreFamilies : ℕ → List Family → Type 0
AreFamilies n [] = ⊤
AreFamilies n (f ∷ fs) = (0 < length f.makers.items) × HaveFieldsInRange n f.makers.items ×
    AreFamilies n fs

-- the types of globals are there, and their terms are in range
abbrev pub AreGlobals : Bounds → List GlobalEntry → Type 0
AreGlobals b [] = ⊤
AreGlobals b (g ∷ gs) = (g.signature < b.types) × IsInRange b 0 g.body × AreGlobals b gs

-- no recursion variable is free in a type, each data type that it names is there, and each choice has branches, in byte
-- order of their labels
abbrev pub AreTypes : ℕ → List Tree → Type 0
AreTypes n [] = ⊤
AreTypes n (t ∷ ts) = IsScoped 0 t × IsNamedWithin n t × EachChoice AreSorted t × AreTypes n ts

-- the parts of a module fit together: each number is that of a part, each type has a place, constructors have different names,
-- and just one global is named main; and a type has only the variables of the global that it stands in, and none where it
-- stands in a field, in an alias or under `new`
pub record IsModule (families : List Family) (globals : List GlobalEntry) (types : List Tree)
    (places : List ℕ) : Type 0 where
  pub family_parts : AreFamilies (length types) families
  pub global_parts : AreGlobals (record
      { families = families; globals = length globals; types = length types }) globals
  pub type_parts : AreTypes (length families) types
  pub places_there : length places ≡ length types
  pub makers_differ : IsDistinct bytes_eq (map (λ m. m.name) (makers families))
  pub one_main : count_by (λ g. bytes_eq g.name (codes "main")) globals ≡ 1
  pub field_variables : AreTypesOver types 0 (field_numbers (makers families))
  pub global_variables : AreGlobalsOver types globals
  pub other_variables : AreOthersClosed
      (field_numbers (makers families) ++ global_numbers globals) types
