-- When a term that runs has a type: types are closed, and none that is written in the term is read.
use Rattle.std.specs.Prelude.{◌≡◌, ℕ, zero, suc, Bool, true, false, ◌&&◌, List, [], ◌∷◌, length, map, Some, slice_get, ⊤}
use Rattle.fst_types.specs.Tree as type
use Rattle.fst_types.specs.Tree.{Tree, plain, arrow, named}
use Rattle.fst_types.specs.Instance.{instantiated}
use Rattle.fst_types.specs.declared.base.Base.{Base}
use Rattle.fst_types.specs.declared.base.Base.TheVariants.{Int, Bool as Truth, Char, Unit as Nothing}
use Rattle.fst_types.specs.declared.family.Family.{Family}
use Rattle.fst_types.specs.declared.family.Maker.{Maker}
use Rattle.fst_types.specs.declared.kind.Use.{Use}
use Rattle.fst_types.specs.declared.kind.Use.TheVariants.{Many}
use Rattle.fst_types.specs.declared.label.Label.TheVariants.{Send, Receive, Select, Close, Wait}
use Rattle.fst_kinds.specs.WellFormed.{IsSession, IsInstantiation}
use Rattle.fst_lts.specs.Step.{step}
use Rattle.fst_lts.specs.Dual.{dual}
use Rattle.fst_terms.specs.CoreTree.{CoreTree, local, global, int, bool, char, unit, pair, make, lambda, apply, let_in, split, if_else, case_of, operate, negate, new, send, receive, close, wait, select, match_with, fork, seq, CoreList, no_terms, term, CoreArms, no_arms, arm}
use Rattle.fst_terms.specs.InRange.{maker_of}
use Rattle.fst_terms.specs.declared.global.GlobalEntry.{GlobalEntry}
use Rattle.fst_arms.specs.Arms.{arm_labels, AreEachOnce}
use Rattle.fst_context.specs.Scope.{Variable, is_once}
use Rattle.fst_derivations.specs.Parts.{HasUse, IsConversion, AreAt, AreVariables, enter_all, IsOffering}
use Rattle.fst_derivations.specs.Rules.{Surroundings, Operates, Binding, fields, rest, Binds}
use Rattle.fst_machine.specs.Free.{free, free_in, free_below, outside, outside_all}
use Rattle.fst_machine.specs.Machine.{in_either}

-- two closed types that are equal
abbrev pub Equals : Tree → Tree → Type 0
Equals s t = IsConversion [] s t

-- no linear variable is in both sets
abbrev pub Apart : List Variable → (ℕ → Bool) → (ℕ → Bool) → Type 0
Apart g p q = (k : ℕ) (v : Variable) → slice_get g k ≡ Some v → is_once v.uses ≡ true →
    (p k && q k) ≡ false

-- the same linear variables are in both sets
abbrev pub Alike : List Variable → (ℕ → Bool) → (ℕ → Bool) → Type 0
Alike g p q = (k : ℕ) (v : Variable) → slice_get g k ≡ Some v → is_once v.uses ≡ true → p k ≡ q k

-- no linear variable is in the set
abbrev pub Plentiful : List Variable → (ℕ → Bool) → Type 0
Plentiful g p = (k : ℕ) (v : Variable) → slice_get g k ≡ Some v → p k ≡ true →
    is_once v.uses ≡ false

-- a variable is used where it is linear
abbrev pub Spends : Variable → Bool → Type 0
Spends v used = is_once v.uses ≡ true → used ≡ true

-- so is each of these, of which the last is innermost
abbrev pub SpendAll : List Variable → (ℕ → Bool) → Type 0
SpendAll [] p = ⊤
SpendAll (v ∷ vs) p = Spends v (p (length vs)) × SpendAll vs p

-- the variable's type is well formed and closed, and its values may be used so often
abbrev pub IsVariable : Variable → Type 0
IsVariable v = HasUse [] v.type v.uses

-- the type of a global at one of its uses
pub record IsUse (m : Surroundings) (k : ℕ) (t : Tree) : Type 0 where
  pub entry : GlobalEntry
  pub signature : Tree
  pub arguments : List Tree
  pub there : slice_get m.globals k ≡ Some entry
  pub written : slice_get m.types entry.signature ≡ Some signature
  pub closing : IsInstantiation [] entry.kinds.items arguments
  pub is : t ≡ instantiated arguments signature

-- each arm has the same linear variables from outside as the set
abbrev pub AreAlike : List Variable → (ℕ → Bool) → CoreArms → Type 0
AreAlike g p no_arms = ⊤
AreAlike g p (arm l xs e bs) = Alike g (outside_all xs (free e)) p × AreAlike g p bs

abbrev mutual
  -- the term has this type, where its variables stand for values of theirs: its linear variables are those that it has free
  pub HasType : Surroundings → List Variable → CoreTree → Tree → Type 0
  HasType m g (local at k) t = (v : Variable) × (slice_get g k ≡ Some v) × Equals v.type t
  HasType m g (global at k ks) t = (a : Tree) × IsUse m k a × Equals a t
  HasType m g (int at n) t = Equals (plain Int) t
  HasType m g (bool at b) t = Equals (plain Truth) t
  HasType m g (char at c) t = Equals (plain Char) t
  HasType m g (unit at) t = Equals (plain Nothing) t
  HasType m g (pair at e f) t =
      (a : Tree) × (b : Tree) × HasType m g e a × HasType m g f b × Apart g (free e) (free f) ×
      Equals (type.pair a b) t
  HasType m g (make at n o es) t =
      (c : Maker) × (ts : List Tree) × (maker_of (slice_get m.families n) o ≡ Some c) ×
      AreAt m.types c.fields.items ts ×
      HaveTypes m g es ts × Equals (named n) t
  HasType m g (lambda at u k x e) t =
      (v : Variable) × (b : Tree) × IsVariable v × HasType m (v ∷ g) e b × Spends v (free e zero) ×
      (u ≡ Many → Plentiful g (outside (free e))) × Equals (arrow u v.type b) t
  HasType m g (apply at e f) t =
      (u : Use) × (a : Tree) × (b : Tree) × HasType m g e (arrow u a b) × HasType m g f a ×
      Apart g (free e) (free f) × Equals b t
  HasType m g (let_in at x e f) t =
      (v : Variable) × IsVariable v × HasType m g e v.type × HasType m (v ∷ g) f t ×
      Spends v (free f zero) ×
      Apart g (free e) (outside (free f))
  HasType m g (split at x y e f) t =
      (v : Variable) × (w : Variable) × IsVariable v × IsVariable w ×
      HasType m g e (type.pair v.type w.type) × HasType m (w ∷ v ∷ g) f t ×
      Spends v (free f (suc zero)) × Spends w (free f zero) ×
      Apart g (free e) (outside (outside (free f)))
  HasType m g (if_else at e f h) t =
      HasType m g e (plain Truth) × HasType m g f t × HasType m g h t × Alike g (free f) (free h) ×
      Apart g (free e) (in_either f h)
  HasType m g (case_of at e bs) t =
      (n : ℕ) × (f : Family) × HasType m g e (named n) × (slice_get m.families n ≡ Some f) ×
      AreEachOnce (map (λ o. o.name) f.makers.items) (arm_labels bs) ×
      ArmsHaveType m (fields f.makers.items) g bs t × AreAlike g (free_below bs) bs ×
      Apart g (free e) (free_below bs)
  HasType m g (operate at o e f) t =
      (a : Tree) × (b : Tree) × Operates o a b × HasType m g e a × HasType m g f a ×
      Apart g (free e) (free f) × Equals b t
  HasType m g (negate at e) t = HasType m g e (plain Truth) × Equals (plain Truth) t
  HasType m g (new at k) t = (s : Tree) ×
      (slice_get m.types k ≡ Some s) × IsSession [] s × Equals (type.pair s (dual s)) t
  HasType m g (send at e f) t =
      (b : Base) × (s : Tree) × (r : Tree) × HasType m g e (plain b) × HasType m g f s ×
      (step s (Send b) ≡ Some r) ×
      Apart g (free e) (free f) × Equals r t
  HasType m g (receive at e) t =
      (b : Base) × (s : Tree) × (r : Tree) × HasType m g e s ×
      (step s (Receive b) ≡ Some r) × Equals (type.pair (plain b) r) t
  HasType m g (close at e) t = (s : Tree) × (r : Tree) × HasType m g e s ×
      (step s Close ≡ Some r) × Equals (plain Nothing) t
  HasType m g (wait at e) t = (s : Tree) × (r : Tree) × HasType m g e s ×
      (step s Wait ≡ Some r) × Equals (plain Nothing) t
  HasType m g (select at l e) t = (s : Tree) × (r : Tree) × HasType m g e s ×
      (step s (Select l) ≡ Some r) × Equals r t
  HasType m g (match_with at e bs) t =
      (s : Tree) × (names : List (List ℕ)) × HasType m g e s × IsOffering s names ×
      AreEachOnce names (arm_labels bs) ×
      ArmsHaveType m (rest s) g bs t × AreAlike g (free_below bs) bs ×
      Apart g (free e) (free_below bs)
  HasType m g (fork at e) t = (a : Tree) × HasType m g e a × HasUse [] a Many ×
      Equals (plain Nothing) t
  HasType m g (seq at e f) t = (a : Tree) × HasType m g e a × HasUse [] a Many × HasType m g f t ×
      Apart g (free e) (free f)

  -- the terms have these types, one each
  pub HaveTypes : Surroundings → List Variable → CoreList → List Tree → Type 0
  HaveTypes m g no_terms [] = ⊤
  HaveTypes m g no_terms (t ∷ ts) = ⊥
  HaveTypes m g (term e es) [] = ⊥
  HaveTypes m g (term e es) (t ∷ ts) = HasType m g e t × HaveTypes m g es ts ×
      Apart g (free e) (free_in es)

  -- each arm has this type, where its variables stand for what B says
  pub ArmsHaveType : Surroundings → Binding → List Variable → CoreArms → Tree → Type 0
  ArmsHaveType m B g no_arms t = ⊤
  ArmsHaveType m B g (arm l xs e bs) t =
      (ts : List Tree) × (vs : List Variable) × Binds m B l ts × AreVariables [] ts vs ×
      (length xs ≡ length vs) ×
      HasType m (enter_all vs g) e t × SpendAll vs (free e) × ArmsHaveType m B g bs t
