-- What the laws of code ask of a module, from its numbers being in range and its constructors' names differing.
use Rattle.std.proofs.Common.{◌≡◌, ◌<◌, ℕ, zero, suc, ◌+◌, Bool, true, false, ◌||◌, Option, Some, None, option_map, List, [], ◌∷◌, ◌++◌, length, map, slice_get, refl, sym, ap, ◌∙◌, subst, arith}
use Rattle.std.specs.List.{AllByRecursion, IsDistinct}
use Rattle.std.specs.Str.{bytes_eq}
use Rattle.std.proofs.lemmas.Bool.{false≢true}
use Rattle.std.proofs.lemmas.Option.{none-some, same_Some}
use Rattle.std.proofs.lemmas.Slice.Eq.{bytes_eq-Decides}
use Rattle.fst_types.specs.declared.family.Family.{Family}
use Rattle.fst_types.specs.declared.family.Maker.{Maker}
use Rattle.fst_terms.specs.CoreTree.{CoreTree, local, global, int, bool, char, unit, pair, make, lambda, apply, let_in, split, if_else, case_of, operate, negate, new, send, receive, close, wait, select, match_with, fork, seq, CoreList, no_terms, term, CoreArms, no_arms, arm}
use Rattle.fst_terms.specs.InRange.{makers, Bounds, IsInRange, AreInRange, AreCasesInRange, AreMatchesInRange}
use Rattle.fst_machine.specs.Free.{free, free_in, free_below, outside_all}
use Rattle.fst_machine.specs.Machine.{name_of}
use Rattle.fst_machine.specs.Standing.{DistinctMakers}
use Rattle.fst_machine.proofs.Slots.{is_same}
use Rattle.fst_machine.proofs.Moves.{outside_all_at}

-- the name of a constructor
abbrev named : Maker → List ℕ
named m = m.name

differ : (k l : List ℕ) → bytes_eq k l ≡ false → k ≡ l → ⊥
differ k l h e = false≢true (sym h ∙ (bytes_eq-Decides k l).1 e)

mapped_some : (o : Option Maker) (l : List ℕ) → option_map named o ≡ Some l → (m : Maker) × (o ≡ Some m) × (m.name ≡ l)
mapped_some None l e = absurd (none-some l e)
mapped_some (Some m) l e = (m, refl, same_Some m.name l e)

all_at : (l : List ℕ) (ms : List Maker) → AllByRecursion (λ y. bytes_eq l y ≡ false) (map named ms) →
    (j : ℕ) (b : Maker) → slice_get ms j ≡ Some b → bytes_eq l b.name ≡ false
all_at l [] h j b e = absurd (none-some b e)
all_at l (m ∷ ms) h zero b e = subst (λ z. bytes_eq l (named z) ≡ false) (same_Some m b e) h.0
all_at l (m ∷ ms) h (suc j) b e = all_at l ms h.1 j b e

in_left : (xs ys : List Maker) (j : ℕ) (b : Maker) → slice_get xs j ≡ Some b → slice_get (xs ++ ys) j ≡ Some b
in_left [] ys j b e = absurd (none-some b e)
in_left (x ∷ xs) ys zero b e = e
in_left (x ∷ xs) ys (suc j) b e = in_left xs ys j b e

in_right : (xs ys : List Maker) (j : ℕ) (b : Maker) → slice_get ys j ≡ Some b → (k : ℕ) × (slice_get (xs ++ ys) k ≡ Some b)
in_right [] ys j b e = (j, e)
in_right (x ∷ xs) ys j b e = let r = in_right xs ys j b e in (suc r.0, r.1)

right_part : (xs ys : List Maker) → IsDistinct bytes_eq (map named (xs ++ ys)) → IsDistinct bytes_eq (map named ys)
unfolding IsDistinct
right_part [] ys h = h
right_part (x ∷ xs) ys h = right_part xs ys h.1

same_place : (xs ys : List Maker) → IsDistinct bytes_eq (map named (xs ++ ys)) →
    (i j : ℕ) (a b : Maker) → slice_get xs i ≡ Some a → slice_get xs j ≡ Some b → a.name ≡ b.name → i ≡ j
unfolding IsDistinct
same_place [] ys h i j a b e g q = absurd (none-some a e)
same_place (x ∷ xs) ys h zero zero a b e g q = refl
same_place (x ∷ xs) ys h zero (suc j) a b e g q =
    absurd (differ x.name b.name (all_at x.name (xs ++ ys) h.0 j b (in_left xs ys j b g)) (ap named (same_Some x a e) ∙ q))
same_place (x ∷ xs) ys h (suc i) zero a b e g q =
    absurd (differ x.name a.name (all_at x.name (xs ++ ys) h.0 i a (in_left xs ys i a e)) (ap named (same_Some x b g) ∙ sym q))
same_place (x ∷ xs) ys h (suc i) (suc j) a b e g q = ap suc (same_place xs ys h.1 i j a b e g q)

apart : (xs ys : List Maker) → IsDistinct bytes_eq (map named (xs ++ ys)) →
    (i j : ℕ) (a b : Maker) → slice_get xs i ≡ Some a → slice_get ys j ≡ Some b → a.name ≡ b.name → ⊥
unfolding IsDistinct
apart [] ys h i j a b e g q = none-some a e
apart (x ∷ xs) ys h zero j a b e g q =
    let r = in_right xs ys j b g in
    differ x.name b.name (all_at x.name (xs ++ ys) h.0 r.0 b r.1) (ap named (same_Some x a e) ∙ q)
apart (x ∷ xs) ys h (suc i) j a b e g q = apart xs ys h.1 i j a b e g q

name_in : (fs : List Family) (n o : ℕ) (l : List ℕ) → name_of fs n o ≡ Some l → (j : ℕ) × (b : Maker) ×
    (slice_get (makers fs) j ≡ Some b) × (b.name ≡ l)
name_in [] n o l e = absurd (none-some l e)
name_in (f ∷ fs) zero o l e = let m = mapped_some (slice_get f.makers.items o) l e in
    (o, m.0, in_left f.makers.items (makers fs) o m.0 m.1, m.2)
name_in (f ∷ fs) (suc n) o l e = let r = name_in fs n o l e in let k = in_right f.makers.items (makers fs) r.0 r.1 r.2 in
    (k.0, r.1, k.1, r.3)

-- constructors whose names differ have no name twice
pub distinct_makers : (fs : List Family) → IsDistinct bytes_eq (map (λ (m : Maker). m.name) (makers fs)) → DistinctMakers fs
distinct_makers [] h n o n2 o2 l e g = absurd (none-some l e)
distinct_makers (f ∷ fs) h zero o zero o2 l e g =
    let a = mapped_some (slice_get f.makers.items o) l e in
    let b = mapped_some (slice_get f.makers.items o2) l g in
    (refl, same_place f.makers.items (makers fs) h o o2 a.0 b.0 a.1 b.1 (a.2 ∙ sym b.2))
distinct_makers (f ∷ fs) h zero o (suc n2) o2 l e g =
    let a = mapped_some (slice_get f.makers.items o) l e in
    let b = name_in fs n2 o2 l g in
    absurd (apart f.makers.items (makers fs) h o b.0 a.0 b.1 a.1 b.2 (a.2 ∙ sym b.3))
distinct_makers (f ∷ fs) h (suc n) o zero o2 l e g =
    let a = mapped_some (slice_get f.makers.items o2) l g in
    let b = name_in fs n o l e in
    absurd (apart f.makers.items (makers fs) h o2 b.0 a.0 b.1 a.1 b.2 (a.2 ∙ sym b.3))
distinct_makers (f ∷ fs) h (suc n) o (suc n2) o2 l e g =
    let r = distinct_makers fs (right_part f.makers.items (makers fs) h) n o n2 o2 l e g in
    (ap suc r.0, r.1)

one_of : {P : Type 0} (x y : Bool) → (x || y) ≡ true → (x ≡ true → P) → (y ≡ true → P) → P
one_of true y h f g = f refl
one_of false y h f g = g h

mutual
  -- under so many binders a term has no other variable free
  pub free_in_range : (e : CoreTree) (b : Bounds) (n : ℕ) → IsInRange b n e → (k : ℕ) → free e k ≡ true → k < n
  free_in_range (local at j) b n h k g = subst (λ z. z < n) (is_same j k g) h
  free_in_range (global at j ts) b n h k g = absurd (false≢true g)
  free_in_range (int at i) b n h k g = absurd (false≢true g)
  free_in_range (bool at i) b n h k g = absurd (false≢true g)
  free_in_range (char at i) b n h k g = absurd (false≢true g)
  free_in_range (unit at) b n h k g = absurd (false≢true g)
  free_in_range (pair at e f) b n h k g = one_of (free e k) (free f k) g (free_in_range e b n h.0 k) (free_in_range f b n h.1 k)
  free_in_range (make at m o es) b n h k g = all_in_range es b n h.1 k g
  free_in_range (lambda at u t x e) b n h k g = let r : suc k < suc n = free_in_range e b (suc n) h.1 (suc k) g in
      omega (arith, r)
  free_in_range (apply at e f) b n h k g = one_of (free e k) (free f k) g (free_in_range e b n h.0 k) (free_in_range f b n h.1 k)
  free_in_range (let_in at x e f) b n h k g =
      one_of (free e k) (free f (suc k)) g (free_in_range e b n h.0 k)
      (λ w. let r : suc k < suc n = free_in_range f b (suc n) h.1 (suc k) w in omega (arith, r))
  free_in_range (split at x y e f) b n h k g =
      one_of (free e k) (free f (suc (suc k))) g (free_in_range e b n h.0 k)
      (λ w. let r : suc (suc k) < suc (suc n) = free_in_range f b (suc (suc n)) h.1 (suc (suc k)) w in omega (arith, r))
  free_in_range (if_else at e f i) b n h k g =
      one_of (free e k) (free f k || free i k) g (free_in_range e b n h.0 k)
      (λ w. one_of (free f k) (free i k) w (free_in_range f b n h.1 k) (free_in_range i b n h.2 k))
  free_in_range (case_of at e bs) b n h k g = one_of (free e k) (free_below bs k) g (free_in_range e b n h.1 k)
      (cases_in_range bs b n h.2 k)
  free_in_range (operate at o e f) b n h k g = one_of (free e k) (free f k) g (free_in_range e b n h.0 k)
      (free_in_range f b n h.1 k)
  free_in_range (negate at e) b n h k g = free_in_range e b n h k g
  free_in_range (new at t) b n h k g = absurd (false≢true g)
  free_in_range (send at e f) b n h k g = one_of (free e k) (free f k) g (free_in_range e b n h.0 k) (free_in_range f b n h.1 k)
  free_in_range (receive at e) b n h k g = free_in_range e b n h k g
  free_in_range (close at e) b n h k g = free_in_range e b n h k g
  free_in_range (wait at e) b n h k g = free_in_range e b n h k g
  free_in_range (select at l e) b n h k g = free_in_range e b n h k g
  free_in_range (match_with at e bs) b n h k g =
      one_of (free e k) (free_below bs k) g (free_in_range e b n h.1 k) (matches_in_range bs b n h.2 k)
  free_in_range (fork at e) b n h k g = free_in_range e b n h k g
  free_in_range (seq at e f) b n h k g = one_of (free e k) (free f k) g (free_in_range e b n h.0 k) (free_in_range f b n h.1 k)

  -- nor have terms
  pub all_in_range : (es : CoreList) (b : Bounds) (n : ℕ) → AreInRange b n es → (k : ℕ) → free_in es k ≡ true → k < n
  all_in_range no_terms b n h k g = absurd (false≢true g)
  all_in_range (term e es) b n h k g = one_of (free e k) (free_in es k) g (free_in_range e b n h.0 k) (all_in_range es b n h.1 k)

  -- nor the arms of a case
  pub cases_in_range : (bs : CoreArms) (b : Bounds) (n : ℕ) → AreCasesInRange b n bs → (k : ℕ) → free_below bs k ≡ true → k < n
  cases_in_range no_arms b n h k g = absurd (false≢true g)
  cases_in_range (arm l xs e bs) b n h k g =
      one_of (outside_all xs (free e) k) (free_below bs k) g
      (λ w. let r : length xs + k < length xs + n =
      free_in_range e b (length xs + n) h.1 (length xs + k) (sym (outside_all_at xs (free e) k) ∙ w) in omega (arith, r))
      (cases_in_range bs b n h.2 k)

  -- nor those of a match
  pub matches_in_range : (bs : CoreArms) (b : Bounds) (n : ℕ) → AreMatchesInRange b n bs →
      (k : ℕ) → free_below bs k ≡ true → k < n
  matches_in_range no_arms b n h k g = absurd (false≢true g)
  matches_in_range (arm l xs e bs) b n h k g =
      one_of (outside_all xs (free e) k) (free_below bs k) g
      (λ w.
      let one : length xs ≡ 1 = h.0 in
      let r : length xs + k < suc n = free_in_range e b (suc n) h.1 (length xs + k) (sym (outside_all_at xs (free e) k) ∙ w) in
      omega (arith, one, r))
      (matches_in_range bs b n h.2 k)

-- a global's body in range has no variable free
pub closed_in_range : (e : CoreTree) (b : Bounds) → IsInRange b 0 e → (k : ℕ) → free e k ≡ false
closed_in_range e b h k = go (free e k) refl
  where
    go : (z : Bool) → free e k ≡ z → free e k ≡ false
    go true w = let r : k < 0 = free_in_range e b 0 h k w in absurd (omega (arith, r))
    go false w = w
