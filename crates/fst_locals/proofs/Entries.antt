-- What a table of names with levels has, and what is found in it once a name has another level.
use Rattle.std.proofs.Common.{◌≡◌, ◌∙◌, ◌+◌, ◌<◌, refl, sym, ap, subst, arith, ℕ, zero, suc, List, [], ◌∷◌, length, Bool, true, false, cond, not, Option, Some, None}
use Rattle.std.specs.Prelude.{if◌then◌else◌, option_map, slice_index_or}
use Rattle.std.specs.List.{position_or_len}
use Rattle.std.specs.Option.{option_flatten}
use Rattle.std.specs.Str.{bytes_eq}
use Rattle.std.specs.Map.{keys_of, lookup}
use Rattle.std.proofs.lemmas.Slice.Eq.{bytes_eq-Decides}
use Rattle.std.specs.declared.vec.Vec.{Vec}
use Rattle.std.specs.declared.alloc.Global.{Global}
use Rattle.indexmap.specs.IndexMap.{insert_entry}
use Rattle.indexmap.specs.Layout.{set_value_at}
use Rattle.fst_base.proofs.Bools.{same_text, text_itself}
use Rattle.fst_terms.specs.Naming.{place_of}
use Rattle.fst_locals.specs.Levels.{Entries, names, found}

-- a place behind the first one, if there is one, goes by the place in the rest
next_kept : (c : Bool) (p q : Option ℕ) → ((k : ℕ) → p ≡ Some k → q ≡ Some k) → (k : ℕ) →
    (if c then Some 0 else option_map suc p) ≡ Some k → (if c then Some 0 else option_map suc q) ≡ Some k
next_kept true p q f k h = h
next_kept false None q f k h = absurd (cc h)
next_kept false (Some n) q f k h = ap (option_map suc) (f n refl) ∙ h

is_first : (c : Bool) (p : Option ℕ) → (if c then Some 0 else option_map suc p) ≡ Some 0 → c ≡ true
is_first true p h = refl
is_first false None h = absurd (cc h)
is_first false (Some n) h = absurd (cc h)

is_later : (c : Bool) (p : Option ℕ) (k : ℕ) → (if c then Some 0 else option_map suc p) ≡ Some (suc k) → (c ≡ false) ×
    (p ≡ Some k)
is_later true p k h = absurd (cc h)
is_later false None k h = absurd (cc h)
is_later false (Some n) k h = (refl, cc h)

-- of two choices that exclude each other either may come first
in_turn : {A : Type 0} (c d : Bool) (x y r : A) → (c ≡ true → d ≡ true → ⊥) →
    (if c then x else if d then y else r) ≡ (if d then y else if c then x else r)
in_turn true true x y r apart = absurd (apart refl refl)
in_turn true false x y r apart = refl
in_turn false d x y r apart = refl

-- what is found in place of the first of some entries
in_front : {A : Type 0} (c : Bool) (w v r : A) → (if c then w else r) ≡ (if c then w else if c then v else r)
in_front true w v r = refl
in_front false w v r = refl

-- texts that differ aren't both one text
apart : (x y z : List ℕ) → bytes_eq x y ≡ false → bytes_eq z y ≡ true → bytes_eq z x ≡ true → ⊥
apart x y z differ e f =
    let a = same_text z y e in
    let b = same_text z x f in
    let same = (bytes_eq-Decides x y).1 (sym b ∙ a) in cc

-- the name at the place of a name is that name
pub name_at : (xs : List (List ℕ)) (x : List ℕ) (k : ℕ) → place_of xs x ≡ Some k → slice_index_or xs k [] ≡ x
name_at [] x k h = absurd (cc h)
name_at (y ∷ xs) x zero h = sym (same_text x y (is_first (bytes_eq x y) (place_of xs x) h))
name_at (y ∷ xs) x (suc k) h = name_at xs x k ((is_later (bytes_eq x y) (place_of xs x) k h).1)

-- which is one of them
pub place_within : (xs : List (List ℕ)) (x : List ℕ) (k : ℕ) → place_of xs x ≡ Some k → k < length xs
place_within [] x k h = absurd (cc h)
place_within (y ∷ xs) x zero h = omega arith
place_within (y ∷ xs) x (suc k) h = let lt = place_within xs x k ((is_later (bytes_eq x y) (place_of xs x) k h).1) in omega arith

-- what a look-up by a test for a name gives
module _ (test : Vec ℕ Global → Bool) (x : List ℕ) (says : (k : Vec ℕ Global) → test k ≡ bytes_eq x k.items) where
  pub found_is : (es : Entries) → option_flatten (lookup test es) ≡ found es x
  found_is [] = refl
  found_is (e ∷ es) = by (test e.0) ∙ (λ i. if says e.0 i then e.1 else found_is es i)
    where
      by : (b : Bool) → option_flatten (cond b (Some e.1) (lookup test es)) ≡ (if b then e.1 else option_flatten (lookup test es))
      by true = refl
      by false = refl

-- a name gets a level, and is put behind the others where it isn't among them
module _ (eq : Vec ℕ Global → Vec ℕ Global → Bool) (says : (a b : Vec ℕ Global) → eq a b ≡ bytes_eq a.items b.items)
    (key : Vec ℕ Global) (w : Option ℕ) where
  pub place_kept : (es : Entries) (x : List ℕ) (k : ℕ) → place_of (names es) x ≡ Some k →
      place_of (names (insert_entry eq es key w)) x ≡ Some k
  place_kept [] x k h = absurd (cc h)
  place_kept (e ∷ es) x k h = by (eq key e.0) (place_kept es x)
    where
      by : (b : Bool) → ((j : ℕ) → place_of (names es) x ≡ Some j → place_of (names (insert_entry eq es key w)) x ≡ Some j) →
          place_of (names (if b then (e.0, w) ∷ es else e ∷ insert_entry eq es key w)) x ≡ Some k
      by true rest = h
      by false rest = next_kept (bytes_eq x e.0.items) (place_of (names es) x)
          (place_of (names (insert_entry eq es key w)) x) rest k h

  pub place_new : (es : Entries) → place_of (names (insert_entry eq es key w)) key.items ≡ Some
      (position_or_len (eq key) (keys_of es))
  place_new [] = ap (λ c. if c then Some 0 else None) (text_itself key.items)
  place_new (e ∷ es) = by (eq key e.0) (sym (says key e.0)) (place_new es)
    where
      by : (b : Bool) → bytes_eq key.items e.0.items ≡ b →
          place_of (names (insert_entry eq es key w)) key.items ≡ Some (position_or_len (eq key) (keys_of es)) →
          place_of (names (if b then (e.0, w) ∷ es else e ∷ insert_entry eq es key w)) key.items ≡ Some
          (cond (not b) (1 + position_or_len (eq key) (keys_of es)) 0)
      by true s rest = ap (λ c. if c then Some 0 else option_map suc (place_of (names es) key.items)) s
      by false s rest =
          ap (λ c. if c then Some 0 else option_map suc (place_of (names (insert_entry eq es key w)) key.items)) s
          ∙ ap (option_map suc) rest ∙ ap Some (omega arith)

  pub found_new : (es : Entries) (x : List ℕ) →
      found (insert_entry eq es key w) x ≡ (if bytes_eq x key.items then w else found es x)
  found_new [] x = refl
  found_new (e ∷ es) x = by (eq key e.0) (sym (says key e.0)) (found_new es x)
    where
      by : (b : Bool) → bytes_eq key.items e.0.items ≡ b →
          found (insert_entry eq es key w) x ≡ (if bytes_eq x key.items then w else found es x) →
          found (if b then (e.0, w) ∷ es else e ∷ insert_entry eq es key w)
          x ≡ (if bytes_eq x key.items then w else found (e ∷ es) x)
      by true s rest =
          subst (λ y. found ((e.0, w) ∷ es) x ≡ (if bytes_eq x y then w else found (e ∷ es) x))
          (sym (same_text key.items e.0.items s))
          (in_front (bytes_eq x e.0.items) w e.1 (found es x))
      by false s rest =
          ap (λ r. if bytes_eq x e.0.items then e.1 else r) rest
          ∙ in_turn (bytes_eq x e.0.items) (bytes_eq x key.items) e.1 w (found es x) (apart key.items e.0.items x s)

-- the name at a place gets a level
pub names_kept : (es : Entries) (k : ℕ) (w : Option ℕ) → names (set_value_at es k w) ≡ names es
names_kept [] k w = refl
names_kept (e ∷ es) zero w = refl
names_kept (e ∷ es) (suc k) w = ap (λ r. e.0.items ∷ r) (names_kept es k w)

pub found_set : (es : Entries) (k : ℕ) (w : Option ℕ) (y : List ℕ) → place_of (names es) y ≡ Some k →
    (x : List ℕ) → found (set_value_at es k w) x ≡ (if bytes_eq x y then w else found es x)
found_set [] k w y h x = absurd (cc h)
found_set (e ∷ es) zero w y h x =
    let same = same_text y e.0.items (is_first (bytes_eq y e.0.items) (place_of (names es) y) h) in
    subst (λ z. found ((e.0, w) ∷ es) x ≡ (if bytes_eq x z then w else found (e ∷ es) x)) (sym same)
    (in_front (bytes_eq x e.0.items) w e.1 (found es x))
found_set (e ∷ es) (suc k) w y h x =
    let later = is_later (bytes_eq y e.0.items) (place_of (names es) y) k h in
    ap (λ r. if bytes_eq x e.0.items then e.1 else r) (found_set es k w y later.1 x)
    ∙ in_turn (bytes_eq x e.0.items) (bytes_eq x y) e.1 w (found es x) (apart y e.0.items x later.0)
