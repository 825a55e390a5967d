-- Names that stand once, and names among others.
use Rattle.std.proofs.Common.{◌≡◌, ◌∙◌, ◌⊎◌, inl, inr, ℕ, suc, ◌+◌, Bool, true, false, cond, List, [], ◌∷◌, ◌++◌, map, count_by, Option, Some, None, refl, sym, ap, subst}
use Rattle.std.specs.Prelude.{option_map, option_and_then, slice_get, if◌then◌else◌}
use Rattle.std.specs.List.{AllByRecursion, IsDistinct}
use Rattle.std.specs.Str.{bytes_eq}
use Rattle.std.proofs.lemmas.Map.Keys.{IsDistinct-head, IsDistinct-tail}
use Rattle.std.proofs.lemmas.List.Sums.{sum_by-cons}
use Rattle.fst_base.proofs.Bools.{same_text, same_bool, text_itself}
use Rattle.fst_terms.specs.declared.binder.Binder.{Binder}
use Rattle.fst_terms.specs.Naming.{place_of, is_there}
use Rattle.fst_scopes.specs.Faults.{is_among}
use Rattle.fst_scopes.specs.Scopes.{of_name}
use Rattle.fst_scopes.specs.Twice.{names, twice_if, twice_after, twice}
use Rattle.fst_scopes.proofs.Laws.{none_named, is_new}

-- ---- names among others

-- and the test goes both ways
turned : (x y : List ℕ) → bytes_eq x y ≡ bytes_eq y x
turned x y = same_bool (bytes_eq x y) (bytes_eq y x)
    (λ e. subst (λ z. bytes_eq z x ≡ true) (same_text x y e) (text_itself x))
    (λ e. subst (λ z. bytes_eq z y ≡ true) (same_text y x e) (text_itself y))

-- a name is among some others and one in front where it is that one
pub among_here : (y : List ℕ) (ys : List (List ℕ)) (x : List ℕ) → bytes_eq x y ≡ true → is_among (y ∷ ys) x ≡ true
among_here y ys x e = ap (λ c. is_there (if c then Some 0 else option_map suc (place_of ys x))) e

-- and else where it is among these
pub among_next : (y : List ℕ) (ys : List (List ℕ)) (x : List ℕ) → bytes_eq x y ≡ false → is_among (y ∷ ys) x ≡ is_among ys x
among_next y ys x e = ap (λ c. is_there (if c then Some 0 else option_map suc (place_of ys x))) e ∙ same (place_of ys x)
  where
    same : (o : Option ℕ) → is_there (option_map suc o) ≡ is_there o
    same (Some k) = refl
    same None = refl

-- a name is among the first ones or among those behind them
pub among_either : (xs ys : List (List ℕ)) (x : List ℕ) → is_among (xs ++ ys) x ≡ true → (is_among xs x ≡ true) ⊎
    (is_among ys x ≡ true)
among_either [] ys x e = inr e
among_either (z ∷ xs) ys x e = pick (bytes_eq x z) refl (among_either xs ys x)
  where
    later : bytes_eq x z ≡ false → (is_among xs x ≡ true) ⊎ (is_among ys x ≡ true) → (is_among (z ∷ xs) x ≡ true) ⊎
        (is_among ys x ≡ true)
    later is (inl h) = inl (among_next z xs x is ∙ h)
    later is (inr h) = inr h

    pick : (c : Bool) → bytes_eq x z ≡ c → (is_among (xs ++ ys) x ≡ true → (is_among xs x ≡ true) ⊎ (is_among ys x ≡ true)) →
        (is_among (z ∷ xs) x ≡ true) ⊎ (is_among ys x ≡ true)
    pick true is rest = inl (among_here z xs x is)
    pick false is rest = later is (rest (sym (among_next z (xs ++ ys) x is) ∙ e))

-- one that is among the first ones is among all
among_left : (xs ys : List (List ℕ)) (x : List ℕ) → is_among xs x ≡ true → is_among (xs ++ ys) x ≡ true
among_left [] ys x e = absurd (cc e)
among_left (z ∷ xs) ys x e = pick (bytes_eq x z) refl (among_left xs ys x)
  where
    pick : (c : Bool) → bytes_eq x z ≡ c → (is_among xs x ≡ true → is_among (xs ++ ys) x ≡ true) →
        is_among (z ∷ (xs ++ ys)) x ≡ true
    pick true is rest = among_here z (xs ++ ys) x is
    pick false is rest = among_next z (xs ++ ys) x is ∙ rest (sym (among_next z xs x is) ∙ e)

-- so is one that is among the last ones
pub among_right : (xs ys : List (List ℕ)) (x : List ℕ) → is_among ys x ≡ true → is_among (xs ++ ys) x ≡ true
among_right [] ys x e = e
among_right (z ∷ xs) ys x e = pick (bytes_eq x z) refl (among_right xs ys x e)
  where
    pick : (c : Bool) → bytes_eq x z ≡ c → is_among (xs ++ ys) x ≡ true → is_among (z ∷ (xs ++ ys)) x ≡ true
    pick true is rest = among_here z (xs ++ ys) x is
    pick false is rest = among_next z (xs ++ ys) x is ∙ rest

-- what belongs to the first name
pub own_here : {A : Type 0} (y : List ℕ) (ys : List (List ℕ)) (v : A) (vs : List A) (x : List ℕ) → bytes_eq x y ≡ true →
    of_name (y ∷ ys) (v ∷ vs) x ≡ Some v
own_here y ys v vs x e = ap (λ c. option_and_then
    (λ k. slice_get (v ∷ vs) k) (if c then Some 0 else option_map suc (place_of ys x))) e

-- what belongs to a name behind it
pub own_next : {A : Type 0} (y : List ℕ) (ys : List (List ℕ)) (v : A) (vs : List A) (x : List ℕ) → bytes_eq x y ≡ false →
    of_name (y ∷ ys) (v ∷ vs) x ≡ of_name ys vs x
own_next y ys v vs x e = ap (λ c. option_and_then
    (λ k. slice_get (v ∷ vs) k) (if c then Some 0 else option_map suc (place_of ys x))) e ∙ same (place_of ys x)
  where
    same : (o : Option ℕ) → option_and_then (λ k. slice_get (v ∷ vs) k) (option_map suc o) ≡ option_and_then
        (λ k. slice_get vs k) o
    same (Some k) = refl
    same None = refl

-- ---- names that stand once

-- a name in front isn't any of those behind, where these don't stand twice
apart : (front : List (List ℕ)) (bs : List Binder) (x : List ℕ) → twice_after front bs ≡ [] → is_among front x ≡ true →
    AllByRecursion (λ y. bytes_eq x y ≡ false) (names bs)
apart front [] x e h = tt
apart front (b ∷ bs) x e h =
    let two = none_named (twice_if (is_among front b.name) b) (twice_after (front ++ b.name ∷ []) bs) e in (
      pick (bytes_eq x b.name) refl (is_new (is_among front b.name) b two.0),
      apart (front ++ b.name ∷ []) bs x two.1 (among_left front (b.name ∷ []) x h),
    )
  where
    pick : (c : Bool) → bytes_eq x b.name ≡ c → is_among front b.name ≡ false → c ≡ false
    pick true is new = absurd (cc (sym new ∙ subst (λ z. is_among front z ≡ true) (same_text x b.name is) h))
    pick false is new = refl

once_after : (front : List (List ℕ)) (bs : List Binder) → twice_after front bs ≡ [] → IsDistinct bytes_eq (names bs)
unfolding IsDistinct
once_after front [] e = tt
once_after front (b ∷ bs) e =
    let rest = (none_named (twice_if (is_among front b.name) b) (twice_after (front ++ b.name ∷ []) bs) e).1 in (
      apart (front ++ b.name ∷ []) bs b.name rest (among_right front (b.name ∷ []) b.name
          (among_here b.name [] b.name (text_itself b.name))),
      once_after (front ++ b.name ∷ []) bs rest,
    )

-- names of which none stands twice
pub once : (bs : List Binder) → twice bs ≡ [] → IsDistinct bytes_eq (names bs)
once bs e = once_after [] bs e

-- ---- how often a name stands

-- one more
counted : {A : Type 0} (p : A → Bool) (x : A) (xs : List A) → count_by p (x ∷ xs) ≡ cond (p x) 1 0 + count_by p xs
counted p x xs = sum_by-cons (λ y. cond (p y) 1 0) x xs

-- by what the items have for names
pub counted_named : {A : Type 0} (f : A → List ℕ) (x : List ℕ) (xs : List A) → count_by (λ a. bytes_eq (f a) x) xs ≡ count_by
    (λ y. bytes_eq y x) (map f xs)
counted_named f x [] = refl
counted_named f x (a ∷ xs) =
    counted (λ b. bytes_eq (f b) x) a xs ∙ ap (λ n. cond (bytes_eq (f a) x) 1 0 + n) (counted_named f x xs)
    ∙ sym (counted (λ y. bytes_eq y x) (f a) (map f xs))

-- never, where each is another one
never : (x : List ℕ) (ys : List (List ℕ)) → AllByRecursion (λ y. bytes_eq x y ≡ false) ys → count_by (λ y. bytes_eq y x) ys ≡ 0
never x [] h = refl
never x (y ∷ ys) h = counted (λ z. bytes_eq z x) y ys ∙ ap (λ c. cond c 1 0 + count_by (λ z. bytes_eq z x) ys) (turned y x ∙ h.0)
    ∙ ap (λ n. 0 + n) (never x ys h.1)

-- once, where names stand once and it is among them
pub just_once : (x : List ℕ) (ys : List (List ℕ)) → IsDistinct bytes_eq ys → is_among ys x ≡ true → count_by
    (λ y. bytes_eq y x) ys ≡ 1
just_once x [] once h = absurd (cc h)
just_once x (y ∷ ys) once h = counted (λ z. bytes_eq z x) y ys
    ∙ pick (bytes_eq y x) refl (just_once x ys (IsDistinct-tail bytes_eq y ys once))
  where
    pick : (c : Bool) → bytes_eq y x ≡ c → (is_among ys x ≡ true → count_by (λ z. bytes_eq z x) ys ≡ 1) → cond c 1 0 + count_by
        (λ z. bytes_eq z x) ys ≡ 1
    pick true is rest =
        ap (λ n. 1 + n) (never x ys (subst (λ z. AllByRecursion (λ w. bytes_eq z w ≡ false) ys) (same_text y x is)
        (IsDistinct-head bytes_eq y ys once)))
    pick false is rest = ap (λ n. 0 + n) (rest (sym (among_next y ys x (turned x y ∙ is)) ∙ h))
