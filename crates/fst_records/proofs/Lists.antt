-- Lists in which one item is known.
use Rattle.std.proofs.Common.{◌≡◌, ◌∙◌, ◌⊎◌, inl, inr, ◌<◌, ℕ, ◌+◌, List, [], ◌∷◌, ◌++◌, refl, sym, ap, subst, arith}
use Rattle.std.specs.Prelude.{sum_by, All, Contains}
use Rattle.std.proofs.lemmas.List.{append_assoc}
use Rattle.std.proofs.lemmas.List.Elements.{All-same, All-append, All-contains}
use Rattle.std.proofs.lemmas.List.Sums.{sum_by-append}
use Rattle.fst_base.proofs.Lists.{Cuts, shorter, same, longer, cuts, contains_head, contains_tail, contains_none, from_contains}
use Rattle.fst_records.proofs.Placing.{sum_at, all_split, sum_swapped, all_swapped}
use Rattle.fst_records.proofs.Sums.{some_in}

module _ {X : Type 0} where
  -- the item stands between others
  pub record IsAmong (xs : List X) (x : X) : Type 0 where
    pub before : List X
    pub behind : List X
    pub is : xs ≡ before ++ x ∷ behind

  -- an item of the rest is one of the list
  abbrev pub among_more : (y : X) {xs : List X} {x : X} → IsAmong xs x → IsAmong (y ∷ xs) x
  among_more y a = record { before = y ∷ a.before; behind = a.behind; is = ap (λ (l : List X). y ∷ l) a.is }

  -- what is in a list stands between others
  pub among : (xs : List X) (x : X) → Contains xs x → IsAmong xs x
  among [] x c = absurd (contains_none x c)
  among (y ∷ xs) x c = by (from_contains xs x y c) (among xs x)
    where
      by : (y ≡ x) ⊎ Contains xs x → (Contains xs x → IsAmong xs x) → IsAmong (y ∷ xs) x
      by (inl e) more = record { before = []; behind = xs; is = ap (λ (y : X). y ∷ xs) e }
      by (inr d) more = among_more y (more d)

  -- and what stands between others is in it
  pub is_in : {xs : List X} {x : X} → IsAmong xs x → Contains xs x
  is_in {x = x} a = subst (λ (l : List X). Contains l x) (sym a.is) (at a.before)
    where
      at : (before : List X) → Contains (before ++ x ∷ a.behind) x
      at [] = contains_head a.behind x x refl
      at (b ∷ before) = contains_tail (before ++ x ∷ a.behind) x b (at before)

  -- an item that counts
  pub record Found (f : X → ℕ) (xs : List X) : Type 0 where
    pub item : X
    pub place : IsAmong xs item
    pub counts : 0 < f item

  -- where a sum is something, one of the items counts
  pub found : (f : X → ℕ) (xs : List X) → 0 < sum_by f xs → Found f xs
  found f xs h = let r = some_in f xs h in record { item = r.0; place = among xs r.0 r.1; counts = r.2 }

  -- the others
  abbrev pub without : {xs : List X} {x : X} → IsAmong xs x → List X
  without a = a.before ++ a.behind

  -- all of them, with another one in the item's place
  abbrev pub swapped : {xs : List X} {x : X} → IsAmong xs x → X → List X
  swapped a y = a.before ++ y ∷ a.behind

  -- this one stands there
  abbrev pub in_place : {xs : List X} {x : X} (a : IsAmong xs x) (y : X) → IsAmong (swapped a y) y
  in_place a y = record { before = a.before; behind = a.behind; is = refl }

  -- the sum of all is that of the others and what the one counts
  pub sum_around : (f : X → ℕ) {xs : List X} {x : X} (a : IsAmong xs x) →
      sum_by f xs ≡ (sum_by f a.before + sum_by f a.behind) + f x
  sum_around f {x = x} a = ap (sum_by f) a.is ∙ sum_at f a.before x a.behind

  -- so without the one
  pub sum_without : (f : X → ℕ) {xs : List X} {x : X} (a : IsAmong xs x) → sum_by f xs ≡ sum_by f (without a) + f x
  sum_without f a = let b = sum_around f a in let c = sum_by-append f a.before a.behind in omega (arith, b, c)

  -- and with another in its place
  pub sum_with : (f : X → ℕ) {xs : List X} {x : X} (a : IsAmong xs x) (y : X) → sum_by f (swapped a y) + f x ≡ sum_by f xs + f y
  sum_with f {xs = xs} {x = x} a y =
      sum_swapped f xs (swapped a y) x y (record { before = a.before; behind = a.behind; was = a.is; is = refl })

  -- what holds of all holds of the one
  pub all_one : (P : X → Type 0) {xs : List X} {x : X} → IsAmong xs x → All P xs → P x
  all_one P {xs = xs} {x = x} a all = All-contains P xs x all (is_in a)

  -- and of the others
  pub all_without : (P : X → Type 0) {xs : List X} {x : X} (a : IsAmong xs x) → All P xs → All P (without a)
  all_without P {xs = xs} {x = x} a all =
      let r = all_split P a.before x a.behind (All-same P (a.before ++ x ∷ a.behind) xs (sym a.is) all) in
      All-append P a.before a.behind r.0 r.2

  -- and of all with another in its place, if it holds of that
  pub all_with : (P : X → Type 0) {xs : List X} {x : X} (a : IsAmong xs x) (y : X) → All P xs → P y → All P (swapped a y)
  all_with P {xs = xs} {x = x} a y all h =
      all_swapped P xs (swapped a y) x y (record { before = a.before; behind = a.behind; was = a.is; is = refl }) all h

  -- two items are one, or the second is among the others
  pub one_or_among : {xs : List X} {x y : X} (a : IsAmong xs x) (b : IsAmong xs y) → (x ≡ y) ⊎ IsAmong (without a) y
  one_or_among {x = x} {y = y} a b = by (cuts a.before (x ∷ a.behind) b.before (y ∷ b.behind) (sym a.is ∙ b.is))
    where
      by : Cuts a.before (x ∷ a.behind) b.before (y ∷ b.behind) → (x ≡ y) ⊎ IsAmong (without a) y
      by (same p q) = let e : x ≡ y = cc in inl e
      by (shorter k m p q) =
          let e : a.behind ≡ m ++ y ∷ b.behind = cc in
          inr (record {
            before = a.before ++ m;
            behind = b.behind;
            is = ap (λ (l : List X). a.before ++ l) e ∙ sym (append_assoc a.before m (y ∷ b.behind));
          })
      by (longer k m p q) =
          let e : y ≡ k = cc in
          inr (record {
            before = b.before;
            behind = m ++ a.behind;
            is = ap (λ (l : List X). l ++ a.behind) p ∙ append_assoc b.before (k ∷ m) a.behind
                ∙ ap (λ (z : X). b.before ++ z ∷ (m ++ a.behind)) (sym e);
          })
