-- What a table of names finds once one has another place or none, and what first places are.
use Rattle.std.proofs.Common.{◌≡◌, ◌∙◌, ◌+◌, ◌<◌, refl, sym, ap, arith, ℕ, zero, suc, List, [], ◌∷◌, length, map, get_or, Bool, true, false, ◌||◌, Option, Some, None, is_some}
use Rattle.std.specs.Prelude.{if◌then◌else◌, option_map, slice_get}
use Rattle.std.specs.List.{list_any}
use Rattle.std.specs.Map.{lookup, KeepsOthers}
use Rattle.std.specs.Str.{bytes_eq}
use Rattle.std.specs.declared.vec.Vec.{Vec}
use Rattle.std.specs.declared.alloc.Global.{Global}
use Rattle.fst_base.proofs.Bools.{same_text}
use Rattle.fst_types.specs.declared.family.Maker.{Maker}
use Rattle.fst_types.specs.declared.label.Label.{Label}
use Rattle.fst_types.specs.declared.label.Label.TheVariants.{Offer}
use Rattle.fst_terms.specs.InRange.{maker_named}
use Rattle.fst_terms.specs.Naming.{place_of}
use Rattle.fst_arms.specs.Places.{Entries, is, found, ArePlaces}

-- what is found of a name once one has w for its place, which a test for that one finds
module _ (eq : Vec ℕ Global → Vec ℕ Global → Bool) (eq_says : (a b : Vec ℕ Global) → eq a b ≡ bytes_eq a.items b.items)
    (test : Vec ℕ Global → Bool) (l : List ℕ) (says : (k : Vec ℕ Global) → test k ≡ bytes_eq l k.items) where
  pub found_after : (old new : Entries) (w : Option ℕ) → lookup test new ≡ w → KeepsOthers eq test old new →
      (x : List ℕ) → found new x ≡ (if bytes_eq x l then w else found old x)
  unfolding KeepsOthers
  found_after old new w at_test others x = by (bytes_eq x l) refl
    where
      by : (c : Bool) → bytes_eq x l ≡ c → found new x ≡ (if c then w else found old x)
      by true e =
          let same = same_text x l e in
          (λ i. lookup (is (same i)) new) ∙ (λ i. lookup (λ k. sym (says k) i) new) ∙ at_test
      by false e = others (is x)
          (λ a b s. let same = same_text x a.items s in ap (λ z. bytes_eq z b.items) same ∙ sym (eq_says a b))
          (λ k s. let same = same_text l k.items (sym (says k) ∙ s) in ap (bytes_eq x) (sym same) ∙ e)

-- ---- first places

-- the table has these names, with their first places behind n others
abbrev pub ArePlacesFrom : ℕ → List (List ℕ) → Entries → Type 0
ArePlacesFrom n names entries = (x : List ℕ) → found entries x ≡ option_map (λ k. n + k) (place_of names x)

next_place : (n : ℕ) (c : Bool) (o : Option ℕ) →
    (if c then Some n else option_map (λ k. suc n + k) o) ≡ option_map (λ k. n + k) (if c then Some 0 else option_map suc o)
next_place n true o = ap Some (omega arith)
next_place n false None = refl
next_place n false (Some k) = ap Some (omega arith)

-- one name more in front
pub places_put : (n : ℕ) (y : List ℕ) (names : List (List ℕ)) (old new : Entries) → ArePlacesFrom (suc n) names old →
    ((x : List ℕ) → found new x ≡ (if bytes_eq x y then Some n else found old x)) → ArePlacesFrom n (y ∷ names) new
places_put n y names old new before put x =
    put x ∙ ap (λ o. if bytes_eq x y then Some n else o) (before x) ∙ next_place n (bytes_eq x y) (place_of names x)

-- ---- what has a place

-- whether a name is among others
abbrev pub has : List (List ℕ) → List ℕ → Bool
has names x = list_any (bytes_eq x) names

placed_next : (c : Bool) (o : Option ℕ) → is_some (if c then Some 0 else option_map suc o) ≡ (c || is_some o)
placed_next true o = refl
placed_next false None = refl
placed_next false (Some k) = refl

-- a name has a place where it is among the names
pub is_placed : (names : List (List ℕ)) (x : List ℕ) → is_some (place_of names x) ≡ has names x
is_placed [] x = refl
is_placed (y ∷ names) x = placed_next (bytes_eq x y) (place_of names x) ∙ ap (λ b. bytes_eq x y || b) (is_placed names x)

-- the constructor at the place of a name is the first with that name
named_at : (ms : List Maker) (x : List ℕ) (n : ℕ) → place_of (map (λ o. o.name) ms) x ≡ Some n → (n < length ms) ×
    (maker_named x ms ≡ slice_get ms n)
named_at [] x n h = absurd (cc h)
named_at (m ∷ ms) x n h = by (bytes_eq x m.name) (place_of (map (λ o. o.name) ms) x) n h (named_at ms x)
  where
    by : (c : Bool) (o : Option ℕ) (j : ℕ) → (if c then Some 0 else option_map suc o) ≡ Some j →
        ((i : ℕ) → o ≡ Some i → (i < length ms) × (maker_named x ms ≡ slice_get ms i)) →
        (j < suc (length ms)) × ((if c then Some m else maker_named x ms) ≡ slice_get (m ∷ ms) j)
    by true o zero e rest = (omega arith, refl)
    by true o (suc j) e rest = absurd (cc e)
    by false None j e rest = absurd (cc e)
    by false (Some i) zero e rest = absurd (cc e)
    by false (Some i) (suc j) e rest = let same : i ≡ j = cc e in let r = rest j (ap Some same) in (omega (arith, r.0), r.1)

-- so it is at the place that the table of their names has
pub maker_found : (ms : List Maker) (entries : Entries) (x : List ℕ) (n : ℕ) → ArePlaces (map (λ o. o.name) ms) entries →
    found entries x ≡ Some n → (n < length ms) × (maker_named x ms ≡ slice_get ms n)
maker_found ms entries x n places at = named_at ms x n (sym (places x) ∙ at)

-- each label of an offered choice is an offer
pub offered_at : (labels : List Label) (names : List (List ℕ)) (n : ℕ) (d : Label) → labels ≡ map Offer names →
    n < length labels → (l : List ℕ) × (get_or labels n d ≡ Offer l)
offered_at [] names n d e lt = absurd (omega (arith, lt))
offered_at (b ∷ labels) [] n d e lt = absurd (cc e)
offered_at (b ∷ labels) (l ∷ names) zero d e lt = (l, cc)
offered_at (b ∷ labels) (l ∷ names) (suc n) d e lt = let rest : labels ≡ map Offer names = cc e in
    offered_at labels names n d rest (omega (arith, lt))

-- whose names they determine
pub same_names : (xs ys : List (List ℕ)) → map Offer xs ≡ map Offer ys → xs ≡ ys
same_names [] [] e = refl
same_names [] (y ∷ ys) e = absurd (cc e)
same_names (x ∷ xs) [] e = absurd (cc e)
same_names (x ∷ xs) (y ∷ ys) e =
    let first : x ≡ y = cc e in
    let rest : map Offer xs ≡ map Offer ys = cc e in
    let others = same_names xs ys rest in
    λ i. first i ∷ others i
