-- What the tests of arms say.
use Rattle.std.proofs.Common.{◌≡◌, ◌∙◌, ℕ, Bool, true, false, ◌&&◌, ◌||◌, not, List, [], ◌∷◌, map, Option, Some, None, refl, sym, ap, subst, ◌↔◌, arith}
use Rattle.std.specs.Prelude.{Contains}
use Rattle.std.specs.List.{IsDistinct, AllByRecursion}
use Rattle.std.specs.Str.{bytes_eq}
use Rattle.std.proofs.lemmas.Cmp.{nat_list_eq_equiv}
use Rattle.std.proofs.lemmas.Option.{same_Some}
use Rattle.std.proofs.lemmas.Map.Keys.{IsDistinct-from_apart, IsDistinct-cons, IsDistinct-head, IsDistinct-tail}
use Rattle.std.proofs.lemmas.Map.Views.{Contains-from_any, list_any-from_Contains}
use Rattle.std.proofs.lemmas.Slice.Eq.{bytes_eq-Decides}
use Rattle.fst_base.proofs.Bools.{same_text}
use Rattle.fst_types.specs.Tree.{Tree}
use Rattle.fst_types.specs.declared.label.Label.{Label}
use Rattle.fst_types.specs.declared.label.Label.TheVariants.{Send, Receive, Select, Offer, Close, Wait, Var}
use Rattle.fst_lts.specs.Step.{labels}
use Rattle.fst_arms.specs.Arms.{AreEachOnce}
use Rattle.fst_derivations.specs.Parts.{IsOffering}
use Rattle.fst_fits.specs.ArmTests.{has, all_in, apart, each_once, with_name, offered, wanted_once, offers}
use Rattle.fst_fits.proofs.TestLaws.{and_left, and_right, and_both}

contains : (xs : List (List ℕ)) (x : List ℕ) → has xs x ≡ true → Contains xs x
contains xs x h = Contains-from_any {eq = bytes_eq} same_text x xs h

contained : (xs : List (List ℕ)) (x : List ℕ) → Contains xs x → has xs x ≡ true
contained xs x h = list_any-from_Contains nat_list_eq_equiv x xs h

or_left : (a b : Bool) → a ≡ true → (a || b) ≡ true
or_left true b h = refl
or_left false b h = absurd (cc h)

or_right : (a b : Bool) → b ≡ true → (a || b) ≡ true
or_right true b h = refl
or_right false b h = h

or_case : (a b : Bool) (C : Type 0) → (a || b) ≡ true → (a ≡ true → C) → (b ≡ true → C) → C
or_case true b C h f g = f refl
or_case false b C h f g = g h

-- each name is among the others
all_has : (xs ys : List (List ℕ)) → all_in xs ys ≡ true → (z : List ℕ) → has xs z ≡ true → has ys z ≡ true
all_has [] ys h z e = absurd (cc e)
all_has (x ∷ xs) ys h z e =
    or_case (bytes_eq z x) (has xs z) (has ys z ≡ true) e
    (λ f. subst (λ w. has ys w ≡ true) (sym (same_text z x f)) (and_left (has ys x) (all_in xs ys) h))
    (all_has xs ys (and_right (has ys x) (all_in xs ys) h) z)

has_all : (xs ys : List (List ℕ)) → ((z : List ℕ) → has xs z ≡ true → has ys z ≡ true) → all_in xs ys ≡ true
has_all [] ys f = refl
has_all (x ∷ xs) ys f =
    and_both (has ys x) (all_in xs ys) (f x (or_left (bytes_eq x x) (has xs x) ((bytes_eq-Decides x x).1 refl)))
    (has_all xs ys (λ z h. f z (or_right (bytes_eq z x) (has xs z) h)))

-- ---- names that stand once

not_true : (b : Bool) → not b ≡ true → b ≡ false
not_true true h = absurd (cc h)
not_true false h = refl

of_false : (b : Bool) → b ≡ false → not b ≡ true
of_false true h = absurd (cc h)
of_false false h = refl

neither : (a b : Bool) → (a || b) ≡ false → (a ≡ false) × (b ≡ false)
neither true b h = absurd (cc h)
neither false b h = (refl, h)

either_none : (a b : Bool) → a ≡ false → b ≡ false → (a || b) ≡ false
either_none true b h e = absurd (cc h)
either_none false b h e = e

none_like : (x : List ℕ) (xs : List (List ℕ)) → has xs x ≡ false → AllByRecursion (λ y. bytes_eq x y ≡ false) xs
none_like x [] h = tt
none_like x (y ∷ ys) h = let n = neither (bytes_eq x y) (has ys x) h in (n.0, none_like x ys n.1)

like_none : (x : List ℕ) (xs : List (List ℕ)) → AllByRecursion (λ y. bytes_eq x y ≡ false) xs → has xs x ≡ false
like_none x [] h = refl
like_none x (y ∷ ys) h = either_none (bytes_eq x y) (has ys x) h.0 (like_none x ys h.1)

distinct : (xs : List (List ℕ)) → apart xs ≡ true → IsDistinct bytes_eq xs
distinct [] h = IsDistinct-from_apart bytes_eq [] (λ i j d a b. absurd (omega arith))
distinct (x ∷ xs) h =
    IsDistinct-cons bytes_eq x xs (none_like x xs (not_true (has xs x) (and_left (not (has xs x)) (apart xs) h)))
    (distinct xs (and_right (not (has xs x)) (apart xs) h))

of_distinct : (xs : List (List ℕ)) → IsDistinct bytes_eq xs → apart xs ≡ true
of_distinct [] h = refl
of_distinct (x ∷ xs) h =
    and_both (not (has xs x)) (apart xs) (of_false (has xs x) (like_none x xs (IsDistinct-head bytes_eq x xs h)))
    (of_distinct xs (IsDistinct-tail bytes_eq x xs h))

pub once : (wanted found : List (List ℕ)) → each_once wanted found ≡ true → AreEachOnce wanted found
unfolding each_once
once wanted found h =
    let a = apart found in
    let b = all_in wanted found in
    let c = all_in found wanted in
    let bc = and_right a (b && c) h in
    record {
      distinct = distinct found (and_left a (b && c) h);
      same = λ x. (
        (λ z. contains found x (all_has wanted found (and_left b c bc) x (contained wanted x z))),
        (λ z. contains wanted x (all_has found wanted (and_right b c bc) x (contained found x z))),
      );
    }

pub of_once : (wanted found : List (List ℕ)) → AreEachOnce wanted found → each_once wanted found ≡ true
unfolding each_once
of_once wanted found e =
    let b = all_in wanted found in
    let c = all_in found wanted in
    and_both (apart found) (b && c) (of_distinct found e.distinct)
    (and_both b c (has_all wanted found (λ z h. contained found z ((e.same z).0 (contains wanted z h))))
    (has_all found wanted (λ z h. contained wanted z ((e.same z).1 (contains found z h)))))

-- ---- labels of an offered choice

named : (l : List ℕ) (o : Option (List (List ℕ))) (ls : List (List ℕ)) → with_name l o ≡ Some ls → (rest : List (List ℕ)) ×
    (o ≡ Some rest) × ((l ∷ rest) ≡ ls)
named l None ls h = absurd (cc h)
named l (Some rest) ls h = (rest, refl, same_Some (l ∷ rest) ls h)

offered_are : (moves : List Label) (names : List (List ℕ)) → offered moves ≡ Some names → moves ≡ map Offer names
offered_are [] names h = ap (map Offer) (same_Some [] names h)
offered_are (Send b ∷ moves) names h = absurd (cc h)
offered_are (Receive b ∷ moves) names h = absurd (cc h)
offered_are (Select l ∷ moves) names h = absurd (cc h)
offered_are (Offer l ∷ moves) names h =
    let n = named l (offered moves) names h in
    ap (λ z. Offer l ∷ z) (offered_are moves n.0 n.1) ∙ ap (map Offer) n.2
offered_are (Close ∷ moves) names h = absurd (cc h)
offered_are (Wait ∷ moves) names h = absurd (cc h)
offered_are (Var k ∷ moves) names h = absurd (cc h)

are_offered : (names : List (List ℕ)) → offered (map Offer names) ≡ Some names
are_offered [] = refl
are_offered (l ∷ ls) = ap (with_name l) (are_offered ls)

wanted : (moves : List Label) (o : Option (List (List ℕ))) (found : List (List ℕ)) → offered moves ≡ o →
    wanted_once o found ≡ true →
    (names : List (List ℕ)) × (moves ≡ map Offer names) × (names ≡ [] → ⊥) × AreEachOnce names found
wanted moves None found e h = absurd (cc h)
wanted moves (Some []) found e h = absurd (cc h)
wanted moves (Some (x ∷ xs)) found e h = (x ∷ xs, offered_are moves (x ∷ xs) e, (λ z. absurd (cc z)), once (x ∷ xs) found h)

pub offering : (t : Tree) (found : List (List ℕ)) → offers (labels t) found ≡ true →
    (names : List (List ℕ)) × IsOffering t names × AreEachOnce names found
unfolding offers
offering t found h = let w = wanted (labels t) (offered (labels t)) found refl h in
    (w.0, record { labels = w.1; some = w.2 }, w.3)

some_once : (names found : List (List ℕ)) → (names ≡ [] → ⊥) → AreEachOnce names found → wanted_once (Some names) found ≡ true
some_once [] found f e = absurd (f refl)
some_once (x ∷ xs) found f e = of_once (x ∷ xs) found e

pub of_offering : (t : Tree) (names found : List (List ℕ)) → IsOffering t names → AreEachOnce names found →
    offers (labels t) found ≡ true
unfolding offers
of_offering t names found o e = ap (λ z. wanted_once z found) (ap offered o.labels ∙ are_offered names)
    ∙ some_once names found o.some e

-- ---- answers of calls

answer : (b c : Bool) → (b ≡ true → c ≡ true) → (c ≡ true → b ≡ true) → b ≡ c
answer true c f h = sym (f refl)
answer false true f h = h refl
answer false false f h = refl

pub once_answer : (b : Bool) (wanted found : List (List ℕ)) → (b ≡ true ↔ AreEachOnce wanted found) → b ≡ each_once wanted found
once_answer b wanted found h = answer b (each_once wanted found) (λ e. of_once wanted found (h.0 e))
    (λ e. h.1 (once wanted found e))

pub offers_answer : (b : Bool) (t : Tree) (found : List (List ℕ)) → (labels t ≡ [] → ⊥) →
    ((names : List (List ℕ)) → labels t ≡ map Offer names → (b ≡ true ↔ AreEachOnce names found)) →
    (b ≡ true → (names : List (List ℕ)) × (labels t ≡ map Offer names)) → b ≡ offers (labels t) found
offers_answer b t found some f h =
    answer b (offers (labels t) found)
    (λ e. let n = h e in of_offering t n.0 found (record { labels = n.1; some = λ z. some (n.1 ∙ ap (map Offer) z) })
    ((f n.0 n.1).0 e))
    (λ e. let o = offering t found e in (f o.0 o.1.labels).1 o.2)

pub offers_none : (moves : List Label) (found : List (List ℕ)) → moves ≡ [] → false ≡ offers moves found
unfolding offers
offers_none moves found e = ap (λ z. wanted_once (offered z) found) (sym e)
