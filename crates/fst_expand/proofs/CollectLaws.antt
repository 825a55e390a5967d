-- Pairs that are the earlier ones with others.
use Rattle.std.proofs.Common.{◌≡◌, ℕ, zero, suc, ◌+◌, List, [], ◌∷◌, ◌++◌, length, append-nil, append_assoc, refl, sym, ◌∙◌, ap, subst, arith, inl, inr, ◌⊎◌, Some, None, Option}
use Rattle.std.specs.Prelude.{slice_get}
use Rattle.std.proofs.lemmas.Option.{slice_get_within}
use Rattle.fst_basis.specs.declared.proof.Pair.{Pair}
use Rattle.fst_expand.specs.Good.{AreDistinct, Each, IsIn}
use Rattle.fst_expand.specs.Table.{Adds, AreNumbered, Collects, Grows}
use Rattle.fst_basis.proofs.Laws.{get_more}

get_behind : (front rest : List Pair) (at : ℕ) (b : Pair) → slice_get rest at ≡ Some b →
    slice_get (front ++ rest) (length front + at) ≡ Some b
get_behind [] rest at b e = subst (λ (k : ℕ). slice_get rest k ≡ Some b) (let z : at ≡ 0 + at = omega arith in z) e
get_behind (c ∷ front) rest at b e = subst (λ (k : ℕ). slice_get (c ∷ (front ++ rest)) k ≡ Some b)
    (let z : suc (length front + at) ≡ suc (length front) + at = omega arith in z) (get_behind front rest at b e)

-- a pair of one of two lists is in both together
pub in_front : (front rest : List Pair) (b : Pair) → IsIn b front → IsIn b (front ++ rest)
in_front front rest b i = (i.0, get_more front rest i.0 b i.1)

pub in_behind : (front rest : List Pair) (b : Pair) → IsIn b rest → IsIn b (front ++ rest)
in_behind front rest b i = (length front + i.0, get_behind front rest i.0 b i.1)

pub in_either : (front rest : List Pair) (at : ℕ) (b : Pair) → slice_get (front ++ rest) at ≡ Some b → IsIn b front ⊎ IsIn b rest
in_either [] rest at b e = inr (at, e)
in_either (d ∷ front) rest zero b e = inl (0, e)
in_either (d ∷ front) rest (suc at) b e = elim (in_either front rest at b e) [
  | inl i ↦ inl (suc i.0, i.1)
  | inr i ↦ inr i
]

-- a pair that is the only one of a list
pub only_one : (c b : Pair) (at : ℕ) → slice_get (c ∷ []) at ≡ Some b → c ≡ b
only_one c b zero e = cc
only_one c b (suc at) e = cc

-- a pair stays where pairs are added
pub in_more : (P Q : List Pair) (b : Pair) → Grows P Q → IsIn b P → IsIn b Q
in_more P Q b g i = (i.0, ap (λ (z : List Pair). slice_get z i.0) g.grown ∙ get_more P g.more i.0 b i.1)

pub each_more : (cuts P Q : List Pair) → Grows P Q → Each (λ b. IsIn b P) cuts → Each (λ b. IsIn b Q) cuts
each_more cuts P Q g h = λ at b e. in_more P Q b g (h at b e)

pub grows_none : (P : List Pair) → Grows P P
grows_none P = record { more = []; grown = sym (append-nil P) }

pub grows_on : (P Q R : List Pair) → Grows P Q → Grows Q R → Grows P R
grows_on P Q R g h = record {
  more = g.more ++ h.more;
  grown = h.grown ∙ ap (λ (z : List Pair). z ++ h.more) g.grown ∙ append_assoc P g.more h.more;
}

-- where nothing is added
pub collects_nothing : (P : List Pair) → Collects [] P P
collects_nothing P = record { grows = grows_none P; there = λ at b e. absurd (cc e); adds = λ at b e. inl (at, e) }

-- what is added one after the other
pub collects_on : (cuts more P Q R : List Pair) → Collects cuts P Q → Collects more Q R → Collects (cuts ++ more) P R
collects_on cuts more P Q R x y = record {
  grows = grows_on P Q R x.grows y.grows;
  there = λ at b e. elim (in_either cuts more at b e) [
    | inl i ↦ in_more Q R b y.grows (x.there i.0 b i.1)
    | inr i ↦ y.there i.0 b i.1
  ];
  adds = λ at b e. elim (y.adds at b e) [
    | inl i ↦ elim (x.adds i.0 b i.1) [
      | inl k ↦ inl k
      | inr k ↦ inr (in_front cuts more b k)
    ]
    | inr i ↦ inr (in_behind cuts more b i)
  ];
}

-- a cut that has a number is all that was added
pub number_adds : (cuts P Q : List Pair) (cut : Option ℕ) → AreNumbered cuts P Q cut → Adds cuts P Q
number_adds cuts P Q None (none, same) = λ at b e. inl (at, ap (λ (z : List Pair). slice_get z at) (sym same) ∙ e)
number_adds cuts P Q (Some p) (c, is, number) =
    λ at b e. elim (number.adds at b e) [ inl h ↦ inl h | inr h ↦ inr (h.0, ap (λ (z : List Pair). slice_get z h.0) is ∙ h.1) ]

pub number_collects : (cuts P Q : List Pair) (cut : Option ℕ) → AreNumbered cuts P Q cut → Collects cuts P Q
number_collects cuts P Q None (none, same) = record {
  grows = record { more = []; grown = same ∙ sym (append-nil P) };
  there = λ at b e. absurd (let f : slice_get [] at ≡ Some b = ap (λ (z : List Pair). slice_get z at) (sym none) ∙ e in cc f);
  adds = number_adds cuts P Q None (none, same);
}
number_collects cuts P Q (Some p) (c, is, number) = record {
  grows = number.grows;
  there = λ at b e. (p, number.there ∙ ap Some (only_one c b at (ap (λ (z : List Pair). slice_get z at) (sym is) ∙ e)));
  adds = number_adds cuts P Q (Some p) (c, is, number);
}

-- what holds of the pairs from before, and of those that are added, holds of all
pub each_added : (R : Pair → Type 0) (cuts P Q : List Pair) → Adds cuts P Q → Each R P → Each R cuts → Each R Q
each_added R cuts P Q adds old new = λ at b e. elim (adds at b e) [ inl h ↦ old h.0 b h.1 | inr h ↦ new h.0 b h.1 ]

-- where all pairs were there before, each once, none was added
pub same_pairs : (P Q : List Pair) → Grows P Q → AreDistinct Q → Each (λ b. IsIn b P) Q → Q ≡ P
same_pairs P Q g once there = g.grown ∙ ap (λ (z : List Pair). P ++ z) (none g.more g.grown) ∙ append-nil P
  where
    none : (more : List Pair) → Q ≡ P ++ more → more ≡ []
    none [] e = refl
    none (b ∷ more) e =
        let at : slice_get Q (length P + 0) ≡ Some b = ap (λ (z : List Pair). slice_get z (length P + 0)) e
        ∙ get_behind P (b ∷ more) 0 b refl in
        let i = there (length P + 0) b at in
        let before = ap (λ (z : List Pair). slice_get z i.0) e ∙ get_more P (b ∷ more) i.0 b i.1 in
        let same : i.0 ≡ length P + 0 = once i.0 (length P + 0) b before at in
        let within = slice_get_within P i.0 b i.1 in
        absurd (omega (arith, same, within))
