-- The variables of a set as a list.
use Rattle.std.proofs.Common.{◌≡◌, ◌∙◌, ◌<◌, ◌≤◌, ◌+◌, ℕ, Bool, true, false, List, [], ◌∷◌, ◌++◌, length, inl, inr, refl, sym, ap, arith}
use Rattle.std.specs.Prelude.{not, ◌||◌, ◌&&◌}
use Rattle.std.proofs.Math.Path.{fun_ext}
use Rattle.std.proofs.lemmas.Bool.{cases_lt, cases_eq, or_parts}
use Rattle.std.proofs.lemmas.List.{length_push}
use Rattle.fst_machine.specs.Free.{is}
use Rattle.fst_machine.specs.Code.{also, among, AreApart, Lists, dropped, no_variables}
use Rattle.fst_code.proofs.MarkLaws.{is_same, is_other, is_symmetric}

pub or_none : (a : Bool) → (a || false) ≡ a
or_none true = refl
or_none false = refl

pub or_all : (a b c : Bool) → ((a || b) || c) ≡ (a || (b || c))
or_all true b c = refl
or_all false b c = refl

pub among_push : (ns : List ℕ) (n k : ℕ) → among (ns ++ n ∷ []) k ≡ (among ns k || is n k)
among_push [] n k = or_none (is n k)
among_push (m ∷ ms) n k = ap (λ z. is m k || z) (among_push ms n k) ∙ sym (or_all (is m k) (among ms k) (is n k))

pub apart_push : (ns : List ℕ) (n : ℕ) → AreApart ns → among ns n ≡ false → AreApart (ns ++ n ∷ [])
apart_push [] n a h = (refl, tt)
apart_push (m ∷ ms) n a h =
    let parts = or_parts (is m n) (among ms n) h in
    (among_push ms n m ∙ ap (λ z. z || is n m) a.0 ∙ is_symmetric n m ∙ parts.0, apart_push ms n a.1 parts.1)

pub also_none : (q : ℕ → Bool) → also q no_variables ≡ q
also_none q = fun_ext (λ k. or_none (q k))

-- the variables of a set that are below i
pub record SoFar (ns : List ℕ) (p : ℕ → Bool) (i : ℕ) : Type 0 where
  pub members : (k : ℕ) → k < i → among ns k ≡ p k
  pub others : (k : ℕ) → i ≤ k → among ns k ≡ false
  pub apart : AreApart ns
  pub few : length ns ≤ i

pub so_far_push : (ns : List ℕ) (p : ℕ → Bool) (i : ℕ) → p i ≡ true → SoFar ns p i → SoFar (ns ++ i ∷ []) p (i + 1)
so_far_push ns p i t s = record {
  members = λ k h. elim (cases_eq i k) [
    | inl e ↦ among_push ns i k ∙ ap (λ z. among ns k || z) (ap (is i) (sym e) ∙ is_same i) ∙ or_true (among ns k) ∙ sym t
        ∙ ap p e
    | inr ne ↦ let low : k < i = omega arith in among_push ns i k ∙ ap (λ z. among ns k || z) (is_other i k ne)
        ∙ or_none (among ns k) ∙ s.members k low
  ];
  others = λ k h. let ne : i ≡ k → ⊥ = λ e. omega arith in let high : i ≤ k = omega arith in
      among_push ns i k ∙ ap (λ z. among ns k || z) (is_other i k ne) ∙ or_none (among ns k) ∙ s.others k high;
  apart = let here : i ≤ i = omega arith in apart_push ns i s.apart (s.others i here);
  few = omega (arith, s.few, length_push ns i);
}
  where
    or_true : (a : Bool) → (a || true) ≡ true
    or_true true = refl
    or_true false = refl

pub so_far_skip : (ns : List ℕ) (p : ℕ → Bool) (i : ℕ) → p i ≡ false → SoFar ns p i → SoFar ns p (i + 1)
so_far_skip ns p i f s = record {
  members = λ k h. elim (cases_eq i k) [
    | inl e ↦ let high : i ≤ k = omega arith in s.others k high ∙ sym f ∙ ap p e
    | inr ne ↦ let low : k < i = omega arith in s.members k low
  ];
  others = λ k h. let high : i ≤ k = omega arith in s.others k high;
  apart = s.apart;
  few = omega (arith, s.few);
}

pub so_far_lists : (ns : List ℕ) (p : ℕ → Bool) (i : ℕ) → ((k : ℕ) → i ≤ k → p k ≡ false) → SoFar ns p i → Lists ns p
so_far_lists ns p i none s = record {
  members = λ k. elim (cases_lt k i) [ inl low ↦ s.members k low | inr high ↦ s.others k high ∙ sym (none k high) ];
  apart = s.apart;
}

pub lists_same : (ns : List ℕ) (p q : ℕ → Bool) → ((k : ℕ) → p k ≡ q k) → Lists ns p → Lists ns q
lists_same ns p q e h = record { members = λ k. h.members k ∙ e k; apart = h.apart }

only_dropped : (q f p : Bool) → ((q || p) && not (f || p)) ≡ (q && not (f || p))
only_dropped true f p = refl
only_dropped false true true = refl
only_dropped false false true = refl
only_dropped false true false = refl
only_dropped false false false = refl

-- what is marked in all and not in a branch is what the branch has to drop
pub lists_dropped : (ns : List ℕ) (a b r q f p : ℕ → Bool) → a ≡ also q p → b ≡ also f p →
    ((k : ℕ) → r k ≡ (a k && not (b k))) → Lists ns r → Lists ns (dropped q f p)
lists_dropped ns a b r q f p ea eb er h = lists_same ns r (dropped q f p)
    (λ k. er k ∙ ap (λ z. z k && not (b k)) ea ∙ ap (λ z. also q p k && not (z k)) eb ∙ only_dropped (q k) (f k) (p k)) h
