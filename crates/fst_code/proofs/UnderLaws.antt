-- Terms under binders.
use Rattle.std.proofs.Common.{◌≡◌, ◌∙◌, ◌<◌, ◌+◌, ℕ, suc, zero, Bool, false, List, [], ◌∷◌, length, refl, sym, ap, subst, arith}
use Rattle.std.specs.Prelude.{◌||◌}
use Rattle.std.proofs.Math.Path.{fun_ext}
use Rattle.fst_terms.specs.declared.binder.Binder.{Binder}
use Rattle.fst_terms.specs.CoreTree.{CoreTree}
use Rattle.fst_machine.specs.Free.{free, outside_all}
use Rattle.fst_machine.specs.Code.{Compiled, Binds, BindsAll, Computes, also, within, within_all}
use Rattle.fst_code.specs.Marks.{entered, marked}
use Rattle.fst_code.specs.Written.{Enters, EntersAll, Extends, Writes, WritesUnder, top}
use Rattle.fst_code.proofs.Extended.{extends_both, extends_same, kept, kept_binds_all}
use Rattle.fst_code.proofs.ListsLaws.{or_none}

pub outside_at : (xs : List Binder) (p : ℕ → Bool) (k : ℕ) → outside_all xs p k ≡ p (length xs + k)
outside_at [] p k = let e : k ≡ 0 + k = omega arith in ap p e
outside_at (x ∷ xs) p k = let e : length xs + suc k ≡ suc (length xs) + k = omega arith in outside_at xs p (suc k) ∙ ap p e

within_at : (xs : List Binder) (p : ℕ → Bool) (k : ℕ) → within_all xs p (length xs + k) ≡ p k
within_at [] p k = let e : 0 + k ≡ k = omega arith in ap p e
within_at (x ∷ xs) p k = let e : suc (length xs) + k ≡ suc (length xs + k) = omega arith in ap (within (within_all xs p)) e
    ∙ within_at xs p k

within_below : (xs : List Binder) (p : ℕ → Bool) (k : ℕ) → k < length xs → within_all xs p k ≡ false
within_below [] p k h = absurd (omega arith)
within_below (x ∷ xs) p zero h = refl
within_below (x ∷ xs) p (suc k) h = let low : k < length xs = omega arith in within_below xs p k low

pub outside_also : (xs : List Binder) (q p : ℕ → Bool) → outside_all xs (also q (within_all xs p)) ≡ also (outside_all xs q) p
outside_also xs q p = fun_ext (λ k. outside_at xs (also q (within_all xs p)) k ∙ ap
    (λ z. q (length xs + k) || z) (within_at xs p k) ∙ ap (λ z. z || p k) (sym (outside_at xs q k)))

-- variables are entered one by one
pub enter_none : (p : ℕ → Bool) (xs : List Binder) → length xs ≡ 0 → p ≡ within_all xs p
enter_none p [] h = refl
enter_none p (x ∷ xs) h = absurd (omega arith)

pub enter_more : (m n p : ℕ → Bool) (i : ℕ) → ((xs : List Binder) → length xs ≡ i → m ≡ within_all xs p) → n ≡ within m →
    (xs : List Binder) → length xs ≡ i + 1 → n ≡ within_all xs p
enter_more m n p i before e [] h = absurd (omega arith)
enter_more m n p i before e (x ∷ xs) h = let less : length xs ≡ i = omega arith in e ∙ ap within (before xs less)

-- so many of the innermost variables were left, of those that are marked in p
pub record Left (c d : Compiled) (p : ℕ → Bool) (ns : List Bool) (i : ℕ) : Type 0 where
  pub extends : Extends c d
  pub entries : d.lambdas ≡ c.lambdas
  pub binds : (xs : List Binder) → length xs ≡ i → BindsAll d (top d) xs p (top c)
  pub marks : (xs : List Binder) → length xs ≡ i → marked ns ≡ outside_all xs p

pub left_none : (c : Compiled) (ns : List Bool) → Left c c (marked ns) ns 0
left_none c ns = record { extends = extends_same c c refl refl refl; entries = refl; binds = none; marks = same }
  where
    none : (xs : List Binder) → length xs ≡ 0 → BindsAll c (top c) xs (marked ns) (top c)
    none [] h = refl
    none (x ∷ xs) h = absurd (omega arith)

    same : (xs : List Binder) → length xs ≡ 0 → marked ns ≡ outside_all xs (marked ns)
    same [] h = fun_ext (λ k. refl)
    same (x ∷ xs) h = absurd (omega arith)

pub left_more : (c m d : Compiled) (p : ℕ → Bool) (ls ns : List Bool) (used : Bool) (i : ℕ) → Left c m p ls i →
    marked ls ≡ entered used (marked ns) → Enters m d used → Left c d p ns (i + 1)
left_more c m d p ls ns used i h e b = record {
  extends = extends_both h.extends b.extends;
  entries = b.entries ∙ h.entries;
  binds = more;
  marks = fewer;
}
  where
    more : (xs : List Binder) → length xs ≡ i + 1 → BindsAll d (top d) xs p (top c)
    more [] l = absurd (omega arith)
    more (x ∷ xs) l =
        let less : length xs ≡ i = omega arith in
        let end : length xs + 0 ≡ length xs = omega arith in
        let same : used ≡ p (length xs) = sym (ap (λ z. z 0) e) ∙ ap (λ z. z 0) (h.marks xs less) ∙ outside_at xs p 0
        ∙ ap p end in (
          top m,
          subst (λ z. Binds d (top d) z (top m)) same b.there,
          kept_binds_all b.extends (top m) xs p (top c) (h.binds xs less),
        )

    fewer : (xs : List Binder) → length xs ≡ i + 1 → marked ns ≡ outside_all xs p
    fewer [] l = absurd (omega arith)
    fewer (x ∷ xs) l = let less : length xs ≡ i = omega arith in fun_ext
        (λ k. sym (ap (λ z. z (suc k)) e) ∙ ap (λ z. z (suc k)) (h.marks xs less))

binds_same : (c : Compiled) (i : ℕ) (xs : List Binder) (p q : ℕ → Bool) (j : ℕ) →
    ((k : ℕ) → k < length xs → p k ≡ q k) → BindsAll c i xs p j → BindsAll c i xs q j
binds_same c i [] p q j e h = h
binds_same c i (x ∷ xs) p q j e h =
    let last : length xs < suc (length xs) = omega arith in (
      h.0,
      subst (λ z. Binds c i z h.0) (e (length xs) last) h.1,
      binds_same c h.0 xs p q j
          (λ k l. let more : k < suc (length xs) = omega arith in e k more) h.2,
    )

-- a term under binders
pub under_written : (c d b : Compiled) (ms m1 m2 ns : List Bool) (xs : List Binder) (e : CoreTree) →
    marked m1 ≡ within_all xs (marked ms) → length m1 ≡ length xs + length ms →
    Writes c m1 d m2 e → EntersAll d b xs (marked m2) → marked ns ≡ outside_all xs (marked m2) →
    length m2 ≡ length xs + length ns → WritesUnder c ms b ns xs e
under_written c d b ms m1 m2 ns xs e im lm w x on ln = record {
  extends = extends_both w.extends x.extends;
  entries = omega (arith, w.entries, ap length x.entries);
  behind = top d;
  binds = binds_same b (top b) xs (marked m2) (free e) (top d)
      (λ k l. ap (λ z. z k) used ∙ ap (λ z. free e k || z) (within_below xs (marked ms) k l) ∙ or_none (free e k)) x.there;
  computes = λ b' n s r. kept x.extends (top d) e (within_all xs (marked ms)) (top c)
      (subst (λ z. Computes d (top d) e z (top c)) im (w.computes b' n s r));
  marks = on ∙ ap (outside_all xs) used ∙ outside_also xs (free e) (marked ms);
  deep = omega (arith, w.deep);
}
  where
    used : marked m2 ≡ also (free e) (within_all xs (marked ms))
    used = w.marks ∙ ap (also (free e)) im
