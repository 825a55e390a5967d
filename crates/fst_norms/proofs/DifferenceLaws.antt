-- Words that perform different traces, and words that perform the same ones.
use Rattle.std.proofs.Common.{◌≡◌, ◌≢◌, ◌↔◌, ◌⊎◌, inl, inr, ℕ, List, ◌++◌, refl, sym, ◌∙◌, ap, Some, None, Bool, true, false}
use Rattle.std.specs.Prelude.{is_some}
use Rattle.fst_base.specs.Agreement.{HaveSameTraces}
use Rattle.fst_base.proofs.Bools.{same_bool}
use Rattle.fst_words.specs.Words.{Productions, step, after}
use Rattle.fst_norms.proofs.NormLaws.{after_both}
use Rattle.fst_words.specs.Differences.{Differ}

even : (a b : Bool) → ((a ≢ b) → ⊥) → (a ≡ true) ↔ (b ≡ true)
even true true f = (λ x. x, λ x. x)
even true false f = absurd (f (λ e. cc))
even false true f = absurd (f (λ e. cc))
even false false f = (λ x. x, λ x. x)

-- a third test differs from one of two that differ
pub third : (p q r : Bool) → q ≢ r → (p ≢ q) ⊎ (p ≢ r)
third true true true ne = absurd (ne refl)
third true true false ne = inr (λ e. cc)
third true false r ne = inl (λ e. cc)
third false true r ne = inl (λ e. cc)
third false false true ne = inr (λ e. cc)
third false false false ne = absurd (ne refl)

module _ (rows : Productions) where
  pub differ_back : (u v : List ℕ) → Differ rows u v → Differ rows v u
  differ_back u v d = (d.0, λ e. d.1 (sym e))

  -- words that perform the same traces don't differ
  pub same_or_differ : (u v : List ℕ) → HaveSameTraces (step rows) (step rows) u v → Differ rows u v → ⊥
  same_or_differ u v h d = let p = h d.0 in d.1 (same_bool (is_some (after rows u d.0)) (is_some (after rows v d.0)) p.0 p.1)

  -- where a difference of two words gives one of two others, the first are alike where the others are
  pub same_from : (u v x y : List ℕ) → (Differ rows u v → Differ rows x y) → HaveSameTraces (step rows) (step rows) x y →
      HaveSameTraces (step rows) (step rows) u v
  same_from u v x y f h s = even (is_some (after rows u s)) (is_some (after rows v s)) (λ ne. same_or_differ x y h (f (s, ne)))

  -- what differs after a trace differs before it
  pub after_trace : (u v s x y : List ℕ) → after rows u s ≡ Some x → after rows v s ≡ Some y → Differ rows x y → Differ rows u v
  after_trace u v s x y e f d = (
    s ++ d.0,
    λ same. d.1
        (ap is_some (sym (after_both rows u s d.0 x e)) ∙ same ∙ ap is_some (after_both rows v s d.0 y f)),
  )

  -- one word alone performs a trace
  pub one_alone : (u v s x : List ℕ) → after rows u s ≡ Some x → after rows v s ≡ None → Differ rows u v
  one_alone u v s x e f = (s, λ same. (let h : true ≡ false = ap is_some (sym e) ∙ same ∙ ap is_some f in cc))
