-- Labels move a word as their numbers do.
use Rattle.std.proofs.Common.{◌≡◌, ◌↔◌, ℕ, List, [], ◌∷◌, Option, Some, None, refl, sym, ap, ◌∙◌, subst}
use Rattle.std.specs.Prelude.{IsSome, option_and_then, option_map}
use Rattle.fst_types.specs.declared.label.Label.{Label}
use Rattle.fst_base.specs.Agreement.{residual, HaveSameTraces}
use Rattle.fst_words.specs.Words.{Productions, step, letter_of, label_step}

-- the letters of labels, if each has one
abbrev numbers_of : List Label → List Label → Option (List ℕ)
numbers_of letters [] = Some []
numbers_of letters (a ∷ w) = option_and_then (λ k. option_map (λ s. k ∷ s) (numbers_of letters w)) (letter_of letters a)

module _ (letters : List Label) (rows : Productions) where
  -- a word moves by labels as by their letters, and by no label without a letter
  label_residual : (w : List Label) (u : List ℕ) →
      residual (label_step letters rows) u w ≡ option_and_then (residual (step rows) u) (numbers_of letters w)
  label_residual [] u = refl
  label_residual (a ∷ w) u = pick (label_residual w) (letter_of letters a)
    where
      by_letter : (k : ℕ) (o : Option (List ℕ)) → ((y : List ℕ) →
          residual (label_step letters rows) y w ≡ option_and_then (residual (step rows) y) o) →
          (p : Option (List ℕ)) → step rows u k ≡ p →
          option_and_then (λ y. residual (label_step letters rows) y w) p ≡ option_and_then (residual (step rows) u)
          (option_map (λ s. k ∷ s) o)
      by_letter k None next None is = refl
      by_letter k None next (Some y) is = next y
      by_letter k (Some s) next None is = sym (ap (λ x. option_and_then (λ y. residual (step rows) y s) x) is)
      by_letter k (Some s) next (Some y) is = next y ∙ sym (ap (λ x. option_and_then (λ y. residual (step rows) y s) x) is)

      pick : ((y : List ℕ) → residual (label_step letters rows) y w ≡ option_and_then (residual (step rows) y)
          (numbers_of letters w)) → (o : Option ℕ) →
          option_and_then (λ y. residual (label_step letters rows) y w) (option_and_then (step rows u) o) ≡ option_and_then
          (residual (step rows) u) (option_and_then (λ k. option_map (λ s. k ∷ s) (numbers_of letters w)) o)
      pick next None = refl
      pick next (Some k) = by_letter k (numbers_of letters w) next (step rows u k) refl

  pub same_by_labels : (u v : List ℕ) → HaveSameTraces (step rows) (step rows) u v →
      HaveSameTraces (label_step letters rows) (label_step letters rows) u v
  same_by_labels u v same w =
      subst (λ o. IsSome o ↔ IsSome (residual (label_step letters rows) v w)) (sym (label_residual w u))
      (subst (λ o. IsSome (option_and_then (residual (step rows) u) (numbers_of letters w)) ↔ IsSome o) (sym (label_residual w v))
      (pick (numbers_of letters w)))
    where
      pick : (o : Option (List ℕ)) → IsSome (option_and_then (residual (step rows) u) o) ↔ IsSome
          (option_and_then (residual (step rows) v) o)
      pick None = (λ h. h, λ h. h)
      pick (Some s) = same s
