-- No pair that the words of two types reach has an empty word, if its words perform the same letters.
use Rattle.std.proofs.Common.{◌≡◌, ◌∙◌, ◌∷◌, [], ℕ, List, Bool, Option, Some, None, false, ap, refl, sym}
use Rattle.std.specs.Prelude.{is_some, option_and_then, option_map}
use Rattle.fst_base.proofs.Options.{mapped_some}
use Rattle.fst_words.specs.Marks.{IsUnnormedSet}
use Rattle.fst_words.specs.Words.{Productions, after, step}
use Rattle.fst_norms.specs.Pruned.{pruned_word}
use Rattle.fst_norms.proofs.Laws.{after_pruned_same, pruned-pruned}
use Rattle.fst_breadth.specs.Reached.{HaveSameLetters}
use Rattle.fst_grammar.specs.Ends.{EndsWith}

-- a word that is pruned to nothing is empty
pruned_nothing : (m : List Bool) (w : List ℕ) → pruned_word m w ≡ [] → w ≡ []
pruned_nothing m [] e = refl
pruned_nothing m (n ∷ w) e = absurd (cc e)

-- what a test of an option is, is what it is of the option's image
some_mapped : (f : List ℕ → List ℕ) (o : Option (List ℕ)) → is_some (option_map f o) ≡ is_some o
some_mapped f None = refl
some_mapped f (Some x) = refl

-- after one letter
one_step : (rows : Productions) (w : List ℕ) (a : ℕ) → after rows w (a ∷ []) ≡ step rows w a
one_step rows w a = by (step rows w a)
  where
    by : (o : Option (List ℕ)) → option_and_then (λ y. after rows y []) o ≡ o
    by None = refl
    by (Some x) = refl

none_there : (o : Option (List ℕ)) → is_some o ≡ false → o ≡ None
none_there None e = refl
none_there (Some x) e = absurd (cc e)

module _ (rows : Productions) (m : List Bool) (set : IsUnnormedSet rows m) where
  -- a pruned word performs the letters of the word
  same_letters : (z : List ℕ) (a : ℕ) → is_some (step rows (pruned_word m z) a) ≡ is_some (step rows z a)
  same_letters z a =
      let both = after_pruned_same rows m set (pruned_word m z) z (a ∷ []) (pruned-pruned m z) in
      ap is_some (sym (one_step rows (pruned_word m z) a))
      ∙ sym (some_mapped (pruned_word m) (after rows (pruned_word m z) (a ∷ []))) ∙ ap is_some both
      ∙ some_mapped (pruned_word m) (after rows z (a ∷ [])) ∙ ap is_some (one_step rows z a)

  -- where one word of a pair that is reached is empty, and both perform the same letters, so is the other
  pub both_empty : (u v t x y : List ℕ) → EndsWith rows u v →
      option_map (pruned_word m) (after rows (pruned_word m u) t) ≡ Some x →
      option_map (pruned_word m) (after rows (pruned_word m v) t) ≡ Some y → HaveSameLetters rows x y → x ≡ [] → y ≡ []
  both_empty u v t x y ends left right same none =
      let p = mapped_some (pruned_word m) (after rows u t) x
      (sym (after_pruned_same rows m set (pruned_word m u) u t (pruned-pruned m u)) ∙ left) in
      let q = mapped_some (pruned_word m) (after rows v t) y
      (sym (after_pruned_same rows m set (pruned_word m v) v t (pruned-pruned m v)) ∙ right) in
      let gone : p.0 ≡ [] = pruned_nothing m p.0 (p.2 ∙ none) in
      let quiet : (a : ℕ) → step rows q.0 a ≡ None = λ a. none_there (step rows q.0 a) (sym (same_letters q.0 a)
      ∙ ap (λ z. is_some (step rows z a)) q.2 ∙ sym (same a) ∙ ap (λ z. is_some (step rows z a)) none) in
      sym q.2 ∙ ap (pruned_word m) (ends t q.0 (p.1 ∙ ap Some gone) q.1 quiet)
