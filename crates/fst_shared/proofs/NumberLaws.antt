-- Numbers of rules' words.
use Rattle.std.proofs.Common.{◌≡◌, ◌∙◌, ℕ, ◌<◌, List, [], ◌∷◌, ◌++◌, length, Some, inl, inr, refl, sym, ap, arith, get_or}
use Rattle.std.specs.Prelude.{slice_get}
use Rattle.std.proofs.lemmas.Option.{slice_get_read}
use Rattle.fst_base.proofs.Lists.{get-push}
use Rattle.fst_words.specs.declared.rules.Rule.{Rule}
use Rattle.fst_shared.specs.Shared.{word_of, Keeps}
use Rattle.fst_shared.specs.Numbers.{IsNumber, AreNumbers, IsRow}

-- one more rule with its number
pub numbers_more : (words more : List (List ℕ)) (row : List Rule) (numbers : List ℕ) (r : Rule) (n : ℕ) →
    AreNumbers words row numbers → Keeps words more →
    length numbers < length row → r ≡ get_or row (length numbers) r → IsNumber more r n → AreNumbers more row (numbers ++ n ∷ [])
numbers_more words more row numbers r n all keeps within r_is is i k q at_row at_numbers =
    elim (get-push numbers n k i at_numbers) [
      | inl before ↦
          let old = all i k q at_row before in
          let longer = keeps.longer in
          let below = old.within in
          record { within = omega arith; word = keeps.kept k old.within ∙ old.word }
      | inr last ↦
          let here : slice_get row i ≡ Some r = ap (slice_get row) last.0
          ∙ slice_get_read row (length row) (length numbers) r refl within r_is in
          let same : r ≡ q = cc (sym here ∙ at_row) in
          record {
            within = rw (← last.1) is.within;
            word = ap (word_of more) (sym last.1) ∙ is.word ∙ ap
                (λ (z : Rule). z.word) same;
          }
    ]

-- more words change no row's numbers
pub row_kept : (words more : List (List ℕ)) (row : List Rule) (numbers : List ℕ) → Keeps words more → IsRow words row numbers →
    IsRow more row numbers
row_kept words more row numbers keeps h = record {
  words_are = λ i n r at_row at_numbers.
      let old = h.words_are i n r at_row at_numbers in
      let longer = keeps.longer in
      let below = old.within in
      record { within = omega arith; word = keeps.kept n old.within ∙ old.word };
  count = h.count;
}
