-- Places at which two lists have the same numbers.
use Rattle.std.specs.Prelude.{◌≡◌, ℕ, ◌<◌, ◌≤◌, List, length, Some, slice_get}
use Rattle.fst_words.specs.declared.rules.Rule.{Rule}

-- at both places the lists have the same numbers
pub record IsRepeat (xs ys : List ℕ) (i j : ℕ) : Type 0 where
  pub left : slice_get xs i ≡ slice_get xs j
  pub right : slice_get ys i ≡ slice_get ys j

-- for each place an earlier one with the same numbers, or itself
pub record AreRepeats (left right places : List ℕ) : Type 0 where
  pub count : length places ≡ length left
  pub each : (i j : ℕ) → slice_get places i ≡ Some j → (j ≤ i) × IsRepeat left right j i

-- where both are places of the list, the rules there have the same word
abbrev pub HaveOneWord : List Rule → ℕ → ℕ → Type 0
HaveOneWord rules i j = (r q : Rule) → slice_get rules i ≡ Some r → slice_get rules j ≡ Some q →
    r.word ≡ q.word

-- for each place of two lists of rules an earlier one with the same words, or itself
pub record ArePlaces (rules others : List Rule) (places : List ℕ) : Type 0 where
  pub count : length places ≡ length rules
  pub before : (i j : ℕ) → slice_get places i ≡ Some j → j ≤ i
  pub left : (i j : ℕ) → slice_get places i ≡ Some j → HaveOneWord rules j i
  pub right : (i j : ℕ) → slice_get places i ≡ Some j → HaveOneWord others j i

-- the keys are pairs of numbers that stand below a place, each at the place in the other list
pub record AreOrigins (left right : List ℕ) (keys : List (ℕ × ℕ)) (origins : List ℕ)
    (here : ℕ) : Type 0 where
  pub count : length origins ≡ length keys
  pub each : (k o : ℕ) (p : ℕ × ℕ) → slice_get origins k ≡ Some o → slice_get keys k ≡ Some p →
      (o < here) × (slice_get left o ≡ Some p.0) × (slice_get right o ≡ Some p.1)
