-- What the words that lower norms are, one non-terminal after the other.
use Rattle.std.proofs.Common.{◌≡◌, ℕ, suc, ◌<◌, List, [], ◌∷◌, ◌++◌, length, reverse, sym, ◌∙◌, ap, arith, inl, inr, ◌-◌, All, true, false, cond, Option, Some, None}
use Rattle.std.proofs.lemmas.Bool.{cases_lt}
use Rattle.std.proofs.lemmas.List.{get_or_append_left, reverse-append}
use Rattle.std.proofs.Math.Seq.{get_or-append_seam}
use Rattle.std.proofs.lemmas.List.Elements.{All-head, All-nil, All-tail}
use Rattle.fst_words.specs.declared.rules.Rule.{Rule}
use Rattle.fst_words.specs.Words.{InRange, Productions, WordBelow, row_of}
use Rattle.fst_norms.specs.Bounds.{bound_at}
use Rattle.fst_norms.specs.Lowering.{has_norm, lowered_to, lowering, word_of_norm}

-- one word more has its place
pub lowered_push : (words : List (List ℕ)) (w : List ℕ) (f : ℕ → List ℕ) (n : ℕ) → length words ≡ n →
    ((k : ℕ) → k < n → lowered_to words k ≡ f k) → w ≡ f n →
    (k : ℕ) → k < suc n → lowered_to (words ++ w ∷ []) k ≡ f k
lowered_push words w f n len old new k lt = elim (cases_lt k n) [
  | inl l ↦ get_or_append_left words (w ∷ []) [] k (omega arith) ∙ old k l
  | inr l ↦
      let here : k ≡ length words = omega arith in
      let last : k ≡ n = omega arith in
      ap (lowered_to (words ++ w ∷ [])) here ∙ get_or-append_seam words w [] [] ∙ new ∙ ap f (sym last)
]

-- the last item of a stack is the first of its word
pub popped : (stack : List ℕ) (n : ℕ) → reverse (stack ++ n ∷ []) ≡ n ∷ reverse stack
popped stack n = reverse-append stack (n ∷ [])

-- what lowers a norm stays below a number
word_below : (n : ℕ) (norms : List (Option ℕ)) (k : ℕ) (rules : List Rule) → All (λ r. WordBelow n r.word) rules →
    WordBelow n (word_of_norm norms k rules)
word_below n norms k [] h = All-nil (λ k. k < n)
word_below n norms k (r ∷ rules) h =
    elim (has_norm norms k r.word) as (λ b. WordBelow n (cond b r.word (word_of_norm norms k rules))) [
      | true ↦ All-head (λ (z : Rule). WordBelow n z.word) r rules h
      | false ↦ word_below n norms k rules (All-tail (λ (z : Rule). WordBelow n z.word) r rules h)
    ]

lowering_below : (n : ℕ) (norms : List (Option ℕ)) (rules : List Rule) (o : Option ℕ) → All (λ r. WordBelow n r.word) rules →
    WordBelow n (lowering norms rules o)
lowering_below n norms rules None h = All-nil (λ k. k < n)
lowering_below n norms rules (Some k) h = word_below n norms (k - 1) rules h

pub lowering_in_range : (rows : Productions) (norms : List (Option ℕ)) (n : ℕ) → InRange rows → n < length rows →
    WordBelow (length rows) (lowering norms (row_of rows n) (bound_at norms n))
lowering_in_range rows norms n range lt = lowering_below (length rows) norms (row_of rows n) (bound_at norms n) (range n [] lt)
