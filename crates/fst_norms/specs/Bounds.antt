-- Upper bounds of norms, which the rules lower until they are the norms.
use Rattle.std.specs.Prelude.{◌≡◌, ℕ, ◌+◌, ◌<◌, ◌≤◌, ◌&&◌, List, [], ◌∷◌, length, Option, Some, None, slice_index_or, Bool, true, is_some, min, unwrap_or, if◌then◌else◌}
use Rattle.fst_base.specs.Limits.{greatest_norm}
use Rattle.fst_words.specs.declared.rules.Rule.{Rule}
use Rattle.fst_words.specs.Words.{Productions, row_of}
use Rattle.fst_norms.specs.Norms.{Empties}

-- the bound of a non-terminal
abbrev pub bound_at : List (Option ℕ) → ℕ → Option ℕ
bound_at bounds n = slice_index_or bounds n None

-- the norm of a non-terminal, of norms by number; 0 where it has none
abbrev pub norm_of : List (Option ℕ) → ℕ → ℕ
norm_of norms n = unwrap_or (bound_at norms n) 0

-- each non-terminal of the word has a bound
abbrev pub all_bounded : List (Option ℕ) → List ℕ → Bool
all_bounded bounds [] = true
all_bounded bounds (n ∷ w) = is_some (bound_at bounds n) && all_bounded bounds w

-- the sum of the bounds of a word's non-terminals
abbrev pub total : List (Option ℕ) → List ℕ → ℕ
total bounds [] = 0
total bounds (n ∷ w) = unwrap_or (bound_at bounds n) 0 + total bounds w

-- the bound of a word
abbrev pub word_bound : List (Option ℕ) → List ℕ → Option ℕ
word_bound bounds w = if all_bounded bounds w then Some
    (min (total bounds w) greatest_norm) else None

-- one letter more than a bound
abbrev pub one_more : Option ℕ → Option ℕ
one_more None = None
one_more (Some k) = Some (min (k + 1) greatest_norm)

-- the bound by a rule
abbrev pub rule_bound : List (Option ℕ) → Rule → Option ℕ
rule_bound bounds r = one_more (word_bound bounds r.word)

-- a bound as a number, where none stands above all
abbrev pub weight : Option ℕ → ℕ
weight None = greatest_norm + 1
weight (Some k) = min k greatest_norm

-- all bounds are there, and below 2^63
abbrev pub AreAllBelow : List (Option ℕ) → Type 0
AreAllBelow bounds = (n : ℕ) → n < length bounds → weight (bound_at bounds n) < greatest_norm

-- the lesser of two bounds
abbrev pub lesser : Option ℕ → Option ℕ → Option ℕ
lesser a None = a
lesser None (Some b) = Some b
lesser (Some a) (Some b) = Some (min a b)

-- the least bound by one of the rules
abbrev pub best_bound : List (Option ℕ) → List Rule → Option ℕ
best_bound bounds [] = None
best_bound bounds (r ∷ rules) = lesser (rule_bound bounds r) (best_bound bounds rules)

-- each bound is the length of a trace to the empty word, or 2^63 where that is longer
abbrev pub IsSound : Productions → List (Option ℕ) → Type 0
IsSound rows bounds = (n k : ℕ) → bound_at bounds n ≡ Some k →
    (s : List ℕ) × Empties rows (n ∷ []) s × (k ≡ min (length s) greatest_norm)

-- no rule gives the non-terminal a lesser bound
abbrev pub IsSettledAt : Productions → List (Option ℕ) → ℕ → Type 0
IsSettledAt rows bounds n = weight (bound_at bounds n) ≤ weight (best_bound bounds (row_of rows n))
