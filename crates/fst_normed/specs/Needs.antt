-- Which candidates the question of two words needs, and how many rewrites.
use Rattle.std.specs.Prelude.{◌≡◌, ◌≢◌, ℕ, ◌+◌, ◌<◌, List, [], ◌∷◌, ◌++◌, length, Option, Some, All, sum_by}
use Rattle.std.specs.List.{AllPairs}
use Rattle.fst_words.specs.declared.rules.Rule.{Rule}
use Rattle.fst_words.specs.Words.{Productions, row_of, step}
use Rattle.fst_normed.specs.Candidates.{IsThere, residual}
use Rattle.fst_normed.specs.Joining.{exchanges}
use Rattle.fst_normed.specs.Normed.{IsNormedGrammar}

-- what the two words of candidate c become by some letter exchanges candidate d when it is joined
pub record Needs (rows : Productions) (norms : List (Option ℕ)) (words : List (List ℕ))
    (c d : ℕ × ℕ) : Type 0 where
  pub letter : ℕ
  pub left : List ℕ
  pub right : List ℕ
  pub first : step rows (c.1 ∷ []) letter ≡ Some left
  pub second : step rows (c.0 ∷ residual norms words c.0 c.1) letter ≡ Some right
  pub there : IsThere (exchanges norms words left right) d

-- the question of two words needs a candidate: they exchange it when they are joined, or one that is needed needs it
pub data IsNeeded (rows : Productions) (norms : List (Option ℕ)) (words : List (List ℕ))
    (u v : List ℕ) : ℕ × ℕ → Type 0 where
  asked : {c : ℕ × ℕ} → IsThere (exchanges norms words u v) c → IsNeeded rows norms words u v c
  after : {d : ℕ × ℕ} (c : ℕ × ℕ) → IsNeeded rows norms words u v c → Needs rows norms words c d →
      IsNeeded rows norms words u v d

-- how many rewrites join the words of rules, one after the other, to those of the others with this word behind them
abbrev pub rewrites_in_turn : List (Option ℕ) → List (List ℕ) → List Rule → List Rule → List ℕ → ℕ
rewrites_in_turn norms words [] others tail = 0
rewrites_in_turn norms words (r ∷ rules) [] tail = 0
rewrites_in_turn norms words (r ∷ rules) (q ∷ others) tail =
    length (exchanges norms words r.word (q.word ++ tail)) +
    rewrites_in_turn norms words rules others tail

-- how many join what the two words of a candidate become, letter by letter
abbrev pub rewrites_at : Productions → List (Option ℕ) → List (List ℕ) → ℕ × ℕ → ℕ
rewrites_at rows norms words c =
    rewrites_in_turn norms words (row_of rows c.1) (row_of rows c.0) (residual norms words c.0 c.1)

-- the question of two words takes more than so many rewrites: to join them, and what candidates that they need become by each letter
pub record TakesMore (rows : Productions) (u v : List ℕ) (most : ℕ) : Type 0 where
  pub norms : List (Option ℕ)
  pub words : List (List ℕ)
  pub grammar : IsNormedGrammar rows norms words
  pub needed : List (ℕ × ℕ)
  pub once : AllPairs (λ c d. c ≢ d) needed
  pub each : All (IsNeeded rows norms words u v) needed
  pub more : most < length (exchanges norms words u v) + sum_by
      (rewrites_at rows norms words) needed
