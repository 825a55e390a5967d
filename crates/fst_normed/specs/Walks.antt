-- The way from one word to another, found from both ends.
use Rattle.std.specs.Prelude.{◌≡◌, ℕ, List, ◌∷◌, ◌++◌, ◌+◌, reverse, map, length, Option, Some, Bool}
use Rattle.fst_words.specs.Words.{WordBelow}
use Rattle.fst_basis.specs.declared.proof.Pair.{Pair}
use Rattle.fst_basis.specs.declared.proof.Rewrite.{Rewrite}
use Rattle.fst_basis.specs.Basis.{AreExchanges}
use Rattle.fst_basis.specs.Rewrites.{chained}
use Rattle.fst_normed.specs.declared.joining.Walk.{Walk}
use Rattle.fst_normed.specs.Candidates.{IsThere, candidate}
use Rattle.fst_normed.specs.Joining.{AreJoinedByHeads, exchanges}

-- the pairs of these candidates
abbrev pub pairs_of : List (Option ℕ) → List (List ℕ) → List (ℕ × ℕ) → List Pair
pairs_of norms words candidates = map (candidate norms words) candidates

-- The rewrites lead from x to the left word, and from the right word to y, with the same heads in front. Those that lead to y come last
-- one first. If x and y are joined by their heads, so are these two words, which exchange what is left of what x and y exchange.
pub record IsUnderway (norms : List (Option ℕ)) (words : List (List ℕ)) (candidates : List (ℕ × ℕ))
    (x y front left right : List ℕ) (before after : List Rewrite) : Type 0 where
  pub first : AreExchanges before
  pub last : AreExchanges after
  pub from : (marks : List Bool) → chained marks (pairs_of norms words candidates) before x ≡ Some
      (front ++ left)
  pub to : (marks : List Bool) → chained marks (pairs_of norms words candidates) (reverse after)
      (front ++ right) ≡ Some y
  pub joined : AreJoinedByHeads norms words x y → AreJoinedByHeads norms words left right
  pub rest : (c : ℕ × ℕ) → IsThere (exchanges norms words left right) c →
      IsThere (exchanges norms words x y) c
  pub count : (length before + length after) + length (exchanges norms words left right) ≡ length
      (exchanges norms words x y)
  pub left_below : WordBelow (length words) left
  pub right_below : WordBelow (length words) right

-- the rewrites, all of which exchange words of pairs, lead from x to y
abbrev pub Leads : List (Option ℕ) → List (List ℕ) → List (ℕ × ℕ) → List Rewrite → List ℕ → List ℕ →
    Type 0
Leads norms words candidates steps x y = AreExchanges steps ×
    ((marks : List Bool) → chained marks (pairs_of norms words candidates) steps x ≡ Some y)

-- how many rewrites a walk has made
abbrev pub rewrites_in : Walk → ℕ
rewrites_in w = length w.before.items + length w.after.items

-- so it is with the words of a walk
abbrev pub IsUnderwayIn : List (Option ℕ) → List (List ℕ) → List (ℕ × ℕ) → List ℕ → List ℕ → Walk →
    Type 0
IsUnderwayIn norms words candidates x y w =
    IsUnderway norms words candidates x y w.front.items (reverse w.left.items)
    (reverse w.right.items) w.before.items w.after.items

-- and with its words behind these heads
abbrev pub IsUnderwayWith : List (Option ℕ) → List (List ℕ) → List (ℕ × ℕ) → List ℕ → List ℕ →
    Walk → ℕ → ℕ → Type 0
IsUnderwayWith norms words candidates x y w n m =
    IsUnderway norms words candidates x y w.front.items (n ∷ reverse w.left.items)
    (m ∷ reverse w.right.items) w.before.items w.after.items

-- the heads were taken off both words
pub record IsPopped (old new : Walk) (heads : ℕ × ℕ) : Type 0 where
  pub left : reverse old.left.items ≡ heads.0 ∷ reverse new.left.items
  pub right : reverse old.right.items ≡ heads.1 ∷ reverse new.right.items
  pub front : new.front.items ≡ old.front.items
  pub before : new.before.items ≡ old.before.items
  pub after : new.after.items ≡ old.after.items
