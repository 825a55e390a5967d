-- What following pairs by their letters finds.
use Rattle.std.specs.Prelude.{◌≡◌, ℕ, ◌+◌, ◌<◌, List, ◌∷◌, ◌++◌, length, take, drop, Bool, Some, slice_get, sum_by, Option, ◌⊎◌}
use Rattle.std.specs.declared.vec.Vec.{Vec}
use Rattle.std.specs.declared.alloc.Global.{Global}
use Rattle.fst_words.specs.declared.rules.Rule.{Rule}
use Rattle.fst_words.specs.Words.{Productions, first_row, step}
use Rattle.fst_shared.specs.Shared.{word_of}
use Rattle.fst_basis.specs.declared.proof.Pair.{Pair}
use Rattle.fst_basis.specs.declared.proof.Chain.{Chain}
use Rattle.fst_basis.specs.Basis.{AreJoinedByRules, IsPair}
use Rattle.fst_expand.specs.Bridge.{AreFit, HaveMet, HaveRoom, IsWay}
use Rattle.fst_expand.specs.Good.{DropHeads, Each, HaveCutsAfter, HavePrunedCuts, IsIn, IsReachedCut}
use Rattle.fst_expand.specs.Table.{Grows}

-- the pair of two words, each by its first non-terminal and the number of what is behind it
abbrev pub parts_pair : List (List ℕ) → ℕ × ℕ → ℕ × ℕ → Pair
parts_pair words l r = record { left = l.0 ∷ word_of words l.1; right = r.0 ∷ word_of words r.1 }

-- the pair is a cut of what the words of another become by a letter
pub record IsNextCut (rows : Productions) (marks : List Bool) (norms : List (Option ℕ))
    (words : List (List ℕ)) (b c : Pair) : Type 0 where
  pub letter : ℕ
  pub cuts : List Pair
  pub heads : ℕ
  pub cut : HaveCutsAfter rows marks norms words b letter cuts heads
  pub there : IsIn c cuts

-- each pair was there before, or is such a cut
abbrev pub AddsNext : Productions → List Bool → List (Option ℕ) → List (List ℕ) → Pair → List Pair →
    List Pair → Type 0
AddsNext rows marks norms words b old new = Each
    (λ c. IsIn c old ⊎ IsNextCut rows marks norms words b c) new

-- what the words of a pair become by the letter of a rule
pub record AreAfter (rows : Productions) (b : Pair) (a : ℕ) (x y : List ℕ) : Type 0 where
  pub left : step rows b.left a ≡ Some x
  pub right : step rows b.right a ≡ Some y

-- by the first letters of a pair, of which there are as many as counts, cuts were added and heads were dropped
pub record AreFollowed (rows : Productions) (marks : List Bool) (norms : List (Option ℕ))
    (words : List (List ℕ)) (b : Pair) (old new : List Pair) (rules others : List Rule)
    (t s : List ℕ)
    (counts : List ℕ) (heads : ℕ) : Type 0 where
  pub grows : Grows old new
  pub each : (j h : ℕ) (r q : Rule) → slice_get counts j ≡ Some h → slice_get rules j ≡ Some r →
      slice_get others j ≡ Some q → HaveMet marks norms words (r.word ++ t) (q.word ++ s) new h
  pub drop : DropHeads rows marks norms words b (take (length counts) rules) heads
  pub adds : AddsNext rows marks norms words b old new
  pub fit : AreFit marks (length words) new

-- there is no room for the pairs and heads of a pair's words
pub record LackRoom (rows : Productions) (marks : List Bool) (norms : List (Option ℕ))
    (words : List (List ℕ)) (b : Pair) (old new : List Pair) (room : ℕ) : Type 0 where
  pub grows : Grows old new
  pub cuts : (count : ℕ) → DropHeads rows marks norms words b (first_row rows b.left) count →
      AddsNext rows marks norms words b old new × (room < length new + count)

-- the cuts of what a pair's words become by a letter are all there
abbrev pub IsClosed : Productions → List Bool → List (Option ℕ) → List (List ℕ) → Pair → List Pair →
    Type 0
IsClosed rows marks norms words b pairs =
    (a : ℕ) (cuts : List Pair) (heads : ℕ) → HaveCutsAfter rows marks norms words b a cuts heads →
    Each (λ c. IsIn c pairs) cuts

-- a pair was followed: its words perform the same letters, and the cuts of what they become were added
pub record IsFollowed (rows : Productions) (marks : List Bool) (norms : List (Option ℕ))
    (words : List (List ℕ)) (b : Pair) (old new : List Pair) (heads : ℕ) : Type 0 where
  pub pair : IsPair rows b
  pub grows : Grows old new
  pub drop : DropHeads rows marks norms words b (first_row rows b.left) heads
  pub closed : IsClosed rows marks norms words b new
  pub adds : AddsNext rows marks norms words b old new
  pub fit : AreFit marks (length rows) new

-- a pair has no basis within the room: its words perform different letters, or there is no room
abbrev pub IsStuck : Productions → List Bool → List (Option ℕ) → List (List ℕ) → Pair → List Pair →
    List Pair → ℕ → Type 0
IsStuck rows marks norms words b old new room = IsPair rows b →
    LackRoom rows marks norms words b old new room

-- the cuts of two words are among the pairs, all of which these words lead to; the first pairs were followed, so many of them, and so
-- much of the budget is left
pub record IsExpanded (rows : Productions) (marks : List Bool) (norms : List (Option ℕ))
    (words : List (List ℕ)) (u v : List ℕ) (budget : ℕ) (pairs : List Pair) (at : ℕ)
    (room : ℕ) : Type 0 where
  pub cuts : List Pair
  pub heads : ℕ
  pub first : HavePrunedCuts marks norms words u v cuts heads
  pub there : Each (λ b. IsIn b pairs) cuts
  pub reached : Each (IsReachedCut rows marks norms words u v) pairs
  pub alike : Each (IsPair rows) (take at pairs)
  pub heads_of : Pair → ℕ
  pub next : Each (λ b. DropHeads rows marks norms words b (first_row rows b.left) (heads_of b))
      (take at pairs)
  pub closed : Each (λ b. IsClosed rows marks norms words b pairs) (take at pairs)
  pub spent : budget ≡ room + (heads + sum_by heads_of (take at pairs))
  pub fit : AreFit marks (length rows) pairs

-- the chains, one for each of the first rules, lead from what a pair's left word becomes by the rule to what its right word becomes
abbrev pub AreWays : ℕ → List Bool → List Pair → List Rule → List Rule → List ℕ → List ℕ →
    List Chain → Type 0
AreWays n marks pairs rules others t s chains =
    (j : ℕ) (c : Chain) (r q : Rule) → slice_get chains j ≡ Some c → slice_get rules j ≡ Some r →
    slice_get others j ≡ Some q → IsWay n marks pairs (r.word ++ t) (q.word ++ s) c

-- there is room for what the words of a pair become by each letter
abbrev pub HaveRooms : Productions → List Bool → List (Option ℕ) → List (List ℕ) → List Pair → ℕ →
    Pair → Type 0
HaveRooms rows marks norms words pairs room b =
    (a : ℕ) (x y : List ℕ) → AreAfter rows b a x y → HaveRoom marks norms words x y pairs room

-- the words of each pair perform the same letters, and there is room for what they become by each
pub record AreSettled (rows : Productions) (marks : List Bool) (norms : List (Option ℕ))
    (words : List (List ℕ)) (pairs : List Pair) (room : ℕ) : Type 0 where
  pub alike : Each (IsPair rows) pairs
  pub rooms : Each (HaveRooms rows marks norms words pairs room) pairs

-- the chains, letter by letter, join what the words of a pair become
abbrev pub AreFollowedBy : Productions → List Bool → List Pair → Pair → Vec Chain Global → Type 0
AreFollowedBy rows marks pairs b chains =
    AreJoinedByRules rows marks pairs (drop 1 b.left) b.right (first_row rows b.left) chains.items
