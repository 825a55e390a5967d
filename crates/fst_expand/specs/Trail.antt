-- The way from one word to another, found from both ends.
use Rattle.std.specs.Prelude.{◌≡◌, ℕ, ◌+◌, ◌<◌, List, [], ◌∷◌, ◌++◌, length, reverse, Option, Some, None, Bool, false, ◌⊎◌}
use Rattle.fst_types.specs.declared.side.Side.{Side}
use Rattle.fst_types.specs.declared.side.Side.TheVariants.{Left, Right}
use Rattle.fst_words.specs.Marks.{has_marked, is_marked}
use Rattle.fst_words.specs.Words.{WordBelow}
use Rattle.fst_norms.specs.Bounds.{bound_at}
use Rattle.fst_norms.specs.Pruned.{IsPruned}
use Rattle.fst_shared.specs.Shared.{word_of}
use Rattle.fst_basis.specs.declared.proof.Pair.{Pair}
use Rattle.fst_basis.specs.declared.proof.Rewrite.{Rewrite}
use Rattle.fst_basis.specs.declared.proof.Rewrite.TheVariants.{Forth}
use Rattle.fst_basis.specs.Rewrites.{chained}
use Rattle.fst_basis.specs.Basis.{AreExchanges, IsPairBelow}
use Rattle.fst_expand.specs.declared.joining.Walk.{Walk}
use Rattle.fst_norms.specs.Lowering.{lowered_to}
use Rattle.fst_expand.specs.Cuts.{HasCuts, dropped, head_norm}
use Rattle.fst_expand.specs.Good.{Each}
use Rattle.fst_expand.specs.Table.{Store, Adds, Collects, Grows}

-- both words are pruned
pub record IsPrunedPair (marks : List Bool) (b : Pair) : Type 0 where
  pub left : IsPruned marks b.left
  pub right : IsPruned marks b.right

-- non-terminals that have a norm aren't marked, and neither are those of the words that lower norms
pub record AreUnmarked (marks : List Bool) (norms : List (Option ℕ))
    (words : List (List ℕ)) : Type 0 where
  pub normed : (n k : ℕ) → bound_at norms n ≡ Some k → is_marked marks n ≡ false
  pub lowered : (n : ℕ) → has_marked marks (lowered_to words n) ≡ false

-- with the exchange by a cut, if there is one, behind so many heads
abbrev pub noted : List Rewrite → ℕ → Option ℕ → List Rewrite
noted steps heads None = steps
noted steps heads (Some pair) = steps ++ Forth heads pair ∷ []

-- the exchange by a cut is noted where it belongs: that by the head of the left word comes last, behind all that follows
abbrev pub AreNoted : Side → List Rewrite → List Rewrite → List Rewrite → List Rewrite → ℕ →
    Option ℕ → Type 0
AreNoted Left before after before2 after2 heads cut = (before2 ≡ before) ×
    (after2 ≡ noted after heads cut)
AreNoted Right before after before2 after2 heads cut = (before2 ≡ noted before heads cut) ×
    (after2 ≡ after)

-- The rewrites lead from x to the left word, and from the right word to y, with the same heads in front, so many of them. Those that lead
-- to y come last one first.
pub record Leads (basis : List Pair) (before after : List Rewrite) (heads : ℕ)
    (x y left right : List ℕ) : Type 0 where
  pub front : List ℕ
  pub count : length front ≡ heads
  pub from : (marks : List Bool) → chained marks basis before x ≡ Some (front ++ left)
  pub to : (marks : List Bool) → chained marks basis (reverse after) (front ++ right) ≡ Some y

-- of the cuts of x and y these come first, with so many heads that are dropped, and then those of the two words that are left
pub record ComeFirst (norms : List (Option ℕ)) (words : List (List ℕ)) (x y left right : List ℕ)
    (met : List Pair) (heads : ℕ) : Type 0 where
  pub on : (rest : List Pair) (others : ℕ) → HasCuts norms words left right rest others →
      HasCuts norms words x y (met ++ rest) (heads + others)
  pub back : (cuts : List Pair) (count : ℕ) → HasCuts norms words x y cuts count →
      (rest : List Pair) × (others : ℕ) × HasCuts norms words left right rest others ×
      (cuts ≡ met ++ rest) × (count ≡ heads + others)

-- the numbers of two words and of all pairs are below n
pub record AreBelow (n : ℕ) (x y : List ℕ) (bs : List Pair) : Type 0 where
  pub left : WordBelow n x
  pub right : WordBelow n y
  pub pairs : Each (IsPairBelow n) bs

-- two words and those of all pairs are pruned
pub record ArePruned (marks : List Bool) (x y : List ℕ) (bs : List Pair) : Type 0 where
  pub left : IsPruned marks x
  pub right : IsPruned marks y
  pub pairs : Each (IsPrunedPair marks) bs

-- what holds of the words and pairs on the way from x to y, which began with these pairs
pub record IsUnderway (norms : List (Option ℕ)) (words : List (List ℕ)) (x y : List ℕ)
    (old : List Pair) (t : Store) (w : Walk) : Type 0 where
  pub left : w.left < length t.words
  pub right : w.right < length t.words
  pub leads : Leads t.pairs w.before.items w.after.items w.heads x y (word_of t.words w.left)
      (word_of t.words w.right)
  pub before : AreExchanges w.before.items
  pub after : AreExchanges w.after.items
  pub met : List Pair
  pub first : ComeFirst norms words x y (word_of t.words w.left)
      (word_of t.words w.right) met w.heads
  pub collects : Collects met old t.pairs
  pub below : AreBelow (length words) (word_of t.words w.left) (word_of t.words w.right) t.pairs
  pub pruned : (marks : List Bool) → AreUnmarked marks norms words → ArePruned marks x y old →
      ArePruned marks (word_of t.words w.left) (word_of t.words w.right) t.pairs

-- two words are the same, or no head of theirs is dropped
abbrev pub HasNoDrop : List (Option ℕ) → List ℕ → List ℕ → Type 0
HasNoDrop norms x y = (x ≡ y) ⊎ (dropped (head_norm norms x) (head_norm norms y) ≡ None)

-- the pairs are those from before and the cuts of two words, of which so many heads are dropped
pub record AreMet (norms : List (Option ℕ)) (words : List (List ℕ)) (x y : List ℕ)
    (old new : List Pair) (heads : ℕ) : Type 0 where
  pub cuts : List Pair
  pub cut : HasCuts norms words x y cuts heads
  pub collects : Collects cuts old new
  pub below : Each (IsPairBelow (length words)) new
  pub pruned : (marks : List Bool) → AreUnmarked marks norms words → ArePruned marks x y old →
      Each (IsPrunedPair marks) new

-- and the rewrites lead from one to the other
pub record IsJoining (norms : List (Option ℕ)) (words : List (List ℕ)) (x y : List ℕ)
    (old new : List Pair) (steps : List Rewrite) (heads : ℕ) : Type 0 where
  pub leads : (marks : List Bool) → chained marks new steps x ≡ Some y
  pub exchanges : AreExchanges steps
  pub met : AreMet norms words x y old new heads

-- The pairs, which are those from before and some of the cuts, and the heads of all cuts are more than there is room for.
pub record IsCrowded (norms : List (Option ℕ)) (words : List (List ℕ)) (x y : List ℕ)
    (old new : List Pair) (room : ℕ) : Type 0 where
  pub grows : Grows old new
  pub cuts : (cuts : List Pair) (count : ℕ) → HasCuts norms words x y cuts count →
      Adds cuts old new × (room < length new + count)
