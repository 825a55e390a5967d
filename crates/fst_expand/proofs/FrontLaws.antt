-- Words in front of those of a table that grows.
use Rattle.std.proofs.Common.{◌≡◌, ◌<◌, ℕ, List, [], ◌∷◌, ◌++◌, length, refl, sym, ap, subst, arith, Some, Option, Bool, true, All}
use Rattle.std.specs.Prelude.{slice_get}
use Rattle.std.proofs.lemmas.List.Elements.{All-head, All-nil, All-tail}
use Rattle.std.proofs.lemmas.Option.{slice_get_within}
use Rattle.fst_base.proofs.Lists.{get_there}
use Rattle.fst_words.specs.declared.rules.Rule.{Rule}
use Rattle.fst_words.specs.Ordered.{AreOrdered}
use Rattle.fst_words.specs.Words.{Productions, WordBelow, row_of}
use Rattle.fst_norms.specs.Pruned.{IsPruned}
use Rattle.fst_shared.specs.Shared.{Keeps, word_of}
use Rattle.fst_basis.specs.declared.proof.Pair.{Pair}
use Rattle.fst_basis.specs.declared.proof.Chain.{Chain}
use Rattle.fst_basis.specs.Basis.{IsPair, same_letters}
use Rattle.fst_expand.specs.Bridge.{AreFit, HaveMet, IsFront, IsParts, IsWay}
use Rattle.fst_expand.specs.Expansion.{AreFollowed, AreWays, parts_pair}
use Rattle.fst_expand.specs.Repeats.{ArePlaces}
use Rattle.fst_expand.specs.Table.{key_pair}
use Rattle.fst_expand.proofs.CutLaws.{rest_pruned}
use Rattle.fst_expand.proofs.FollowLaws.{pair_moves}
use Rattle.fst_expand.proofs.PlaceLaws.{all_at}

-- the word of a rule, in front of a word that was in the table before
pub front_of : (n : ℕ) (marks : List Bool) (old now : List (List ℕ)) (p : ℕ × ℕ) (rules : List Rule) (i : ℕ) (r : Rule)
    (w : List ℕ) → Keeps old now → IsParts n marks old p →
    All (λ r. WordBelow n r.word) rules → slice_get rules i ≡ Some r → w ≡ r.word → IsFront n marks now w p.1
front_of n marks old now p rules i r w keeps parts below there is =
    let kept = keeps.kept p.1 parts.there in
    record {
      there = (let longer = keeps.longer in let lt = parts.there in omega arith);
      word = subst (WordBelow n) (sym is) (all_at (λ (r : Rule). WordBelow n r.word) rules i r below there);
      behind = subst (WordBelow n) (sym kept) parts.behind;
      pruned = subst (IsPruned marks) (sym kept) parts.pruned;
    }

module _ (rules others : List Rule) (places : List ℕ) (h : ArePlaces rules others places) (wide : length rules ≡ length others)
    (i j : ℕ) (r q : Rule) (at : slice_get places i ≡ Some j)
    (ri : slice_get rules i ≡ Some r) (qi : slice_get others i ≡ Some q) (t s : List ℕ) where
  -- what is known of words holds of those by the letter at an earlier place
  alike : (R : List ℕ → List ℕ → Type 0) → ((a b : Rule) → slice_get rules j ≡ Some a → slice_get others j ≡ Some b →
      R (a.word ++ t) (b.word ++ s)) → R (r.word ++ t) (q.word ++ s)
  alike R f =
      let le = h.before i j at in
      let lt = slice_get_within rules i r ri in
      let a = get_there rules j (omega arith) in
      let b = get_there others j (omega arith) in
      let left = ap (λ (z : List ℕ). z ++ t) (h.left i j at a.0 r a.1 ri) in
      let right = ap (λ (z : List ℕ). z ++ s) (h.right i j at b.0 q b.1 qi) in
      subst (λ (z : List ℕ). R z (q.word ++ s)) left (subst (λ (z : List ℕ). R (a.0.word ++ t) z) right (f a.0 b.0 a.1 b.1))

  pub met_before : (rows : Productions) (marks : List Bool) (norms : List (Option ℕ)) (words : List (List ℕ)) (b : Pair)
      (old new : List Pair) (counts : List ℕ) (heads k : ℕ) →
      AreFollowed rows marks norms words b old new rules others t s counts heads → slice_get counts j ≡ Some k →
      HaveMet marks norms words (r.word ++ t) (q.word ++ s) new k
  met_before rows marks norms words b old new counts heads k f e =
      alike (λ x y. HaveMet marks norms words x y new k) (λ a c ra qc. f.each j k a c e ra qc)

  pub way_before : (n : ℕ) (marks : List Bool) (pairs : List Pair) (chains : List Chain) (c : Chain) →
      AreWays n marks pairs rules others t s chains → slice_get chains j ≡ Some c →
      IsWay n marks pairs (r.word ++ t) (q.word ++ s) c
  way_before n marks pairs chains c f e = alike (λ x y. IsWay n marks pairs x y c) (λ a d ra qd. f j c a d e ra qd)

headed : (n : ℕ) (marks : List Bool) (words : List (List ℕ)) (w : List ℕ) (p : ℕ × ℕ) → WordBelow n w → IsPruned marks w →
    w ≡ p.0 ∷ word_of words p.1 → p.1 < length words → IsParts n marks words p
headed n marks words w p below pruned is lt =
    let b = subst (WordBelow n) is below in
    record {
      head = All-head (λ k. k < n) p.0 (word_of words p.1) b;
      there = lt;
      behind = All-tail (λ k. k < n) p.0 (word_of words p.1) b;
      pruned = rest_pruned marks (p.0 ∷ word_of words p.1) (subst (IsPruned marks) is pruned);
    }

module _ (n : ℕ) (marks : List Bool) (words : List (List ℕ)) (pairs : List Pair) (at : ℕ) (key p : ℕ × ℕ)
    (fit : AreFit marks n pairs) (there : slice_get pairs at ≡ Some (key_pair words key)) where
  -- the first non-terminal of a word of a pair, and what is behind it
  pub parts_left : word_of words key.0 ≡ p.0 ∷ word_of words p.1 → p.1 < length words → IsParts n marks words p
  parts_left is lt = headed n marks words (word_of words key.0) p (fit.below at (key_pair words key) there).left
      (fit.pruned at (key_pair words key) there).left is lt

  pub parts_right : word_of words key.1 ≡ p.0 ∷ word_of words p.1 → p.1 < length words → IsParts n marks words p
  parts_right is lt = headed n marks words (word_of words key.1) p (fit.below at (key_pair words key) there).right
      (fit.pruned at (key_pair words key) there).right is lt

-- a word alone stands in front of the empty one
pub front_alone : (k n : ℕ) (marks : List Bool) (words : List (List ℕ)) (w : List ℕ) → n ≡ k → 0 < length words →
    word_of words 0 ≡ [] → WordBelow k w → IsFront n marks words w 0
front_alone k n marks words w long some empty below = record {
  there = some;
  word = subst (λ (z : ℕ). WordBelow z w) (sym long) below;
  behind = rw empty (All-nil (λ k. k < n));
  pruned = rw empty refl;
}

pub nothing_fits : (marks : List Bool) (n : ℕ) → AreFit marks n []
nothing_fits marks n = record { below = λ at b e. absurd (cc e); pruned = λ at b e. absurd (cc e) }

-- the words of a pair with these parts perform the same letters
pub pair_letters : (rows : Productions) (words : List (List ℕ)) (l r : ℕ × ℕ) → AreOrdered (row_of rows l.0) →
    AreOrdered (row_of rows r.0) → IsPair rows (parts_pair words l r) →
    same_letters (row_of rows l.0) (row_of rows r.0) ≡ true
pair_letters rows words l r on om pair = (pair_moves rows (parts_pair words l r) l.0 r.0 (word_of words l.1)
    (word_of words r.1) refl refl on om).1 pair

-- a pair with these parts is the one with these words
pub same_parts : (words : List (List ℕ)) (key l r : ℕ × ℕ) → word_of words key.0 ≡ l.0 ∷ word_of words l.1 →
    word_of words key.1 ≡ r.0 ∷ word_of words r.1 → key_pair words key ≡ parts_pair words l r
same_parts words key l r left right = λ i. record { left = left i; right = right i }
