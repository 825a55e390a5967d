-- Words that aren't pruned, and what pruning cuts off them.
use Rattle.std.proofs.Common.{◌≡◌, ℕ, zero, suc, ◌+◌, ◌<◌, List, [], ◌∷◌, ◌++◌, length, take, drop, add-one, append-nil, append_assoc, refl, sym, ◌∙◌, ap, subst, arith, inl, inr, Some, None, Option, Bool, true, false, ◌==◌, nat_lt, All}
use Rattle.std.specs.Prelude.{IfSome, if◌then◌else◌, slice_get, slice_index_or}
use Rattle.std.specs.Str.{bytes_eq}
use Rattle.std.proofs.lemmas.Bool.{eq-eqb, le-leb}
use Rattle.std.proofs.Math.Seq.{get_or-append_seam}
use Rattle.std.proofs.lemmas.List.{length-append}
use Rattle.std.proofs.lemmas.List.Elements.{All-append, All-head, All-tail, All-cons, All-nil}
use Rattle.std.proofs.lemmas.Slice.Eq.{bytes_eq-Decides}
use Rattle.fst_words.specs.Marks.{has_marked, is_marked}
use Rattle.fst_words.specs.Words.{WordBelow}
use Rattle.fst_norms.specs.Pruned.{IsPruned, pruned_word}
use Rattle.fst_words.specs.Marks.{cut}
use Rattle.fst_basis.specs.declared.proof.Pair.{Pair}
use Rattle.fst_basis.specs.declared.proof.Chain.{Chain}
use Rattle.fst_basis.specs.declared.proof.Rewrite.{Rewrite}
use Rattle.fst_basis.specs.declared.proof.Rewrite.TheVariants.{Cut, Grow}
use Rattle.fst_basis.specs.Basis.{AreExchanges, IsRewriteBelow}
use Rattle.fst_basis.specs.Rewrites.{chained, is_marked_at}
use Rattle.fst_expand.specs.Bridge.{AreCutOff, HaveMet, HaveNoRoom, HaveRoom, IsCutOff, IsWay, Meet, cutting, growing}
use Rattle.fst_expand.specs.Good.{AreDistinct, Each}
use Rattle.fst_expand.specs.Trail.{AreUnmarked, IsCrowded, IsJoining, IsPrunedPair}
use Rattle.fst_expand.proofs.CollectLaws.{same_pairs}
use Rattle.fst_expand.proofs.CutLaws.{same_cuts, unmarked_parts}
use Rattle.fst_basis.proofs.Laws.{chained-append, chained_first}

-- pruning a word in front of a pruned one is cutting it there
pub pruned_in_front : (marks : List Bool) (v w : List ℕ) → IsPruned marks w → pruned_word marks (v ++ w) ≡ cut marks v w
pruned_in_front marks [] w p = p
pruned_in_front marks (n ∷ v) w p = ap (λ (z : List ℕ). n ∷ (if is_marked marks n then [] else z)) (pruned_in_front marks v w p)

-- what is cut stays below a number
pub cut_below : (n : ℕ) (marks : List Bool) (v w : List ℕ) → WordBelow n v → WordBelow n w → WordBelow n (cut marks v w)
cut_below n marks [] w hv hw = hw
cut_below n marks (k ∷ v) w hv hw =
    elim (is_marked marks k) as (λ b. WordBelow n (k ∷ (if b then [] else cut marks v w))) [
      | true ↦ All-cons (λ k. k < n) k [] (All-head (λ k. k < n) k v hv) (All-nil (λ k. k < n))
      | false ↦ All-cons (λ k. k < n) k (cut marks v w) (All-head (λ k. k < n) k v hv)
          (cut_below n marks v w (All-tail (λ k. k < n) k v hv) hw)
    ]

-- and it is pruned
pub cut_pruned : (marks : List Bool) (v w : List ℕ) → IsPruned marks w → IsPruned marks (cut marks v w)
cut_pruned marks [] w p = p
cut_pruned marks (n ∷ v) w p =
    elim (is_marked marks n) as (λ b. n ∷ (if b then [] else pruned_word marks (if b then [] else cut marks v w)) ≡ n
    ∷ (if b then [] else cut marks v w)) [
      | true ↦ refl
      | false ↦ ap (λ (z : List ℕ). n ∷ z) (cut_pruned marks v w p)
    ]

-- nothing is cut where nothing is marked
pub uncut : (marks : List Bool) (v w : List ℕ) → has_marked marks v ≡ false → cut marks v w ≡ v ++ w
uncut marks [] w u = refl
uncut marks (n ∷ v) w u =
    let p = unmarked_parts (is_marked marks n) (has_marked marks v) u in
    let first = p.0 in
    rw first (ap (λ (z : List ℕ). n ∷ z) (uncut marks v w p.1))

-- a long word, what is left of it behind a place, and that in front of it
record AreParts (marks : List Bool) (v w : List ℕ) (at : ℕ) : Type 0 where
  short : cut marks v w ≡ take (suc at) v
  number : ℕ
  marked : is_marked marks number ≡ true
  parts : v ≡ take at v ++ (number ∷ drop (suc at) v)
  front : take (suc at) v ≡ take at v ++ (number ∷ [])
  count : length (take at v) ≡ at

cut_parts : (marks : List Bool) (v w : List ℕ) (at : ℕ) → at < length v →
    ((d : ℕ) → is_marked marks (slice_index_or v at d) ≡ true) → has_marked marks (take at v) ≡ false → AreParts marks v w at
cut_parts marks [] w at l m u = absurd (omega arith)
cut_parts marks (n ∷ v) w zero l m u =
    let first : is_marked marks n ≡ true = m 0 in
    record { short = rw first refl; number = n; marked = first; parts = refl; front = refl; count = refl }
cut_parts marks (n ∷ v) w (suc at) l m u =
    let p = unmarked_parts (is_marked marks n) (has_marked marks (take at v)) u in
    let first = p.0 in
    let q = cut_parts marks v w at (omega arith) m p.1 in
    record {
      short = rw first (ap (λ (z : List ℕ). n ∷ z) q.short);
      number = q.number;
      marked = q.marked;
      parts = ap (λ (z : List ℕ). n ∷ z) q.parts;
      front = ap (λ (z : List ℕ). n ∷ z) q.front;
      count = ap suc q.count;
    }

-- a marked non-terminal stands behind a front
marked_behind : (marks : List Bool) (front : List ℕ) (n : ℕ) (w : List ℕ) → is_marked marks n ≡ true →
    is_marked_at marks (front ++ (n ∷ w)) (length front) ≡ true
marked_behind marks front n w m =
    let lt : nat_lt (length front) (length (front ++ (n ∷ w))) ≡ true =
    le-leb (suc (length front)) (length (front ++ (n ∷ w))) (let l = length-append front (n ∷ w) in omega arith) in
    let there : slice_index_or (front ++ (n ∷ w)) (length front) 0 ≡ n = get_or-append_seam front n w 0 in
    rw (lt, there, m) refl

drop_behind : (front : List ℕ) (n : ℕ) (w : List ℕ) → drop (suc (length front)) (front ++ (n ∷ w)) ≡ w
drop_behind [] n w = refl
drop_behind (k ∷ front) n w = drop_behind front n w

take_behind : (front : List ℕ) (n : ℕ) (w : List ℕ) → take (suc (length front)) (front ++ (n ∷ w)) ≡ front ++ (n ∷ [])
take_behind [] n w = refl
take_behind (k ∷ front) n w = ap (λ (z : List ℕ). k ∷ z) (take_behind front n w)

length_one_more : (front : List ℕ) (n : ℕ) → length (front ++ (n ∷ [])) ≡ suc (length front)
length_one_more [] n = refl
length_one_more (k ∷ front) n = ap suc (length_one_more front n)

module _ (marks : List Bool) (front : List ℕ) (n : ℕ) (w : List ℕ) (m : is_marked marks n ≡ true) where
  both_ways : IsCutOff marks (front ++ (n ∷ [])) (front ++ (n ∷ w)) (length front) w
  both_ways =
      let here = marked_behind marks front n w m in
      let last = marked_behind marks front n [] m in
      let d : drop (length front + 1) (front ++ (n ∷ w)) ≡ w = rw add-one (drop_behind front n w) in
      let t : take (length front + 1) (front ++ (n ∷ w)) ≡ front ++ (n ∷ []) = rw add-one (take_behind front n w) in
      let same : bytes_eq w w ≡ true = (bytes_eq-Decides w w).1 refl in
      let len : (length (front ++ (n ∷ [])) == length front + 1) ≡ true =
      eq-eqb (length (front ++ (n ∷ []))) (length front + 1) (let l = length_one_more front n in omega arith) in
      record {
        cuts = λ basis. rw (here, d, same, t) refl;
        grows = λ basis. rw (last, len) (ap Some (append_assoc front (n ∷ []) w));
      }

-- what a word and one behind it are cut off behind the first marked non-terminal
pub cut_off : (marks : List Bool) (v w : List ℕ) (at : ℕ) → at < length v →
    ((d : ℕ) → is_marked marks (slice_index_or v at d) ≡ true) → has_marked marks (take at v) ≡ false →
    IsCutOff marks (cut marks v w) (v ++ w) at (drop (at + 1) v ++ w)
cut_off marks v w at l m u =
    let p = cut_parts marks v w at l m u in
    let b = both_ways marks (take at v) p.number (drop (suc at) v ++ w) p.marked in
    let long : v ++ w ≡ take at v ++ (p.number ∷ (drop (suc at) v ++ w)) = ap (λ (z : List ℕ). z ++ w) p.parts
    ∙ append_assoc (take at v) (p.number ∷ drop (suc at) v) w in
    let short : cut marks v w ≡ take at v ++ (p.number ∷ []) = p.short ∙ p.front in
    let R : List ℕ → List ℕ → Type 0 = λ s g. IsCutOff marks s g at (drop (suc at) v ++ w) in
    let done : R (take at v ++ (p.number ∷ [])) (take at v ++ (p.number ∷ (drop (suc at) v ++ w))) =
    subst (λ (k : ℕ). IsCutOff marks (take at v ++ (p.number ∷ [])) (take at v ++ (p.number ∷ (drop (suc at) v ++ w))) k
    (drop (suc at) v ++ w)) p.count b in
    let all : R (cut marks v w) (v ++ w) = subst (λ (s : List ℕ). R s (v ++ w)) (sym short)
    (subst (R (take at v ++ (p.number ∷ []))) (sym long) done) in
    rw add-one all

-- nothing is cut off where nothing would be left behind
pub nothing_off : (marks : List Bool) (v w : List ℕ) (at : ℕ) → at < length v →
    ((d : ℕ) → is_marked marks (slice_index_or v at d) ≡ true) → has_marked marks (take at v) ≡ false →
    drop (at + 1) v ++ w ≡ [] → cut marks v w ≡ v ++ w
nothing_off marks v w at l m u e =
    let p = cut_parts marks v w at l m u in
    let none : drop (suc at) v ++ w ≡ [] = (let f : drop (at + 1) v ++ w ≡ [] = e in rw add-one at f) in
    let long : v ++ w ≡ take at v ++ (p.number ∷ (drop (suc at) v ++ w)) = ap (λ (z : List ℕ). z ++ w) p.parts
    ∙ append_assoc (take at v) (p.number ∷ drop (suc at) v) w in
    p.short ∙ p.front ∙ ap (λ (z : List ℕ). take at v ++ (p.number ∷ z)) (sym none) ∙ sym long

-- a chain between pruned words is framed by what is cut off and grows again
pub framed_leads : (marks : List Bool) (Q : List Pair) (c d : Option (ℕ × List ℕ)) (steps : List Rewrite) (x0 x y y0 : List ℕ) →
    AreCutOff marks x x0 c → AreCutOff marks y y0 d →
    chained marks Q steps x ≡ Some y → chained marks Q (cutting c ++ (steps ++ growing d)) x0 ≡ Some y0
framed_leads marks Q None None steps x0 x y y0 e f h =
    ap (λ (s : List Rewrite). chained marks Q s x0) (append-nil steps) ∙ ap (chained marks Q steps) (sym e) ∙ h ∙ ap Some f
framed_leads marks Q None (Some d) steps x0 x y y0 e f h =
    ap (chained marks Q (steps ++ Grow d.0 d.1 ∷ [])) (sym e) ∙ chained-append marks Q steps (Grow d.0 d.1 ∷ []) x y h
    ∙ chained_first marks Q (Grow d.0 d.1) [] y y0 (f.grows Q)
framed_leads marks Q (Some c) None steps x0 x y y0 e f h =
    chained_first marks Q (Cut c.0 c.1) (steps ++ []) x0 x (e.cuts Q) ∙ ap
    (λ (s : List Rewrite). chained marks Q s x) (append-nil steps) ∙ h ∙ ap Some f
framed_leads marks Q (Some c) (Some d) steps x0 x y y0 e f h =
    chained_first marks Q (Cut c.0 c.1) (steps ++ Grow d.0 d.1 ∷ []) x0 x (e.cuts Q)
    ∙ chained-append marks Q steps (Grow d.0 d.1 ∷ []) x y h
    ∙ chained_first marks Q (Grow d.0 d.1) [] y y0 (f.grows Q)

-- what is cut off is of the grammar's non-terminals
cutting_below : (n : ℕ) (c : Option (ℕ × List ℕ)) → IfSome c (λ p. WordBelow n p.1) → All (IsRewriteBelow n) (cutting c)
cutting_below n None h = All-nil (IsRewriteBelow n)
cutting_below n (Some c) h = All-cons (IsRewriteBelow n) (Cut c.0 c.1) [] h (All-nil (IsRewriteBelow n))

growing_below : (n : ℕ) (c : Option (ℕ × List ℕ)) → IfSome c (λ p. WordBelow n p.1) → All (IsRewriteBelow n) (growing c)
growing_below n None h = All-nil (IsRewriteBelow n)
growing_below n (Some c) h = All-cons (IsRewriteBelow n) (Grow c.0 c.1) [] h (All-nil (IsRewriteBelow n))

-- the way between the words, once they are pruned, is one between the words themselves
pub framed_way : (n : ℕ) (marks : List Bool) (v t w r : List ℕ) (Q : List Pair) (c d : Option (ℕ × List ℕ)) (steps : List Rewrite)
    (chain : Chain) → AreCutOff marks (cut marks v t) (v ++ t) c →
    AreCutOff marks (cut marks w r) (w ++ r) d → IfSome c (λ p. WordBelow n p.1) → IfSome d (λ p. WordBelow n p.1) →
    chained marks Q steps (cut marks v t) ≡ Some (cut marks w r) →
    AreExchanges steps → chain.steps.items ≡ cutting c ++ (steps ++ growing d) → IsWay n marks Q (v ++ t) (w ++ r) chain
framed_way n marks v t w r Q c d steps chain e f hc hd leads exchanges is = record {
  leads = ap (λ (s : List Rewrite). chained marks Q s (v ++ t)) is
      ∙ framed_leads marks Q c d steps (v ++ t) (cut marks v t) (cut marks w r) (w ++ r) e f leads;
  below = subst (All (IsRewriteBelow n)) (sym is)
      (All-append (IsRewriteBelow n) (cutting c) (steps ++ growing d) (cutting_below n c hc)
      (All-append (IsRewriteBelow n) steps (growing d) (exchanges n) (growing_below n d hd)));
}

module _ (marks : List Bool) (norms : List (Option ℕ)) (words : List (List ℕ)) (v t w r : List ℕ) (old new : List Pair)
    (p : IsPruned marks t) (q : IsPruned marks r) where
  -- what is met between the words, once they are pruned
  pub meet_pruned : (steps : List Rewrite) (heads : ℕ) → AreUnmarked marks norms words → Each (IsPrunedPair marks) old →
      IsJoining norms words (cut marks v t) (cut marks w r) old new steps heads →
      Meet marks norms words (v ++ t) (w ++ r) old new heads
  meet_pruned steps heads unmarked pruned j = record {
    met = record {
      cuts = j.met.cuts;
      cut = rw (pruned_in_front marks v t p, pruned_in_front marks w r q) j.met.cut;
      there = j.met.collects.there;
    };
    grows = j.met.collects.grows;
    adds = j.met.collects.adds;
    fit = record {
      below = j.met.below;
      pruned = j.met.pruned marks unmarked (record
          { left = cut_pruned marks v t p; right = cut_pruned marks w r q; pairs = pruned });
    };
  }

  pub crowded_pruned : (room : ℕ) → IsCrowded norms words (cut marks v t) (cut marks w r) old new room →
      HaveNoRoom marks norms words (v ++ t) (w ++ r) old new room
  crowded_pruned room full = rw (pruned_in_front marks v t p, pruned_in_front marks w r q) full

-- where all cuts were there before, nothing is added, and there is room
pub have_met : (marks : List Bool) (norms : List (Option ℕ)) (words : List (List ℕ)) (x y : List ℕ) (P Q : List Pair) (h k : ℕ) →
    AreDistinct Q → HaveMet marks norms words x y P h →
    Meet marks norms words x y P Q k → Q ≡ P
have_met marks norms words x y P Q h k once met m =
    let same = same_cuts norms words (pruned_word marks x) (pruned_word marks y) met.cuts m.met.cuts h k met.cut m.met.cut in
    same_pairs P Q m.grows once (λ at b e. elim (m.adds at b e) [
      | inl i ↦ i
      | inr i ↦ met.there i.0 b (ap (λ (z : List Pair). slice_get z i.0) same.0 ∙ i.1)
    ])

pub have_room : (marks : List Bool) (norms : List (Option ℕ)) (words : List (List ℕ)) (x y : List ℕ) (P Q : List Pair)
    (room : ℕ) → AreDistinct Q → HaveRoom marks norms words x y P room →
    HaveNoRoom marks norms words x y P Q room → ⊥
have_room marks norms words x y P Q room once (heads, met, le) full =
    let f = full.cuts met.cuts heads met.cut in
    let same : Q ≡ P = same_pairs P Q full.grows once (λ at b e. elim (f.0 at b e) [
      | inl i ↦ i
      | inr i ↦ met.there i.0 b i.1
    ]) in
    let long = ap length same in
    let more = f.1 in
    omega arith

-- places without a marked non-terminal
pub unmarked_front : (marks : List Bool) (w : List ℕ) (at : ℕ) →
    ((k : ℕ) → k < at → is_marked marks (slice_index_or w k 0) ≡ false) → has_marked marks (take at w) ≡ false
unmarked_front marks [] zero h = refl
unmarked_front marks [] (suc at) h = refl
unmarked_front marks (n ∷ w) zero h = refl
unmarked_front marks (n ∷ w) (suc at) h =
    let first : is_marked marks n ≡ false = h 0 (omega arith) in
    let rest = unmarked_front marks w at (λ k l. h (suc k) (omega arith)) in
    rw (first, rest) refl

pub unmarked_all : (marks : List Bool) (w : List ℕ) →
    ((k : ℕ) → k < length w → is_marked marks (slice_index_or w k 0) ≡ false) → has_marked marks w ≡ false
unmarked_all marks [] h = refl
unmarked_all marks (n ∷ w) h =
    let first : is_marked marks n ≡ false = h 0 (omega arith) in
    let rest = unmarked_all marks w (λ k l. h (suc k) (omega arith)) in
    rw (first, rest) refl
