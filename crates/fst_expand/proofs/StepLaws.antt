-- What one head more changes on the way from one word to another.
use Rattle.std.proofs.Common.{◌≡◌, ◌≢◌, ℕ, zero, suc, ◌+◌, ◌<◌, List, [], ◌∷◌, ◌++◌, length, take, drop, append_assoc, sym, ◌∙◌, ap, subst, arith, Some, Option, Bool, true, false, cond, All}
use Rattle.std.specs.Str.{bytes_eq}
use Rattle.fst_types.specs.declared.side.Side.{Side}
use Rattle.fst_types.specs.declared.side.Side.TheVariants.{Left, Right}
use Rattle.fst_words.specs.Words.{WordBelow}
use Rattle.fst_shared.specs.Shared.{word_of}
use Rattle.fst_basis.specs.declared.proof.Pair.{Pair}
use Rattle.fst_basis.specs.Basis.{IsPairBelow}
use Rattle.fst_expand.specs.declared.joining.Walk.{Walk}
use Rattle.fst_expand.specs.Cuts.{HasCuts, dropped, head_cut, head_norm, left_rest, lowered_head, right_rest, unless_same}
use Rattle.fst_expand.specs.Good.{Each}
use Rattle.fst_expand.specs.Table.{Adds, AreNumbered, Store}
use Rattle.fst_expand.specs.Trail.{AreBelow, AreNoted, ArePruned, AreUnmarked, ComeFirst, IsPrunedPair, IsUnderway}
use Rattle.fst_expand.proofs.CollectLaws.{collects_on, each_added, number_collects}
use Rattle.fst_expand.proofs.CutLaws.{HasHead, after_drop, append_below, append_unmarked, front_pruned, head_below, head_unmarked, heads_there, lowered_below, lowered_unmarked, rest_below, rest_pruned, unmarked_pruned}
use Rattle.fst_expand.proofs.WalkLaws.{leads_next}
use Rattle.fst_expand.proofs.WayLaws.{both_exchanges}

-- what holds of both words' pair holds of the pair, if there is one
pub unless_each : (R : Pair → Type 0) (x y : List ℕ) → R (record { left = x; right = y }) → Each R (unless_same x y)
unless_each R x y h =
    elim (bytes_eq x y) as (λ b. Each R (cond {A = List Pair} b [] (record { left = x; right = y } ∷ []))) [
      | true ↦ λ at b e. cc
      | false ↦ only
    ]
  where
    only : Each R (record { left = x; right = y } ∷ [])
    only zero b e = subst R (let f : record { left = x; right = y } ≡ b = cc in f) h
    only (suc at) b e = cc

-- what comes first of the cuts once a head is dropped
first_next : (norms : List (Option ℕ)) (words : List (List ℕ)) (x y l r : List ℕ) (met : List Pair) (heads : ℕ) (side : Side)
    (norm : ℕ) → l ≢ r →
    dropped (head_norm norms l) (head_norm norms r) ≡ Some (side, norm) → ComeFirst norms words x y l r met heads →
    ComeFirst norms words x y (left_rest words side norm l) (right_rest words side norm r) (met ++ head_cut words side norm l r)
    (heads + 1)
first_next norms words x y l r met heads side norm other drop f = record {
  on = λ rest others h.
      let g = f.on (head_cut words side norm l r ++ rest) (suc others) (HasCuts.drops other drop h) in
      let sum : heads + suc others ≡ (heads + 1) + others = omega arith in
      subst (HasCuts norms words x y ((met ++ head_cut words side norm l r) ++ rest)) sum
      (subst (λ (z : List Pair). HasCuts norms words x y z (heads + suc others))
      (sym (append_assoc met (head_cut words side norm l r) rest)) g);
  back = λ cuts count h.
      let p = f.back cuts count h in
      let d = after_drop norms words l r side norm p.0 p.1 p.2 other drop in
      let s = p.4 in
      let t = d.sum in (
        d.rest,
        d.others,
        d.cut,
        p.3 ∙ ap (λ (z : List Pair). met ++ z) d.cuts_are
            ∙ sym (append_assoc met (head_cut words side norm l r) d.rest),
        omega arith,
      );
}

-- all stays below a number
below_next : (n : ℕ) (words : List (List ℕ)) (P Q : List Pair) (l r : List ℕ) (side : Side) (norm : ℕ) → All (WordBelow n) words →
    AreBelow n l r P →
    Adds (head_cut words side norm l r) P Q → AreBelow n (left_rest words side norm l) (right_rest words side norm r) Q
below_next n words P Q l r Left norm h b adds =
    let lower = lowered_below n words norm (take 1 r) h (head_below n r b.right) in
    record {
      left = rest_below n l b.left;
      right = append_below n (lowered_head words norm r) (drop 1 r) lower (rest_below n r b.right);
      pairs = each_added (IsPairBelow n) (head_cut words Left norm l r) P Q adds b.pairs
          (unless_each (IsPairBelow n) (take 1 l ++ lowered_head words norm r) (take 1 r)
          (record {
            left = append_below n (take 1 l) (lowered_head words norm r) (head_below n l b.left) lower;
            right =
                head_below n r b.right;
          }));
    }
below_next n words P Q l r Right norm h b adds =
    let lower = lowered_below n words norm (take 1 l) h (head_below n l b.left) in
    record {
      left = append_below n (lowered_head words norm l) (drop 1 l) lower (rest_below n l b.left);
      right = rest_below n r b.right;
      pairs = each_added (IsPairBelow n) (head_cut words Right norm l r) P Q adds b.pairs
          (unless_each (IsPairBelow n) (take 1 l) (take 1 r ++ lowered_head words norm l)
          (record {
            left = head_below n l b.left;
            right =
                append_below n (take 1 r) (lowered_head words norm l) (head_below n r b.right) lower;
          }));
    }

-- and pruned
pruned_next : (marks : List Bool) (norms : List (Option ℕ)) (words : List (List ℕ)) (P Q : List Pair) (l r : List ℕ) (side : Side)
    (norm : ℕ) → AreUnmarked marks norms words →
    HasHead norms l → HasHead norms r → ArePruned marks l r P → Adds (head_cut words side norm l r) P Q →
    ArePruned marks (left_rest words side norm l) (right_rest words side norm r) Q
pruned_next marks norms words P Q l r Left norm u hl hr p adds =
    let head = head_unmarked marks norms words l u hl in
    let other = head_unmarked marks norms words r u hr in
    let lower = lowered_unmarked marks norms words norm (take 1 r) u other in
    record {
      left = rest_pruned marks l p.left;
      right = front_pruned marks (lowered_head words norm r) (drop 1 r) lower (rest_pruned marks r p.right);
      pairs = each_added (IsPrunedPair marks) (head_cut words Left norm l r) P Q adds p.pairs
          (unless_each (IsPrunedPair marks) (take 1 l ++ lowered_head words norm r) (take 1 r)
          (record {
            left = unmarked_pruned marks (take 1 l ++ lowered_head words norm r)
                (append_unmarked marks (take 1 l) (lowered_head words norm r) head lower);
            right = unmarked_pruned marks (take 1 r) other;
          }));
    }
pruned_next marks norms words P Q l r Right norm u hl hr p adds =
    let head = head_unmarked marks norms words r u hr in
    let other = head_unmarked marks norms words l u hl in
    let lower = lowered_unmarked marks norms words norm (take 1 l) u other in
    record {
      left = front_pruned marks (lowered_head words norm l) (drop 1 l) lower (rest_pruned marks l p.left);
      right = rest_pruned marks r p.right;
      pairs = each_added (IsPrunedPair marks) (head_cut words Right norm l r) P Q adds p.pairs
          (unless_each (IsPrunedPair marks) (take 1 l) (take 1 r ++ lowered_head words norm l)
          (record {
            left = unmarked_pruned marks (take 1 l) other;
            right = unmarked_pruned marks (take 1 r ++ lowered_head words norm l)
                (append_unmarked marks (take 1 r) (lowered_head words norm l) head lower);
          }));
    }

-- what one head more changes
pub record IsDropped (norms : List (Option ℕ)) (words : List (List ℕ)) (s t : Store) (w v : Walk) (side : Side) (norm : ℕ)
    (cut : Option ℕ) : Type 0 where
  pub other : word_of s.words w.left ≢ word_of s.words w.right
  pub drop : dropped (head_norm norms (word_of s.words w.left)) (head_norm norms (word_of s.words w.right)) ≡ Some (side, norm)
  pub left : v.left < length t.words
  pub right : v.right < length t.words
  pub left_is : word_of t.words v.left ≡ left_rest words side norm (word_of s.words w.left)
  pub right_is : word_of t.words v.right ≡ right_rest words side norm (word_of s.words w.right)
  pub number : AreNumbered (head_cut words side norm (word_of s.words w.left) (word_of s.words w.right)) s.pairs t.pairs cut
  pub heads : v.heads ≡ w.heads + 1
  pub steps : AreNoted side w.before.items w.after.items v.before.items v.after.items w.heads cut

pub underway_next : (norms : List (Option ℕ)) (words : List (List ℕ)) (x y : List ℕ) (old : List Pair) (s t : Store) (w v : Walk)
    (side : Side) (norm : ℕ) (cut : Option ℕ) →
    All (WordBelow (length words)) words → IsDropped norms words s t w v side norm cut → IsUnderway norms words x y old s w →
    IsUnderway norms words x y old t v
underway_next norms words x y old s t w v side norm cut all d u =
    let l = word_of s.words w.left in
    let r = word_of s.words w.right in
    let there = heads_there norms l r (side, norm) d.drop in
    let cuts = head_cut words side norm l r in
    let collects = number_collects cuts s.pairs t.pairs cut d.number in
    let leads = leads_next norms words side norm s.pairs t.pairs w.before.items w.after.items v.before.items v.after.items w.heads
    x y l r cut there.0 there.1 u.leads d.number d.steps in
    let steps = both_exchanges side w.before.items w.after.items v.before.items v.after.items w.heads cut d.steps u.before
    u.after in
    record {
      left = d.left;
      right = d.right;
      leads = rw (d.left_is, d.right_is, d.heads) leads;
      before = steps.0;
      after = steps.1;
      met = u.met ++ cuts;
      first = rw (d.left_is, d.right_is, d.heads) (first_next norms words x y l r u.met w.heads side norm d.other d.drop u.first);
      collects = collects_on u.met cuts old s.pairs t.pairs u.collects collects;
      below = rw (d.left_is, d.right_is) (below_next
          (length words) words s.pairs t.pairs l r side norm all u.below collects.adds);
      pruned = λ marks unmarked p. rw (d.left_is, d.right_is)
          (pruned_next marks norms words s.pairs t.pairs l r side norm unmarked there.0 there.1
          (u.pruned marks unmarked p) collects.adds);
    }
