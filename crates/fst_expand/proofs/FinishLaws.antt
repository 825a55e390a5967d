-- Where the way from one word to another begins, and where it ends.
use Rattle.std.proofs.Common.{◌≡◌, ◌≢◌, ℕ, ◌+◌, ◌<◌, List, [], ◌∷◌, ◌++◌, length, reverse, append-nil, refl, sym, ◌∙◌, ap, subst, arith, inl, inr, Some, None, Option, Bool, true, false, true≢false, cond}
use Rattle.std.specs.Prelude.{slice_get}
use Rattle.std.specs.Str.{bytes_eq}
use Rattle.std.proofs.lemmas.List.Elements.{All-nil}
use Rattle.std.proofs.lemmas.Slice.Eq.{bytes_eq-Decides}
use Rattle.fst_base.proofs.Bools.{same_text}
use Rattle.fst_shared.specs.Shared.{word_of}
use Rattle.fst_basis.specs.declared.proof.Pair.{Pair}
use Rattle.fst_basis.specs.declared.proof.Rewrite.{Rewrite}
use Rattle.fst_basis.specs.declared.proof.Rewrite.TheVariants.{Forth}
use Rattle.fst_basis.specs.Basis.{IsPairBelow, IsRewriteBelow}
use Rattle.fst_basis.specs.Rewrites.{chained}
use Rattle.fst_expand.specs.declared.joining.Walk.{Walk}
use Rattle.fst_expand.specs.Cuts.{HasCuts, unless_same}
use Rattle.fst_expand.specs.Good.{IsIn}
use Rattle.fst_expand.specs.Table.{Adds, AreNumbered, Store}
use Rattle.fst_expand.specs.Trail.{AreBelow, HasNoDrop, IsCrowded, IsJoining, IsPrunedPair, IsUnderway, Leads, noted}
use Rattle.fst_expand.proofs.CollectLaws.{collects_nothing, collects_on, each_added, in_front, number_collects}
use Rattle.fst_expand.proofs.CutLaws.{same_cuts}
use Rattle.fst_expand.proofs.StepLaws.{unless_each}
use Rattle.fst_expand.proofs.WalkLaws.{one_pair, same_words}
use Rattle.fst_basis.proofs.Laws.{chained-append, chained_last, chained_more, exchanges_on, forth, reversed_exchanges}
use Rattle.fst_expand.proofs.WayLaws.{noted_exchanges}

-- the pair of the two words that are left leads from one to the other
leads_last : (P Q : List Pair) (before after : List Rewrite) (heads : ℕ) (x y l r : List ℕ) (cut : Option ℕ) →
    Leads P before after heads x y l r →
    AreNumbered (unless_same l r) P Q cut → (marks : List Bool) →
    chained marks Q (noted before heads cut ++ reverse after) x ≡ Some y
leads_last P Q before after heads x y l r None w (none, same) marks =
    let is = same_words l r none in
    rw same (
    chained-append marks P before (reverse after) x (w.front ++ l) (w.from marks)
    ∙ ap (λ (z : List ℕ). chained marks P (reverse after) (w.front ++ z)) is
    ∙ w.to marks)
leads_last P Q before after heads x y l r (Some p) w (c, cut, number) marks =
    let is : record { left = l; right = r } ≡ c = one_pair l r c cut in
    let there : slice_get Q p ≡ Some (record { left = l; right = r }) = number.there ∙ ap Some (sym is) in
    let on : (s : List Rewrite) (v z : List ℕ) → chained marks P s v ≡ Some z → chained marks Q s v ≡ Some z =
    λ s v z e. rw number.grows.grown (chained_more marks P number.grows.more s v z e) in
    let whole = forth marks Q heads p (record { left = l; right = r }) w.front [] there w.count in
    let last = chained_last marks Q before (Forth heads p) x (w.front ++ (l ++ [])) (w.front ++ (r ++ []))
    (on before x (w.front ++ l) (w.from marks) ∙ ap (λ (z : List ℕ). Some (w.front ++ z)) (sym (append-nil l))) whole in
    chained-append marks Q (before ++ Forth heads p ∷ []) (reverse after) x (w.front ++ (r ++ [])) last
    ∙ ap (λ (z : List ℕ). chained marks Q (reverse after) (w.front ++ z)) (append-nil r)
    ∙ on (reverse after) (w.front ++ r) y (w.to marks)

-- the cuts of the two words that are left are their pair alone, if there is one, and no head
cuts_last : (norms : List (Option ℕ)) (words : List (List ℕ)) (l r : List ℕ) → HasNoDrop norms l r →
    HasCuts norms words l r (unless_same l r) 0
cuts_last norms words l r none =
    (elim (bytes_eq l r) as (λ b. bytes_eq l r ≡ b →
    HasCuts norms words l r (cond {A = List Pair} b [] (record { left = l; right = r } ∷ [])) 0) [
      | true ↦ λ t. subst (λ (z : List ℕ). HasCuts norms words l z [] 0) (same_text l r t) HasCuts.same
      | false ↦ λ t.
          let other : l ≢ r = λ same. absurd (true≢false (sym ((bytes_eq-Decides l r).1 same) ∙ t)) in
          HasCuts.whole other (elim none [ inl same ↦ absurd (other same) | inr e ↦ e ])
    ]) refl

pub joining_last : (norms : List (Option ℕ)) (words : List (List ℕ)) (x y : List ℕ) (old Q : List Pair) (s : Store) (w : Walk)
    (cut : Option ℕ) →
    IsUnderway norms words x y old s w → HasNoDrop norms (word_of s.words w.left) (word_of s.words w.right) →
    AreNumbered (unless_same (word_of s.words w.left) (word_of s.words w.right)) s.pairs Q cut →
    IsJoining norms words x y old Q (noted w.before.items w.heads cut ++ reverse w.after.items) w.heads
joining_last norms words x y old Q s w cut u none number =
    let l = word_of s.words w.left in
    let r = word_of s.words w.right in
    let cuts = unless_same l r in
    let collects = number_collects cuts s.pairs Q cut number in
    let end : w.heads + 0 ≡ w.heads = omega arith in
    record {
      leads = leads_last s.pairs Q w.before.items w.after.items w.heads x y l r cut u.leads number;
      exchanges = exchanges_on (noted w.before.items w.heads cut) (reverse w.after.items)
          (noted_exchanges w.before.items w.heads cut u.before) (reversed_exchanges w.after.items u.after);
      met = record {
        cuts = u.met ++ cuts;
        cut = subst (HasCuts norms words x y (u.met ++ cuts)) end (u.first.on cuts 0 (cuts_last norms words l r none));
        collects = collects_on u.met cuts old s.pairs Q u.collects collects;
        below = each_added (IsPairBelow (length words)) cuts s.pairs Q collects.adds u.below.pairs
            (unless_each (IsPairBelow (length words)) l r (record { left = u.below.left; right = u.below.right }));
        pruned = λ marks unmarked p. let q = u.pruned marks unmarked p in
            each_added (IsPrunedPair marks) cuts s.pairs Q collects.adds q.pairs
            (unless_each (IsPrunedPair marks) l r (record { left = q.left; right = q.right }));
      };
    }

-- at first nothing is met
pub underway_first : (norms : List (Option ℕ)) (words : List (List ℕ)) (s : Store) (w : Walk) → w.left < length s.words →
    w.right < length s.words → w.before.items ≡ [] →
    w.after.items ≡ [] → w.heads ≡ 0 → AreBelow (length words) (word_of s.words w.left) (word_of s.words w.right) s.pairs →
    IsUnderway norms words (word_of s.words w.left) (word_of s.words w.right) s.pairs s w
underway_first norms words s w left right before after heads below =
    let l = word_of s.words w.left in
    let r = word_of s.words w.right in
    record {
      left = left;
      right = right;
      leads = rw (before, after, heads) (record { front = []; count = refl; from = λ marks. refl; to = λ marks. refl });
      before = rw before (λ n. All-nil (IsRewriteBelow n));
      after = rw after (λ n. All-nil (IsRewriteBelow n));
      met = [];
      first = record {
        on = λ rest others h. subst (HasCuts norms words l r rest)
            (let z : others ≡ w.heads + others = omega (arith, heads) in z) h;
        back = λ cuts count h. (cuts, count, h, refl, omega (arith, heads));
      };
      collects = collects_nothing s.pairs;
      below = below;
      pruned = λ marks unmarked p. p;
    }

-- what is met on the way is too much, or at its end
pub crowded_underway : (norms : List (Option ℕ)) (words : List (List ℕ)) (x y : List ℕ) (old : List Pair) (s : Store) (w : Walk)
    (room : ℕ) → IsUnderway norms words x y old s w →
    room < length s.pairs + w.heads → IsCrowded norms words x y old s.pairs room
crowded_underway norms words x y old s w room u full = record {
  grows = u.collects.grows;
  cuts = λ cuts count h.
      let p = u.first.back cuts count h in
      let e = p.4 in (
        (λ at b f. elim (u.collects.adds at b f) [
          | inl i ↦ inl i
          | inr i ↦ inr (subst (IsIn b) (sym p.3) (in_front u.met p.0 b i))
        ]),
        omega arith,
      );
}

pub crowded_joining : (norms : List (Option ℕ)) (words : List (List ℕ)) (x y : List ℕ) (old new : List Pair)
    (steps : List Rewrite) (heads room : ℕ) →
    IsJoining norms words x y old new steps heads → room < length new + heads → IsCrowded norms words x y old new room
crowded_joining norms words x y old new steps heads room j full = record {
  grows = j.met.collects.grows;
  cuts = λ cuts count h.
      let same = same_cuts norms words x y j.met.cuts cuts heads count j.met.cut h in
      let e = same.1 in
      (subst (λ (z : List Pair). Adds z old new) same.0 j.met.collects.adds, omega arith);
}
