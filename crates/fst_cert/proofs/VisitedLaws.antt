-- The pairs that two words reach are a basis.
use Rattle.std.proofs.Common.{◌≡◌, ◌≢◌, ℕ, zero, suc, ◌+◌, ◌<◌, ◌^◌, List, [], ◌∷◌, ◌++◌, get_or, length, drop, take, refl, sym, ◌∙◌, ap, subst, arith, inl, inr, ◌⊎◌, Some, None, Option, Bool, true, false, All}
use Rattle.std.specs.Prelude.{map, option_and_then, option_map, slice_get, IsSome}
use Rattle.std.specs.Str.{bytes_eq}
use Rattle.std.proofs.lemmas.Bool.{cases_lt}
use Rattle.std.proofs.lemmas.List.{length-map, map-append, take_more}
use Rattle.std.proofs.lemmas.List.Elements.{All-append, All-cons, All-tail}
use Rattle.std.proofs.lemmas.Option.{get_or_from_slice_get, slice_get-get_or, slice_get_within}
use Rattle.fst_base.proofs.Bools.{same_text, text_itself}
use Rattle.fst_base.proofs.Options.{mapped_some}
use Rattle.fst_words.specs.declared.rules.Rule.{Rule}
use Rattle.fst_words.specs.Marks.{IsUnnormedSet}
use Rattle.fst_words.specs.Ordered.{AreOrdered}
use Rattle.fst_words.specs.Words.{InRange, LettersBelow, Productions, WordBelow, after, first_row, row_of, rule_of, step}
use Rattle.fst_words.proofs.Laws.{row_in_range}
use Rattle.fst_norms.specs.Pruned.{AreUnnormed, pruned_word}
use Rattle.fst_norms.proofs.Laws.{after_both, after_pruned_same, pruned-pruned, pruned_in_range}
use Rattle.fst_shared.specs.declared.handle.SharedPair.{SharedPair}
use Rattle.fst_basis.specs.declared.proof.Chain.{Chain}
use Rattle.fst_basis.specs.declared.proof.Pair.{Pair}
use Rattle.fst_basis.specs.Basis.{AreJoined, AreJoinedByRules, IsChainBelow, IsJoined, IsPair, IsPairBelow, IsProof}
use Rattle.fst_basis.proofs.Laws.{rule_there}
use Rattle.fst_breadth.specs.Answer.{IsEqual, pair_of as reached_pair}
use Rattle.fst_breadth.specs.Reached.{AreAll, AreFirst, ReachedPair, pruned_after}
use Rattle.fst_expand.specs.Bridge.{IsWay}
use Rattle.fst_expand.specs.Good.{AreDistinct, Each, IsIn}
use Rattle.fst_cert.specs.Certificates.{HasNoEmpty}
use Rattle.fst_cert.specs.Visited.{AreLinked, HasLinkedFollowers, IsClosed, IsLinkedByRule, basis_of, pair_of}

-- words stay in range as they move
step_below : (rows : Productions) (w : List ℕ) (a : ℕ) (v : List ℕ) → InRange rows → WordBelow (length rows) w →
    step rows w a ≡ Some v → WordBelow (length rows) v
step_below rows [] a v range below e = cc
step_below rows (n ∷ w) a v range below e =
    (elim (rule_of (row_of rows n) a) as (λ o. rule_of (row_of rows n) a ≡ o → option_map (λ x. x ++ w) o ≡ Some v →
    WordBelow (length rows) v) [
      | None ↦ λ r e. cc
      | Some x ↦ λ r e. subst (WordBelow (length rows)) (let f : x ++ w ≡ v = cc in f)
          (All-append (λ k. k < length rows) x w (row_in_range rows n a x range r) (All-tail (λ k. k < length rows) n w below))
    ]) refl e

after_below : (rows : Productions) (w s v : List ℕ) → InRange rows → WordBelow (length rows) w → after rows w s ≡ Some v →
    WordBelow (length rows) v
after_below rows w [] v range below e = subst (WordBelow (length rows)) (let f : w ≡ v = cc in f) below
after_below rows w (a ∷ s) v range below e =
    (elim (step rows w a) as (λ o. step rows w a ≡ o → option_and_then (λ x. after rows x s) o ≡ Some v →
    WordBelow (length rows) v) [
      | None ↦ λ is e. cc
      | Some x ↦ λ is e. after_below rows x s v range (step_below rows w a x range below is) e
    ]) refl e

reached_below : (rows : Productions) (marks : List Bool) (w s v : List ℕ) → InRange rows → WordBelow (length rows) w →
    pruned_after rows marks w s ≡ Some v → WordBelow (length rows) v
reached_below rows marks w s v range below e =
    let p = mapped_some (pruned_word marks) (after rows w s) v e in
    subst (WordBelow (length rows)) p.2 (pruned_in_range (length rows) marks p.0 (after_below rows w s p.0 range below p.1))

-- a trace that reaches a word reaches with one letter more what this word becomes by the letter, pruned
reached_on : (rows : Productions) (marks : List Bool) → IsUnnormedSet rows marks → (w s x : List ℕ) (a : ℕ) (v : List ℕ) →
    pruned_after rows marks w s ≡ Some x → step rows x a ≡ Some v →
    pruned_after rows marks w (s ++ a ∷ []) ≡ Some (pruned_word marks v)
reached_on rows marks set w s x a v e f =
    let p = mapped_some (pruned_word marks) (after rows w s) x e in
    let same : pruned_word marks p.0 ≡ pruned_word marks x =
    sym (pruned-pruned marks p.0) ∙ ap (pruned_word marks) p.2 in
    let last : after rows x (a ∷ []) ≡ Some v = ap (option_and_then (λ y. after rows y [])) f in
    ap (option_map (pruned_word marks)) (after_both rows w s (a ∷ []) p.0 p.1)
    ∙ after_pruned_same rows marks set p.0 x (a ∷ []) same
    ∙ ap (option_map (pruned_word marks)) last

-- two words are the same or not
same_or_not : (u v : List ℕ) → (u ≡ v) ⊎ (u ≢ v)
same_or_not u v =
    (elim (bytes_eq u v) as (λ b. bytes_eq u v ≡ b → (u ≡ v) ⊎ (u ≢ v)) [
      | true ↦ λ e. inl (same_text u v e)
      | false ↦ λ e. inr (λ s. let t : bytes_eq u v ≡ true = ap (bytes_eq u) (sym s) ∙ text_itself u in
          let f : true ≡ false = sym t ∙ e in cc)
    ]) refl

-- the pair at a place
pair_at : (found : List ReachedPair) (at : ℕ) (e : ReachedPair) → slice_get found at ≡ Some e →
    slice_get (basis_of (map reached_pair found)) at ≡ Some (pair_of e.left e.right)
pair_at [] at e h = cc
pair_at (d ∷ found) zero e h = ap (λ (o : Option ReachedPair). option_map (λ z. pair_of z.left z.right) o) h
pair_at (d ∷ found) (suc at) e h = pair_at found at e h

from_pair : (found : List ReachedPair) (at : ℕ) (b : Pair) → slice_get (basis_of (map reached_pair found)) at ≡ Some b →
    (e : ReachedPair) × (slice_get found at ≡ Some e) × (pair_of e.left e.right ≡ b)
from_pair [] at b h = cc
from_pair (d ∷ found) zero b h = (d, refl, (let f : pair_of d.left d.right ≡ b = cc in f))
from_pair (d ∷ found) (suc at) b h = from_pair found at b h

-- what is so of the pairs that are found is so of those of the basis
each_of : (P : Pair → Type 0) (found : List ReachedPair) →
    ((at : ℕ) (e : ReachedPair) → slice_get found at ≡ Some e → P (pair_of e.left e.right)) →
    Each P (basis_of (map reached_pair found))
each_of P found h at b e = let p = from_pair found at b e in subst P p.2 (h at p.0 p.1)

all_at : (P : Pair → Type 0) (bs : List Pair) (at : ℕ) (b : Pair) → All P bs → slice_get bs at ≡ Some b → P b
all_at P bs at b h e = subst P (get_or_from_slice_get bs at b b e) (h at b (slice_get_within bs at b e))

module _ (rows : Productions) (marks : List Bool) (x y : List ℕ) (found : List ReachedPair) where
  -- two words that one trace reaches are linked
  linked : AreAll rows marks x y found → (s u v : List ℕ) → pruned_after rows marks x s ≡ Some (pruned_word marks u) →
      pruned_after rows marks y s ≡ Some (pruned_word marks v) → AreLinked marks (basis_of (map reached_pair found)) u v
  linked all s u v left right = elim (same_or_not (pruned_word marks u) (pruned_word marks v)) [
    | inl same ↦ inl same
    | inr differ ↦
        let l = all s (pruned_word marks u) (pruned_word marks v) (record { left = left; right = right; differ = differ }) in
        inr (l.at, pair_at found l.at l.entry l.there ∙ (λ i. Some (pair_of (l.left i) (l.right i))))
  ]

  distinct : AreFirst rows marks x y found → AreDistinct (basis_of (map reached_pair found))
  distinct first i j b e f =
      let p = from_pair found i b e in
      let q = from_pair found j b f in
      let same = p.2 ∙ sym q.2 in
      let left : p.0.left ≡ q.0.left = ap (λ (z : Pair). z.left) same in
      let right : p.0.right ≡ q.0.right = ap (λ (z : Pair). z.right) same in
      elim (cases_lt i j) [
        | inl lt ↦ absurd (first.once i j p.0 q.0 lt p.1 q.1 left right)
        | inr ge ↦ elim (cases_lt j i) [
          | inl lt ↦ absurd (first.once j i q.0 p.0 lt q.1 p.1 (sym left) (sym right))
          | inr le ↦ omega arith
        ]
      ]

-- all pairs that two words reach are a basis, in which the two words are linked
module _ (rows : Productions) (marks : List Bool) (x y : List ℕ) (budget : ℕ) (pairs : List SharedPair)
    (reached : IsEqual rows marks x y budget pairs) where
  pub words_linked : AreLinked marks (basis_of pairs) x y
  words_linked = subst (λ (ps : List SharedPair). AreLinked marks (basis_of ps) x y) reached.pairs_are
      (linked rows marks x y reached.found reached.all [] x y refl refl)

  pub closed : InRange rows → AreUnnormed rows marks → WordBelow (length rows) x → WordBelow (length rows) y →
      length pairs < 2 ^ 32 → All HasNoEmpty (basis_of pairs) → IsClosed rows marks (basis_of pairs)
  closed range unnormed in_x in_y few some =
      let found = reached.found in
      let first = reached.first in
      subst (λ (ps : List SharedPair). length ps < 2 ^ 32 → All HasNoEmpty (basis_of ps) → IsClosed rows marks (basis_of ps))
      reached.pairs_are (λ few some. record {
        few = subst (λ (n : ℕ). n < 2 ^ 32) (sym (length-map (map reached_pair found) (λ p. pair_of p.left p.right))) few;
        once = distinct rows marks x y found first;
        below = each_of (IsPairBelow (length rows)) found (λ at e h. let r = first.reached at e h in record {
          left = reached_below rows marks x e.trace e.left range in_x r.left;
          right = reached_below rows marks y e.trace e.right range in_y r.right;
        });
        pairs = each_of (IsPair rows) found (λ at e h.
            let no_empty = all_at HasNoEmpty (basis_of (map reached_pair found)) at (pair_of e.left e.right) some
            (pair_at found at e h) in
            record {
              left = no_empty.left;
              right = no_empty.right;
              letters = λ a. let same = reached.alike at e h a in (λ t. sym same ∙ t, λ t. same ∙ t);
            });
        linked = each_of (HasLinkedFollowers rows marks (basis_of (map reached_pair found))) found (λ at e h a u v eu ev.
            let r = first.reached at e h in
            linked rows marks x y found reached.all (e.trace ++ a ∷ []) u v
            (reached_on rows marks unnormed.set x e.trace e.left a u r.left eu)
            (reached_on rows marks unnormed.set y e.trace e.right a v r.right ev));
      }) few some

-- a rule of the first non-terminal of a pair's left word
pub rule_linked : (rows : Productions) (marks : List Bool) (basis : List Pair) (b : Pair) (i : ℕ) (r : Rule) →
    AreOrdered (first_row rows b.left) → slice_get (first_row rows b.left) i ≡ Some r → IsPair rows b →
    HasLinkedFollowers rows marks basis b → IsLinkedByRule rows marks basis (drop 1 b.left) b.right r
rule_linked rows marks basis b i r ordered at pair linked =
    let left = by_rule b.left ordered at in
    let there = (pair.letters r.letter).0 (rw left refl) in
    (elim (step rows b.right r.letter) as (λ o. step rows b.right r.letter ≡ o → IsSome o →
    IsLinkedByRule rows marks basis (drop 1 b.left) b.right r) [
      | None ↦ λ e t. cc
      | Some v ↦ λ e t. record { next = v; after = e; linked = linked r.letter (r.word ++ drop 1 b.left) v left e }
    ]) refl there
  where
    by_rule : (w : List ℕ) → AreOrdered (first_row rows w) → slice_get (first_row rows w) i ≡ Some r →
        step rows w r.letter ≡ Some (r.word ++ drop 1 w)
    by_rule [] o e = cc
    by_rule (n ∷ w) o e = rw (rule_there (row_of rows n) i r o e) refl

-- the first items, with the next one
pub taken : {A : Type 0} (xs : List A) (i : ℕ) (x : A) → i < length xs → x ≡ get_or xs i x → take (i + 1) xs ≡ take i xs ++ x ∷ []
taken xs i x lt is = take_more xs i x lt ∙ ap (λ z. take i xs ++ z ∷ []) (sym is)

-- one pair more, written out
pub basis_push : (pairs : List SharedPair) (i : ℕ) (p : SharedPair) (basis new : List Pair) (u v : List ℕ) → i < length pairs →
    p ≡ get_or pairs i p → basis ≡ basis_of (take i pairs) → u ≡ p.left → v ≡ p.right → new ≡ basis ++ pair_of u v ∷ [] →
    new ≡ basis_of (take (i + 1) pairs)
basis_push pairs i p basis new u v lt is before left right added =
    added ∙ (λ j. before j ++ pair_of (left j) (right j) ∷ [])
    ∙ sym (ap basis_of (taken pairs i p lt is) ∙ map-append (λ (q : SharedPair). pair_of q.left q.right) (take i pairs) (p ∷ []))

-- a pair that comes later isn't among the first ones
pub not_before : (basis : List Pair) (i : ℕ) (b : Pair) → AreDistinct basis → i < length basis → b ≡ get_or basis i b →
    IsIn b (take i basis) → ⊥
not_before basis i b once lt is (at, e) =
    let p = get_taken basis i at b e in
    let here : slice_get basis i ≡ Some b = slice_get-get_or basis i b lt ∙ ap Some (sym is) in
    let same = once at i b p.0 here in
    let less = p.1 in
    absurd (omega arith)
  where
    get_taken : (xs : List Pair) (n at : ℕ) (b : Pair) → slice_get (take n xs) at ≡ Some b → (slice_get xs at ≡ Some b) × (at < n)
    get_taken [] zero at b e = cc
    get_taken [] (suc n) at b e = cc
    get_taken (c ∷ xs) zero at b e = cc
    get_taken (c ∷ xs) (suc n) zero b e = (e, omega arith)
    get_taken (c ∷ xs) (suc n) (suc at) b e = let p = get_taken xs n at b e in let lt = p.1 in (p.0, omega arith)

-- one rule more, with its chain
pub joined_push : (rows : Productions) (marks : List Bool) (P : List Pair) (t w : List ℕ) (r : Rule) (c : Chain) →
    IsJoined rows marks P t w r c → (rules : List Rule) (cs : List Chain) → AreJoinedByRules rows marks P t w rules cs →
    AreJoinedByRules rows marks P t w (rules ++ r ∷ []) (cs ++ c ∷ [])
joined_push rows marks P t w r c j [] [] h = (j, tt)
joined_push rows marks P t w r c j [] (d ∷ cs) h = absurd h
joined_push rows marks P t w r c j (q ∷ rules) [] h = absurd h
joined_push rows marks P t w r c j (q ∷ rules) (d ∷ cs) h = (h.0, joined_push rows marks P t w r c j rules cs h.1)

each_all : (P : Pair → Type 0) (bs : List Pair) → Each P bs → All P bs
each_all P bs h k d lt = h k (get_or bs k d) (slice_get-get_or bs k d lt)

-- chains that join two words, and what the words of all pairs become, are a proof
pub chained_proof : (n : ℕ) (rows : Productions) (marks : List Bool) (x y : List ℕ) (P : List Pair) (first : Chain)
    (others : List Chain) → LettersBelow n rows → InRange rows → AreUnnormed rows marks → WordBelow (length rows) x →
    WordBelow (length rows) y → IsClosed rows marks P → IsWay (length rows) marks P x y first → AreJoined rows marks P P others →
    All (IsChainBelow (length rows)) others → IsProof n rows marks x y P (first ∷ others)
chained_proof n rows marks x y P first others letters range unnormed left right closed way joined below = (
  record {
    letters = letters;
    rules = range;
    count = unnormed.count;
    left = left;
    right = right;
    pairs = each_all (IsPairBelow (length rows)) P closed.below;
    chains = All-cons (IsChainBelow (length rows)) first others way.below below;
  },
  (record { set = unnormed.set; pairs = each_all (IsPair rows) P closed.pairs; joined = joined }, way.leads),
)
