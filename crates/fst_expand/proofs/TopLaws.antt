-- Pairs that were followed one after the other, as the cuts that two words lead to.
use Rattle.std.proofs.Common.{◌≡◌, ◌≢◌, ℕ, zero, suc, ◌+◌, ◌-◌, ◌≤◌, List, [], ◌∷◌, ◌++◌, length, take, refl, sym, ◌∙◌, ap, subst, arith, inl, inr, Some, Option, Bool, true, false, ◌&&◌, cond}
use Rattle.std.specs.Prelude.{slice_get, sum_by, if◌then◌else◌}
use Rattle.std.specs.Str.{bytes_eq}
use Rattle.std.proofs.lemmas.List.{take_all, take-append-le}
use Rattle.std.proofs.lemmas.List.Sums.{sum_by-cons, sum_by-take-le, sum_by_push}
use Rattle.std.proofs.lemmas.Option.{slice_get_within}
use Rattle.std.proofs.lemmas.Slice.Eq.{bytes_eq-Decides}
use Rattle.fst_base.proofs.Bools.{and_parts, same_text}
use Rattle.fst_words.specs.Words.{Productions, first_row, step}
use Rattle.fst_norms.specs.Pruned.{pruned_word}
use Rattle.fst_basis.specs.declared.proof.Pair.{Pair}
use Rattle.fst_basis.specs.Basis.{IsPair}
use Rattle.fst_expand.specs.Bridge.{AreFit, HaveNoRoom, HaveRoom, Meet}
use Rattle.fst_expand.specs.Expansion.{AddsNext, AreSettled, IsClosed, IsExpanded, IsFollowed, IsStuck}
use Rattle.fst_expand.specs.Good.{AreDistinct, AreGoodCuts, DropHeads, Each, HaveCutsAfter, HavePrunedCuts, IsGood, IsIn, IsReachedCut}
use Rattle.fst_norms.specs.Lowering.{AreLowering, AreNorms}
use Rattle.fst_expand.specs.Table.{Adds, Grows}
use Rattle.fst_expand.proofs.CollectLaws.{each_more}
use Rattle.fst_expand.proofs.CutLaws.{same_cuts}
use Rattle.fst_expand.proofs.FollowLaws.{cuts_after, drops_at, letter_there, same_drops}
use Rattle.fst_expand.proofs.NormLaws.{same_lowering, same_norms}
use Rattle.fst_expand.proofs.PlaceLaws.{get_taken, taken}
use Rattle.fst_expand.proofs.SumLaws.{size_within, sum_at}
use Rattle.fst_basis.proofs.Laws.{get_more}

-- the first pairs of a list that grew, with one more
take_grown : (P Q : List Pair) (at : ℕ) (b : Pair) → Grows P Q → slice_get P at ≡ Some b → take (at + 1) Q ≡ take at P ++ b ∷ []
take_grown P Q at b g e =
    let within = slice_get_within P at b e in
    let there : slice_get Q at ≡ Some b = ap (λ (z : List Pair). slice_get z at) g.grown ∙ get_more P g.more at b e in
    let front : take at Q ≡ take at P = ap (take at) g.grown ∙ take-append-le at P g.more (omega arith) in
    taken Q at b there ∙ ap (λ (z : List Pair). z ++ b ∷ []) front

each_push : (R : Pair → Type 0) (bs : List Pair) (b : Pair) → Each R bs → R b → Each R (bs ++ b ∷ [])
each_push R [] b h r zero c e = subst R (let f : b ≡ c = cc in f) r
each_push R [] b h r (suc at) c e = cc
each_push R (d ∷ bs) b h r zero c e = h 0 c e
each_push R (d ∷ bs) b h r (suc at) c e = each_push R bs b (λ k x f. h (suc k) x f) r at c e

-- the sum of two functions that are the same for each pair
sum_same : (f g : Pair → ℕ) (bs : List Pair) → Each (λ b. f b ≡ g b) bs → sum_by f bs ≡ sum_by g bs
sum_same f g [] h = refl
sum_same f g (b ∷ bs) h =
    let first : f b ≡ g b = h 0 b refl in
    let rest = sum_same f g bs (λ k c e. h (suc k) c e) in
    let x = sum_by-cons f b bs in
    let y = sum_by-cons g b bs in
    omega arith

-- as this function, but this number for this pair
abbrev with_count : (Pair → ℕ) → Pair → ℕ → Pair → ℕ
with_count f b n c = if bytes_eq c.left b.left && bytes_eq c.right b.right then n else f c

its_count : (f : Pair → ℕ) (b : Pair) (n : ℕ) → with_count f b n b ≡ n
its_count f b n =
    let left : bytes_eq b.left b.left ≡ true = (bytes_eq-Decides b.left b.left).1 refl in
    let right : bytes_eq b.right b.right ≡ true = (bytes_eq-Decides b.right b.right).1 refl in
    rw (left, right) refl

other_count : (f : Pair → ℕ) (b c : Pair) (n : ℕ) → c ≢ b → with_count f b n c ≡ f c
other_count f b c n other =
    (elim (bytes_eq c.left b.left && bytes_eq c.right b.right)
    as (λ z. (bytes_eq c.left b.left && bytes_eq c.right b.right) ≡ z → cond z n (f c) ≡ f c) [
      | true ↦ λ t.
          let p = and_parts (bytes_eq c.left b.left) (bytes_eq c.right b.right) t in
          absurd (other (λ i. record { left = same_text c.left b.left p.0 i; right = same_text c.right b.right p.1 i }))
      | false ↦ λ t. refl
    ]) refl

module _ (rows : Productions) (marks : List Bool) (norms : List (Option ℕ)) (words : List (List ℕ)) (n : AreNorms rows norms)
    (l : AreLowering rows norms words) (u v : List ℕ) (budget : ℕ) where
  pub expanded_first : (Q : List Pair) (heads : ℕ) → length words ≡ length rows → Meet marks norms words u v [] Q heads →
      heads ≤ budget →
      IsExpanded rows marks norms words u v budget Q 0 (budget - heads)
  expanded_first Q heads long m le = record {
    cuts = m.met.cuts;
    heads = heads;
    first = m.met.cut;
    there = m.met.there;
    reached = λ at b e. elim (m.adds at b e) [
      | inl i ↦ absurd (cc i.1)
      | inr i ↦ IsReachedCut.first m.met.cut i
    ];
    alike = λ at b e. absurd (cc e);
    heads_of = λ b. 0;
    next = λ at b e. absurd (cc e);
    closed = λ at b e. absurd (cc e);
    spent = omega arith;
    fit = subst (λ (k : ℕ). AreFit marks k Q) long m.fit;
  }

  module _ (P Q : List Pair) (at : ℕ) (b : Pair) (room heads : ℕ) (e : slice_get P at ≡ Some b)
      (x : IsExpanded rows marks norms words u v budget P at room) (once : AreDistinct Q) where
    -- the pairs before this one are others
    before_others : Grows P Q → Each (λ c. c ≢ b) (take at P)
    before_others g k c f =
        let p = get_taken P at k c f in
        let in_q : (j : ℕ) (d : Pair) → slice_get P j ≡ Some d → slice_get Q j ≡ Some d =
        λ j d h. ap (λ (z : List Pair). slice_get z j) g.grown ∙ get_more P g.more j d h in
        λ same. let twice : k ≡ at = once k at b (in_q k b (p.0 ∙ ap Some same)) (in_q at b e) in let lt = p.1 in
        absurd (omega arith)

    pub expanded_next : IsFollowed rows marks norms words b P Q heads → heads ≤ room →
        IsExpanded rows marks norms words u v budget Q (at + 1) (room - heads)
    expanded_next f le =
        let taken = take_grown P Q at b f.grows e in
        let counts = with_count x.heads_of b heads in
        let as_before : Each (λ c. counts c ≡ x.heads_of c) (take at P) =
        λ k c g. other_count x.heads_of b c heads (before_others f.grows k c g) in
        let its : counts b ≡ heads = its_count x.heads_of b heads in
        let Drops : Pair → ℕ → Type 0 = λ c z. DropHeads rows marks norms words c (first_row rows c.left) z in
        let Closed : Pair → Type 0 = λ c. IsClosed rows marks norms words c Q in
        record {
          cuts = x.cuts;
          heads = x.heads;
          first = x.first;
          there = each_more x.cuts P Q f.grows x.there;
          reached = λ k c g. elim (f.adds k c g) [
            | inl i ↦ x.reached i.0 c i.1
            | inr i ↦ IsReachedCut.next (x.reached at b e) i.cut i.there
          ];
          alike = rw taken (each_push (IsPair rows) (take at P) b x.alike f.pair);
          heads_of = counts;
          next = rw taken (each_push (λ c. Drops c (counts c)) (take at P) b
              (λ k c g. subst (Drops c) (sym (as_before k c g)) (x.next k c g)) (subst (Drops b) (sym its) f.drop));
          closed = rw taken (each_push Closed (take at P) b
              (λ k c g a cuts h z. each_more cuts P Q f.grows (x.closed k c g a cuts h z)) f.closed);
          spent =
              (let sum = ap (sum_by counts) taken ∙ sum_by_push counts (take at P) b in
              let same = sum_same counts x.heads_of (take at P) as_before in
              let before = x.spent in
              omega arith);
          fit = f.fit;
        }

  -- what a good set says is said of these norms
  module _ (g : IsGood rows marks u v budget) where
    norms_are : norms ≡ g.norms
    norms_are = same_norms rows norms g.norms n g.are_norms

    words_are : words ≡ g.words
    words_are = same_lowering rows g.norms words g.words
        (subst (λ (z : List (Option ℕ)). AreLowering rows z words) norms_are l) g.lowering

    first_cuts : HavePrunedCuts marks norms words u v g.cuts g.heads
    first_cuts = rw (norms_are, words_are) g.first

    next_heads : (b : Pair) → IsIn b g.pairs → DropHeads rows marks norms words b (first_row rows b.left) (g.heads_of b)
    next_heads b i = rw (norms_are, words_are) (g.next i.0 b i.1)

    in_good : (b : Pair) → IsReachedCut rows marks norms words u v b → IsIn b g.pairs
    in_good b r = g.all b (rw (sym norms_are, sym words_are) r)

    first_in : (Q : List Pair) → Adds g.cuts [] Q → Each (λ b. IsIn b g.pairs) Q
    first_in Q adds = λ at b e. elim (adds at b e) [
      | inl i ↦ absurd (cc i.1)
      | inr i ↦ in_good b (IsReachedCut.first first_cuts i)
    ]

    next_in : (b : Pair) (P Q : List Pair) → IsReachedCut rows marks norms words u v b → AddsNext rows marks norms words b P Q →
        Each (IsReachedCut rows marks norms words u v) P → Each (λ c. IsIn c g.pairs) Q
    next_in b P Q r adds old = λ at c e. elim (adds at c e) [
      | inl k ↦ in_good c (old k.0 c k.1)
      | inr k ↦ in_good c (IsReachedCut.next r k.cut k.there)
    ]

    -- as many heads are dropped as were counted
    as_counted : (P : List Pair) (at room : ℕ) (x : IsExpanded rows marks norms words u v budget P at room) →
        budget ≡ room + (g.heads + sum_by g.heads_of (take at P))
    as_counted P at room x =
        let first = same_cuts norms words (pruned_word marks u)
        (pruned_word marks v) x.cuts g.cuts x.heads g.heads x.first first_cuts in
        let f = first.1 in
        let s = sum_same x.heads_of g.heads_of (take at P) (λ k c e.
        let p = get_taken P at k c e in
        same_drops rows marks norms words c (first_row rows c.left) (x.heads_of c) (g.heads_of c) (x.next k c e)
        (next_heads c (in_good c (x.reached k c p.0)))) in
        let b = x.spent in
        omega arith

  pub no_first : (Q : List Pair) → AreDistinct Q → HaveNoRoom marks norms words u v [] Q budget → IsGood rows marks u v budget → ⊥
  no_first Q once full g =
      let m = full.cuts g.cuts g.heads (first_cuts g) in
      let s = size_within g.heads_of Q g.pairs once (first_in g Q m.0) in
      let w = g.within in
      let e = m.1 in
      omega arith

  pub no_next : (P Q : List Pair) (at : ℕ) (b : Pair) (room : ℕ) → slice_get P at ≡ Some b →
      IsExpanded rows marks norms words u v budget P at room →
      AreDistinct Q → IsStuck rows marks norms words b P Q room → IsGood rows marks u v budget → ⊥
  no_next P Q at b room e x once stuck g =
      let r = x.reached at b e in
      let i = in_good g b r in
      let lack = stuck (g.alike i.0 b i.1) in
      let grows = lack.grows in
      let m = lack.cuts (g.heads_of b) (next_heads g b i) in
      let s = size_within g.heads_of Q g.pairs once (next_in g b P Q r m.0 x.reached) in
      let w = g.within in
      let full = m.1 in
      let before = as_counted g P at room x in
      let some = some_sum grows (g.heads_of) in
      omega arith
    where
      some_sum : Grows P Q → (h : Pair → ℕ) → sum_by h (take at P) + h b ≤ sum_by h Q
      some_sum grows h =
          let next = ap (sum_by h) (take_grown P Q at b grows e) ∙ sum_by_push h (take at P) b in
          let within = sum_by-take-le h Q (at + 1) in
          omega arith

  -- once all pairs are followed they are good, and there is room for all that they become
  module _ (P : List Pair) (at room : ℕ) (end : length P ≤ at) (left : length P ≤ room)
      (x : IsExpanded rows marks norms words u v budget P at room) where
    all_taken : take at P ≡ P
    all_taken = take_all at P end

    closed_all : Each (λ b. IsClosed rows marks norms words b P) P
    closed_all = subst (Each (λ b. IsClosed rows marks norms words b P)) all_taken x.closed

    alike_all : Each (IsPair rows) P
    alike_all = subst (Each (IsPair rows)) all_taken x.alike

    next_all : Each (λ b. DropHeads rows marks norms words b (first_row rows b.left) (x.heads_of b)) P
    next_all = subst (Each (λ b. DropHeads rows marks norms words b (first_row rows b.left) (x.heads_of b))) all_taken x.next

    sum_all : length P + (x.heads + sum_by x.heads_of P) ≤ budget
    sum_all = let s = ap (sum_by x.heads_of) all_taken in let e = x.spent in omega arith

    all_in : (b : Pair) → IsReachedCut rows marks norms words u v b → IsIn b P
    all_in b (IsReachedCut.first {cuts = cuts} {heads = heads} h i) =
        let same = same_cuts norms words (pruned_word marks u) (pruned_word marks v) cuts x.cuts heads x.heads h x.first in
        x.there i.0 b (ap (λ (z : List Pair). slice_get z i.0) (sym same.0) ∙ i.1)
    all_in b (IsReachedCut.next {c = c} {a = a} {heads = heads} {cuts = cuts} r h i) =
        let k = all_in c r in
        closed_all k.0 c k.1 a cuts heads h i.0 b i.1

    pub good_cuts : AreDistinct P → AreGoodCuts rows marks u v budget P
    good_cuts once = (
      record {
        norms = norms;
        words = words;
        are_norms = n;
        lowering = l;
        pairs = P;
        all = all_in;
        only = λ b i. x.reached i.0 b i.1;
        once = once;
        alike = alike_all;
        cuts = x.cuts;
        heads = x.heads;
        first = x.first;
        heads_of = x.heads_of;
        next = next_all;
        within = (let s = sum_all in omega arith);
      },
      refl,
    )

    pub first_room : HaveRoom marks norms words u v P budget
    first_room = (x.heads, record { cuts = x.cuts; cut = x.first; there = x.there }, (let s = sum_all in omega arith))

    pub settled : AreSettled rows marks norms words P budget
    settled = record {
      alike = alike_all;
      rooms = λ k b e a y z after. room_after k b e a y z after.left
          (λ cuts h m. cuts_after rows marks norms words b a y z cuts h after m);
    }
      where
        room_after : (k : ℕ) (b : Pair) → slice_get P k ≡ Some b → (a : ℕ) (y z : List ℕ) → step rows b.left a ≡ Some y →
            ((cuts : List Pair) (h : ℕ) → HaveCutsAfter rows marks norms words b a cuts h →
            HavePrunedCuts marks norms words y z cuts h) → HaveRoom marks norms words y z P budget
        room_after k b e a y z left to =
            let j = letter_there rows b.left a y left in
            let d = drops_at rows marks norms words b (first_row rows b.left) (x.heads_of b) j.0 j.1 (next_all k b e) j.2 in
            let cut = subst (λ (i : ℕ). HaveCutsAfter rows marks norms words b i d.0 d.1) j.3 d.2 in
            let some = d.3 in
            let its = sum_at x.heads_of P k b e in
            let sum = sum_all in
            (d.1, record { cuts = d.0; cut = to d.0 d.1 cut; there = closed_all k b e a d.0 d.1 cut }, omega arith)
