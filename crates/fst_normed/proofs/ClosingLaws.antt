-- When a needed candidate holds, and when its words differ.
use Rattle.std.proofs.Common.{◌≡◌, ◌≢◌, ◌+◌, ◌<◌, ◌≤◌, ℕ, zero, suc, List, [], ◌∷◌, ◌++◌, length, take, drop, append-nil, refl, sym, ◌∙◌, ap, subst, arith, ◌⊎◌, inl, inr, Option, Some, None, Bool, true, false, ◌==◌, All, get_or}
use Rattle.std.specs.Prelude.{is_some, option_and_then, option_map, slice_get, sum_by}
use Rattle.std.specs.List.{AllPairs}
use Rattle.std.proofs.lemmas.Bool.{cases_lt, eq-eqb}
use Rattle.std.proofs.lemmas.Bool.Decides.{eqb_tells}
use Rattle.std.proofs.lemmas.List.Elements.{All-append, All-cons, All-nil}
use Rattle.std.proofs.lemmas.List.{map-append, take-append-le, take_more}
use Rattle.std.proofs.lemmas.List.Sums.{sum_by_more, sum_by_more_le}
use Rattle.std.proofs.lemmas.Option.{get_or_from_slice_get, slice_get-get_or, slice_get_within}
use Rattle.fst_words.specs.declared.rules.Rule.{Rule}
use Rattle.fst_words.specs.Ordered.{AreOrdered}
use Rattle.fst_words.specs.Words.{Productions, WordBelow, after, first_row, row_of, rule_of, step}
use Rattle.fst_norms.proofs.Laws.{after_rule, after_trace, rule_of-above}
use Rattle.fst_basis.specs.declared.proof.Pair.{Pair}
use Rattle.fst_basis.specs.declared.proof.Chain.{Chain}
use Rattle.fst_basis.specs.Basis.{AreJoined, AreJoinedByRules, IsChainBelow, IsPair, same_letters}
use Rattle.fst_basis.specs.Rewrites.{chained}
use Rattle.fst_basis.proofs.Laws.{all_joined_push, letters_at, pair_told, rule_there}
use Rattle.fst_normed.specs.Candidates.{CandidateDiffers, IsThere, candidate, residual}
use Rattle.fst_words.specs.Differences.{Differ}
use Rattle.fst_normed.specs.Joining.{AreJoinedByHeads, exchanges}
use Rattle.fst_normed.specs.Needs.{IsNeeded, Needs, TakesMore, rewrites_at, rewrites_in_turn}
use Rattle.fst_normed.specs.Normed.{IsNormedGrammar}
use Rattle.fst_normed.specs.Closing.{AllHold, AreToldApart, Holds, IsExchangedInTurn, LeadInTurn}
use Rattle.fst_normed.specs.Walks.{Leads, pairs_of}
use Rattle.fst_normed.proofs.HeadFacts.{joining_law}
use Rattle.fst_normed.proofs.WalkLaws.{chained_on, leads_on}

-- a letter of the first rule has none further on
none_later : (r : Rule) (rs : List Rule) → AreOrdered (r ∷ rs) → is_some (rule_of rs r.letter) ≡ false
none_later r rs o =
    (elim (rule_of rs r.letter) as (λ z. rule_of rs r.letter ≡ z → is_some z ≡ false) [
      | None ↦ λ e. refl
      | Some v ↦ λ e. absurd (let lt = rule_of-above rs r.letter r.letter v o.0 o.1 e in omega arith)
    ]) refl

first_there : (r : Rule) (rs : List Rule) → is_some (rule_of (r ∷ rs) r.letter) ≡ true
first_there r rs = rw (eq-eqb r.letter r.letter refl) refl

-- a letter below the first rule's has none
none_below : (r : Rule) (rs : List Rule) (a : ℕ) → AreOrdered (r ∷ rs) → a < r.letter → is_some (rule_of (r ∷ rs) a) ≡ false
none_below r rs a o lt =
    elim (eqb_tells r.letter a) [
      | inl p ↦ absurd (let same = p.1 in omega arith)
      | inr p ↦ rw p.0 (
          (elim (rule_of rs a) as (λ z. rule_of rs a ≡ z → is_some z ≡ false) [
            | None ↦ λ e. refl
            | Some v ↦ λ e. absurd (let up = rule_of-above rs r.letter a v o.0 o.1 e in omega arith)
          ]) refl)
    ]

-- where rules in order don't have the same letters, some letter has a rule among the ones alone
pub letter_apart : (ls rs : List Rule) → AreOrdered ls → AreOrdered rs → same_letters ls rs ≡ false → (a : ℕ) ×
    (is_some (rule_of ls a) ≢ is_some (rule_of rs a))
letter_apart [] [] o q e = absurd (cc e)
letter_apart [] (r ∷ rs) o q e = (r.letter, λ same. (let f : false ≡ true = same ∙ first_there r rs in cc))
letter_apart (l ∷ ls) [] o q e = (l.letter, λ same. (let f : true ≡ false = sym (first_there l ls) ∙ same in cc))
letter_apart (l ∷ ls) (r ∷ rs) o q e =
    elim (eqb_tells l.letter r.letter) [
      | inl p ↦
          let later : same_letters ls rs ≡ false = rw p.0 at e in
          let d = letter_apart ls rs o.1 q.1 later in
          elim (eqb_tells l.letter d.0) [
            | inl s ↦ absurd (
                let left : is_some (rule_of ls d.0) ≡ false = subst
                (λ (z : ℕ). is_some (rule_of ls z) ≡ false) s.1 (none_later l ls o) in
                let right : is_some (rule_of rs d.0) ≡ false = subst
                (λ (z : ℕ). is_some (rule_of rs z) ≡ false) (sym p.1 ∙ s.1) (none_later r rs q) in
                d.1 (left ∙ sym right))
            | inr s ↦
                let t : (r.letter == d.0) ≡ false = subst (λ (z : ℕ). (z == d.0) ≡ false) p.1 s.0 in
                (d.0, rw (s.0, t) d.1)
          ]
      | inr p ↦ elim (cases_lt l.letter r.letter) [
        | inl lt ↦ (
          l.letter,
          λ same. (let f : true ≡ false = sym (first_there l ls) ∙ same ∙ none_below r rs l.letter q lt in
              cc),
        )
        | inr le ↦
            let ne = p.1 in (
              r.letter,
              λ same. (let f : false ≡ true = sym (none_below l ls r.letter o (omega arith)) ∙ same ∙ first_there r rs in
                  cc),
            )
      ]
    ]

one_letter : (rows : Productions) (n a : ℕ) (w : List ℕ) →
    is_some (after rows (n ∷ w) (a ∷ [])) ≡ is_some (rule_of (row_of rows n) a)
one_letter rows n a w = elim (rule_of (row_of rows n) a)
    as (λ o. is_some (option_and_then (λ y. after rows y []) (option_map (λ v. v ++ w) o)) ≡ is_some o) [
      | None ↦ refl
      | Some v ↦ refl
    ]

-- words with different letters differ
pub letters_differ : (rows : Productions) (x y : ℕ) (u v : List ℕ) → AreOrdered (row_of rows x) → AreOrdered (row_of rows y) →
    same_letters (row_of rows y) (row_of rows x) ≡ false →
    Differ rows (y ∷ u) (x ∷ v)
letters_differ rows x y u v ox oy e =
    let d = letter_apart (row_of rows y) (row_of rows x) oy ox e in
    (d.0 ∷ [], λ same. d.1 (sym (one_letter rows y d.0 u) ∙ same ∙ one_letter rows x d.0 v))

module _ (rows : Productions) (norms : List (Option ℕ)) (words : List (List ℕ)) (candidates : List (ℕ × ℕ)) where
  -- chains that join the words of rules in turn join what two words become by these rules
  by_rules : (marks : List Bool) (w tail : List ℕ) (rules others : List Rule) (cs : List Chain) →
      ((i : ℕ) (r q : Rule) → slice_get rules i ≡ Some r → slice_get others i ≡ Some q →
      step rows w r.letter ≡ Some (q.word ++ tail)) →
      LeadInTurn norms words candidates rules others tail cs →
      AreJoinedByRules rows marks (pairs_of norms words candidates) [] w rules cs
  by_rules marks w tail [] others [] moves h = tt
  by_rules marks w tail [] others (c ∷ cs) moves h = absurd (let f : c ∷ cs ≡ [] = h in cc)
  by_rules marks w tail (r ∷ rules) [] cs moves h = absurd h
  by_rules marks w tail (r ∷ rules) (q ∷ others) [] moves h = absurd h
  by_rules marks w tail (r ∷ rules) (q ∷ others) (c ∷ cs) moves h = (
    (
      q.word ++ tail,
      moves 0 r q refl refl,
      ap (chained marks (pairs_of norms words candidates) c.steps.items) (append-nil r.word)
          ∙ h.0.1 marks,
    ),
    by_rules marks w tail rules others cs (λ i p s e f. moves (suc i) p s e f) h.1,
  )

  -- such chains exchange words of pairs alone
  below_in_turn : (n : ℕ) (rules others : List Rule) (tail : List ℕ) (cs : List Chain) →
      LeadInTurn norms words candidates rules others tail cs → All (IsChainBelow n) cs
  below_in_turn n [] others tail cs h = subst (All (IsChainBelow n)) (sym h) (All-nil (IsChainBelow n))
  below_in_turn n (r ∷ rules) [] tail cs h = absurd h
  below_in_turn n (r ∷ rules) (q ∷ others) tail [] h = absurd h
  below_in_turn n (r ∷ rules) (q ∷ others) tail (c ∷ cs) h =
      All-cons (IsChainBelow n) c cs (h.0.0 n) (below_in_turn n rules others tail cs h.1)

  -- a candidate whose words perform the same letters, and whose rules' words are joined, holds
  pub holds : (x y : ℕ) (cs : List Chain) → AreOrdered (row_of rows x) → AreOrdered (row_of rows y) →
      same_letters (row_of rows y) (row_of rows x) ≡ true →
      LeadInTurn norms words candidates (row_of rows y) (row_of rows x) (residual norms words x y) cs →
      Holds rows norms words candidates (x, y) cs
  holds x y cs ox oy same h = record {
    below = λ n. below_in_turn n (row_of rows y) (row_of rows x) (residual norms words x y) cs h;
    pair = (pair_told rows (candidate norms words (x, y)) (λ e. cc) (λ e. cc) oy ox).0 same;
    joined = λ marks. by_rules marks (x ∷ residual norms words x y) (residual norms words x y) (row_of rows y) (row_of rows x) cs
        (λ i r q e f.
        let letter = letters_at (row_of rows y) (row_of rows x) i r q same e f in
        ap (λ (a : ℕ). option_map (λ (v : List ℕ). v ++ residual norms words x y) (rule_of (row_of rows x) a)) letter
        ∙ ap (option_map (λ (v : List ℕ). v ++ residual norms words x y)) (rule_there (row_of rows x) i q ox f)) h;
  }

-- the first candidates, with one more
taken : (candidates : List (ℕ × ℕ)) (at : ℕ) (c : ℕ × ℕ) → slice_get candidates at ≡ Some c →
    take (at + 1) candidates ≡ take at candidates ++ c ∷ []
taken candidates at c e = take_more candidates at c (slice_get_within candidates at c e) ∙ ap
    (λ (z : ℕ × ℕ). take at candidates ++ z ∷ []) (get_or_from_slice_get candidates at c c e)

-- the pairs of the first candidates, with one more
pub pairs_next : (norms : List (Option ℕ)) (words : List (List ℕ)) (candidates : List (ℕ × ℕ)) (at : ℕ) (c : ℕ × ℕ) →
    slice_get candidates at ≡ Some c →
    pairs_of norms words (take (at + 1) candidates) ≡ pairs_of norms words (take at candidates) ++ candidate norms words c ∷ []
pairs_next norms words candidates at c e = ap (pairs_of norms words) (taken candidates at c e)
    ∙ map-append (candidate norms words) (take at candidates) (c ∷ [])

-- chains lead on where more candidates are noted
pub in_turn_on : (norms : List (Option ℕ)) (words : List (List ℕ)) (old new : List (ℕ × ℕ)) →
    (more : List (ℕ × ℕ)) × (new ≡ old ++ more) → (rules others : List Rule) (tail : List ℕ) (cs : List Chain) →
    LeadInTurn norms words old rules others tail cs → LeadInTurn norms words new rules others tail cs
in_turn_on norms words old new b [] others tail cs h = h
in_turn_on norms words old new b (r ∷ rules) [] tail cs h = h
in_turn_on norms words old new b (r ∷ rules) (q ∷ others) tail [] h = h
in_turn_on norms words old new b (r ∷ rules) (q ∷ others) tail (c ∷ cs) h = (
  leads_on norms words old new b c.steps.items r.word (q.word ++ tail) h.0,
  in_turn_on norms words old new b rules others tail cs h.1,
)

-- and what holds holds on
module _ (rows : Productions) (norms : List (Option ℕ)) (words : List (List ℕ)) (old new : List (ℕ × ℕ))
    (b : (more : List (ℕ × ℕ)) × (new ≡ old ++ more)) where
  by_rules_on : (marks : List Bool) (t w : List ℕ) (rules : List Rule) (cs : List Chain) →
      AreJoinedByRules rows marks (pairs_of norms words old) t w rules cs →
      AreJoinedByRules rows marks (pairs_of norms words new) t w rules cs
  by_rules_on marks t w [] [] h = h
  by_rules_on marks t w [] (c ∷ cs) h = h
  by_rules_on marks t w (r ∷ rules) [] h = h
  by_rules_on marks t w (r ∷ rules) (c ∷ cs) h = (
    (h.0.0, h.0.1, chained_on norms words old new b marks c.steps.items (r.word ++ t) h.0.0 h.0.2),
    by_rules_on marks t w rules cs h.1,
  )

  joined_on : (marks : List Bool) (bs : List Pair) (cs : List Chain) → AreJoined rows marks (pairs_of norms words old) bs cs →
      AreJoined rows marks (pairs_of norms words new) bs cs
  joined_on marks [] cs h = h
  joined_on marks (d ∷ bs) cs h = (
    by_rules_on marks (drop 1 d.left) d.right (first_row rows d.left) (take (length (first_row rows d.left)) cs) h.0,
    joined_on marks bs (drop (length (first_row rows d.left)) cs) h.1,
  )

  pub hold_on : (at : ℕ) (cs : List Chain) → at ≤ length old → AllHold rows norms words old at cs →
      AllHold rows norms words new at cs
  hold_on at cs within h =
      let same : take at new ≡ take at old = ap (take at) b.1 ∙ take-append-le at old b.0 within in
      record {
        below = h.below;
        pairs = subst (λ (z : List (ℕ × ℕ)). All (IsPair rows) (pairs_of norms words z)) (sym same) h.pairs;
        joined = λ marks. subst (λ (z : List (ℕ × ℕ)). AreJoined rows marks (pairs_of norms words new)
            (pairs_of norms words z) cs)
            (sym same) (joined_on marks (pairs_of norms words (take at old)) cs (h.joined marks));
      }

-- the words of one rule more are joined
pub in_turn_push : (norms : List (Option ℕ)) (words : List (List ℕ)) (candidates : List (ℕ × ℕ)) (rules others : List Rule)
    (tail : List ℕ) (cs : List Chain) (r q : Rule) (c : Chain) →
    LeadInTurn norms words candidates rules others tail cs → slice_get others (length rules) ≡ Some q →
    Leads norms words candidates c.steps.items r.word (q.word ++ tail) →
    LeadInTurn norms words candidates (rules ++ r ∷ []) others tail (cs ++ c ∷ [])
in_turn_push norms words candidates [] [] tail cs r q c h e l = absurd (cc e)
in_turn_push norms words candidates [] (p ∷ others) tail cs r q c h e l =
    let same : p ≡ q = cc in
    rw h (subst (λ (z : Rule). Leads norms words candidates c.steps.items r.word (z.word ++ tail)) (sym same) l, refl)
in_turn_push norms words candidates (s ∷ rules) [] tail cs r q c h e l = absurd h
in_turn_push norms words candidates (s ∷ rules) (p ∷ others) tail [] r q c h e l = absurd h
in_turn_push norms words candidates (s ∷ rules) (p ∷ others) tail (d ∷ cs) r q c h e l =
    (h.0, in_turn_push norms words candidates rules others tail cs r q c h.1 e l)

module _ (rows : Productions) (norms : List (Option ℕ)) (words : List (List ℕ)) (candidates : List (ℕ × ℕ)) where
  -- no candidate
  pub hold_first : AllHold rows norms words candidates 0 []
  hold_first = record { below = λ n. All-nil (IsChainBelow n); pairs = All-nil (IsPair rows); joined = λ marks. refl }

  -- one candidate more holds
  pub hold_next : (at : ℕ) (c : ℕ × ℕ) (cs ds : List Chain) → slice_get candidates at ≡ Some c →
      AllHold rows norms words candidates at cs → Holds rows norms words candidates c ds →
      AllHold rows norms words candidates (at + 1) (cs ++ ds)
  hold_next at c cs ds e h one =
      let P = pairs_of norms words candidates in
      let more : pairs_of norms words (take (at + 1) candidates) ≡ pairs_of norms words
      (take at candidates) ++ candidate norms words c ∷ [] =
      ap (pairs_of norms words) (taken candidates at c e) ∙ map-append (candidate norms words) (take at candidates) (c ∷ []) in
      record {
        below = λ n. All-append (IsChainBelow n) cs ds (h.below n) (one.below n);
        pairs = subst (All (IsPair rows)) (sym more)
            (All-append (IsPair rows) (pairs_of norms words (take at candidates)) (candidate norms words c ∷ []) h.pairs
            (All-cons (IsPair rows) (candidate norms words c) [] one.pair (All-nil (IsPair rows))));
        joined = λ marks. subst (λ (z : List Pair). AreJoined rows marks P z (cs ++ ds)) (sym more)
            (all_joined_push rows marks P (candidate norms words c) ds (one.joined marks)
            (pairs_of norms words (take at candidates)) cs (h.joined marks));
      }

-- what is there stays at its place
pub there_on : (old new : List (ℕ × ℕ)) (at : ℕ) (c : ℕ × ℕ) → (more : List (ℕ × ℕ)) × (new ≡ old ++ more) →
    slice_get old at ≡ Some c → slice_get new at ≡ Some c
there_on old new at c b e = ap (λ (z : List (ℕ × ℕ)). slice_get z at) b.1 ∙ front old b.0 at e
  where
    front : (xs ys : List (ℕ × ℕ)) (k : ℕ) → slice_get xs k ≡ Some c → slice_get (xs ++ ys) k ≡ Some c
    front [] ys k e = absurd (cc e)
    front (x ∷ xs) ys zero e = e
    front (x ∷ xs) ys (suc k) e = front xs ys k e

module _ (rows : Productions) (norms : List (Option ℕ)) (words : List (List ℕ)) where
  -- one whose rules' words aren't joined has words that differ
  pub apart_differ : IsNormedGrammar rows norms words → (x y : ℕ) → WordBelow (length rows) (residual norms words x y) →
      AreOrdered (row_of rows x) → AreOrdered (row_of rows y) →
      All (λ r. WordBelow (length rows) r.word) (row_of rows x) → All (λ r. WordBelow (length rows) r.word) (row_of rows y) →
      same_letters (row_of rows y) (row_of rows x) ≡ true →
      AreToldApart norms words (row_of rows y) (row_of rows x) (residual norms words x y) →
      CandidateDiffers rows norms words (x, y)
  apart_differ g x y below ox oy bx by same t =
      let b = residual norms words x y in
      let r = t.rule in
      let q = t.other in
      let letter = letters_at (row_of rows y) (row_of rows x) t.at r q same t.left t.right in
      let left : after rows (y ∷ []) (r.letter ∷ []) ≡ Some r.word =
      after_rule rows y r.letter r.word [] [] (rule_there (row_of rows y) t.at r oy t.left) ∙ ap Some (append-nil r.word) in
      let at_right : rule_of (row_of rows x) r.letter ≡ Some q.word = ap (rule_of (row_of rows x)) letter
      ∙ rule_there (row_of rows x) t.at q ox t.right in
      let right : after rows (x ∷ b) (r.letter ∷ []) ≡ Some (q.word ++ b) = after_rule rows x r.letter q.word b [] at_right in
      let r_below = below_at (row_of rows y) t.at r by t.left in
      let q_below = below_at (row_of rows x) t.at q bx t.right in
      after_trace rows (y ∷ []) (x ∷ b) (r.letter ∷ []) r.word (q.word ++ b) left right
      (differ_of (joining_law rows norms words g r.word (q.word ++ b) r_below
      (All-append (λ k. k < length rows) q.word b q_below below)))
    where
      below_at : (rules : List Rule) (i : ℕ) (p : Rule) → All (λ z. WordBelow (length rows) z.word) rules →
          slice_get rules i ≡ Some p → WordBelow (length rows) p.word
      below_at rules i p h e = subst (λ (z : Rule). WordBelow (length rows) z.word) (get_or_from_slice_get rules i p p e)
          (h i p (slice_get_within rules i p e))

      differ_of : AreJoinedByHeads norms words t.rule.word (t.other.word ++ residual norms words x y) ⊎
          Differ rows t.rule.word (t.other.word ++ residual norms words x y) →
          Differ rows t.rule.word (t.other.word ++ residual norms words x y)
      differ_of (inl j) = absurd (t.apart j)
      differ_of (inr d) = d

  -- what the words of rules exchange, the candidate needs
  pub in_turn_needs : (x y : ℕ) (c : ℕ × ℕ) → AreOrdered (row_of rows x) → AreOrdered (row_of rows y) →
      same_letters (row_of rows y) (row_of rows x) ≡ true →
      IsExchangedInTurn norms words (row_of rows y) (row_of rows x) (residual norms words x y) c → Needs rows norms words (x, y) c
  in_turn_needs x y c ox oy same t =
      let b = residual norms words x y in
      let letter = letters_at (row_of rows y) (row_of rows x) t.at t.rule t.other same t.left t.right in
      record {
        letter = t.rule.letter;
        left = t.rule.word;
        right = t.other.word ++ b;
        first = ap (option_map (λ (v : List ℕ). v ++ [])) (rule_there (row_of rows y) t.at t.rule oy t.left)
            ∙ ap Some (append-nil t.rule.word);
        second = ap (λ (a : ℕ). option_map (λ (v : List ℕ). v ++ b) (rule_of (row_of rows x) a)) letter
            ∙ ap (option_map (λ (v : List ℕ). v ++ b)) (rule_there (row_of rows x) t.at t.other ox t.right);
        there = t.there;
      }

  -- a candidate that is looked at takes its rewrites from what all take
  pub looked_at : (old new : List (ℕ × ℕ)) (at : ℕ) (c : ℕ × ℕ) → (more : List (ℕ × ℕ)) × (new ≡ old ++ more) →
      slice_get old at ≡ Some c →
      sum_by (rewrites_at rows norms words) (take (at + 1) new) ≡ sum_by (rewrites_at rows norms words) (take at old)
      + rewrites_at rows norms words c
  looked_at old new at c b e =
      let within = slice_get_within old at c e in
      let there = there_on old new at c b e in
      let same : take at new ≡ take at old = ap (take at) b.1 ∙ take-append-le at old b.0 (omega arith) in
      sum_by_more (rewrites_at rows norms words) new at c (slice_get_within new at c there)
      ∙ ap (λ (z : List (ℕ × ℕ)). sum_by (rewrites_at rows norms words) z + rewrites_at rows norms words (get_or new at c)) same
      ∙ ap (λ (d : ℕ × ℕ). sum_by (rewrites_at rows norms words) (take at old) + rewrites_at rows norms words d)
      (get_or_from_slice_get new at c c there)

  -- so it does not take more than all
  pub looked_least : (cs : List (ℕ × ℕ)) (at : ℕ) (c : ℕ × ℕ) → slice_get cs at ≡ Some c →
      sum_by (rewrites_at rows norms words) (take at cs) + rewrites_at rows norms words c ≤
      sum_by (rewrites_at rows norms words) cs
  looked_least cs at c e =
      let le = sum_by_more_le (rewrites_at rows norms words) cs at c (slice_get_within cs at c e) in
      let is = ap (rewrites_at rows norms words) (get_or_from_slice_get cs at c c e) in
      omega arith

-- the words of one rule more take so many more
pub turn_push : (norms : List (Option ℕ)) (words : List (List ℕ)) (rules others : List Rule) (tail : List ℕ) (r q : Rule) →
    slice_get others (length rules) ≡ Some q →
    rewrites_in_turn norms words (rules ++ r ∷ []) others tail ≡ rewrites_in_turn norms words rules others tail
    + length (exchanges norms words r.word (q.word ++ tail))
turn_push norms words [] [] tail r q e = absurd (cc e)
turn_push norms words [] (p ∷ others) tail r q e =
    let same : p ≡ q = cc in
    let is = ap (λ (z : Rule). length (exchanges norms words r.word (z.word ++ tail))) same in
    omega arith
turn_push norms words (s ∷ rules) [] tail r q e = absurd (cc e)
turn_push norms words (s ∷ rules) (p ∷ others) tail r q e =
    let rest = turn_push norms words rules others tail r q e in
    omega arith

-- those of the first rules take no more than those of all
pub turn_least : (norms : List (Option ℕ)) (words : List (List ℕ)) (k : ℕ) (rules others : List Rule) (tail : List ℕ) →
    rewrites_in_turn norms words (take k rules) others tail ≤ rewrites_in_turn norms words rules others tail
turn_least norms words zero rules others tail = omega arith
turn_least norms words (suc k) [] others tail = omega arith
turn_least norms words (suc k) (r ∷ rules) [] tail = omega arith
turn_least norms words (suc k) (r ∷ rules) (q ∷ others) tail =
    let rest = turn_least norms words k rules others tail in
    omega arith

module _ (rows : Productions) (norms : List (Option ℕ)) (words : List (List ℕ)) (g : IsNormedGrammar rows norms words)
    (u v : List ℕ) where
  -- words that aren't joined by their heads differ
  pub not_joined : WordBelow (length rows) u → WordBelow (length rows) v →
      (AreJoinedByHeads norms words u v → ⊥) → Differ rows u v
  not_joined left right none = elim (joining_law rows norms words g u v left right) [ inl j ↦ absurd (none j) | inr d ↦ d ]

  -- joining two words may take more rewrites by itself
  pub takes_first : (most : ℕ) → most < length (exchanges norms words u v) → TakesMore rows u v most
  takes_first most lt = record {
    norms = norms;
    words = words;
    grammar = g;
    needed = [];
    once = λ i j d less at. absurd (omega arith);
    each = All-nil (IsNeeded rows norms words u v);
    more = omega arith;
  }

  -- and with what the candidates take that they need
  pub takes_more : (most : ℕ) (needed : List (ℕ × ℕ)) → AllPairs (λ c d. c ≢ d) needed →
      ((c : ℕ × ℕ) → IsThere needed c → IsNeeded rows norms words u v c) →
      most < length (exchanges norms words u v) + sum_by (rewrites_at rows norms words) needed → TakesMore rows u v most
  takes_more most needed once each more = record {
    norms = norms;
    words = words;
    grammar = g;
    needed = needed;
    once = once;
    each = λ i d lt. each (get_or needed i d) (i, slice_get-get_or needed i d lt);
    more = more;
  }
