-- What dropping heads changes on the way from one word to another.
use Rattle.std.proofs.Common.{◌≡◌, ◌≢◌, ◌<◌, ◌≤◌, ◌+◌, ◌⊎◌, inl, inr, ℕ, List, [], ◌∷◌, ◌++◌, length, reverse, append_assoc, refl, sym, ◌∙◌, ap, subst, arith, Option, Some, Bool, All}
use Rattle.std.specs.Prelude.{slice_get, option_map}
use Rattle.std.proofs.lemmas.List.{length-append, map-append}
use Rattle.std.proofs.lemmas.List.Elements.{All-append, All-nil, All-tail}
use Rattle.std.proofs.lemmas.Option.{slice_get-map}
use Rattle.fst_words.specs.Words.{WordBelow}
use Rattle.fst_norms.specs.Bounds.{norm_of}
use Rattle.fst_norms.specs.Lowering.{LowerByOne}
use Rattle.fst_basis.specs.declared.proof.Rewrite.{Rewrite}
use Rattle.fst_basis.specs.declared.proof.Rewrite.TheVariants.{Back, Forth}
use Rattle.fst_basis.specs.Basis.{IsRewriteBelow}
use Rattle.fst_basis.specs.Rewrites.{chained}
use Rattle.fst_basis.proofs.Laws.{back, chained-append, chained_first, chained_last, chained_more, exchanges_on, exchanges_push, forth, reverse-push, reversed_exchanges}
use Rattle.fst_normed.specs.Candidates.{IsThere, candidate, residual}
use Rattle.fst_normed.specs.Joining.{AreJoinedByHeads, dropped, exchanged, exchanges}
use Rattle.fst_normed.specs.Walks.{IsUnderway, Leads, pairs_of}
use Rattle.fst_normed.proofs.ExchangeLaws.{Heads, are_residuals, exchanges_step, heads, there_back, there_front}

module _ (norms : List (Option ℕ)) (words : List (List ℕ)) where
  -- chains lead on where more candidates are noted
  pub chained_on : (old new : List (ℕ × ℕ)) → (more : List (ℕ × ℕ)) × (new ≡ old ++ more) →
      (marks : List Bool) (steps : List Rewrite)
      (w x : List ℕ) →
      chained marks (pairs_of norms words old) steps w ≡ Some x → chained marks (pairs_of norms words new) steps w ≡ Some x
  chained_on old new b marks steps w x e =
      let all : pairs_of norms words new ≡ pairs_of norms words old ++ pairs_of norms words b.0 =
      ap (pairs_of norms words) b.1 ∙ map-append (candidate norms words) old b.0 in
      rw all (chained_more marks (pairs_of norms words old) (pairs_of norms words b.0) steps w x e)

  pub leads_on : (old new : List (ℕ × ℕ)) → (more : List (ℕ × ℕ)) × (new ≡ old ++ more) → (steps : List Rewrite) (x y : List ℕ) →
      Leads norms words old steps x y → Leads norms words new steps x y
  leads_on old new b steps x y l = (l.0, λ marks. chained_on old new b marks steps x y (l.1 marks))

  pub underway_on : (old new : List (ℕ × ℕ)) → (more : List (ℕ × ℕ)) × (new ≡ old ++ more) → (x y front left right : List ℕ)
      (before after : List Rewrite) → IsUnderway norms words old x y front left right before after →
      IsUnderway norms words new x y front left right before after
  underway_on old new b x y front left right before after u = record {
    first = u.first;
    last = u.last;
    from = λ marks. chained_on old new b marks before x (front ++ left) (u.from marks);
    to = λ marks. chained_on old new b marks (reverse after) (front ++ right) y (u.to marks);
    joined = u.joined;
    rest = u.rest;
    count = u.count;
    left_below = u.left_below;
    right_below = u.right_below;
  }

  -- words that are joined are so once their heads are dropped
  pub joined_on : (n m : ℕ) (l r : List ℕ) (rest : List ℕ × List ℕ) → dropped norms words n l m r ≡ rest →
      AreJoinedByHeads norms words (n ∷ l) (m ∷ r) → AreJoinedByHeads norms words rest.0 rest.1
  joined_on n m l r rest e (AreJoinedByHeads.empty a b) = absurd (cc a)
  joined_on n m l r rest e (AreJoinedByHeads.drops k j x y a b h) =
      let first : n ≡ k = cc a in
      let second : m ≡ j = cc b in
      let left : l ≡ x = cc a in
      let right : r ≡ y = cc b in
      let same : dropped norms words k x j y ≡ rest = rw (← first, ← second, ← left, ← right) e in
      subst (λ (z : List ℕ × List ℕ). AreJoinedByHeads norms words z.0 z.1) same h

  -- those one of which is empty are both empty
  pub joined_empty : (u v : List ℕ) → (u ≡ []) ⊎ (v ≡ []) → AreJoinedByHeads norms words u v → (u ≡ []) × (v ≡ [])
  joined_empty u v h (AreJoinedByHeads.empty a b) = (a, b)
  joined_empty u v (inl h) (AreJoinedByHeads.drops n m x y a b j) = absurd (let e : [] ≡ n ∷ x = sym h ∙ a in cc)
  joined_empty u v (inr h) (AreJoinedByHeads.drops n m x y a b j) = absurd (let e : [] ≡ m ∷ y = sym h ∙ b in cc)

  module _ (all : All (WordBelow (length words)) words) (one : LowerByOne norms words) (candidates : List (ℕ × ℕ)) where
    pub pair_there : (at : ℕ) (c : ℕ × ℕ) → slice_get candidates at ≡ Some c →
        slice_get (pairs_of norms words candidates) at ≡ Some (candidate norms words c)
    pair_there at c e = slice_get-map (candidate norms words) candidates at ∙ ap (option_map (candidate norms words)) e

    module _ (x y front : List ℕ) (n m : ℕ) (l r : List ℕ) (before after : List Rewrite)
        (u : IsUnderway norms words candidates x y front (n ∷ l) (m ∷ r) before after) where
      step : exchanges norms words (n ∷ l) (m ∷ r) ≡ exchanged norms n m ++
          exchanges norms words (dropped norms words n l m r).0 (dropped norms words n l m r).1
      step = exchanges_step norms words (length words) (are_residuals norms words all one) n m l r u.left_below u.right_below

      -- what is left exchanges the rest
      rest_on : (rest : List ℕ × List ℕ) → dropped norms words n l m r ≡ rest → (c : ℕ × ℕ) →
          IsThere (exchanges norms words rest.0 rest.1) c → IsThere (exchanges norms words x y) c
      rest_on rest e c t =
          let s : exchanges norms words (n ∷ l) (m ∷ r) ≡ exchanged norms n m ++ exchanges norms words rest.0 rest.1 = step
          ∙ ap (λ (z : List ℕ × List ℕ). exchanged norms n m ++ exchanges norms words z.0 z.1) e in
          u.rest c (subst (λ (z : List (ℕ × ℕ)). IsThere z c) (sym s)
          (there_back (exchanged norms n m) (exchanges norms words rest.0 rest.1) c t))

      -- and so many
      count_on : (rest : List ℕ × List ℕ) (made : ℕ) → dropped norms words n l m r ≡ rest → length (exchanged norms n m) ≡ made →
          ((length before + length after) + made) + length (exchanges norms words rest.0 rest.1) ≡ length
          (exchanges norms words x y)
      count_on rest made e many =
          let s : exchanges norms words (n ∷ l) (m ∷ r) ≡ exchanged norms n m ++ exchanges norms words rest.0 rest.1 = step
          ∙ ap (λ (z : List ℕ × List ℕ). exchanged norms n m ++ exchanges norms words z.0 z.1) e in
          let len = ap length s ∙ length-append (exchanged norms n m) (exchanges norms words rest.0 rest.1) in
          let c = u.count in
          omega arith

      -- where the heads exchange a candidate, so much is to be made yet
      pub heads_count : (length before + length after) + length (exchanged norms n m) ≤ length (exchanges norms words x y)
      heads_count = let c = count_on (dropped norms words n l m r) (length (exchanged norms n m)) refl refl in omega arith

      -- and what they exchange, the two words do
      pub heads_there : (c : ℕ × ℕ) → IsThere (exchanged norms n m) c → IsThere (exchanges norms words x y) c
      heads_there c t = u.rest c (subst (λ (z : List (ℕ × ℕ)). IsThere z c) (sym step) (there_front (exchanged norms n m)
          (exchanges norms words (dropped norms words n l m r).0 (dropped norms words n l m r).1) c t))

      -- equal heads are dropped
      pub same_next : n ≡ m → IsUnderway norms words candidates x y (front ++ n ∷ []) l r before after
      same_next e = elim (heads norms words n l m r) [
        | Heads.same e d made ↦ record {
          first = u.first;
          last = u.last;
          from = λ marks. u.from marks ∙ ap Some (sym (append_assoc front (n ∷ []) l));
          to = λ marks. ap (chained marks (pairs_of norms words candidates) (reverse after))
              (append_assoc front (n ∷ []) r ∙ ap (λ (z : ℕ). front ++ (z ∷ r)) e) ∙ u.to marks;
          joined = λ j. joined_on n m l r (l, r) d (u.joined j);
          rest = rest_on (l, r) d;
          count = (let c = count_on (l, r) 0 d (ap length made) in omega arith);
          left_below = All-tail (λ k. k < length words) n l u.left_below;
          right_below = All-tail (λ k. k < length words) m r u.right_below;
        }
        | Heads.right ne le d made ↦ absurd (ne e)
        | Heads.left ne lt d made ↦ absurd (ne e)
      ]

      -- the head of the right word is replaced
      pub right_next : (at : ℕ) → n ≢ m → norm_of norms n ≤ norm_of norms m → slice_get candidates at ≡ Some (n, m) →
          WordBelow (length words) (residual norms words n m) →
          IsUnderway norms words candidates x y (front ++ n ∷ []) l (residual norms words n m ++ r) before
          (after ++ Back (length front) at ∷ [])
      right_next at other small e below =
          let b = residual norms words n m in
          let P = pairs_of norms words candidates in
          elim (heads norms words n l m r) [
            | Heads.same e d made ↦ absurd (other e)
            | Heads.left ne lt d made ↦ absurd (omega arith)
            | Heads.right ne le d made ↦ record {
              first = u.first;
              last = exchanges_push after (Back (length front) at) u.last (λ k. tt);
              from = λ marks. u.from marks ∙ ap Some (sym (append_assoc front (n ∷ []) l));
              to = λ marks.
                  ap (λ (s : List Rewrite). chained marks P s ((front ++ n ∷ []) ++ (b ++ r)))
                  (reverse-push after (Back (length front) at))
                  ∙ ap (chained marks P (Back (length front) at ∷ reverse after)) (append_assoc front (n ∷ []) (b ++ r))
                  ∙ chained_first marks P (Back (length front) at) (reverse after) (front ++ (n ∷ (b ++ r))) (front ++ (m ∷ r))
                  (back marks P (length front) at (candidate norms words (n, m)) front r (pair_there at (n, m) e) refl)
                  ∙ u.to marks;
              joined = λ j. joined_on n m l r (l, b ++ r) d (u.joined j);
              rest = rest_on (l, b ++ r) d;
              count = (
                  let c = count_on (l, b ++ r) 1 d (ap length made) in
                  let more = length-append after (Back (length front) at ∷ []) in
                  omega arith);
              left_below = All-tail (λ k. k < length words) n l u.left_below;
              right_below = All-append (λ k. k < length words) b r below (All-tail (λ k. k < length words) m r u.right_below);
            }
          ]

      -- the head of the left word is replaced
      pub left_next : (at : ℕ) → n ≢ m → norm_of norms m < norm_of norms n → slice_get candidates at ≡ Some (m, n) →
          WordBelow (length words) (residual norms words m n) →
          IsUnderway norms words candidates x y (front ++ m ∷ []) (residual norms words m n ++ l) r
          (before ++ Forth (length front) at ∷ []) after
      left_next at other great e below =
          let b = residual norms words m n in
          let P = pairs_of norms words candidates in
          elim (heads norms words n l m r) [
            | Heads.same e d made ↦ absurd (other e)
            | Heads.right ne le d made ↦ absurd (omega arith)
            | Heads.left ne lt d made ↦ record {
              first = exchanges_push before (Forth (length front) at) u.first (λ k. tt);
              last = u.last;
              from = λ marks.
                  chained_last marks P before (Forth (length front) at) x (front ++ (n ∷ l)) (front ++ (m ∷ (b ++ l)))
                  (u.from marks)
                  (forth marks P (length front) at (candidate norms words (m, n)) front l (pair_there at (m, n) e) refl)
                  ∙ ap Some (sym (append_assoc front (m ∷ []) (b ++ l)));
              to = λ marks. ap (chained marks P (reverse after)) (append_assoc front (m ∷ []) r) ∙ u.to marks;
              joined = λ j. joined_on n m l r (b ++ l, r) d (u.joined j);
              rest = rest_on (b ++ l, r) d;
              count = (
                  let c = count_on (b ++ l, r) 1 d (ap length made) in
                  let more = length-append before (Forth (length front) at ∷ []) in
                  omega arith);
              left_below = All-append (λ k. k < length words) b l below (All-tail (λ k. k < length words) n l u.left_below);
              right_below = All-tail (λ k. k < length words) m r u.right_below;
            }
          ]

      -- so it is with what stands on the stacks then
      pub same_step : (more : List ℕ) → n ≡ m → more ≡ front ++ n ∷ [] →
          IsUnderway norms words candidates x y more l r before after
      same_step more e f = rw f (same_next e)

      pub right_step : (at place : ℕ) (more right : List ℕ) (steps : List Rewrite) → n ≢ m → norm_of norms n ≤ norm_of norms m →
          slice_get candidates at ≡ Some (n, m) →
          WordBelow (length words) (residual norms words n m) → place ≡ length front → more ≡ front ++ n ∷ [] →
          right ≡ residual norms words n m ++ r →
          steps ≡ after ++ Back place at ∷ [] → IsUnderway norms words candidates x y more l right before steps
      right_step at place more right steps ne le e below p f g h = rw (f, g, h, p) (right_next at ne le e below)

      pub left_step : (at place : ℕ) (more left : List ℕ) (steps : List Rewrite) → n ≢ m → norm_of norms m < norm_of norms n →
          slice_get candidates at ≡ Some (m, n) →
          WordBelow (length words) (residual norms words m n) → place ≡ length front → more ≡ front ++ m ∷ [] →
          left ≡ residual norms words m n ++ l →
          steps ≡ before ++ Forth place at ∷ [] → IsUnderway norms words candidates x y more left r steps after
      left_step at place more left steps ne lt e below p f g h = rw (f, g, h, p) (left_next at ne lt e below)

  -- nothing is done yet
  pub starts : (candidates : List (ℕ × ℕ)) (x y : List ℕ) → WordBelow (length words) x → WordBelow (length words) y →
      IsUnderway norms words candidates x y [] x y [] []
  starts candidates x y hx hy = record {
    first = λ n. All-nil (IsRewriteBelow n);
    last = λ n. All-nil (IsRewriteBelow n);
    from = λ marks. refl;
    to = λ marks. refl;
    joined = λ j. j;
    rest = λ c t. t;
    count = omega arith;
    left_below = hx;
    right_below = hy;
  }

  -- where nothing is left of both words, the rewrites lead from one to the other
  pub leads_through : (candidates : List (ℕ × ℕ)) (x y front left right : List ℕ) (before after : List Rewrite) → left ≡ [] →
      right ≡ [] →
      IsUnderway norms words candidates x y front left right before after →
      Leads norms words candidates (before ++ reverse after) x y
  leads_through candidates x y front left right before after none nothing u = (
    exchanges_on before (reverse after) u.first (reversed_exchanges after u.last),
    λ marks. let P = pairs_of norms words candidates in
        chained-append marks P before (reverse after) x (front ++ left) (u.from marks)
        ∙ ap (λ (z : List ℕ). chained marks P (reverse after) (front ++ z)) (none ∙ sym nothing) ∙ u.to marks,
  )
