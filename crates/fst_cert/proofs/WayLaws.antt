-- Chains of rewrites that cut a word behind its first marked non-terminal, exchange what is left, and let that grow.
use Rattle.std.proofs.Common.{◌≡◌, ◌≢◌, ℕ, zero, suc, ◌+◌, ◌<◌, List, [], ◌∷◌, ◌++◌, length, take, drop, add-one, append-nil, refl, sym, ◌∙◌, ap, subst, arith, Some, None, Option, Bool, true, false, nat_lt, ◌==◌, All}
use Rattle.std.specs.Prelude.{IfNone, IfSome, if◌then◌else◌, slice_get, slice_index_or}
use Rattle.std.proofs.lemmas.Bool.{eq-eqb, le-leb}
use Rattle.std.proofs.lemmas.List.{get_or-take, length-take, take-append-drop}
use Rattle.std.proofs.lemmas.List.Elements.{All-append, All-cons, All-nil, All-tail}
use Rattle.fst_base.proofs.Bools.{text_itself}
use Rattle.fst_words.specs.Marks.{cut, is_marked}
use Rattle.fst_words.specs.Words.{WordBelow}
use Rattle.fst_norms.specs.Pruned.{pruned_word}
use Rattle.fst_basis.specs.declared.proof.Pair.{Pair}
use Rattle.fst_basis.specs.declared.proof.Rewrite.{Rewrite}
use Rattle.fst_basis.specs.declared.proof.Rewrite.TheVariants.{Cut, Forth, Grow}
use Rattle.fst_basis.specs.Basis.{IsRewriteBelow}
use Rattle.fst_basis.specs.Rewrites.{chained, rewritten}
use Rattle.fst_basis.proofs.Laws.{chained_last, forth}
use Rattle.fst_cert.specs.Visited.{IsCutAt, LeadOn, pair_of}

-- a word with something behind it isn't cut to nothing
some_left : (marks : List Bool) (v : List ℕ) (k : ℕ) → cut marks v (k ∷ []) ≢ []
some_left marks [] k e = cc
some_left marks (n ∷ v) k e = cc

-- where a word is cut to as much whatever stands behind it, the last non-terminal that is left is marked
marked_last : (marks : List Bool) (v : List ℕ) (at : ℕ) → at < length v → ((w : List ℕ) → cut marks v w ≡ take (suc at) v) →
    is_marked marks (slice_index_or v at 0) ≡ true
marked_last marks [] at lt h = absurd (omega arith)
marked_last marks (n ∷ v) zero lt h =
    (elim (is_marked marks n) as (λ b. n ∷ (if b then [] else cut marks v (0 ∷ [])) ≡ n ∷ [] → b ≡ true) [
      | true ↦ λ e. refl
      | false ↦ λ e. absurd (some_left marks v 0 (let f : cut marks v (0 ∷ []) ≡ [] = cc in f))
    ]) (h (0 ∷ []))
marked_last marks (n ∷ v) (suc at) lt h =
    (elim (is_marked marks n) as (λ b. ((w : List ℕ) → n ∷ (if b then [] else cut marks v w) ≡ n ∷ take (suc at) v) →
    is_marked marks (slice_index_or v at 0) ≡ true) [
      | true ↦ λ g.
          let none : [] ≡ take (suc at) v = (let f = g [] in cc) in
          let long = ap length none in
          let most = length-take (suc at) v in
          absurd (omega arith)
      | false ↦ λ g. marked_last marks v at (omega arith) (λ w. let f = g w in cc)
    ]) h

pub cut_there : (marks : List Bool) (word : List ℕ) (at : ℕ) → at < length word →
    ((w : List ℕ) → cut marks word w ≡ take (at + 1) word ++ []) → IsCutAt marks word at
cut_there marks word at lt h =
    let same : (w : List ℕ) → cut marks word w ≡ take (at + 1) word = λ w. h w ∙ append-nil (take (at + 1) word) in
    record {
      within = lt;
      marked = marked_last marks word at lt (λ w. rw (← add-one) (same w));
      pruned = same [];
    }

module _ (marks : List Bool) (basis : List Pair) (word : List ℕ) (at : ℕ) (h : IsCutAt marks word at) where
  -- what stands behind the place is cut off
  pub cuts : rewritten marks basis (Cut at (drop (at + 1) word)) word ≡ Some (pruned_word marks word)
  cuts =
      let lt : nat_lt at (length word) ≡ true = le-leb (suc at) (length word) h.within in
      let same = text_itself (drop (at + 1) word) in
      rw (lt, h.marked, same) (ap Some (sym h.pruned))

  -- and grows again
  pub grows : rewritten marks basis (Grow at (drop (at + 1) word)) (pruned_word marks word) ≡ Some word
  grows =
      let within = h.within in
      let long : length (take (at + 1) word) ≡ at + 1 = (let l = length-take (at + 1) word in omega arith) in
      let lt : nat_lt at (length (take (at + 1) word)) ≡ true = le-leb (suc at) (length (take (at + 1) word)) (omega arith) in
      let there : is_marked marks (slice_index_or (take (at + 1) word) at 0) ≡ true =
      ap (is_marked marks) (get_or-take (at + 1) word at 0 (omega arith)) ∙ h.marked in
      let len : (length (take (at + 1) word) == at + 1) ≡ true = eq-eqb (length (take (at + 1) word)) (at + 1) long in
      subst (λ (p : List ℕ). rewritten marks basis (Grow at (drop (at + 1) word)) p ≡ Some word) (sym h.pruned)
      (rw (lt, there, len) (ap Some (take-append-drop (at + 1) word)))

-- a pair exchanges its left word for its right one
pub exchanges : (marks : List Bool) (basis : List Pair) (p : ℕ) (u v : List ℕ) → slice_get basis p ≡ Some (pair_of u v) →
    rewritten marks basis (Forth 0 p) u ≡ Some v
exchanges marks basis p u v e =
    let f = forth marks basis 0 p (pair_of u v) [] [] e refl in
    rw (append-nil u, append-nil v) at f

-- a chain that leads to a word leads on by one more rewrite
pub leads_on : (marks : List Bool) (basis : List Pair) (old new : List Rewrite) (r : Rewrite) (v w : List ℕ) →
    new ≡ old ++ r ∷ [] → rewritten marks basis r v ≡ Some w → LeadOn marks basis old new v w
leads_on marks basis old new r v w is e u h =
    ap (λ (s : List Rewrite). chained marks basis s u) is ∙ chained_last marks basis old r u v w h e

-- and not at all by none
leads_there : (marks : List Bool) (basis : List Pair) (old new : List Rewrite) (v w : List ℕ) → new ≡ old → v ≡ w →
    LeadOn marks basis old new v w
leads_there marks basis old new v w is e u h = ap (λ (s : List Rewrite). chained marks basis s u) is ∙ h ∙ ap Some e

-- what stands behind a place of a word has no other numbers
pub drop_below : (n k : ℕ) (w : List ℕ) → WordBelow n w → WordBelow n (drop k w)
drop_below n zero w below = below
drop_below n (suc k) [] below = below
drop_below n (suc k) (x ∷ w) below = drop_below n k w (All-tail (λ j. j < n) x w below)

-- the numbers of one more rewrite
pub below_on : (n : ℕ) (old new : List Rewrite) (r : Rewrite) → new ≡ old ++ r ∷ [] → IsRewriteBelow n r →
    All (IsRewriteBelow n) old → All (IsRewriteBelow n) new
below_on n old new r is b h = subst (All (IsRewriteBelow n)) (sym is)
    (All-append (IsRewriteBelow n) old (r ∷ []) h (All-cons (IsRewriteBelow n) r [] b (All-nil (IsRewriteBelow n))))

-- the exchange, if there is one, leads from one word to the other
pub exchange_leads : (marks : List Bool) (basis : List Pair) (place : Option ℕ) (old new : List Rewrite) (u v : List ℕ) →
    IfNone place (u ≡ v) → IfSome place (λ p. slice_get basis p ≡ Some (pair_of u v)) → IfNone place (new ≡ old) →
    IfSome place (λ p. (m : List Bool) (P : List Pair) (x y : List ℕ) → slice_get P p ≡ Some (pair_of x y) →
    LeadOn m P old new x y) → LeadOn marks basis old new u v
exchange_leads marks basis None old new u v same there is leads = leads_there marks basis old new u v is same
exchange_leads marks basis (Some p) old new u v same there is leads = leads marks basis u v there

-- cut, exchanged and grown again, one word leads to the other
pub way_leads : (marks : List Bool) (basis : List Pair) (s0 s1 s2 s3 : List Rewrite) (x y p q : List ℕ) → s0 ≡ [] →
    p ≡ pruned_word marks x → q ≡ pruned_word marks y → LeadOn marks basis s0 s1 x (pruned_word marks x) →
    LeadOn marks basis s1 s2 p q → LeadOn marks basis s2 s3 (pruned_word marks y) y → chained marks basis s3 x ≡ Some y
way_leads marks basis s0 s1 s2 s3 x y p q none p_is q_is cut exchange grow =
    let start = ap (λ (s : List Rewrite). chained marks basis s x) none in
    grow x (exchange x (cut x start ∙ ap Some (sym p_is)) ∙ ap Some q_is)
