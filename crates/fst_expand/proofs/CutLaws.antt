-- Dropping heads: what is left to be cut, and words that stay below a number, or pruned.
use Rattle.std.proofs.Common.{◌≡◌, ◌≢◌, ℕ, zero, suc, ◌<◌, List, [], ◌∷◌, ◌++◌, take, drop, refl, sym, ◌∙◌, ap, subst, ◌||◌, Some, None, Option, Bool, true, false, cond, All}
use Rattle.std.specs.Prelude.{nat_lt, if◌then◌else◌}
use Rattle.std.proofs.lemmas.List.Elements.{All-head, All-tail, All-cons, All-nil}
use Rattle.fst_types.specs.declared.side.Side.{Side}
use Rattle.fst_base.specs.Limits.{greatest_norm}
use Rattle.fst_words.specs.Marks.{has_marked, is_marked}
use Rattle.fst_words.specs.Words.{WordBelow}
use Rattle.fst_norms.specs.Bounds.{bound_at}
use Rattle.fst_norms.specs.Pruned.{IsPruned, pruned_word}
use Rattle.fst_basis.specs.declared.proof.Pair.{Pair}
use Rattle.fst_norms.specs.Lowering.{lower, lowered, lowered_to}
use Rattle.fst_expand.specs.Cuts.{HasCuts, dropped, exact, head_cut, head_norm, left_rest, right_rest}
use Rattle.fst_expand.specs.Trail.{AreUnmarked}

-- what the cuts of two words are where a head is dropped
pub record AreDropped (norms : List (Option ℕ)) (words : List (List ℕ)) (x y : List ℕ) (side : Side) (norm : ℕ) (cuts : List Pair)
    (heads : ℕ) : Type 0 where
  pub rest : List Pair
  pub others : ℕ
  pub cut : HasCuts norms words (left_rest words side norm x) (right_rest words side norm y) rest others
  pub cuts_are : cuts ≡ head_cut words side norm x y ++ rest
  pub sum : heads ≡ suc others

pub after_drop : (norms : List (Option ℕ)) (words : List (List ℕ)) (x y : List ℕ) (side : Side) (norm : ℕ) (cuts : List Pair)
    (heads : ℕ) →
    HasCuts norms words x y cuts heads → x ≢ y → dropped (head_norm norms x) (head_norm norms y) ≡ Some (side, norm) →
    AreDropped norms words x y side norm cuts heads
after_drop norms words x y side norm cuts heads HasCuts.same ne e = absurd (ne refl)
after_drop norms words x y side norm cuts heads (HasCuts.whole other none) ne e =
    absurd (let f : None ≡ Some (side, norm) = sym none ∙ e in cc)
after_drop norms words x y side norm cuts heads
    (HasCuts.drops {side = s} {k = k} {heads = others} {cuts = rest} other d cut) ne e =
    let same : (s, k) ≡ (side, norm) = (let f : Some (s, k) ≡ Some (side, norm) = sym d ∙ e in cc) in
    let R : Side × ℕ → Type 0 = λ z. AreDropped norms words x y z.0 z.1 cuts heads in
    subst R same (record { rest = rest; others = others; cut = cut; cuts_are = refl; sum = refl })

-- the cuts of the same words
pub no_cuts : (norms : List (Option ℕ)) (words : List (List ℕ)) (x y : List ℕ) (cuts : List Pair) (heads : ℕ) →
    HasCuts norms words x y cuts heads → x ≡ y →
    (cuts ≡ []) × (heads ≡ 0)
no_cuts norms words x y cuts heads HasCuts.same e = (refl, refl)
no_cuts norms words x y cuts heads (HasCuts.whole other none) e = absurd (other e)
no_cuts norms words x y cuts heads (HasCuts.drops other d cut) e = absurd (other e)

-- those of other ones of which no head is dropped
pub one_cut : (norms : List (Option ℕ)) (words : List (List ℕ)) (x y : List ℕ) (cuts : List Pair) (heads : ℕ) →
    HasCuts norms words x y cuts heads → x ≢ y →
    dropped (head_norm norms x) (head_norm norms y) ≡ None → (cuts ≡ record { left = x; right = y } ∷ []) × (heads ≡ 0)
one_cut norms words x y cuts heads HasCuts.same ne e = absurd (ne refl)
one_cut norms words x y cuts heads (HasCuts.whole other none) ne e = (refl, refl)
one_cut norms words x y cuts heads (HasCuts.drops {side = s} {k = k} other d cut) ne e =
    absurd (let f : None ≡ Some (s, k) = sym e ∙ d in cc)

-- two words have one list of cuts, and one number of heads
pub same_cuts : (norms : List (Option ℕ)) (words : List (List ℕ)) (x y : List ℕ) (cuts others : List Pair) (heads count : ℕ) →
    HasCuts norms words x y cuts heads →
    HasCuts norms words x y others count → (cuts ≡ others) × (heads ≡ count)
same_cuts norms words x y cuts others heads count HasCuts.same h = let n = no_cuts norms words x y others count h refl in
    (sym n.0, sym n.1)
same_cuts norms words x y cuts others heads count (HasCuts.whole other none) h = let n =
    one_cut norms words x y others count h other none in (sym n.0, sym n.1)
same_cuts norms words x y cuts others heads count (HasCuts.drops {side = s} {k = k} {heads = more} {cuts = rest} other d cut) h =
    let a = after_drop norms words x y s k others count h other d in
    let r = same_cuts norms words (left_rest words s k x) (right_rest words s k y) rest a.rest more a.others cut a.cut in
    (ap (λ (z : List Pair). head_cut words s k x y ++ z) r.0 ∙ sym a.cuts_are, ap suc r.1 ∙ sym a.sum)

-- a head that is dropped, and the other one, have norms
some_norms : (a b : Option ℕ) (d : Side × ℕ) → dropped a b ≡ Some d → ((j : ℕ) × (a ≡ Some j)) × ((k : ℕ) × (b ≡ Some k))
some_norms None b d e = cc
some_norms (Some j) None d e = cc
some_norms (Some j) (Some k) d e = ((j, refl), (k, refl))

exact_some : (o : Option ℕ) (k : ℕ) → exact o ≡ Some k → o ≡ Some k
exact_some None k e = e
exact_some (Some j) k e = elim (nat_lt j greatest_norm) as (λ b. cond b (Some j) None ≡ Some k → Some j ≡ Some k)
    [ true ↦ λ h. h | false ↦ λ h. cc ] e

-- a word with a norm at its head
pub record HasHead (norms : List (Option ℕ)) (w : List ℕ) : Type 0 where
  pub head : ℕ
  pub rest : List ℕ
  pub word : w ≡ head ∷ rest
  pub norm : ℕ
  pub bound : bound_at norms head ≡ Some norm

head_there : (norms : List (Option ℕ)) (w : List ℕ) (k : ℕ) → head_norm norms w ≡ Some k → HasHead norms w
head_there norms [] k e = absurd (cc e)
head_there norms (n ∷ w) k e = record { head = n; rest = w; word = refl; norm = k; bound = exact_some (bound_at norms n) k e }

pub heads_there : (norms : List (Option ℕ)) (x y : List ℕ) (d : Side × ℕ) →
    dropped (head_norm norms x) (head_norm norms y) ≡ Some d → HasHead norms x × HasHead norms y
heads_there norms x y d e =
    let s = some_norms (head_norm norms x) (head_norm norms y) d e in
    (head_there norms x s.0.0 s.0.1, head_there norms y s.1.0 s.1.1)

pub not_empty : (norms : List (Option ℕ)) (w : List ℕ) → HasHead norms w → w ≢ []
not_empty norms w h e = absurd (let f : h.head ∷ h.rest ≡ [] = sym h.word ∙ e in cc)

-- words below a number
pub append_below : (n : ℕ) (v w : List ℕ) → WordBelow n v → WordBelow n w → WordBelow n (v ++ w)
append_below n [] w hv hw = hw
append_below n (k ∷ v) w hv hw = All-cons (λ k. k < n) k (v ++ w) (All-head (λ k. k < n) k v hv)
    (append_below n v w (All-tail (λ k. k < n) k v hv) hw)

pub rest_below : (n : ℕ) (w : List ℕ) → WordBelow n w → WordBelow n (drop 1 w)
rest_below n [] h = h
rest_below n (k ∷ w) h = All-tail (λ k. k < n) k w h

pub drop_below : (n at : ℕ) (w : List ℕ) → WordBelow n w → WordBelow n (drop at w)
drop_below n zero w h = h
drop_below n (suc at) [] h = h
drop_below n (suc at) (k ∷ w) h = drop_below n at w (All-tail (λ k. k < n) k w h)

pub head_below : (n : ℕ) (w : List ℕ) → WordBelow n w → WordBelow n (take 1 w)
head_below n [] h = h
head_below n (k ∷ w) h = All-cons (λ k. k < n) k [] (All-head (λ k. k < n) k w h) (All-nil (λ k. k < n))

-- of words below a number each is, also where there is none by this number
word_below : (n : ℕ) (words : List (List ℕ)) (k : ℕ) → All (WordBelow n) words → WordBelow n (lowered_to words k)
word_below n [] k h = All-nil (λ k. k < n)
word_below n (w ∷ words) zero h = All-head (WordBelow n) w words h
word_below n (w ∷ words) (suc k) h = word_below n words k (All-tail (WordBelow n) w words h)

pub lower_below : (n : ℕ) (words : List (List ℕ)) (w : List ℕ) → All (WordBelow n) words → WordBelow n w →
    WordBelow n (lower words w)
lower_below n words [] h hw = hw
lower_below n words (k ∷ w) h hw = append_below n (lowered_to words k) w (word_below n words k h) (All-tail (λ k. k < n) k w hw)

pub lowered_below : (n : ℕ) (words : List (List ℕ)) (steps : ℕ) (w : List ℕ) → All (WordBelow n) words → WordBelow n w →
    WordBelow n (lowered words steps w)
lowered_below n words zero w h hw = hw
lowered_below n words (suc steps) w h hw = lowered_below n words steps (lower words w) h (lower_below n words w h hw)

-- words without a marked non-terminal
pub unmarked_parts : (a b : Bool) → (a || b) ≡ false → (a ≡ false) × (b ≡ false)
unmarked_parts true b e = cc
unmarked_parts false b e = (refl, e)

pub append_unmarked : (marks : List Bool) (v w : List ℕ) → has_marked marks v ≡ false → has_marked marks w ≡ false →
    has_marked marks (v ++ w) ≡ false
append_unmarked marks [] w hv hw = hw
append_unmarked marks (n ∷ v) w hv hw =
    let p = unmarked_parts (is_marked marks n) (has_marked marks v) hv in
    let first = p.0 in
    let rest = append_unmarked marks v w p.1 hw in
    rw (first, rest) refl

pub lowered_unmarked : (marks : List Bool) (norms : List (Option ℕ)) (words : List (List ℕ)) (steps : ℕ) (w : List ℕ) →
    AreUnmarked marks norms words → has_marked marks w ≡ false →
    has_marked marks (lowered words steps w) ≡ false
lowered_unmarked marks norms words zero w h u = u
lowered_unmarked marks norms words (suc steps) [] h u = lowered_unmarked marks norms words steps [] h u
lowered_unmarked marks norms words (suc steps) (n ∷ w) h u =
    lowered_unmarked marks norms words steps (lowered_to words n ++ w) h
    (append_unmarked marks (lowered_to words n) w (h.lowered n) (unmarked_parts (is_marked marks n) (has_marked marks w) u).1)

-- a head with a norm isn't marked
pub head_unmarked : (marks : List Bool) (norms : List (Option ℕ)) (words : List (List ℕ)) (w : List ℕ) →
    AreUnmarked marks norms words → HasHead norms w → has_marked marks (take 1 w) ≡ false
head_unmarked marks norms words w h t =
    let u = h.normed t.head t.norm t.bound in
    let R : List ℕ → Type 0 = λ z. has_marked marks (take 1 z) ≡ false in
    subst R (sym t.word) (rw u refl)

-- what a word without marked non-terminals stands in front of stays pruned
pub front_pruned : (marks : List Bool) (v w : List ℕ) → has_marked marks v ≡ false → IsPruned marks w → IsPruned marks (v ++ w)
front_pruned marks [] w u p = p
front_pruned marks (n ∷ v) w u p =
    let q = unmarked_parts (is_marked marks n) (has_marked marks v) u in
    let first = q.0 in
    let rest = front_pruned marks v w q.1 p in
    rw first (ap (λ (z : List ℕ). n ∷ z) rest)

pub unmarked_pruned : (marks : List Bool) (w : List ℕ) → has_marked marks w ≡ false → IsPruned marks w
unmarked_pruned marks [] u = refl
unmarked_pruned marks (n ∷ w) u =
    let q = unmarked_parts (is_marked marks n) (has_marked marks w) u in
    let first = q.0 in
    rw first (ap (λ (z : List ℕ). n ∷ z) (unmarked_pruned marks w q.1))

pub rest_pruned : (marks : List Bool) (w : List ℕ) → IsPruned marks w → IsPruned marks (drop 1 w)
rest_pruned marks [] e = refl
rest_pruned marks (n ∷ w) e =
    (elim (is_marked marks n) as (λ b. n ∷ (if b then [] else pruned_word marks w) ≡ n ∷ w → pruned_word marks w ≡ w) [
      | true ↦ λ f. let none : [] ≡ w = cc in subst (λ (z : List ℕ). pruned_word marks z ≡ z) none refl
      | false ↦ λ f. cc
    ]) e
