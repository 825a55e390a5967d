-- Words that rewrites of a basis join are bisimilar: what is joined in any number of rewrites, either way, is a bisimulation.
use Rattle.std.proofs.Common.{◌≡◌, ◌≢◌, ◌↔◌, ℕ, List, [], ◌∷◌, ◌++◌, length, take, drop, refl, sym, ◌∙◌, ap, append_assoc, Option, Some, None, Bool, true, false, subst, ◌||◌, ◌==◌, cond, zero, suc}
use Rattle.std.specs.Prelude.{option_and_then, option_map, slice_get, All, IsSome}
use Rattle.std.proofs.lemmas.List.Elements.{All-head, All-tail}
use Rattle.fst_base.specs.Agreement.{BothOrNeither, HaveSameTraces, Performs, residual}
use Rattle.fst_base.proofs.AgreementLaws.{same_related}
use Rattle.fst_base.proofs.Bools.{same_number}
use Rattle.fst_words.specs.declared.rules.Rule.{Rule}
use Rattle.fst_words.specs.Marks.{is_marked, has_marked}
use Rattle.fst_words.specs.Words.{Productions, row_of, rule_of, step, first_row}
use Rattle.fst_basis.specs.declared.proof.Pair.{Pair}
use Rattle.fst_basis.specs.declared.proof.Chain.{Chain}
use Rattle.fst_basis.specs.declared.proof.Rewrite.{Rewrite}
use Rattle.fst_basis.specs.declared.proof.Rewrite.TheVariants.{Forth, Back, Cut, Grow}
use Rattle.fst_basis.specs.Rewrites.{chained, rewritten}
use Rattle.fst_basis.specs.Basis.{AreJoined, AreJoinedByRules, IsBasis, IsPair, IsProof, RewriteLaw}
use Rattle.fst_basis.proofs.RewriteParts.{AreExchanged, AreMarkedAlike, Makes, rewritten_makes}

-- joined in any number of rewrites, either way
data Joined (marks : List Bool) (basis : List Pair) : List ℕ → List ℕ → Type 0 where
  same : {u v : List ℕ} → u ≡ v → Joined marks basis u v
  both : {u v : List ℕ} (w : List ℕ) → Joined marks basis u w → Joined marks basis w v → Joined marks basis u v
  back : {u v : List ℕ} → Joined marks basis v u → Joined marks basis u v
  pair : {u v : List ℕ} (j : ℕ) (b : Pair) → slice_get basis j ≡ Some b → AreExchanged b.left b.right u v → Joined marks basis u v
  tail : {u v : List ℕ} → AreMarkedAlike marks u v → Joined marks basis u v

turned : (x y u v : List ℕ) → AreExchanged x y u v → AreExchanged y x v u
turned x y u v h = record { front = h.front; tail = h.tail; from = h.to; to = h.from }

from_rewrite : (marks : List Bool) (basis : List Pair) (r : Rewrite) (u v : List ℕ) → Makes marks basis r u v →
    Joined marks basis u v
from_rewrite marks basis (Forth at j) u v h = pair j h.0 h.1 h.2
from_rewrite marks basis (Back at j) u v h = back (pair j h.0 h.1 (turned h.0.right h.0.left u v h.2))
from_rewrite marks basis (Cut at s) u v h = tail h
from_rewrite marks basis (Grow at s) u v h = tail h

from_chain : (marks : List Bool) (basis : List Pair) (rs : List Rewrite) (u v : List ℕ) → chained marks basis rs u ≡ Some v →
    Joined marks basis u v
from_chain marks basis [] u v h = (let e : u ≡ v = cc in same e)
from_chain marks basis (r ∷ rs) u v h =
    (elim (rewritten marks basis r u) as (λ o. rewritten marks basis r u ≡ o →
    option_and_then (chained marks basis rs) o ≡ Some v → Joined marks basis u v) [
      | None ↦ λ e h. cc
      | Some w ↦ λ e h. both w (from_rewrite marks basis r u w (rewritten_makes marks basis r u w e))
          (from_chain marks basis rs w v h)
    ]) refl h

-- what is joined stays so with more behind it
joined-append : (marks : List Bool) (basis : List Pair) (s u v : List ℕ) → Joined marks basis u v →
    Joined marks basis (u ++ s) (v ++ s)
joined-append marks basis s u v (same e) = same (ap (λ (x : List ℕ). x ++ s) e)
joined-append marks basis s u v (both w h k) =
    both (w ++ s) (joined-append marks basis s u w h) (joined-append marks basis s w v k)
joined-append marks basis s u v (back h) = back (joined-append marks basis s v u h)
joined-append marks basis s u v (pair j b at h) = pair j b at (record {
  front = h.front;
  tail = h.tail ++ s;
  from = ap (λ (x : List ℕ). x ++ s) h.from ∙ append_assoc h.front (b.left ++ h.tail) s ∙ ap
      (λ (x : List ℕ). h.front ++ x) (append_assoc b.left h.tail s);
  to = ap (λ (x : List ℕ). x ++ s) h.to ∙ append_assoc h.front (b.right ++ h.tail) s ∙ ap
      (λ (x : List ℕ). h.front ++ x) (append_assoc b.right h.tail s);
})
joined-append marks basis s u v (tail h) = tail (record {
  front = h.front;
  number = h.number;
  marked = h.marked;
  left = h.left ++ s;
  right = h.right ++ s;
  from = ap (λ (x : List ℕ). x ++ s) h.from ∙ append_assoc h.front (h.number ∷ h.left) s;
  to = ap (λ (x : List ℕ). x ++ s) h.to ∙ append_assoc h.front (h.number ∷ h.right) s;
})

-- the successors of two words: both are there and joined, or neither is there
abbrev Alike : List Bool → List Pair → Option (List ℕ) → Option (List ℕ) → Type 0
Alike marks basis = BothOrNeither (Joined marks basis)

alike_back : (marks : List Bool) (basis : List Pair) (o q : Option (List ℕ)) → Alike marks basis o q → Alike marks basis q o
alike_back marks basis None None h = tt
alike_back marks basis None (Some y) h = h
alike_back marks basis (Some x) None h = h
alike_back marks basis (Some x) (Some y) h = back h

alike_both : (marks : List Bool) (basis : List Pair) (o q r : Option (List ℕ)) → Alike marks basis o q → Alike marks basis q r →
    Alike marks basis o r
alike_both marks basis None None r h k = k
alike_both marks basis None (Some y) r h k = absurd h
alike_both marks basis (Some x) None r h k = absurd h
alike_both marks basis (Some x) (Some y) None h k = k
alike_both marks basis (Some x) (Some y) (Some z) h k = both y h k

-- a word that isn't empty moves as it does with more behind it
step-append : (rows : Productions) (w t : List ℕ) (a : ℕ) → w ≢ [] → step rows (w ++ t) a ≡ option_map
    (λ x. x ++ t) (step rows w a)
step-append rows [] t a ne = absurd (ne refl)
step-append rows (n ∷ w) t a ne =
    elim (rule_of (row_of rows n) a) as (λ o. option_map (λ v. v ++ (w ++ t)) o ≡ option_map
    (λ x. x ++ t) (option_map (λ v. v ++ w) o)) [
      | None ↦ refl
      | Some v ↦ ap Some (sym (append_assoc v w t))
    ]

-- what stands behind a word with a marked non-terminal may change
joined_marked : (marks : List Bool) (basis : List Pair) (x s t : List ℕ) → has_marked marks x ≡ true →
    Joined marks basis (x ++ s) (x ++ t)
joined_marked marks basis x s t h = let q = parted x h in tail (record {
  front = q.0;
  number = q.1;
  marked = q.3;
  left = q.2 ++ s;
  right = q.2 ++ t;
  from = ap (λ (y : List ℕ). y ++ s) q.4 ∙ append_assoc q.0 (q.1 ∷ q.2) s;
  to = ap (λ (y : List ℕ). y ++ t) q.4 ∙ append_assoc q.0 (q.1 ∷ q.2) t;
})
  where
    parted : (x : List ℕ) → has_marked marks x ≡ true → (p : List ℕ) × (z : ℕ) × (r : List ℕ) × (is_marked marks z ≡ true) ×
        (x ≡ p ++ (z ∷ r))
    parted [] h = cc
    parted (n ∷ x) h =
        (elim (is_marked marks n) as (λ b. is_marked marks n ≡ b → (b || has_marked marks x) ≡ true →
        (p : List ℕ) × (z : ℕ) × (r : List ℕ) × (is_marked marks z ≡ true) × (n ∷ x ≡ p ++ (z ∷ r))) [
          | true ↦ λ e h. ([], n, x, e, refl)
          | false ↦ λ e h. let q = parted x h in (n ∷ q.0, q.1, q.2, q.3, ap (λ (y : List ℕ). n ∷ y) q.4)
        ]) refl h

-- the chain of the rule with a letter joins the rule's word, with t behind it, to what w becomes by the letter
joined_by : (rows : Productions) (marks : List Bool) (basis : List Pair) (t w : List ℕ) (rules : List Rule) (cs : List Chain)
    (a : ℕ) (v : List ℕ) →
    AreJoinedByRules rows marks basis t w rules cs → rule_of rules a ≡ Some v → (x : List ℕ) ×
    (step rows w a ≡ Some x) × Joined marks basis (v ++ t) x
joined_by rows marks basis t w [] cs a v h e = cc
joined_by rows marks basis t w (r ∷ rules) [] a v h e = absurd h
joined_by rows marks basis t w (r ∷ rules) (c ∷ cs) a v h e =
    (elim (r.letter == a) as (λ b. (r.letter == a) ≡ b → cond b (Some r.word) (rule_of rules a) ≡ Some v → (x : List ℕ) ×
    (step rows w a ≡ Some x) × Joined marks basis (v ++ t) x) [
      | true ↦ λ is e.
          let letter = same_number r.letter a is in
          let word : r.word ≡ v = cc in
          let R : List ℕ → Type 0 = λ y. Joined marks basis (y ++ t) h.0.0 in
          (h.0.0, rw letter at h.0.1, subst R word (from_chain marks basis c.steps.items (r.word ++ t) h.0.0 h.0.2))
      | false ↦ λ is e. joined_by rows marks basis t w rules cs a v h.1 e
    ]) refl e

-- the chains of the pair at a place
chains_at : (rows : Productions) (marks : List Bool) (basis bs : List Pair) (cs : List Chain) (j : ℕ) (b : Pair) →
    AreJoined rows marks basis bs cs → slice_get bs j ≡ Some b →
    (ds : List Chain) × AreJoinedByRules rows marks basis (drop 1 b.left) b.right (first_row rows b.left) ds
chains_at rows marks basis [] cs j b h e = cc
chains_at rows marks basis (d ∷ bs) cs zero b h e =
    let is : d ≡ b = cc in
    let R : Pair → Type 0 = λ z. AreJoinedByRules rows marks basis (drop 1 z.left) z.right (first_row rows z.left)
    (take (length (first_row rows d.left)) cs) in
    (take (length (first_row rows d.left)) cs, subst R is h.0)
chains_at rows marks basis (d ∷ bs) cs (suc j) b h e =
    chains_at rows marks basis bs (drop (length (first_row rows d.left)) cs) j b h.1 e

-- what is so of each pair is so of the one at a place
all_at : (P : Pair → Type 0) (bs : List Pair) (j : ℕ) (b : Pair) → All P bs → slice_get bs j ≡ Some b → P b
all_at P [] j b h e = cc
all_at P (d ∷ bs) zero b h e = let is : d ≡ b = cc in subst P is (All-head P d bs h)
all_at P (d ∷ bs) (suc j) b h e = all_at P bs j b (All-tail P d bs h) e

module _ (rows : Productions) (marks : List Bool) (basis : List Pair) (cs : List Chain) (is : IsBasis rows marks basis cs) where
  first_alike : (l r : List ℕ) (ds : List Chain) (a : ℕ) → l ≢ [] → (IsSome (step rows l a) ↔ IsSome (step rows r a)) →
      AreJoinedByRules rows marks basis (drop 1 l) r (first_row rows l) ds → Alike marks basis (step rows l a) (step rows r a)
  first_alike [] r ds a ne letters joined = absurd (ne refl)
  first_alike (n ∷ w) r ds a ne letters joined =
      (elim (rule_of (row_of rows n) a) as (λ o. rule_of (row_of rows n) a ≡ o →
      (IsSome (option_map (λ v. v ++ w) o) ↔ IsSome (step rows r a)) →
      Alike marks basis (option_map (λ v. v ++ w) o) (step rows r a)) [
        | None ↦ λ e letters. none_alike (step rows r a) (λ x. (let f : false ≡ true = letters.1 x in cc))
        | Some v ↦ λ e letters. (let q = joined_by rows marks basis w r (row_of rows n) ds a v joined e in
            let R : Option (List ℕ) → Type 0 = λ o. Alike marks basis (Some (v ++ w)) o in subst R (sym q.1) q.2)
      ]) refl letters
    where
      none_alike : (o : Option (List ℕ)) → (IsSome o → ⊥) → Alike marks basis None o
      none_alike None k = tt
      none_alike (Some y) k = k refl

  -- the successors of the two words of a pair
  pair_alike : (j : ℕ) (b : Pair) (a : ℕ) → slice_get basis j ≡ Some b →
      Alike marks basis (step rows b.left a) (step rows b.right a)
  pair_alike j b a at =
      let p = all_at (IsPair rows) basis j b is.pairs at in
      let ds = chains_at rows marks basis basis cs j b is.joined at in
      first_alike b.left b.right ds.0 a p.left (p.letters a) ds.1

  exchanged_alike : (p t : List ℕ) (j : ℕ) (b : Pair) (a : ℕ) → slice_get basis j ≡ Some b →
      Alike marks basis (step rows (p ++ (b.left ++ t)) a) (step rows (p ++ (b.right ++ t)) a)
  exchanged_alike [] t j b a at =
      let p = all_at (IsPair rows) basis j b is.pairs at in
      rw (step-append rows b.left t a p.left, step-append rows b.right t a p.right)
      (more (step rows b.left a) (step rows b.right a) (pair_alike j b a at))
    where
      more : (o q : Option (List ℕ)) → Alike marks basis o q →
          Alike marks basis (option_map (λ x. x ++ t) o) (option_map (λ x. x ++ t) q)
      more None None h = tt
      more None (Some y) h = h
      more (Some x) None h = h
      more (Some x) (Some y) h = joined-append marks basis t x y h
  exchanged_alike (n ∷ p) t j b a at =
      elim (rule_of (row_of rows n) a) as (λ o. Alike marks basis (option_map (λ v. v ++ (p ++ (b.left ++ t))) o)
      (option_map (λ v. v ++ (p ++ (b.right ++ t))) o)) [
        | None ↦ tt
        | Some x ↦ pair j b at (record {
          front = x ++ p;
          tail = t;
          from = sym (append_assoc x p (b.left ++ t));
          to = sym (append_assoc x p (b.right ++ t));
        })
      ]

  marked_alike : (p : List ℕ) (z : ℕ) (s t : List ℕ) (a : ℕ) → is_marked marks z ≡ true →
      Alike marks basis (step rows (p ++ (z ∷ s)) a) (step rows (p ++ (z ∷ t)) a)
  marked_alike [] z s t a mark =
      (elim (rule_of (row_of rows z) a) as (λ o. rule_of (row_of rows z) a ≡ o →
      Alike marks basis (option_map (λ v. v ++ s) o) (option_map (λ v. v ++ t) o)) [
        | None ↦ λ e. tt
        | Some x ↦ λ e. joined_marked marks basis x s t (is.set z a x mark e)
      ]) refl
  marked_alike (n ∷ p) z s t a mark =
      elim (rule_of (row_of rows n) a) as (λ o. Alike marks basis (option_map (λ v. v ++ (p ++ (z ∷ s))) o)
      (option_map (λ v. v ++ (p ++ (z ∷ t))) o)) [
        | None ↦ tt
        | Some x ↦ tail (record {
          front = x ++ p;
          number = z;
          marked = mark;
          left = s;
          right = t;
          from = sym (append_assoc x p (z ∷ s));
          to = sym (append_assoc x p (z ∷ t));
        })
      ]

  joined_alike : (u v : List ℕ) (a : ℕ) → Joined marks basis u v → Alike marks basis (step rows u a) (step rows v a)
  joined_alike u v a (same e) =
      let R : List ℕ → Type 0 = λ w. Alike marks basis (step rows u a) (step rows w a) in
      subst R e (same_related (Joined marks basis) (λ x. same refl) (step rows u a))
  joined_alike u v a (both w h k) = alike_both marks basis (step rows u a) (step rows w a) (step rows v a) (joined_alike u w a h)
      (joined_alike w v a k)
  joined_alike u v a (back h) = alike_back marks basis (step rows v a) (step rows u a) (joined_alike v u a h)
  joined_alike u v a (pair j b at h) = rw (h.from, h.to) (exchanged_alike h.front h.tail j b a at)
  joined_alike u v a (tail h) = rw (h.from, h.to) (marked_alike h.front h.number h.left h.right a h.marked)

  -- what is so of joined words is so of the successors of words that are alike
  onward : (s : List ℕ) → ((u v : List ℕ) → Joined marks basis u v → Performs (step rows) u s ↔ Performs (step rows) v s) →
      (o q : Option (List ℕ)) → Alike marks basis o q →
      IsSome (option_and_then (λ w. residual (step rows) w s) o) ↔ IsSome (option_and_then (λ w. residual (step rows) w s) q)
  onward s so None None k = (λ x. x, λ x. x)
  onward s so None (Some y) k = absurd k
  onward s so (Some x) None k = absurd k
  onward s so (Some x) (Some y) k = so x y k

  joined_same : (s u v : List ℕ) → Joined marks basis u v → Performs (step rows) u s ↔ Performs (step rows) v s
  joined_same [] u v h = (λ x. refl, λ x. refl)
  joined_same (a ∷ s) u v h = onward s (λ x y k. joined_same s x y k) (step rows u a) (step rows v a) (joined_alike u v a h)

pub rewrites_keep : RewriteLaw
rewrites_keep rows marks basis cs is chain u v h s = joined_same rows marks basis cs is s u v (from_chain marks basis chain u v h)

-- words that a proof joins perform the same traces
pub proof_same : (n : ℕ) (rows : Productions) (marks : List Bool) (u v : List ℕ) (basis : List Pair) (cs : List Chain) →
    IsProof n rows marks u v basis cs → HaveSameTraces (step rows) (step rows) u v
proof_same n rows marks u v basis [] h = absurd h.1
proof_same n rows marks u v basis (c ∷ cs) h = rewrites_keep rows marks basis cs h.1.0 c.steps.items u v h.1.1
