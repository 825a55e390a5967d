-- Chains, pair by pair and letter by letter, as those of a basis.
use Rattle.std.proofs.Common.{◌≡◌, ℕ, suc, List, [], ◌∷◌, ◌++◌, length, refl, sym, ◌∙◌, ap, subst, arith, inl, inr, Some, Bool, All}
use Rattle.std.specs.Prelude.{slice_get}
use Rattle.std.proofs.lemmas.List.Elements.{All-cons, All-nil}
use Rattle.std.proofs.lemmas.Option.{get_or_from_slice_get}
use Rattle.fst_base.proofs.Lists.{get-push, get_there}
use Rattle.fst_words.specs.declared.rules.Rule.{Rule}
use Rattle.fst_words.specs.Words.{InRange, LettersBelow, Productions, WordBelow, step}
use Rattle.fst_norms.specs.Pruned.{AreUnnormed}
use Rattle.fst_basis.specs.declared.proof.Pair.{Pair}
use Rattle.fst_basis.specs.declared.proof.Chain.{Chain}
use Rattle.fst_basis.specs.declared.proof.Rewrite.{Rewrite}
use Rattle.fst_basis.specs.Basis.{AreJoined, AreJoinedByRules, IsChainBelow, IsPair, IsPairBelow, IsProof, IsRewriteBelow}
use Rattle.fst_basis.specs.Rewrites.{chained}
use Rattle.fst_expand.specs.Bridge.{AreFit, IsWay}
use Rattle.fst_expand.specs.Expansion.{AreWays}
use Rattle.fst_expand.specs.Good.{Each}
use Rattle.fst_expand.proofs.PlaceLaws.{one_item}

-- a copy of a chain leads the same way
pub copied_way : (n : ℕ) (marks : List Bool) (P : List Pair) (x y : List ℕ) (c d : Chain) → d.steps.items ≡ c.steps.items →
    IsWay n marks P x y c → IsWay n marks P x y d
copied_way n marks P x y c d same way = record {
  leads = ap (λ (s : List Rewrite). chained marks P s x) same ∙ way.leads;
  below = subst (All (IsRewriteBelow n)) (sym same) way.below;
}

-- one way more
pub ways_push : (n : ℕ) (marks : List Bool) (P : List Pair) (rules others : List Rule) (t s : List ℕ) (cs : List Chain)
    (d : Chain) (r q : Rule) → slice_get rules (length cs) ≡ Some r →
    slice_get others (length cs) ≡ Some q → AreWays n marks P rules others t s cs →
    IsWay n marks P (r.word ++ t) (q.word ++ s) d → AreWays n marks P rules others t s (cs ++ d ∷ [])
ways_push n marks P rules others t s cs d r q ri qi ways way = λ j c x y e ex ey. elim (get-push cs d c j e) [
  | inl before ↦ ways j c x y before ex ey
  | inr last ↦
      let same_r : x ≡ r = one_item rules (length cs) x r (subst (λ (z : ℕ). slice_get rules z ≡ Some x) last.0 ex) ri in
      let same_q : y ≡ q = one_item others (length cs) y q (subst (λ (z : ℕ). slice_get others z ≡ Some y) last.0 ey) qi in
      let R : Rule → Rule → Chain → Type 0 = λ a b z. IsWay n marks P (a.word ++ t) (b.word ++ s) z in
      subst (λ (a : Rule). R a y c) (sym same_r) (subst (λ (b : Rule). R r b c) (sym same_q) (subst (R r q) last.1 way))
]

-- ways by all rules join
pub joined_by_ways : (rows : Productions) (n : ℕ) (marks : List Bool) (P : List Pair) (w t s : List ℕ) (rules others : List Rule)
    (cs : List Chain) → length cs ≡ length rules → length others ≡ length rules →
    ((j : ℕ) (r q : Rule) → slice_get rules j ≡ Some r → slice_get others j ≡ Some q → step rows w r.letter ≡ Some (q.word ++ s))
    → AreWays n marks P rules others t s cs →
    AreJoinedByRules rows marks P t w rules cs
joined_by_ways rows n marks P w t s [] others [] c o after ways = tt
joined_by_ways rows n marks P w t s [] others (d ∷ cs) c o after ways = absurd (omega (arith, c))
joined_by_ways rows n marks P w t s (r ∷ rules) others [] c o after ways = absurd (omega (arith, c))
joined_by_ways rows n marks P w t s (r ∷ rules) [] (d ∷ cs) c o after ways = absurd (omega (arith, o))
joined_by_ways rows n marks P w t s (r ∷ rules) (q ∷ others) (d ∷ cs) c o after ways = (
  (q.word ++ s, after 0 r q refl refl, (ways 0 d r q refl refl refl).leads),
  joined_by_ways rows n marks P w t s rules others cs (let e : length cs ≡ length rules = omega (arith, c) in e)
      (let e : length others ≡ length rules = omega (arith, o) in e)
      (λ j x y. after (suc j) x y) (λ j z x y. ways (suc j) z x y),
)

-- and their words are the grammar's
pub below_by_ways : (n : ℕ) (marks : List Bool) (P : List Pair) (t s : List ℕ) (rules others : List Rule) (cs : List Chain) →
    length cs ≡ length rules → length others ≡ length rules →
    AreWays n marks P rules others t s cs → All (IsChainBelow n) cs
below_by_ways n marks P t s rules others [] c o ways = All-nil (IsChainBelow n)
below_by_ways n marks P t s [] others (d ∷ cs) c o ways = absurd (omega (arith, c))
below_by_ways n marks P t s (r ∷ rules) [] (d ∷ cs) c o ways = absurd (omega (arith, o))
below_by_ways n marks P t s (r ∷ rules) (q ∷ others) (d ∷ cs) c o ways =
    All-cons (IsChainBelow n) d cs (ways 0 d r q refl refl refl).below
    (below_by_ways n marks P t s rules others cs (let e : length cs ≡ length rules = omega (arith, c) in e)
    (let e : length others ≡ length rules = omega (arith, o) in e) (λ j z x y. ways (suc j) z x y))

pub each_all : (R : Pair → Type 0) (bs : List Pair) → Each R bs → All R bs
each_all R bs h k d lt = let t = get_there bs k lt in subst R (sym (get_or_from_slice_get bs k t.0 d t.1)) (h k t.0 t.1)

-- chains that join two words, and what the words of all pairs become, are a proof
pub chained_proof : (count : ℕ) (rows : Productions) (marks : List Bool) (u v : List ℕ) (P : List Pair) (first : Chain)
    (others : List Chain) → LettersBelow count rows → InRange rows → AreUnnormed rows marks →
    WordBelow (length rows) u → WordBelow (length rows) v → AreFit marks (length rows) P → Each (IsPair rows) P →
    IsWay (length rows) marks P u v first → AreJoined rows marks P P others →
    All (IsChainBelow (length rows)) (first ∷ others) → IsProof count rows marks u v P (first ∷ others)
chained_proof count rows marks u v P first others letters range unnormed left right fit alike way joined below = (
  record {
    letters = letters;
    rules = range;
    count = unnormed.count;
    left = left;
    right = right;
    pairs = each_all (IsPairBelow (length rows)) P fit.below;
    chains = below;
  },
  (record { set = unnormed.set; pairs = each_all (IsPair rows) P alike; joined = joined }, way.leads),
)
