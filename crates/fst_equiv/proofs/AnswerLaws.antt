-- A question of two types has at most one answer.
use Rattle.std.proofs.Common.{◌≡◌, ◌⊎◌, inl, inr, ℕ, List, Bool, refl, subst, sym}
use Rattle.fst_types.specs.Tree.{Tree}
use Rattle.fst_types.specs.declared.kind.Kind.{Kind}
use Rattle.fst_types.specs.declared.label.Label.{Label}
use Rattle.fst_types.specs.declared.side.Side.{Side}
use Rattle.fst_kinds.specs.WellFormed.{IsSession}
use Rattle.fst_lts.specs.Step.{step}
use Rattle.fst_base.specs.Agreement.{Agree}
use Rattle.fst_words.specs.Words.{Productions}
use Rattle.fst_shared.specs.declared.handle.SharedPair.{SharedPair}
use Rattle.fst_norms.specs.Pruned.{pruned_word}
use Rattle.fst_basis.specs.declared.proof.Pair.{Pair}
use Rattle.fst_basis.specs.declared.proof.Chain.{Chain}
use Rattle.fst_expand.specs.Good.{AreGoodCuts, IsGood}
use Rattle.fst_breadth.specs.Answer.{IsEqual, IsBudgetSpent, equal, differ, spent}
use Rattle.fst_breadth.specs.Answer as breadth
use Rattle.fst_grammar.specs.Translation.{OneGrammar, IsTooLarge}
use Rattle.fst_equiv.specs.Problem.{IsNormedWithin, IsShownEqual, IsProvedEqual, IsShownDifferent, IsShownSpent}
use Rattle.fst_equiv.specs.Answers.{Answer, Answers, OneAnswer, yes, no, undecided, too_large}
use Rattle.fst_equiv.proofs.LeastLaws.{one_no, not_yes_and_no}
use Rattle.fst_equiv.proofs.ProblemLaws.{AreSame, one_problem, problem_small}

-- what holds of one problem's pruned words holds of the same problem's
moved : (P : Productions → List Bool → List ℕ → List ℕ → Type 0) (letters more : List Label) (rows rules : Productions)
    (u v x y : List ℕ) (marks set : List Bool) →
    AreSame letters more rows rules u v x y marks set → P rows marks (pruned_word marks u) (pruned_word marks v) →
    P rules set (pruned_word set x) (pruned_word set y)
moved P letters more rows rules u v x y marks set same h =
    subst (λ z. P rules set (pruned_word set x) (pruned_word set z)) same.right
    (subst (λ z. P rules set (pruned_word set z) (pruned_word set v)) same.left
    (subst (λ z. P rules z (pruned_word z u) (pruned_word z v)) same.unnormed
    (subst (λ z. P z marks (pruned_word marks u) (pruned_word marks v)) same.grammar h)))

module _ (one : OneGrammar) (by_search : breadth.OneAnswer) (vars others : List Kind) (s r : Tree) (budget : ℕ)
    (left : IsSession vars s) (right : IsSession others r) where
  -- all pairs of two types are within the budget, or there are more
  not_yes_and_undecided : (letters more : List Label) (rows rules : Productions) (x y : List ℕ)
      (pairs visited : List SharedPair) →
      IsShownEqual s r budget letters rows x y pairs → IsShownSpent s r budget more rules visited → ⊥
  not_yes_and_undecided letters more rows rules x y pairs visited e p =
      let same = one_problem one vars others s r left right more letters rules rows p.u p.v e.u e.v p.marks e.marks p.problem
      e.problem in
      let all = subst (λ z. IsEqual rows e.marks z (pruned_word e.marks e.v) budget pairs) e.left
      (subst (λ z. IsEqual rows e.marks x z budget pairs) e.right e.all) in
      let more_pairs = moved (λ rows marks x y. IsBudgetSpent rows marks x y budget visited) more letters rules rows p.u p.v e.u
      e.v p.marks e.marks same p.first in
      cc (by_search rows e.marks more (pruned_word e.marks e.u) (pruned_word e.marks e.v) budget (equal pairs)
      (spent visited) all more_pairs)

  -- the cuts that two types' words lead to are good at the budget, or the grammar is normed within it, or neither is so
  not_proved_and_undecided : (letters more : List Label) (rows rules : Productions) (x y : List ℕ) (basis : List Pair)
      (chains : List Chain) (visited : List SharedPair) →
      IsProvedEqual s r budget letters rows x y basis chains → IsShownSpent s r budget more rules visited → ⊥
  not_proved_and_undecided letters more rows rules x y basis chains visited e p =
      let same = one_problem one vars others s r left right letters more rows rules e.u e.v p.u p.v e.marks p.marks e.problem
      p.problem in
      by same e.good
    where
      by : AreSame letters more rows rules e.u e.v p.u p.v e.marks p.marks → AreGoodCuts rows e.marks x y budget basis ⊎
          IsNormedWithin rows budget → ⊥
      by same (inl cuts) =
          let good = subst (λ z. IsGood rows e.marks z (pruned_word e.marks e.v) budget) e.left
          (subst (λ z. IsGood rows e.marks x z budget) e.right cuts.0) in
          p.no_basis (moved (λ rows marks x y. IsGood rows marks x y budget) letters more rows rules e.u e.v p.u p.v e.marks
          p.marks same good)
      by same (inr normed) = p.not_normed (subst (λ z. IsNormedWithin z budget) same.grammar normed)

  -- one of the first pairs of two types shows a difference, or none does
  not_no_and_undecided : (trace : List Label) (side : Side) (more : List Label) (rules : Productions)
      (visited : List SharedPair) →
      IsShownDifferent s r budget trace side → IsShownSpent s r budget more rules visited → ⊥
  not_no_and_undecided trace side more rules visited d p =
      let same = one_problem one vars others s r left right more d.letters rules d.rows p.u p.v d.u d.v p.marks d.marks p.problem
      d.problem in
      let more_pairs = moved (λ rows marks x y. IsBudgetSpent rows marks x y budget visited) more d.letters rules d.rows p.u p.v
      d.u d.v p.marks d.marks same p.first in
      elim d.found [
        | inl first ↦ cc (by_search d.rows d.marks d.letters (pruned_word d.marks d.u) (pruned_word d.marks d.v) budget
            (differ trace side) (spent visited) first more_pairs)
        | inr normed ↦ p.not_normed (subst (λ z. IsNormedWithin z budget) (sym same.grammar) normed)
      ]

  -- types with an answer that rests on a grammar aren't too large
  yes_small : (p : Answers s r budget yes) → IsTooLarge s r → ⊥
  yes_small (inl p) =
      let e = p.shown in
      problem_small one vars others s r left right p.letters p.rows e.u e.v e.marks e.problem
  yes_small (inr p) =
      let e = p.shown in
      problem_small one vars others s r left right p.letters p.rows e.u e.v e.marks e.problem

  no_small : (trace : List Label) (side : Side) → Answers s r budget (no trace side) → IsTooLarge s r → ⊥
  no_small trace side d = problem_small one vars others s r left right d.letters d.rows d.u d.v d.marks d.problem

  undecided_small : (p : Answers s r budget undecided) → IsTooLarge s r → ⊥
  undecided_small p =
      let e = p.shown in
      problem_small one vars others s r left right p.letters p.rows e.u e.v e.marks e.problem

  -- types with the answer Yes agree
  yes_agrees : Answers s r budget yes → Agree step step s r
  yes_agrees (inl p) = p.shown.agree
  yes_agrees (inr p) = p.shown.agree

  -- what shows that they agree contradicts that the budget is spent
  yes_or_undecided : Answers s r budget yes → Answers s r budget undecided → ⊥
  yes_or_undecided (inl p) q = not_yes_and_undecided p.letters q.letters p.rows q.rows p.x p.y p.pairs q.pairs p.shown q.shown
  yes_or_undecided (inr p) q = not_proved_and_undecided p.letters q.letters p.rows q.rows p.x p.y p.basis p.chains q.pairs p.shown
      q.shown

  -- any two answers to the question are one
  one_of : (a b : Answer) → Answers s r budget a → Answers s r budget b → a ≡ b
  one_of yes yes p q = refl
  one_of yes (no trace side) p q = absurd (not_yes_and_no s r trace side (yes_agrees p) q.least)
  one_of yes undecided p q = absurd (yes_or_undecided p q)
  one_of yes too_large p q = absurd (yes_small p q)
  one_of (no trace side) yes p q = absurd (not_yes_and_no s r trace side (yes_agrees q) p.least)
  one_of (no v x) (no w y) p q = one_no s r v w x y p.least q.least
  one_of (no trace side) undecided p q = absurd (not_no_and_undecided trace side q.letters q.rows q.pairs p q.shown)
  one_of (no trace side) too_large p q = absurd (no_small trace side p q)
  one_of undecided yes p q = absurd (yes_or_undecided q p)
  one_of undecided (no trace side) p q = absurd (not_no_and_undecided trace side p.letters p.rows p.pairs q p.shown)
  one_of undecided undecided p q = refl
  one_of undecided too_large p q = absurd (undecided_small p q)
  one_of too_large yes p q = absurd (yes_small q p)
  one_of too_large (no trace side) p q = absurd (no_small trace side q p)
  one_of too_large undecided p q = absurd (undecided_small q p)
  one_of too_large too_large p q = refl

-- where two types have one grammar, and their words one answer within a budget, a question has one answer
pub one_answer_by : OneGrammar → breadth.OneAnswer → OneAnswer
one_answer_by one by_search vars others s r budget left right a b p q =
    one_of one by_search vars others s r budget left right a b p q
