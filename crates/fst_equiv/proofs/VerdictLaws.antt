-- What is found of the words of two types holds of the types.
use Rattle.std.proofs.Common.{◌≡◌, ◌↔◌, inl, inr, ℕ, List, Bool, sym, subst}
use Rattle.fst_types.specs.Tree.{Tree}
use Rattle.fst_types.specs.Order.{label_cmp}
use Rattle.fst_types.specs.declared.label.Label.{Label}
use Rattle.fst_types.specs.declared.side.Side.{Side}
use Rattle.fst_types.specs.declared.side.Side.TheVariants.{Left, Right}
use Rattle.fst_lts.specs.Step.{step}
use Rattle.fst_base.specs.Agreement.{Performs, HaveSameTraces, Agree}
use Rattle.fst_types.specs.Differences.{PerformsAlone, IsLeastDistinguishingTrace}
use Rattle.fst_base.proofs.TraceLaws.{agree_is_traces}
use Rattle.fst_words.specs.Words.{Productions, label_step}
use Rattle.fst_words.specs.Words.{step as step_of}
use Rattle.fst_words.proofs.Laws.{same_by_labels}
use Rattle.fst_norms.specs.Pruned.{pruned_word}
use Rattle.fst_words.specs.declared.grammar.Grammar.{Grammar}
use Rattle.fst_expand.specs.Good.{IsGood}
use Rattle.fst_breadth.specs.Answer.{IsDifferent, IsBudgetSpent}
use Rattle.fst_breadth.specs.declared.answers.Found.TheVariants.{Equal, Differ, Spent}
use Rattle.fst_equiv.specs.declared.verdict.Certificate.TheVariants.{Visited, Basis}
use Rattle.fst_equiv.specs.declared.verdict.Verdict.{Verdict}
use Rattle.fst_equiv.specs.declared.verdict.Verdict.TheVariants.{Yes, No, Undecided}
use Rattle.fst_equiv.specs.Answers.{Answers}
use Rattle.fst_equiv.specs.declared.finding.Finding.{Finding}
use Rattle.fst_equiv.specs.declared.finding.Finding.TheVariants.{Proved, Least, Searched}
use Rattle.fst_equiv.specs.Findings.{IsFinding}
use Rattle.fst_equiv.specs.Problem.{AreNormedWithin, IsNormedWithin, IsProblem}
use Rattle.fst_equiv.specs.Verdicts.{IsDecided, IsVerdict, answer_of, verdict_of}
use Rattle.fst_grammar.specs.Translation.{OneGrammar}
use Rattle.fst_kinds.specs.WellFormed.{IsSession}
use Rattle.fst_types.specs.declared.kind.Kind.{Kind}
use Rattle.fst_grammar.specs.Standing.{StandsFor}

-- two words that stand for two types
pub record Stand (letters : List Label) (rows : Productions) (u v : List ℕ) (s r : Tree) : Type 0 where
  pub left : StandsFor letters rows u s
  pub right : StandsFor letters rows v r

module _ (letters : List Label) (rows : Productions) (u v : List ℕ) (s r : Tree) (stand : Stand letters rows u v s r) where
  -- what both words perform or neither, both types perform or neither
  same_of_types : (w : List Label) → (Performs (label_step letters rows) u w ↔ Performs (label_step letters rows) v w) →
      (Performs step s w ↔ Performs step r w)
  same_of_types w same =
      let left = stand.left w in
      let right = stand.right w in
      (λ h. right.0 (same.0 (left.1 h)), λ h. left.0 (same.1 (right.1 h)))

  -- types whose words perform the same traces agree at every depth
  pub types_agree : HaveSameTraces (label_step letters rows) (label_step letters rows) u v → Agree step step s r
  types_agree same = λ n. (agree_is_traces step step n s r).1 (λ w le. same_of_types w (same w))

  -- what one word alone performs, its type alone performs
  alone_of_types : (w : List Label) (side : Side) → PerformsAlone (label_step letters rows) (label_step letters rows) u v w side →
      PerformsAlone step step s r w side
  alone_of_types w Left only = ((stand.left w).0 only.0, λ h. only.1 ((stand.right w).1 h))
  alone_of_types w Right only = ((stand.right w).0 only.0, λ h. only.1 ((stand.left w).1 h))

  -- the least difference of two words is that of their types
  types_differ : (w : List Label) (side : Side) →
      IsLeastDistinguishingTrace (label_step letters rows) (label_step letters rows) label_cmp u v w side →
      IsLeastDistinguishingTrace step step label_cmp s r w side
  types_differ w side d = record {
    alone = alone_of_types w side d.alone;
    least = λ x before. same_of_types x (d.least x before);
  }

-- the verdict that what is found of the pruned words gives is right
pub verdict_right : (s r : Tree) (budget : ℕ) (g : Grammar) (u v x y : List ℕ) (marks : List Bool) (finding : Finding) →
    IsProblem s r g.letters.items g.rules.items u v marks → x ≡ pruned_word marks u → y ≡ pruned_word marks v →
    Stand g.letters.items g.rules.items x y s r →
    IsFinding g.rules.items marks g.letters.items x y budget finding → IsVerdict s r budget (verdict_of g x y finding)
verdict_right s r budget g u v x y marks (Proved proof) problem left right stand h = record {
  agree = types_agree g.letters.items g.rules.items x y s r stand (same_by_labels g.letters.items g.rules.items x y h.same);
  u = u;
  v = v;
  marks = marks;
  problem = problem;
  left = left;
  right = right;
  proof = h.proof;
  good = h.good;
}
verdict_right s r budget g u v x y marks (Least trace side) problem left right stand h = record {
  least = types_differ g.letters.items g.rules.items x y s r stand trace.items side h.least;
  letters = g.letters.items;
  rows = g.rules.items;
  u = u;
  v = v;
  marks = marks;
  problem = problem;
  found = inr h.normed;
}
verdict_right s r budget g u v x y marks (Searched (Equal pairs)) problem left right stand h = record {
  agree = types_agree g.letters.items g.rules.items x y s r stand h.same;
  u = u;
  v = v;
  marks = marks;
  problem = problem;
  left = left;
  right = right;
  all = h.exact;
}
verdict_right s r budget g u v x y marks (Searched (Differ trace side)) problem left right stand h = record {
  least = types_differ g.letters.items g.rules.items x y s r stand trace.items side h.differ;
  letters = g.letters.items;
  rows = g.rules.items;
  u = u;
  v = v;
  marks = marks;
  problem = problem;
  found = inl
      (subst (λ z. IsDifferent g.rules.items marks g.letters.items z (pruned_word marks v) budget trace.items side) left
      (subst (λ z. IsDifferent g.rules.items marks g.letters.items x z budget trace.items side) right h.exact));
}
verdict_right s r budget g u v x y marks (Searched (Spent pairs)) problem left right stand h = record {
  u = u;
  v = v;
  marks = marks;
  problem = problem;
  first =
      subst (λ z. IsBudgetSpent g.rules.items marks z (pruned_word marks v) budget pairs.items) left
      (subst (λ z. IsBudgetSpent g.rules.items marks x z budget pairs.items) right h.exact);
  no_basis = λ good. h.no_basis (subst (λ z. IsGood g.rules.items marks z y budget) (sym left)
      (subst (λ z. IsGood g.rules.items marks (pruned_word marks u) z budget) (sym right) good));
  not_normed = h.not_normed;
}

-- a word that performs the traces of one that stands for a type stands for it too
stands_too : (letters : List Label) (rows : Productions) (x u : List ℕ) (t : Tree) →
    HaveSameTraces (step_of rows) (step_of rows) x u → StandsFor letters rows u t → StandsFor letters rows x t
stands_too letters rows x u t same stands w =
    let by_label = same_by_labels letters rows x u same w in
    (λ h. (stands w).0 (by_label.0 h), λ h. by_label.1 ((stands w).1 h))

-- so do the pruned words of two types
pub stand_pruned : (letters : List Label) (rows : Productions) (u v x y : List ℕ) (s r : Tree) → StandsFor letters rows u s →
    StandsFor letters rows v r →
    HaveSameTraces (step_of rows) (step_of rows) x u → HaveSameTraces (step_of rows) (step_of rows) y v →
    Stand letters rows x y s r
stand_pruned letters rows u v x y s r left right same other =
    record { left = stands_too letters rows x u s same left; right = stands_too letters rows y v r other right }

-- a right verdict answers the question
pub verdict_answers : (s r : Tree) (budget : ℕ) (v : Verdict) → IsVerdict s r budget v → Answers s r budget (answer_of v)
verdict_answers s r budget (Yes (Visited g x y pairs)) h =
    inl (record { letters = g.letters.items; rows = g.rules.items; x = x; y = y; pairs = pairs.items; shown = h })
verdict_answers s r budget (Yes (Basis g x y proof)) h =
    inr (record {
      letters = g.letters.items;
      rows = g.rules.items;
      x = x;
      y = y;
      basis = proof.basis.items;
      chains =
          proof.chains.items;
      shown = h;
    })
verdict_answers s r budget (No trace side) h = h
verdict_answers s r budget (Undecided g pairs) h =
    record { letters = g.letters.items; rows = g.rules.items; pairs = pairs.items; shown = h }

-- where the grammar of two types is normed within the budget, a right verdict is Yes or No
pub normed_decided : OneGrammar → (vars others : List Kind) (s r : Tree) (budget : ℕ) → IsSession vars s → IsSession others r →
    (v : Verdict) → IsVerdict s r budget v → AreNormedWithin s r budget → IsDecided v
normed_decided one vars others s r budget left right (Yes c) h n = tt
normed_decided one vars others s r budget left right (No trace side) h n = tt
normed_decided one vars others s r budget left right (Undecided g pairs) h n =
    let p = h.problem in
    let same = one vars others s r left right p.small.left p.small.right g.letters.items n.letters g.rules.items n.rows
    p.translation.grammar n.translation.grammar in
    h.not_normed (subst (λ z. IsNormedWithin z budget) (sym same.1) n.within)
