-- Two types within the limits have one grammar, one word each, and one list of marks.
use Rattle.std.proofs.Common.{◌≡◌, ◌∙◌, inl, inr, ℕ, ◌<◌, List, length, Bool, false, sym, ap, subst, arith}
use Rattle.fst_types.specs.Tree.{Tree}
use Rattle.fst_types.specs.declared.kind.Kind.{Kind}
use Rattle.fst_types.specs.declared.label.Label.{Label}
use Rattle.fst_kinds.specs.WellFormed.{IsSession}
use Rattle.fst_words.specs.Words.{Productions}
use Rattle.fst_words.specs.Marks.{is_marked}
use Rattle.fst_norms.specs.Pruned.{AreUnnormed}
use Rattle.fst_parts.specs.Place.{top_of}
use Rattle.fst_grammar.specs.Word.{word}
use Rattle.fst_grammar.specs.Translation.{OneGrammar, IsTooLarge, numbers_of, right_sides}
use Rattle.fst_equiv.specs.Problem.{IsProblem}
use Rattle.std.proofs.lemmas.Option.{get_or_from_slice_get, slice_get_within}
use Rattle.fst_base.proofs.Bools.{same_bool}
use Rattle.fst_base.proofs.Lists.{same_items}

-- lists of marks as long as each other with the same members are one
same_members : (a b : List Bool) → length a ≡ length b → ((n : ℕ) → n < length a → is_marked a n ≡ is_marked b n) → a ≡ b
same_members a b len h = same_items a b len (λ n x y at_a at_b.
    sym (get_or_from_slice_get a n x false at_a) ∙ h n (slice_get_within a n x at_a) ∙ get_or_from_slice_get b n y false at_b)

-- two largest unnormed sets of one grammar are one
pub same_marks : (rows : Productions) (marks others : List Bool) → AreUnnormed rows marks → AreUnnormed rows others →
    marks ≡ others
same_marks rows marks others a b =
    let p = a.count in
    let q = b.count in
    same_members marks others (omega arith) (λ n lt. same_bool (is_marked marks n) (is_marked others n)
    (λ h. b.largest marks n a.set h (omega arith)) (λ h. a.largest others n b.set h (omega arith)))

-- the grammars, words and marks of two problems are the same
pub record AreSame (letters more : List Label) (rows rules : Productions) (u v x y : List ℕ)
    (marks others : List Bool) : Type 0 where
  pub labels : letters ≡ more
  pub grammar : rows ≡ rules
  pub left : u ≡ x
  pub right : v ≡ y
  pub unnormed : marks ≡ others

-- the problem of two types is determined
pub one_problem : OneGrammar → (vars others : List Kind) (s r : Tree) → IsSession vars s → IsSession others r →
    (letters more : List Label) (rows rules : Productions) (u v x y : List ℕ) (marks set : List Bool) →
    IsProblem s r letters rows u v marks → IsProblem s r more rules x y set →
    AreSame letters more rows rules u v x y marks set
one_problem one vars others s r left right letters more rows rules u v x y marks set p q =
    let t = p.translation in
    let w = q.translation in
    let same = one vars others s r left right p.small.left p.small.right letters more rows rules t.grammar w.grammar in
    record {
      labels = same.0;
      grammar = same.1;
      left = t.left ∙ ap (λ z. word (numbers_of z s r) (top_of s) s) same.0 ∙ sym w.left;
      right = t.right ∙ ap (λ z. word (numbers_of z s r) (top_of r) r) same.0 ∙ sym w.right;
      unnormed = same_marks rules marks set (subst (λ z. AreUnnormed z marks) same.1 p.unnormed) q.unnormed;
    }

-- types with a problem aren't too large
pub problem_small : OneGrammar → (vars others : List Kind) (s r : Tree) → IsSession vars s → IsSession others r →
    (letters : List Label) (rows : Productions) (u v : List ℕ) (marks : List Bool) → IsProblem s r letters rows u v marks →
    IsTooLarge s r → ⊥
problem_small one vars others s r left right letters rows u v marks p (inl (inl over)) = let few = p.small.left in omega arith
problem_small one vars others s r left right letters rows u v marks p (inl (inr over)) = let few = p.small.right in omega arith
problem_small one vars others s r left right letters rows u v marks p (inr large) =
    let same = one vars others s r left right p.small.left p.small.right letters large.letters rows large.rows
    p.translation.grammar large.grammar in
    let few = p.small.letters in
    let over = large.over in
    let sides = ap right_sides same.1 in
    omega arith
