-- What makes a proof one of two types is determined by the types.
use Rattle.std.proofs.Common.{ℕ, List, Bool, ap, arith, inl, inr, length}
use Rattle.fst_types.specs.Tree.{Tree}
use Rattle.fst_types.specs.declared.kind.Kind.{Kind}
use Rattle.fst_types.specs.declared.label.Label.{Label}
use Rattle.fst_kinds.specs.WellFormed.{IsSession}
use Rattle.fst_words.specs.Words.{Productions}
use Rattle.fst_norms.specs.Pruned.{pruned_word}
use Rattle.fst_basis.specs.Basis.{IsProof}
use Rattle.fst_basis.specs.declared.proof.Chain.{Chain}
use Rattle.fst_basis.specs.declared.proof.Pair.{Pair}
use Rattle.fst_grammar.specs.Translation.{IsGrammar, IsSmall, IsTooLarge, OneGrammar, right_sides}
use Rattle.fst_equiv.specs.Problem.{IsProblem}
use Rattle.fst_equiv.proofs.Laws.{one_problem}
use Rattle.fst_cert.specs.Audits.{IsValid}

-- what is valid of two types is a proof for their words in their grammar
pub proof_valid : OneGrammar → (vars others : List Kind) (s r : Tree) → IsSession vars s → IsSession others r →
    (letters : List Label) (rows : Productions) (u v : List ℕ) (marks : List Bool) → IsProblem s r letters rows u v marks →
    (basis : List Pair) (chains : List Chain) → IsValid s r basis chains →
    IsProof (length letters) rows marks (pruned_word marks u) (pruned_word marks v) basis chains
proof_valid one vars others s r left right letters rows u v marks problem basis chains valid =
    let same = one_problem one vars others s r left right valid.letters letters valid.rows rows valid.u valid.v u v valid.marks
    marks
    valid.problem problem in
    rw (same.labels, same.grammar, same.left, same.right, same.unnormed) at valid.proof

-- types whose grammar is within the limits aren't too large
pub grammar_small : OneGrammar → (vars others : List Kind) (s r : Tree) → IsSession vars s → IsSession others r →
    (letters : List Label) (rows : Productions) → IsGrammar s r letters rows → IsSmall s r rows → IsTooLarge s r → ⊥
grammar_small one vars others s r left right letters rows grammar small (inl (inl over)) = let few = small.left in omega arith
grammar_small one vars others s r left right letters rows grammar small (inl (inr over)) = let few = small.right in omega arith
grammar_small one vars others s r left right letters rows grammar small (inr large) =
    let same = one vars others s r left right small.left small.right letters large.letters rows large.rows grammar
    large.grammar in
    let few = small.letters in
    let over = large.over in
    let sides = ap right_sides same.1 in
    omega arith
