-- What the tokens are that begin a term which is no operand.
use Rattle.std.proofs.Common.{◌≡◌, ◌⊎◌, inl, inr, true, Option, Some, None, refl, subst}
use Rattle.std.specs.Prelude.{codes}
use Rattle.fst_lexer.specs.declared.token.TokenKind.{TokenKind}
use Rattle.fst_lexer.specs.declared.token.TokenKind.TheVariants as kind
use Rattle.fst_reading.specs.Lexeme.{Lexeme, Is}
use Rattle.fst_base.specs.Choice.{choose}
use Rattle.fst_base.proofs.Choices.{chosen}
use Rattle.fst_reading.proofs.Tokens.{spelled_so, some_is}
use Rattle.fst_module_grammar.specs.declared.starts.ExprStart.{ExprStart}
use Rattle.fst_module_grammar.specs.declared.starts.ExprStart.TheVariants.{Let, If, Lambda, Case, Match}
use Rattle.fst_module_grammar.specs.TermReading.{expr_named, expr_by, expr_start, is_expr_start}
use Rattle.fst_module_grammar.proofs.TermBegins.{expr_spelled}

abbrev pub MeansExpr : ExprStart → Lexeme → Type 0
MeansExpr Let k = Is (codes "let") k
MeansExpr If k = Is (codes "if") k
MeansExpr Lambda k = Is (codes "\\") k
MeansExpr Case k = Is (codes "case") k
MeansExpr Match k = Is (codes "match") k

expr_named_is : (k : Lexeme) (s : ExprStart) → (k.kind ≡ kind.Reserved) ⊎
    (k.kind ≡ kind.Sign) → expr_named k.text ≡ Some s → MeansExpr s k
unfolding expr_named
expr_named_is k s f e = elim (chosen _ _ _ _ e) [
  | inl h ↦ subst (λ z. MeansExpr z k) (some_is Let s h.1) (spelled_so k.kind (codes "let") k.text h.0 f)
  | inr h ↦ elim (chosen _ _ _ _ h.1) [
    | inl i ↦ subst (λ z. MeansExpr z k) (some_is If s i.1) (spelled_so k.kind (codes "if") k.text i.0 f)
    | inr i ↦ elim (chosen _ _ _ _ i.1) [
      | inl j ↦ subst (λ z. MeansExpr z k) (some_is Lambda s j.1) (spelled_so k.kind (codes "\\") k.text j.0 f)
      | inr j ↦ elim (chosen _ _ _ _ j.1) [
        | inl l ↦ subst (λ z. MeansExpr z k) (some_is Case s l.1) (spelled_so k.kind (codes "case") k.text l.0 f)
        | inr l ↦ elim (chosen _ _ _ _ l.1) [
          | inl m ↦ subst (λ z. MeansExpr z k) (some_is Match s m.1) (spelled_so k.kind (codes "match") k.text m.0 f)
          | inr m ↦ absurd (let is = m.1 in cc)
        ]
      ]
    ]
  ]
]

pub expr_means : (k : Lexeme) (s : ExprStart) → expr_start k ≡ Some s → MeansExpr s k
expr_means k s e = of_kind k.kind refl e
  where
    of_kind : (t : TokenKind) → k.kind ≡ t → expr_by t k.text ≡ Some s → MeansExpr s k
    of_kind kind.Reserved is g = expr_named_is k s (inl is) g
    of_kind kind.Sign is g = expr_named_is k s (inr is) g
    of_kind _ is g = absurd cc

-- the converse
pub means_expr : (s : ExprStart) (k : Lexeme) → MeansExpr s k → expr_start k ≡ Some s
unfolding expr_named choose
means_expr Let k e = expr_spelled (codes "let") k e
means_expr If k e = expr_spelled (codes "if") k e
means_expr Lambda k e = expr_spelled (codes "\\") k e
means_expr Case k e = expr_spelled (codes "case") k e
means_expr Match k e = expr_spelled (codes "match") k e

-- what a term of which this is the start begins with
pub expr_of : (o : Option ExprStart) → is_expr_start o ≡ true → (s : ExprStart) × (o ≡ Some s)
expr_of (Some s) e = (s, refl)
expr_of None e = absurd cc
