-- With which tokens terms begin.
use Rattle.std.proofs.Common.{◌≡◌, ℕ, Bool, true, false, ◌||◌, List, ◌∷◌, ◌++◌, refl, sym, ap, ◌∙◌}
use Rattle.std.specs.Prelude.{codes}
use Rattle.fst_lexer.specs.declared.token.TokenKind.{TokenKind}
use Rattle.fst_lexer.specs.declared.token.TokenKind.TheVariants as kind
use Rattle.fst_terms.specs.TermTree.{TermTree}
use Rattle.fst_reading.specs.Lexeme.{Lexeme, spells_by, spells, Is}
use Rattle.fst_base.specs.Choice.{choose}
use Rattle.fst_reading.proofs.Words.{BeginsWith}
use Rattle.fst_reading.proofs.Tokens.{fixed, spelled}
use Rattle.fst_module_grammar.specs.Grammar.{IsExpr, let_in, split, if_else, lambda, case_of, match_with, one_or, seq, IsOr, one_and, more_or, IsAnd, one_cmp, more_and, IsCmp, one_sum, compare, IsSum, one_prod, more_sum, IsProd, one_unary, more_prod, IsUnary, one_app, negate, IsApp, send, receive, close, wait, select, new, fork, make, head}
use Rattle.fst_module_grammar.specs.Nesting.{expr_nests, or_nests, and_nests, cmp_nests, sum_nests, prod_nests, unary_nests, app_nests}
use Rattle.fst_module_grammar.specs.declared.starts.AppStart.TheVariants.{Send, Receive, Close, Wait, Select, New, Fork, Make}
use Rattle.fst_module_grammar.specs.TermReading.{is_app, is_start, starts_app, starts_unary, expr_named, expr_by, expr_start, is_expr_start, starts_expr}
use Rattle.fst_module_grammar.proofs.Begins.{StartsAtom, in_front, weaker, head_begins}
use Rattle.fst_module_grammar.proofs.TermTokens.{app_spelled, means_app, atom_spelled}
use Rattle.fst_base.proofs.Bools.{same_text, or_left}

abbrev pub StartsApp : Lexeme → Type 0
StartsApp k = starts_app k ≡ true

abbrev pub StartsUnary : Lexeme → Type 0
StartsUnary k = starts_unary k ≡ true

abbrev pub StartsExpr : Lexeme → Type 0
StartsExpr k = starts_expr k ≡ true

or_right : (a b : Bool) → b ≡ true → a || b ≡ true
or_right true b e = refl
or_right false b e = e

expr_by_spelled : (t : TokenKind) (w text : List ℕ) → spells_by t w text ≡ true → expr_by t text ≡ expr_named w
expr_by_spelled kind.Reserved w text e = ap expr_named (same_text text w e)
expr_by_spelled kind.Sign w text e = ap expr_named (same_text text w e)
expr_by_spelled _ w text e = absurd cc

pub expr_spelled : (w : List ℕ) (k : Lexeme) → Is w k → expr_start k ≡ expr_named w
expr_spelled w k e = expr_by_spelled k.kind w k.text e

-- a reserved word or a sign begins a term where the same word, made up, does
pub app_as_fixed : (w : List ℕ) (k : Lexeme) → Is w k → starts_app k ≡ starts_app (fixed w 0)
app_as_fixed w k is = rw (ap is_app (app_spelled w k is), ap is_start (atom_spelled w k is)) refl

pub unary_as_fixed : (w : List ℕ) (k : Lexeme) → Is w k → starts_unary k ≡ starts_unary (fixed w 0)
unary_as_fixed w k is = rw (spelled w (codes "not") k is, app_as_fixed w k is) refl

pub expr_as_fixed : (w : List ℕ) (k : Lexeme) → Is w k → starts_expr k ≡ starts_expr (fixed w 0)
expr_as_fixed w k is = rw (unary_as_fixed w k is, ap is_expr_start (expr_spelled w k is)) refl

pub app_begins : (d : ℕ) {ts : List Lexeme} {t : TermTree} (s : IsApp ts t) → BeginsWith StartsApp d ts (app_nests d s)
app_begins d (send k ts us all t u is a b parts) = (k, ts ++ us, _, parts, refl, or_left _ _ (ap is_app (means_app Send k is)))
app_begins d (receive k ts t is a) = (k, ts, _, refl, refl, or_left _ _ (ap is_app (means_app Receive k is)))
app_begins d (close k ts t is a) = (k, ts, _, refl, refl, or_left _ _ (ap is_app (means_app Close k is)))
app_begins d (wait k ts t is a) = (k, ts, _, refl, refl, or_left _ _ (ap is_app (means_app Wait k is)))
app_begins d (select k l ts t is label a) = (k, l ∷ ts, _, refl, refl, or_left _ _ (ap is_app (means_app Select k is)))
app_begins d (new k ts t is a) = (k, ts, _, refl, refl, or_left _ _ (ap is_app (means_app New k is)))
app_begins d (fork k ts t is a) = (k, ts, _, refl, refl, or_left _ _ (ap is_app (means_app Fork k is)))
app_begins d (make k ts args is a) = (k, ts, _, refl, refl, or_left _ _ (ap is_app (means_app Make k is)))
app_begins d (head ts t s) = weaker StartsAtom StartsApp d ts _ (λ k e. or_right _ _ e) (head_begins d s)

pub unary_begins : (d : ℕ) {ts : List Lexeme} {t : TermTree} (s : IsUnary ts t) → BeginsWith StartsUnary d ts (unary_nests d s)
unary_begins d (one_app ts t a) = weaker StartsApp StartsUnary d ts _ (λ k e. or_right _ _ e) (app_begins d a)
unary_begins d (negate k ts t is s) = (k, ts, _, refl, refl, or_left _ _ is)

pub prod_begins : (d : ℕ) {ts : List Lexeme} {t : TermTree} (s : IsProd ts t) → BeginsWith StartsUnary d ts (prod_nests d s)
prod_begins d (one_unary ts t a) = unary_begins d a
prod_begins d (more_prod ts us all k t u s is a parts) =
    in_front StartsUnary d ts (k ∷ us) all (prod_nests d s) _ _ (prod_begins d s) parts refl

pub sum_begins : (d : ℕ) {ts : List Lexeme} {t : TermTree} (s : IsSum ts t) → BeginsWith StartsUnary d ts (sum_nests d s)
sum_begins d (one_prod ts t a) = prod_begins d a
sum_begins d (more_sum ts us all k o t u s is a parts) =
    in_front StartsUnary d ts (k ∷ us) all (sum_nests d s) _ _ (sum_begins d s) parts refl

pub cmp_begins : (d : ℕ) {ts : List Lexeme} {t : TermTree} (s : IsCmp ts t) → BeginsWith StartsUnary d ts (cmp_nests d s)
cmp_begins d (one_sum ts t a) = sum_begins d a
cmp_begins d (compare ts us all k o t u s is a parts) =
    in_front StartsUnary d ts (k ∷ us) all (sum_nests d s) _ _ (sum_begins d s) parts refl

pub and_begins : (d : ℕ) {ts : List Lexeme} {t : TermTree} (s : IsAnd ts t) → BeginsWith StartsUnary d ts (and_nests d s)
and_begins d (one_cmp ts t a) = cmp_begins d a
and_begins d (more_and ts us all k t u s is a parts) =
    in_front StartsUnary d ts (k ∷ us) all (and_nests d s) _ _ (and_begins d s) parts refl

pub or_begins : (d : ℕ) {ts : List Lexeme} {t : TermTree} (s : IsOr ts t) → BeginsWith StartsUnary d ts (or_nests d s)
or_begins d (one_and ts t a) = and_begins d a
or_begins d (more_or ts us all k t u s is a parts) =
    in_front StartsUnary d ts (k ∷ us) all (or_nests d s) _ _ (or_begins d s) parts refl

pub expr_begins : (d : ℕ) {ts : List Lexeme} {t : TermTree} (s : IsExpr ts t) → BeginsWith StartsExpr d ts (expr_nests d s)
unfolding expr_named choose
expr_begins d (let_in k x e i ts us all t u is name equals s of_in f parts) =
    (k, _, _, parts, refl, expr_as_fixed (codes "let") k is)
expr_begins d (split k o x m y c e i ts us all t u is opens left comma right closes equals s of_in f parts) =
    (k, _, _, parts, refl, expr_as_fixed (codes "let") k is)
expr_begins d (if_else k h e ts us vs all t u v is s then_is f else_is g parts) =
    (k, _, _, parts, refl, expr_as_fixed (codes "if") k is)
expr_begins d (lambda k x c ts ks us all t uses u is name colon s a f parts) =
    (k, _, _, parts, refl, expr_as_fixed (codes "\\") k is)
expr_begins d (case_of k f o c ts us all t arms is s of_is opens a closes parts) =
    (k, _, _, parts, refl, expr_as_fixed (codes "case") k is)
expr_begins d (match_with k w o c ts us all t arms is s with_is opens a closes parts) =
    (k, _, _, parts, refl, expr_as_fixed (codes "match") k is)
expr_begins d (one_or ts t s) = weaker StartsUnary StartsExpr d ts _ (λ k e. or_right _ _ e) (or_begins d s)
expr_begins d (seq ts us all k t u s is f parts) =
    weaker StartsUnary StartsExpr d all _ (λ k e. or_right _ _ e)
    (in_front StartsUnary d ts (k ∷ us) all (or_nests d s) _ _ (or_begins d s) parts refl)

-- a word with which no term begins
pub no_expr : (w : List ℕ) (k : Lexeme) → starts_expr (fixed w 0) ≡ false → StartsExpr k → spells w k ≡ false
no_expr w k n e = by_test (spells w k) refl
  where
    by_test : (b : Bool) → spells w k ≡ b → spells w k ≡ false
    by_test true is = let both = sym e ∙ expr_as_fixed w k is ∙ n in absurd cc
    by_test false is = is
