-- Terms within terms are read where they aren't too deep.
use Rattle.std.proofs.Common.{◌≡◌, ℕ, zero, suc, ◌+◌, ◌<◌, Bool, true, false, ◌||◌, List, [], ◌∷◌, ◌++◌, length, refl, sym, ap, ◌∙◌, arith, length-append}
use Rattle.std.specs.Prelude.{codes}
use Rattle.fst_terms.specs.TermTree.{TermTree}
use Rattle.fst_reading.specs.Lexeme.{Lexeme}
use Rattle.fst_reading.specs.Reading.{Reader, begins}
use Rattle.fst_reading.proofs.Phrases as phrase
use Rattle.fst_reading.proofs.Phrases.{Reads, nothing, Switch, first, taken, other, at}
use Rattle.fst_reading.proofs.Parts.{Sample, reads_switch, reads_as}
use Rattle.fst_reading.proofs.Sequences.{reads_then}
use Rattle.fst_reading.proofs.Shut.{reads_shut}
use Rattle.fst_reading.proofs.Repeats.{Fits, fits_next, reads_when}
use Rattle.fst_base.specs.Choice.{choose}
use Rattle.fst_reading.proofs.Tokens.{fixed, fixed_is}
use Rattle.fst_module_grammar.specs.Grammar.{one_or, one_and, one_cmp, one_sum, one_prod, one_unary}
use Rattle.fst_module_grammar.specs.declared.starts.ExprStart.{ExprStart}
use Rattle.fst_module_grammar.specs.declared.starts.ExprStart.TheVariants.{Let, If, Lambda, Case, Match}
use Rattle.fst_module_grammar.specs.TermReading.{Inside, inside, atom_named, app_named, expr_start, is_expr_start, opens_expr, starts_expr, starts_unary, expr_begun_with, then_with, expr_with, expr_at, or_with, operator, addition, comparison}
use Rattle.fst_module_grammar.proofs.AtomPhrases.{ExprP}
use Rattle.fst_module_grammar.proofs.AtomReads.{sample_expr}
use Rattle.fst_module_grammar.proofs.AppReads.{Good}
use Rattle.fst_module_grammar.proofs.ChainPhrases.{OrP}
use Rattle.fst_module_grammar.proofs.OperatorReads.{opens_unary}
use Rattle.fst_module_grammar.proofs.LogicReads.{reads_or}
use Rattle.fst_module_grammar.proofs.ExprPhrases.{BegunR, BehindR, ThenR, ExprR, expr_to, expr_from, or_filled}
use Rattle.fst_module_grammar.proofs.ExprTokens.{MeansExpr, expr_of, expr_means, means_expr}
use Rattle.fst_module_grammar.proofs.ExprReads.{reads_begun, reads_behind_or}
use Rattle.fst_module_grammar.proofs.Samples.{sample_begun}
use Rattle.fst_module_grammar.proofs.Inside.{length_inside}
use Rattle.fst_module_grammar.proofs.Follows.{after_or, after_expr, or_fixed}
use Rattle.fst_module_grammar.proofs.TermBegins.{StartsUnary, StartsExpr, unary_as_fixed, or_begins, expr_begins}
use Rattle.fst_module_grammar.proofs.Counts.{expr_count}
use Rattle.std.proofs.lemmas.Bool.{or_parts}
use Rattle.fst_reading.proofs.Located.{reads_located}

-- what an operand begins with begins no other term
means_no_unary : (s : ExprStart) (k : Lexeme) → MeansExpr s k → starts_unary k ≡ false
unfolding app_named atom_named choose
means_no_unary Let k is = unary_as_fixed (codes "let") k is
means_no_unary If k is = unary_as_fixed (codes "if") k is
means_no_unary Lambda k is = unary_as_fixed (codes "\\") k is
means_no_unary Case k is = unary_as_fixed (codes "case") k is
means_no_unary Match k is = unary_as_fixed (codes "match") k is

opens_no_unary : (k : Lexeme) → StartsUnary k → opens_expr k ≡ false
opens_no_unary k is = by_test (opens_expr k) refl
  where
    by_test : (b : Bool) → opens_expr k ≡ b → opens_expr k ≡ false
    by_test true e = let s = expr_of (expr_start k) e in let both = sym is ∙ means_no_unary s.0 k (expr_means k s.0 s.1) in
        absurd cc
    by_test false e = e

-- a term that begins with an operand
module _ (limit d : ℕ) (e : Reader TermTree) (es : Inside) (good : Good limit (e ∷ es)) (fits : Fits limit (e ∷ es) d) where
  behind_or : (n : ℕ) (t : TermTree) (us : List Lexeme) (y : TermTree) (ns : List ℕ) (rest : List Lexeme) →
      BehindR d n t us y ns → after_expr rest ≡ false → after_or (us ++ rest) ≡ false
  unfolding operator addition comparison atom_named choose
  behind_or n t _ _ _ rest (taken k us y ns is q) st = or_fixed (codes ";") k (us ++ rest) is
  behind_or n t _ _ _ rest (other _ _ _ nothing) st = (or_parts _ _ st).0

  then_filled : (n : ℕ) (us : List Lexeme) (y : TermTree) (ns : List ℕ) → phrase.Then (OrP d)
      (λ (t : TermTree). BehindR d n t) us y ns → 0 < length us
  then_filled n _ _ _ (phrase.pair ts us vs t y ns ms ks p q parts nests) =
      omega (arith, or_filled d us t ms p, ap length parts, length-append us vs)

  reads_operand : Reads limit (then_with e es) (ThenR d) after_expr
  unfolding then_with
  reads_operand =
      reads_located limit _ _ after_expr
      (λ n. reads_then limit (or_with (e ∷ es)) _ (OrP d)
      (λ (t : TermTree). BehindR d n t) after_or after_expr (reads_or limit (e ∷ es) d good fits)
      (λ t. reads_behind_or limit d (length es) fits e (good.0 d fits) n t)
      (λ t. record { tokens = []; value = t; nests = []; phrase = other _ _ _ nothing }) (or_filled d)
      (λ us x ns vs y ms rest q st. behind_or n x vs y ms rest q st))
      then_filled

  operand_free : (us : List Lexeme) (x : TermTree) (ns : List ℕ) (rest : List Lexeme) → ThenR d us x ns →
      after_expr rest ≡ false → begins opens_expr (us ++ rest) ≡ false
  operand_free _ _ _ rest (at k ts t ns (phrase.pair _ us vs x y _ ms ks p q parts nests)) st =
      let b = or_begins d p.0 in
      ap (λ (w : List Lexeme). begins opens_expr (w ++ rest)) (parts ∙ ap (λ (w : List Lexeme). w ++ vs) b.3)
      ∙ opens_no_unary b.0 b.5

  begun_open : (us : List Lexeme) (x : TermTree) (ns : List ℕ) (rest : List Lexeme) → Switch d expr_start (BegunR d) us x ns →
      begins opens_expr (us ++ rest) ≡ true
  begun_open _ _ _ rest (first k s ts x ns g q) = ap is_expr_start g

  some_if : (n : ℕ) → Sample expr_start (BegunR d) n
  some_if n = record {
    token = fixed (codes "if") n;
    meaning = If;
    place_is = refl;
    is =
        means_expr If (fixed (codes "if") n) (fixed_is (codes "if") n);
    rest = sample_begun d If (fixed (codes "if") n);
  }

  reads_one_expr : Reads limit (expr_with (e ∷ es)) (ExprP d) after_expr
  unfolding expr_with
  reads_one_expr =
      reads_as limit _ (ExprR d) (ExprP d) after_expr
      (reads_when limit opens_expr _ _ (Switch d expr_start (BegunR d)) (ThenR d) after_expr
      (reads_switch limit d (omega (arith, fits)) expr_start (expr_begun_with e (length es)) (BegunR d) after_expr
      (λ s k. reads_begun limit d (length es) fits e (good.0 d fits) s k) some_if)
      reads_operand begun_open operand_free)
      (expr_to d) (expr_from d)

-- what makes a term of a token that begins one
record Opening (d : ℕ) (k : Lexeme) : Type 0 where
  others : List Lexeme
  value : TermTree
  nests : List ℕ
  phrase : ExprP d (k ∷ others) value (d ∷ nests)

opens : (d : ℕ) (k : Lexeme) → StartsExpr k → Opening d k
opens d k is = by_test (opens_expr k) refl is
  where
    by_test : (b : Bool) → opens_expr k ≡ b → b || starts_unary k ≡ true → Opening d k
    by_test true g e =
        let s = expr_of (expr_start k) g in
        let q = sample_begun d s.0 k in
        record {
          others = q.tokens;
          value = q.value;
          nests = q.nests;
          phrase =
              expr_to d _ _ _ (phrase.one _ _ _ (first k s.0 q.tokens q.value q.nests s.1 q.phrase));
        }
    by_test false g e =
        let o = opens_unary d k e in
        record {
          others = o.0;
          value = o.1;
          nests = o.2;
          phrase =
              (one_or _ _ (one_and _ _ (one_cmp _ _ (one_sum _ _ (one_prod _ _ (one_unary _ _ o.3.0))))), o.3.1);
        }

-- a term is read where it isn't too deep
reads_expr : (limit : ℕ) (es : Inside) (d : ℕ) → Good limit es → Fits limit es d → Reads limit (expr_with es) (ExprP d) after_expr
unfolding expr_with
reads_expr limit [] d good over =
    reads_shut limit starts_expr (ExprP d) after_expr (λ n. sample_expr d n)
    (λ k is. let o = opens d k is in (o.others, o.value, d, o.nests, o.phrase, over))
    (λ us x ns p. let b = expr_begins d p.0 in (b.0, b.1, d, b.2, b.3, sym p.1 ∙ b.4, b.5, over))
    (λ us x ns p. ap length (sym p.1) ∙ expr_count d p.0)
reads_expr limit (e ∷ es) d good fits = reads_one_expr limit d e es good fits

-- so are those within it
good_inside : (limit n : ℕ) → Good limit (inside n)
unfolding inside
good_inside limit zero = tt
good_inside limit (suc n) = (
  λ d fits. reads_expr limit (inside n) (suc d) (good_inside limit n)
      (fits_next limit (expr_with (inside n)) (inside n) d fits),
  good_inside limit n,
)

fits_inside : (limit n d : ℕ) → d + n ≡ suc limit → Fits limit (inside n) d
unfolding inside
fits_inside limit zero d e = omega (arith, e)
fits_inside limit (suc n) d e = omega (arith, e, length_inside n)

-- each term is read, at most so many of them inside one another
pub reads_expr_at : (limit n d : ℕ) → d + n ≡ suc limit → Reads limit (expr_at n) (ExprP d) after_expr
reads_expr_at limit n d e = reads_expr limit (inside n) d (good_inside limit n) (fits_inside limit n d e)
