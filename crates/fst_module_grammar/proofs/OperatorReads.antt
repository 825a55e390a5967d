-- The readers of terms with operators have the laws of readers.
use Rattle.std.proofs.Common.{◌≡◌, ℕ, suc, ◌<◌, Bool, true, false, ◌||◌, List, [], ◌∷◌, ◌++◌, length, Option, Some, None, refl, sym, ap, subst, ◌∙◌, arith}
use Rattle.std.specs.Prelude.{codes}
use Rattle.fst_terms.specs.declared.term.Op.{Op}
use Rattle.fst_terms.specs.declared.term.Op.TheVariants as op
use Rattle.fst_terms.specs.TermTree as term
use Rattle.fst_terms.specs.TermTree.{TermTree}
use Rattle.fst_reading.specs.Lexeme.{Lexeme, spells, Is, start}
use Rattle.fst_reading.specs.Faults.{Phrase}
use Rattle.fst_reading.proofs.Steps.{SomePhrase}
use Rattle.fst_reading.specs.Reading.{begins}
use Rattle.fst_reading.proofs.Phrases.{Reads, Mapped, made, On, taken, other, Located}
use Rattle.fst_reading.proofs.Tokens.{fixed, fixed_is}
use Rattle.fst_reading.proofs.Parts.{reads_mapped, reads_on, reads_as}
use Rattle.fst_reading.proofs.Shut.{reads_shut}
use Rattle.fst_reading.proofs.Repeats.{Fits, fits_next}
use Rattle.fst_base.specs.Choice.{choose}
use Rattle.fst_module_grammar.specs.Grammar.{IsUnary, one_app, negate, one_unary, IsAddition, add, subtract}
use Rattle.fst_module_grammar.specs.Nesting.{unary_nests, app_nests, prod_operands, sum_operands}
use Rattle.fst_module_grammar.specs.TermReading.{Inside, app_named, atom_named, operator, addition, is_op, starts_app, starts_unary, unary_with, prod_with, sum_with}
use Rattle.fst_module_grammar.proofs.ChainPhrases.{UnaryP, ProdP, SumP, ProdLeft, SumLeft, prod_to, prod_from, sum_to, sum_from, is_operator, operator_is, addition_is, is_addition}
use Rattle.fst_module_grammar.proofs.ChainReads.{reads_chain_as}
use Rattle.fst_module_grammar.proofs.AppPhrases.{AppP}
use Rattle.fst_module_grammar.proofs.AppReads.{Good}
use Rattle.fst_module_grammar.proofs.TermReads.{opens_as_app, sample_app, reads_app}
use Rattle.fst_module_grammar.proofs.TermBegins.{StartsApp, StartsUnary, app_begins, unary_begins, prod_begins, app_as_fixed}
use Rattle.fst_module_grammar.proofs.Counts.{unary_count, prod_count}
use Rattle.fst_module_grammar.proofs.Follows.{after_app, after_prod, after_sum, app_fixed, prod_fixed}
use Rattle.std.proofs.lemmas.Bool.{or_parts}
use Rattle.fst_reading.proofs.Located.{reads_located, locate}

-- a term behind `not`s as it is read
abbrev pub UnaryR : ℕ → Phrase TermTree
UnaryR d = Located (λ n. On d (spells (codes "not")) (Mapped (term.negate n) (UnaryP (suc d))) (AppP d))

unary_read : (d : ℕ) (ts : List Lexeme) (t : TermTree) (ns : List ℕ) → UnaryR d ts t ns → UnaryP d ts t ns
unary_read d _ _ _ (Located.at k _ _ _ (taken _ _ _ _ is (made ts t ns p))) =
    (negate k ts t is p.0, ap (λ (w : List ℕ). d ∷ w) p.1)
unary_read d _ _ _ (Located.at k ts t ns (other _ _ _ p)) = (one_app (k ∷ ts) t p.0, p.1)

of_unary : (d : ℕ) (ts : List Lexeme) (t : TermTree) (s : IsUnary ts t) → UnaryR d ts t (unary_nests d s)
of_unary d _ _ (one_app ts t a) =
    let b = app_begins d a in
    locate (λ n. On d (spells (codes "not")) (Mapped (term.negate n) (UnaryP (suc d))) (AppP d)) (start ts) ts t (app_nests d a)
    (omega (arith, ap length b.3)) refl (other ts t _ (a, refl))
of_unary d _ _ (negate k ts t is s) = Located.at k ts _ _ (taken k ts _ _ is (made ts t (unary_nests (suc d) s) (s, refl)))

read_unary : (d : ℕ) (ts : List Lexeme) (t : TermTree) (ns : List ℕ) → UnaryP d ts t ns → UnaryR d ts t ns
read_unary d ts t ns p = subst (UnaryR d ts t) p.1 (of_unary d ts t p.0)

pub sample_unary : (d n : ℕ) → (s : SomePhrase (UnaryP d)) × (start s.tokens ≡ n)
sample_unary d n = let a = sample_app d n in (
  record
      { tokens = a.0.tokens; value = a.0.value; nests = a.0.nests; phrase = (one_app _ _ a.0.phrase.0, a.0.phrase.1) },
  a.1,
)

pub unary_filled : (d : ℕ) (us : List Lexeme) (t : TermTree) (ns : List ℕ) → UnaryP d us t ns → 0 < length us
unary_filled d us t ns p = let b = unary_begins d p.0 in omega (arith, ap length b.3)

pub unary_counted : (d : ℕ) (us : List Lexeme) (t : TermTree) (ns : List ℕ) → UnaryP d us t ns → length ns ≡ length us
unary_counted d us t ns p = ap length (sym p.1) ∙ unary_count d p.0

-- no application begins with `not`
no_not : (k : Lexeme) → StartsApp k → spells (codes "not") k ≡ false
unfolding app_named atom_named choose
no_not k e = by_test (spells (codes "not") k) refl
  where
    by_test : (b : Bool) → spells (codes "not") k ≡ b → spells (codes "not") k ≡ false
    by_test true is = let both = sym e ∙ app_as_fixed (codes "not") k is in absurd cc
    by_test false is = is

pub opens_unary : (d : ℕ) (k : Lexeme) → StartsUnary k → (others : List Lexeme) × (x : TermTree) ×
    (ns : List ℕ) × UnaryP d (k ∷ others) x (d ∷ ns)
opens_unary d k is = by_test (spells (codes "not") k) refl is
  where
    by_test : (b : Bool) → spells (codes "not") k ≡ b → b || starts_app k ≡ true → (others : List Lexeme) × (x : TermTree) ×
        (ns : List ℕ) × UnaryP d (k ∷ others) x (d ∷ ns)
    by_test true e g = let a = (sample_unary (suc d) 0).0 in (
      a.tokens,
      term.negate k.at a.value,
      a.nests,
      (negate k a.tokens a.value e a.phrase.0, ap (λ (w : List ℕ). d ∷ w) a.phrase.1),
    )
    by_test false e g = let o = opens_as_app d k g in (o.others, o.value, o.nests, (one_app _ _ o.phrase.0, o.phrase.1))

pub reads_unary : (limit : ℕ) (es : Inside) (d : ℕ) → Good limit es → Fits limit es d →
    Reads limit (unary_with es) (UnaryP d) after_app
unfolding unary_with
reads_unary limit [] d good over =
    reads_shut limit starts_unary (UnaryP d) after_app (λ n. sample_unary d n)
    (λ k is. let o = opens_unary d k is in (o.0, o.1, d, o.2, o.3, over))
    (λ us x ns p. let b = unary_begins d p.0 in (b.0, b.1, d, b.2, b.3, sym p.1 ∙ b.4, b.5, over))
    (λ us x ns p. unary_counted d us x ns p)
reads_unary limit (e ∷ es) d good fits =
    reads_as limit _ (UnaryR d) (UnaryP d) after_app
    (reads_located limit _ _ after_app
    (λ n. reads_on limit d (omega (arith, fits)) (spells (codes "not")) _ _ (Mapped (term.negate n) (UnaryP (suc d)))
    (AppP d) after_app
    (reads_mapped limit (term.negate n) (unary_with es) (UnaryP (suc d)) after_app
    (reads_unary limit es (suc d) good.1 (fits_next limit e es d fits)))
    (reads_app limit (e ∷ es) d good fits) free)
    filled)
    (unary_read d) (read_unary d)
  where
    free : (us : List Lexeme) (x : TermTree) (ns : List ℕ) (rest : List Lexeme) → AppP d us x ns → after_app rest ≡ false →
        begins (spells (codes "not")) (us ++ rest) ≡ false
    free us x ns rest p st = let b = app_begins d p.0 in ap (λ (w : List Lexeme). begins (spells (codes "not")) (w ++ rest)) b.3
        ∙ no_not b.0 b.5

    filled : (n : ℕ) (us : List Lexeme) (x : TermTree) (ns : List ℕ) →
        On d (spells (codes "not")) (Mapped (term.negate n) (UnaryP (suc d))) (AppP d) us x ns → 0 < length us
    filled n _ _ _ (taken k ts x ns is p) = omega arith
    filled n _ _ _ (other us x ns p) = let b = app_begins d p.0 in omega (arith, ap length b.3)

pub op_of : (o : Option Op) → is_op o ≡ true → (x : Op) × (o ≡ Some x)
op_of (Some o) e = (o, refl)
op_of None e = absurd cc

pub operator_word : (w : List ℕ) (o : Op) (k : Lexeme) → is_op (operator w o k) ≡ true → Is w k
operator_word w o k e = let x = op_of (operator w o k) e in (operator_is w o k x.0 x.1).0

pub operators : (w : List ℕ) (o : Op) (n : ℕ) → (k : Lexeme) × (x : Op) × (k.at ≡ n) × (operator w o k ≡ Some x)
operators w o n = (fixed w n, o, refl, is_operator w o (fixed w n) (fixed_is w n))

star_ends : (k : Lexeme) (ts : List Lexeme) → is_op (operator (codes "*") op.Multiply k) ≡ true → after_app (k ∷ ts) ≡ false
unfolding atom_named choose
star_ends k ts e = app_fixed (codes "*") k ts (operator_word (codes "*") op.Multiply k e)

pub reads_prod : (limit : ℕ) (es : Inside) (d : ℕ) → Good limit es → Fits limit es d →
    Reads limit (prod_with es) (ProdP d) after_prod
reads_prod limit =
    reads_chain_as limit (operator (codes "*") op.Multiply) unary_with UnaryP after_app after_prod (Good limit) tt (λ e es g. g.1)
    (λ es d. reads_unary limit es d)
    sample_unary unary_filled unary_counted (operators (codes "*") op.Multiply) star_ends (λ rest st. or_parts _ _ st) ProdP
    (λ d c ts t ns l. let s = prod_to d c ts t ns l in (s.0, s.1))
    (λ d ts t ns p. (prod_operands p.0, subst (ProdLeft d (prod_operands p.0) ts t) p.1 (prod_from d ts t p.0)))

pub sample_prod : (d n : ℕ) → (s : SomePhrase (ProdP d)) × (start s.tokens ≡ n)
sample_prod d n = let a = sample_unary d n in (
  record
      { tokens = a.0.tokens; value = a.0.value; nests = a.0.nests; phrase = (one_unary _ _ a.0.phrase.0, a.0.phrase.1) },
  a.1,
)

plus_ends : (k : Lexeme) (ts : List Lexeme) → is_op (addition k) ≡ true → after_prod (k ∷ ts) ≡ false
unfolding operator atom_named choose
plus_ends k ts e = let x = op_of (addition k) e in by_op (addition_is k x.0 x.1)
  where
    by_op : {o : Op} → IsAddition k o → after_prod (k ∷ ts) ≡ false
    by_op (add _ is) = prod_fixed (codes "+") k ts is
    by_op (subtract _ is) = prod_fixed (codes "-") k ts is

pub reads_sum : (limit : ℕ) (es : Inside) (d : ℕ) → Good limit es → Fits limit es d → Reads limit (sum_with es) (SumP d) after_sum
reads_sum limit =
    reads_chain_as limit addition prod_with ProdP after_prod after_sum (Good limit) tt (λ e es g. g.1)
    (λ es d. reads_prod limit es d)
    sample_prod (λ d us t ns p. let b = prod_begins d p.0 in omega (arith, ap length b.3))
    (λ d us t ns p. ap length (sym p.1) ∙ prod_count d p.0)
    (λ n. (
      fixed (codes "+") n,
      op.Add,
      refl,
      is_addition (fixed (codes "+") n) op.Add
          (add (fixed (codes "+") n) (fixed_is (codes "+") n)),
    )) plus_ends (λ rest st. or_parts _ _ st) SumP
    (λ d c ts t ns l. let s = sum_to d c ts t ns l in (s.0, s.1))
    (λ d ts t ns p. (sum_operands p.0, subst (SumLeft d (sum_operands p.0) ts t) p.1 (sum_from d ts t p.0)))
