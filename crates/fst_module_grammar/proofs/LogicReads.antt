-- The readers of comparisons, and of what is put together from them, have the laws of readers.
use Rattle.std.proofs.Common.{◌≡◌, ℕ, ◌≤◌, ◌<◌, inl, inr, true, false, List, [], ◌∷◌, ◌++◌, length, Some, refl, sym, ap, subst, ◌∙◌, arith, length-append}
use Rattle.std.specs.Prelude.{codes}
use Rattle.std.proofs.lemmas.List.{append-nil}
use Rattle.fst_terms.specs.declared.term.Op.{Op}
use Rattle.fst_terms.specs.declared.term.Op.TheVariants as op
use Rattle.fst_terms.specs.TermTree as term
use Rattle.fst_terms.specs.TermTree.{TermTree}
use Rattle.fst_reading.specs.Lexeme.{Lexeme, start}
use Rattle.fst_reading.specs.Faults.{Phrase}
use Rattle.fst_reading.proofs.Steps.{start_more, SomePhrase}
use Rattle.fst_reading.specs.Reading.{give, map_reader, begins}
use Rattle.fst_reading.proofs.Phrases as phrase
use Rattle.fst_reading.proofs.Phrases.{Reads, never, Give, nothing, Then, Mapped, made, first, Either, one, other, Located}
use Rattle.fst_reading.proofs.Tokens.{fixed, fixed_is, some_is, spelled}
use Rattle.fst_reading.proofs.Parts.{reads_give, reads_mapped, reads_switch, reads_as, reads_until}
use Rattle.fst_reading.proofs.Sequences.{reads_then}
use Rattle.fst_reading.proofs.Shut.{reads_shut}
use Rattle.fst_reading.proofs.Repeats.{Fits, reads_when}
use Rattle.fst_reading.proofs.Words.{moved, sample_mapped}
use Rattle.fst_module_grammar.specs.Grammar.{IsComparison, equal, unequal, less, at_most, greater, at_least, IsCmp, one_sum, compare, one_unary, one_prod, one_cmp}
use Rattle.fst_module_grammar.specs.Nesting.{cmp_nests, sum_nests, and_operands, or_operands}
use Rattle.fst_module_grammar.specs.TermReading.{Inside, atom_named, operator, addition, comparison, is_op, starts_unary, sum_with, compare_with, cmp_with, and_with, or_with}
use Rattle.fst_module_grammar.proofs.ChainPhrases.{Step, SumP, CmpP, AndP, OrP, AndLeft, OrLeft, and_to, and_from, or_to, or_from}
use Rattle.fst_module_grammar.proofs.ChainReads.{reads_chain_as}
use Rattle.fst_module_grammar.proofs.AppReads.{Good}
use Rattle.fst_module_grammar.proofs.OperatorReads.{op_of, operator_word, operators, opens_unary, sample_prod, reads_sum}
use Rattle.fst_module_grammar.proofs.TermBegins.{StartsUnary, sum_begins, cmp_begins, and_begins}
use Rattle.fst_module_grammar.proofs.Counts.{cmp_count, and_count}
use Rattle.fst_module_grammar.proofs.Follows.{compares, after_sum, after_cmp, after_and, after_or, sum_fixed, cmp_fixed, and_fixed}
use Rattle.fst_base.specs.Choice.{choose}
use Rattle.fst_base.proofs.Choices.{chosen}
use Rattle.std.proofs.lemmas.Bool.{or_parts}
use Rattle.fst_reading.proofs.Located.{reads_located, locate}

-- which token is which comparison
pub comparison_is : (k : Lexeme) (o : Op) → comparison k ≡ Some o → IsComparison k o
unfolding comparison
comparison_is k o e = elim (chosen _ _ _ _ e) [
  | inl h ↦ subst (IsComparison k) (some_is op.Equal o h.1) (equal k h.0)
  | inr h ↦ elim (chosen _ _ _ _ h.1) [
    | inl i ↦ subst (IsComparison k) (some_is op.Unequal o i.1) (unequal k i.0)
    | inr i ↦ elim (chosen _ _ _ _ i.1) [
      | inl j ↦ subst (IsComparison k) (some_is op.Less o j.1) (less k j.0)
      | inr j ↦ elim (chosen _ _ _ _ j.1) [
        | inl l ↦ subst (IsComparison k) (some_is op.AtMost o l.1) (at_most k l.0)
        | inr l ↦ elim (chosen _ _ _ _ l.1) [
          | inl m ↦ subst (IsComparison k) (some_is op.Greater o m.1) (greater k m.0)
          | inr m ↦ elim (chosen _ _ _ _ m.1) [
            | inl n ↦ subst (IsComparison k) (some_is op.AtLeast o n.1) (at_least k n.0)
            | inr n ↦ absurd (let is = n.1 in cc)
          ]
        ]
      ]
    ]
  ]
]

pub is_comparison : (k : Lexeme) (o : Op) → IsComparison k o → comparison k ≡ Some o
unfolding comparison choose
is_comparison _ _ (equal k is) = rw is refl
is_comparison _ _ (unequal k is) = rw (spelled (codes "/=") (codes "==") k is, is) refl
is_comparison _ _ (less k is) = rw (spelled (codes "<") (codes "==") k is, spelled (codes "<") (codes "/=") k is, is) refl
is_comparison _ _ (at_most k is) = rw (
  spelled (codes "<=") (codes "==") k is,
  spelled (codes "<=") (codes "/=") k is,
  spelled (codes "<=") (codes "<") k is,
  is,
) refl
is_comparison _ _ (greater k is) =
    rw (
      spelled (codes ">") (codes "==") k is,
      spelled (codes ">") (codes "/=") k is,
      spelled (codes ">") (codes "<") k is,
      spelled (codes ">") (codes "<=") k is,
      is,
    ) refl
is_comparison _ _ (at_least k is) =
    rw (
      spelled (codes ">=") (codes "==") k is,
      spelled (codes ">=") (codes "/=") k is,
      spelled (codes ">=") (codes "<") k is,
      spelled (codes ">=") (codes "<=") k is,
      spelled (codes ">=") (codes ">") k is,
      is,
    ) refl

-- a comparison as it is read
abbrev pub CompareR : ℕ → ℕ → TermTree → Phrase TermTree
CompareR d n t = Either (Step comparison SumP n d t) (Give t)

abbrev pub CmpR : ℕ → Phrase TermTree
CmpR d = Located (λ n. Then (SumP d) (CompareR d n))

-- what stands in front begins where the whole does
front_place : (d : ℕ) (k : Lexeme) (ts us vs : List Lexeme) (t : TermTree) (ms : List ℕ) → SumP d us t ms → k ∷ ts ≡ us ++ vs →
    start us ≡ k.at
front_place d k ts us vs t ms p e = let b = sum_begins d p.0 in
    sym (start_more us vs (start us) (omega (arith, ap length b.3)) refl) ∙ ap start (sym e)

cmp_read : (d : ℕ) (ts : List Lexeme) (t : TermTree) (ns : List ℕ) → CmpR d ts t ns → CmpP d ts t ns
cmp_read d _ _ _ (Located.at k ts _ ns (phrase.pair _ us _ t _ _ ms _ p
    (one _ _ _ (first c o vs _ ks e (made _ u _ q))) parts nests)) =
    let place = front_place d k ts us (c ∷ vs) t ms p parts in
    moved (CmpP d) (k ∷ ts) (us ++ c ∷ vs) (term.operate k.at o t u) (term.operate (start us) o t u) ns (ms ++ d ∷ ks) parts
    (ap (λ n. term.operate n o t u) (sym place)) nests (
      compare us vs (us ++ c ∷ vs) c o t u p.0 (comparison_is c o e) q.0 refl,
      (let e2 : sum_nests d p.0 ++ d ∷ sum_nests d q.0 ≡ ms ++ d ∷ ks = rw (p.1, q.1) refl in e2),
    )
cmp_read d _ _ _ (Located.at k ts _ ns (phrase.pair _ us _ t _ _ ms _ p (other _ _ _ nothing) parts nests)) =
    moved (CmpP d) (k ∷ ts) us t t ns ms (parts ∙ append-nil us) refl (nests ∙ append-nil ms) (one_sum us t p.0, p.1)

of_cmp : (d : ℕ) (ts : List Lexeme) (t : TermTree) (s : IsCmp ts t) → CmpR d ts t (cmp_nests d s)
of_cmp d _ _ (one_sum ts t a) =
    let b = sum_begins d a in
    locate (λ n. Then (SumP d) (CompareR d n)) (start ts) ts t (sum_nests d a) (omega (arith, ap length b.3)) refl
    (phrase.pair ts ts [] t t (sum_nests d a) (sum_nests d a) [] (a, refl) (other _ _ _ nothing) (sym (append-nil ts))
    (sym (append-nil (sum_nests d a))))
of_cmp d _ _ (compare ts us all k o t u a is c parts) =
    let b = sum_begins d a in
    let lt : 0 < length ts = omega (arith, ap length b.3) in
    locate (λ n. Then (SumP d) (CompareR d n)) (start ts) all _ (sum_nests d a ++ d ∷ sum_nests d c)
    (omega (arith, lt, ap length parts, length-append ts (k ∷ us)))
    (ap start parts ∙ start_more ts (k ∷ us) (start ts) lt refl)
    (phrase.pair all ts (k ∷ us) t _ _ (sum_nests d a) (d ∷ sum_nests d c) (a, refl)
    (one _ _ _ (first k o us _ (sum_nests d c) (is_comparison k o is) (made us u _ (c, refl)))) parts refl)

read_cmp : (d : ℕ) (ts : List Lexeme) (t : TermTree) (ns : List ℕ) → CmpP d ts t ns → CmpR d ts t ns
read_cmp d ts t ns p = subst (CmpR d ts t) p.1 (of_cmp d ts t p.0)

sample_sum : (d n : ℕ) → (s : SomePhrase (SumP d)) × (start s.tokens ≡ n)
sample_sum d n = let a = sample_prod d n in (
  record
      { tokens = a.0.tokens; value = a.0.value; nests = a.0.nests; phrase = (one_prod _ _ a.0.phrase.0, a.0.phrase.1) },
  a.1,
)

compare_ends : (k : Lexeme) (ts : List Lexeme) → is_op (comparison k) ≡ true → after_sum (k ∷ ts) ≡ false
unfolding operator addition atom_named choose
compare_ends k ts e = let x = op_of (comparison k) e in by_op (comparison_is k x.0 x.1)
  where
    by_op : {o : Op} → IsComparison k o → after_sum (k ∷ ts) ≡ false
    by_op (equal _ is) = sum_fixed (codes "==") k ts is
    by_op (unequal _ is) = sum_fixed (codes "/=") k ts is
    by_op (less _ is) = sum_fixed (codes "<") k ts is
    by_op (at_most _ is) = sum_fixed (codes "<=") k ts is
    by_op (greater _ is) = sum_fixed (codes ">") k ts is
    by_op (at_least _ is) = sum_fixed (codes ">=") k ts is

module _ (limit : ℕ) (es : Inside) (d : ℕ) (good : Good limit es) (fits : Fits limit es d) (low : d ≤ limit) where
  step_sample : (n m : ℕ) (t : TermTree) → (s : SomePhrase (Step comparison SumP n d t)) × (start s.tokens ≡ m)
  step_sample n m t =
      let a = (sample_sum d 0).0 in (
        record {
          tokens = fixed (codes "<") m ∷ a.tokens;
          value = term.operate n op.Less t a.value;
          nests = d ∷ a.nests;
          phrase = first (fixed (codes "<") m) op.Less a.tokens _ a.nests
              (is_comparison (fixed (codes "<") m) op.Less (less (fixed (codes "<") m) (fixed_is (codes "<") m)))
              (made a.tokens a.value a.nests a.phrase);
        },
        refl,
      )

  reads_compare : (n : ℕ) (t : TermTree) → Reads limit (compare_with n es t) (CompareR d n t) after_cmp
  unfolding compare_with
  reads_compare n t =
      reads_when limit compares _ (give t) (Step comparison SumP n d t) (Give t) after_cmp
      (reads_until limit _ _ after_sum after_cmp
      (reads_switch limit d low comparison (λ o k. map_reader (term.operate n o t) (sum_with es))
      (λ o k. Mapped (term.operate n o t) (SumP d)) after_sum
      (λ o k. reads_mapped limit (term.operate n o t) (sum_with es) (SumP d) after_sum (reads_sum limit es d good fits))
      (λ m. record {
        token = fixed (codes "<") m;
        meaning = op.Less;
        place_is = refl;
        is =
            is_comparison (fixed (codes "<") m) op.Less (less (fixed (codes "<") m) (fixed_is (codes "<") m));
        rest =
            sample_mapped (term.operate n op.Less t) (SumP d) (sample_sum d 0).0;
      }))
      (λ ts st. (or_parts _ _ st).0))
      (reads_until limit _ _ never after_cmp (reads_give limit t) (λ ts st. refl)) opens free
    where
      opens : (us : List Lexeme) (x : TermTree) (ns : List ℕ) (rest : List Lexeme) → Step comparison SumP n d t us x ns →
          begins compares (us ++ rest) ≡ true
      opens _ _ _ rest (first k o us y ns e q) = ap is_op e

      free : (us : List Lexeme) (x : TermTree) (ns : List ℕ) (rest : List Lexeme) → Give t us x ns → after_cmp rest ≡ false →
          begins compares (us ++ rest) ≡ false
      free _ _ _ rest nothing st = (or_parts _ _ st).1

sum_filled : (d : ℕ) (us : List Lexeme) (t : TermTree) (ns : List ℕ) → SumP d us t ns → 0 < length us
sum_filled d us t ns p = let b = sum_begins d p.0 in omega (arith, ap length b.3)

sample_cmp : (d n : ℕ) → (s : SomePhrase (CmpP d)) × (start s.tokens ≡ n)
sample_cmp d n = let a = sample_sum d n in (
  record
      { tokens = a.0.tokens; value = a.0.value; nests = a.0.nests; phrase = (one_sum _ _ a.0.phrase.0, a.0.phrase.1) },
  a.1,
)

opens_cmp : (d : ℕ) (k : Lexeme) → StartsUnary k → (others : List Lexeme) × (x : TermTree) ×
    (ns : List ℕ) × CmpP d (k ∷ others) x (d ∷ ns)
opens_cmp d k is = let o = opens_unary d k is in (o.0, o.1, o.2, (one_sum _ _ (one_prod _ _ (one_unary _ _ o.3.0)), o.3.1))

pub reads_cmp : (limit : ℕ) (es : Inside) (d : ℕ) → Good limit es → Fits limit es d → Reads limit (cmp_with es) (CmpP d) after_cmp
unfolding cmp_with
reads_cmp limit [] d good over =
    reads_shut limit starts_unary (CmpP d) after_cmp (λ n. sample_cmp d n)
    (λ k is. let o = opens_cmp d k is in (o.0, o.1, d, o.2, o.3, over))
    (λ us x ns p. let b = cmp_begins d p.0 in (b.0, b.1, d, b.2, b.3, sym p.1 ∙ b.4, b.5, over))
    (λ us x ns p. ap length (sym p.1) ∙ cmp_count d p.0)
reads_cmp limit (e ∷ es) d good fits =
    reads_as limit _ (CmpR d) (CmpP d) after_cmp
    (reads_located limit _ _ after_cmp
    (λ n. reads_then limit (sum_with (e ∷ es)) _ (SumP d) (CompareR d n) after_sum after_cmp
    (reads_sum limit (e ∷ es) d good fits)
    (λ t. reads_compare limit (e ∷ es) d good fits (omega (arith, fits)) n t)
    (λ t. record { tokens = []; value = t; nests = []; phrase = other _ _ _ nothing })
    (sum_filled d) (λ us x ns vs y ms rest q st. next n x vs y ms rest q st))
    filled)
    (cmp_read d) (read_cmp d)
  where
    next : (n : ℕ) (t : TermTree) (us : List Lexeme) (x : TermTree) (ns : List ℕ) (rest : List Lexeme) → CompareR d n t us x ns →
        after_cmp rest ≡ false → after_sum (us ++ rest) ≡ false
    next n t _ _ _ rest (one _ _ _ (first k o us x ns e q)) st = compare_ends k (us ++ rest) (ap is_op e)
    next n t _ _ _ rest (other _ _ _ nothing) st = (or_parts _ _ st).0

    filled : (n : ℕ) (us : List Lexeme) (x : TermTree) (ns : List ℕ) → Then (SumP d) (CompareR d n) us x ns → 0 < length us
    filled n _ _ _ (phrase.pair ts us vs t y ns ms ks p q parts nests) =
        omega (arith, sum_filled d us t ms p, ap length parts, length-append us vs)

and_ends : (k : Lexeme) (ts : List Lexeme) → is_op (operator (codes "&&") op.And k) ≡ true → after_cmp (k ∷ ts) ≡ false
unfolding operator addition comparison atom_named choose
and_ends k ts e = cmp_fixed (codes "&&") k ts (operator_word (codes "&&") op.And k e)

pub reads_and : (limit : ℕ) (es : Inside) (d : ℕ) → Good limit es → Fits limit es d → Reads limit (and_with es) (AndP d) after_and
reads_and limit =
    reads_chain_as limit (operator (codes "&&") op.And) cmp_with CmpP after_cmp after_and (Good limit) tt (λ e es g. g.1)
    (λ es d. reads_cmp limit es d)
    sample_cmp (λ d us t ns p. let b = cmp_begins d p.0 in omega (arith, ap length b.3))
    (λ d us t ns p. ap length (sym p.1) ∙ cmp_count d p.0)
    (operators (codes "&&") op.And) and_ends (λ rest st. or_parts _ _ st) AndP
    (λ d c ts t ns l. let s = and_to d c ts t ns l in (s.0, s.1))
    (λ d ts t ns p. (and_operands p.0, subst (AndLeft d (and_operands p.0) ts t) p.1 (and_from d ts t p.0)))

sample_and : (d n : ℕ) → (s : SomePhrase (AndP d)) × (start s.tokens ≡ n)
sample_and d n = let a = sample_cmp d n in (
  record
      { tokens = a.0.tokens; value = a.0.value; nests = a.0.nests; phrase = (one_cmp _ _ a.0.phrase.0, a.0.phrase.1) },
  a.1,
)

or_ends : (k : Lexeme) (ts : List Lexeme) → is_op (operator (codes "||") op.Or k) ≡ true → after_and (k ∷ ts) ≡ false
unfolding operator addition comparison atom_named choose
or_ends k ts e = and_fixed (codes "||") k ts (operator_word (codes "||") op.Or k e)

pub reads_or : (limit : ℕ) (es : Inside) (d : ℕ) → Good limit es → Fits limit es d → Reads limit (or_with es) (OrP d) after_or
reads_or limit =
    reads_chain_as limit (operator (codes "||") op.Or) and_with AndP after_and after_or (Good limit) tt (λ e es g. g.1)
    (λ es d. reads_and limit es d)
    sample_and (λ d us t ns p. let b = and_begins d p.0 in omega (arith, ap length b.3))
    (λ d us t ns p. ap length (sym p.1) ∙ and_count d p.0)
    (operators (codes "||") op.Or) or_ends (λ rest st. or_parts _ _ st) OrP
    (λ d c ts t ns l. let s = or_to d c ts t ns l in (s.0, s.1))
    (λ d ts t ns p. (or_operands p.0, subst (OrLeft d (or_operands p.0) ts t) p.1 (or_from d ts t p.0)))
