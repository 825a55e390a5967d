-- The readers of atoms have the laws of readers.
use Rattle.std.proofs.Common.{◌≡◌, ℕ, suc, ◌≤◌, ◌<◌, true, false, List, [], ◌∷◌, ◌++◌, length, refl, sym, ap, ◌∙◌, arith}
use Rattle.std.specs.Prelude.{codes}
use Rattle.fst_types.specs.WrittenTree as written
use Rattle.fst_types.specs.WrittenTree.{WrittenTree}
use Rattle.fst_terms.specs.TermTree as term
use Rattle.fst_terms.specs.TermTree.{TermTree, no_terms}
use Rattle.fst_reading.specs.Lexeme.{Lexeme, spells, start}
use Rattle.fst_type_syntax.specs.Grammar.{skip}
use Rattle.fst_reading.specs.Faults.{Phrase}
use Rattle.fst_reading.specs.Reading.{Reader, map_reader, only, word, begins, on}
use Rattle.fst_type_syntax.specs.TypeReading.{starts_type_atom, seq_at, type_at}
use Rattle.fst_reading.proofs.Phrases as phrase
use Rattle.fst_reading.proofs.Phrases.{Reads, never, nothing, Then, Mapped, made, first, taken, other, Many}
use Rattle.fst_reading.proofs.Steps.{SomePhrase}
use Rattle.fst_reading.proofs.Parts.{Sample, reads_give, reads_mapped, reads_switch, reads_on, reads_as, reads_until}
use Rattle.fst_reading.proofs.Sequences.{reads_then}
use Rattle.fst_reading.proofs.Shut.{reads_shut}
use Rattle.fst_reading.proofs.Repeats.{Fits}
use Rattle.fst_reading.proofs.Manys.{reads_many}
use Rattle.fst_reading.proofs.Tokens.{fixed, fixed_is, a_lower, only_is, no_other}
use Rattle.fst_module_grammar.specs.Grammar.{none, named, plain, one_plain, head, one_app, one_unary, one_prod, one_sum, one_cmp, one_and, one_or}
use Rattle.fst_module_grammar.specs.declared.starts.AtomStart.{AtomStart}
use Rattle.fst_module_grammar.specs.declared.starts.AtomStart.TheVariants.{Name, Constructor, Number, Character, Truth, Paren}
use Rattle.fst_module_grammar.specs.TermReading.{Inside, type_atom_with, applied_with, pair_with, paren_with, begun_with, atom_with, atom_named, app_named, expr_named, atom_start}
use Rattle.fst_module_grammar.proofs.ChainPhrases.{AtomP}
use Rattle.fst_module_grammar.proofs.AtomPhrases.{ExprP, AppliedP, ArgumentR, applied_to, applied_from, PairR, ClosedR, ParenR, BegunR, AtomR, atom_to, atom_from}
use Rattle.fst_module_grammar.proofs.Follows.{at, after_expr, closes, comma, ends_expr}
use Rattle.fst_module_grammar.proofs.TermBegins.{expr_begins, no_expr}
use Rattle.fst_module_grammar.proofs.TermTokens.{means_atom}
use Rattle.fst_base.specs.Choice.{choose}
use Rattle.fst_reading.proofs.Words.{Word, reads_first, reads_word, words, sample_mapped, sample_word}
use Rattle.fst_type_syntax.specs.Derives.{AtomPhrase as TypeAtomP}
use Rattle.fst_type_syntax.proofs.Laws.{atom_begins as type_atom_begins, atom_opens, reads_atom as reads_type_atom_with, reads_seq, reads_type, atom_count as type_atom_count}

-- an atomic type is read where it isn't too deep
sample_type_atom : (d n : ℕ) → (s : SomePhrase (TypeAtomP d)) × (start s.tokens ≡ n)
sample_type_atom d n = (
  record {
    tokens = fixed (codes "Skip") n ∷ [];
    value = written.skip n;
    nests = d ∷ [];
    phrase =
        (skip (fixed (codes "Skip") n) (fixed_is (codes "Skip") n), refl);
  },
  refl,
)

pub reads_type_atom : (limit : ℕ) (es : Inside) (d : ℕ) → Fits limit es d → Reads limit (type_atom_with es) (TypeAtomP d) never
unfolding type_atom_with
reads_type_atom limit [] d over =
    reads_shut limit starts_type_atom (TypeAtomP d) never (λ n. sample_type_atom d n)
    (λ k is. let o = atom_opens d k is in (o.0, o.1, d, o.2, o.3, over))
    (λ us x ns p. let b = type_atom_begins d us x ns p in (b.0, b.1, d, b.2, b.3, b.4, b.5, over))
    (λ us x ns p. ap length (sym p.1) ∙ type_atom_count d p.0)
reads_type_atom limit (e ∷ es) d is =
    let n = length es in
    reads_type_atom_with limit d (omega (arith, is)) (seq_at n) (type_at n) (reads_seq limit n (suc d) (omega (arith, is)))
    (reads_type limit n d (omega (arith, is)))

pub reads_applied : (limit : ℕ) (e : Reader TermTree) (es : Inside) (d : ℕ) → Fits limit (e ∷ es) d →
    Reads limit (applied_with (e ∷ es)) (AppliedP d) at
unfolding applied_with
reads_applied limit e es d is =
    reads_as limit _ (Many (ArgumentR d)) (AppliedP d) at
    (reads_many limit (spells (codes "@")) _ (ArgumentR d) never at
    (reads_first limit d (omega (arith, is)) (only (spells (codes "@"))) (words (codes "@")) (λ k. type_atom_with (e ∷ es))
    (λ k. TypeAtomP d) never
    (λ k. reads_type_atom limit (e ∷ es) d is) (λ k. (sample_type_atom d 0).0))
    (λ us x ns p. begun us x ns p) (λ k ts is. refl) (λ rest stop. (refl, stop)))
    (applied_to d) (applied_from d)
  where
    begun : (us : List Lexeme) (x : WrittenTree) (ns : List ℕ) → ArgumentR d us x ns → (k : Lexeme) × (v : List Lexeme) ×
        (us ≡ k ∷ v) × (spells (codes "@") k ≡ true)
    begun _ _ _ (phrase.pair _ _ ws _ _ _ _ ls (first k x _ _ _ e nothing) a parts nests) =
        (k, ws, parts, only_is (spells (codes "@")) k x e)

-- a term made up
pub sample_atom : (d n : ℕ) → (s : SomePhrase (AtomP d)) × (start s.tokens ≡ n)
sample_atom d n = (
  record {
    tokens = a_lower n ∷ [];
    value = term.named n [] [];
    nests = d ∷ [];
    phrase =
        (plain _ _ (named (a_lower n) [] [] refl none), refl);
  },
  refl,
)

pub sample_expr : (d n : ℕ) → (s : SomePhrase (ExprP d)) × (start s.tokens ≡ n)
sample_expr d n =
    let a = one_plain _ _ (named (a_lower n) [] [] refl none) in (
      record {
        tokens = a_lower n ∷ [];
        value = term.named n [] [];
        nests = d ∷ [];
        phrase = (
          one_or _ _ (one_and _ _ (one_cmp _ _ (one_sum _ _ (one_prod _ _ (one_unary _ _ (one_app _ _ (head _ _ a))))))),
          refl,
        );
      },
      refl,
    )

pub expr_filled : (d : ℕ) (us : List Lexeme) (t : TermTree) (ns : List ℕ) → ExprP d us t ns → 0 < length us
expr_filled d us t ns p = let b = expr_begins d p.0 in omega (arith, ap length b.3)

-- what reads the terms inside, and what is known of it
module _ (limit d : ℕ) (e : Reader TermTree) (es : Inside) (fits : Fits limit (e ∷ es) d)
    (r : Reads limit e (ExprP (suc d)) after_expr) where
  low : d ≤ limit
  low = omega (arith, fits)

  after_closed : (h : Unit {0} → TermTree) (us : List Lexeme) (y : TermTree) (ns : List ℕ) (rest : List Lexeme) →
      Mapped h (Word d (codes ")")) us y ns → after_expr (us ++ rest) ≡ false
  after_closed h _ _ _ rest (made _ _ _ (first c x _ _ _ g nothing)) =
      ends_expr (codes ")") closes c rest (only_is (spells (codes ")")) c x g)

  closing : (t : TermTree) → Reads limit (map_reader (λ c. t) (word (codes ")")))
      (Mapped (λ (c : Unit {0}). t) (Word d (codes ")"))) never
  closing t = reads_mapped limit (λ c. t) (word (codes ")")) (Word d (codes ")")) never (reads_word limit d low (codes ")"))

  some_closing : (t : TermTree) → SomePhrase (Mapped (λ (c : Unit {0}). t) (Word d (codes ")")))
  some_closing t = sample_mapped (λ (c : Unit {0}). t) (Word d (codes ")")) (sample_word d (codes ")"))

  reads_pair : (k : Lexeme) (t : TermTree) → Reads limit (pair_with e k.at t) (PairR d k t) never
  unfolding pair_with
  reads_pair k t =
      reads_then limit e _ (ExprP (suc d)) _ after_expr never r (λ u. closing (term.pair k.at t u))
      (λ u. some_closing (term.pair k.at t u)) (expr_filled (suc d))
      (λ us x ns vs y ms rest q st. after_closed _ vs y ms rest q)

  closed_free : (t : TermTree) (us : List Lexeme) (y : TermTree) (ns : List ℕ) (rest : List Lexeme) → Mapped
      (λ (c : Unit {0}). t) (Word d (codes ")")) us y ns → never rest ≡ false → begins (spells (codes ",")) (us ++ rest) ≡ false
  closed_free t _ _ _ rest (made _ _ _ (first c x _ _ _ g nothing)) st =
      no_other (codes ")") (codes ",") c refl (only_is (spells (codes ")")) c x g)

  reads_closed : (k : Lexeme) (t : TermTree) → Reads limit
      (on (spells (codes ",")) (pair_with e k.at t) (map_reader (λ c. t) (word (codes ")")))) (ClosedR d k t) never
  reads_closed k t = reads_on limit d low (spells (codes ",")) _ _ _ _ never (reads_pair k t) (closing t) (closed_free t)

  after_behind : (k : Lexeme) (t : TermTree) (us : List Lexeme) (y : TermTree) (ns : List ℕ) (rest : List Lexeme) →
      ClosedR d k t us y ns → after_expr (us ++ rest) ≡ false
  after_behind k t _ _ _ rest (taken c ts _ _ is q) = ends_expr (codes ",") comma c (ts ++ rest) is
  after_behind k t _ _ _ rest (other us y ns q) = after_closed _ us y ns rest q

  no_close : (k : Lexeme) (us : List Lexeme) (y : TermTree) (ns : List ℕ) (rest : List Lexeme) →
      Then (ExprP (suc d)) (ClosedR d k) us y ns → never rest ≡ false → begins (spells (codes ")")) (us ++ rest) ≡ false
  unfolding app_named atom_named expr_named choose
  no_close k _ _ _ rest (phrase.pair ts us vs t y ns ms ks q c parts nests) st =
      let b = expr_begins (suc d) q.0 in
      let is : ts ++ rest ≡ b.0 ∷ (b.1 ++ vs ++ rest) = ap
      (λ (w : List Lexeme). w ++ rest) (parts ∙ ap (λ (w : List Lexeme). w ++ vs) b.3) in
      ap (begins (spells (codes ")"))) is ∙ no_expr (codes ")") b.0 refl b.5

  reads_paren : (k : Lexeme) → Reads limit (paren_with e k.at) (ParenR d k) never
  unfolding paren_with
  reads_paren k =
      reads_on limit d low (spells (codes ")")) _ _ _ _ never (reads_give limit (term.unit k.at))
      (reads_then limit e _ (ExprP (suc d)) (ClosedR d k) after_expr never r (reads_closed k)
      (λ t. let s = some_closing t in record {
        tokens = s.tokens;
        value = s.value;
        nests = s.nests;
        phrase =
            other _ _ _ s.phrase;
      })
      (expr_filled (suc d)) (λ us x ns vs y ms rest q st. after_behind k x vs y ms rest q))
      (no_close k)

  -- where nothing may follow, nothing at all goes on
  quiet : {A : Type 0} (f : Reader A) (P : Phrase A) → Reads limit f P never → Reads limit f P at
  quiet f P q = reads_until limit f P never at q (λ ts st. refl)

  pub reads_begun : (s : AtomStart) (k : Lexeme) → Reads limit (begun_with e es s k) (BegunR d s k) at
  reads_begun Name k = reads_mapped limit (term.named k.at k.text) (applied_with (e ∷ es))
      (AppliedP d) at (reads_applied limit e es d fits)
  reads_begun Constructor k = quiet _ _ (reads_give limit (term.make k.at k.text no_terms))
  reads_begun (Number n) k = quiet _ _ (reads_give limit (term.int k.at n))
  reads_begun (Character c) k = quiet _ _ (reads_give limit (term.char k.at c))
  reads_begun (Truth b) k = quiet _ _ (reads_give limit (term.bool k.at b))
  reads_begun Paren k = quiet _ _ (reads_paren k)

  some_begun : (n : ℕ) → Sample atom_start (BegunR d) n
  some_begun n = record {
    token = a_lower n;
    meaning = Name;
    place_is = refl;
    is = means_atom Name (a_lower n) refl;
    rest = record { tokens = []; value = term.named n [] []; nests = []; phrase = made [] [] [] (none, refl) };
  }

  pub reads_one_atom : Reads limit (atom_with (e ∷ es)) (AtomP d) at
  unfolding atom_with
  reads_one_atom = reads_as limit _ (AtomR d) (AtomP d)
      at (reads_switch limit d low atom_start (begun_with e es) (BegunR d) at reads_begun some_begun) (atom_to d) (atom_from d)
