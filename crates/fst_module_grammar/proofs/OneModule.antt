-- What the reader of modules answers is what stands there, and a text has one answer.
use Rattle.std.proofs.Common.{◌≡◌, ◌≢◌, ◌⊎◌, inl, inr, ℕ, max, List, [], ◌∷◌, ◌++◌, length, Result, Ok, Err, refl, sym, ap, ◌∙◌, arith}
use Rattle.std.proofs.lemmas.List.{append-nil}
use Rattle.fst_lexer.specs.declared.token.Token.{Token}
use Rattle.fst_terms.specs.ModuleTree.{Declared}
use Rattle.fst_reading.specs.declared.fault.SyntaxFault.{SyntaxFault}
use Rattle.fst_reading.specs.declared.fault.SyntaxFault.TheVariants as fault
use Rattle.fst_base.specs.Limits.{most_nested}
use Rattle.fst_reading.specs.Faults.{Begins, is_left}
use Rattle.fst_reading.specs.Reading.{HaltOf, Deep}
use Rattle.fst_reading.proofs.Lists.{most, IsWithinLimit-most}
use Rattle.fst_reading.proofs.Phrases as outcome
use Rattle.fst_reading.proofs.Phrases.{Outcome, deep}
use Rattle.fst_reading.proofs.Answers.{fault_at, refused, refuses}
use Rattle.fst_reading.proofs.Exactness.{is_read, read_gives}
use Rattle.fst_module_grammar.specs.Grammar.{Lined, IsModule}
use Rattle.fst_module_grammar.specs.Nesting.{module_nests}
use Rattle.fst_module_grammar.specs.ModuleReading.{module_at}
use Rattle.fst_module_grammar.specs.Derives.{line_lexemes, line_place, ModulePhrase, AnswersModule, OneModule}
use Rattle.fst_module_grammar.proofs.ModuleAlike.{module_ends, reads_module}
use Rattle.fst_module_grammar.proofs.ModuleFound.{ok_same}

pub module_read : (text : List ℕ) (tokens : List Token) (ds : List Declared) →
    module_at most_nested (line_lexemes text tokens) ≡ Ok (ds, []) → AnswersModule text tokens (Ok ds)
module_read text tokens ds e = is_read most_nested (module_at most_nested) ModulePhrase is_left (reads_module most_nested)
    (module_ends most_nested) refl (line_lexemes text tokens) ds [] e

pub module_stopped : (text : List ℕ) (tokens : List Token) (h : HaltOf Lined) →
    module_at most_nested (line_lexemes text tokens) ≡ Err h →
    AnswersModule text tokens (Err (fault_at (line_place (length text)) h))
module_stopped text tokens h e =
    refuses (module_at most_nested) ModulePhrase is_left (reads_module most_nested) (module_ends most_nested) refl
    (line_place (length text)) (line_lexemes text tokens) h e

-- the answer by what was read, where the text ends at this byte
abbrev shown : ℕ → Result (List Declared × List Lined) (HaltOf Lined) → Result (List Declared) SyntaxFault
shown end (Ok x) = Ok x.0
shown end (Err h) = Err (fault_at (line_place end) h)

answer_shown : (text : List ℕ) (tokens : List Token) (a : Result (List Declared) SyntaxFault) → a ≢ Err fault.Memory →
    AnswersModule text tokens a → a ≡ shown (length text) (module_at most_nested (line_lexemes text tokens))
answer_shown text tokens (Ok ds) other b =
    sym (ap (shown (length text)) (read_gives most_nested (module_at most_nested) ModulePhrase is_left (reads_module most_nested)
    (module_ends most_nested) refl (line_lexemes text tokens) ds [] b))
answer_shown text tokens (Err e) other b =
    let g = refused (module_at most_nested) ModulePhrase is_left (reads_module most_nested) (module_ends most_nested) refl
    (line_place (length text)) (line_lexemes text tokens) e (λ is. other (ap Err is)) b in
    ap Err g.2 ∙ sym (ap (shown (length text)) g.1)

abbrev whole : (ts : List Lined) (ds : List Declared) (s : IsModule ts ds) → Begins ModulePhrase is_left ts ds []
whole ts ds s = record { tokens = ts; nests = module_nests s; parts = sym (append-nil ts); phrase = (s, refl); ended = refl }

one_module : (ts : List Lined) (ds es : List Declared) → IsModule ts ds → IsModule ts es → ds ≡ es
one_module ts ds es a b =
    let n = max (most (module_nests a)) (most (module_nests b)) in
    let one = read_gives n (module_at n) ModulePhrase is_left (reads_module n) (module_ends n) refl ts ds []
    (whole ts ds a, IsWithinLimit-most n (module_nests a) (omega arith)) in
    let two = read_gives n (module_at n) ModulePhrase is_left (reads_module n) (module_ends n) refl ts es []
    (whole ts es b, IsWithinLimit-most n (module_nests b) (omega arith)) in
    ap (λ (p : List Declared × List Lined). p.0) (ok_same (ds, []) (es, []) (sym one ∙ two))

-- a module is read, or a token of it is too deep
answered : (text : List ℕ) (tokens : List Token) (ds : List Declared) → IsModule (line_lexemes text tokens) ds →
    AnswersModule text tokens (Ok ds) ⊎ ((at : ℕ) × AnswersModule text tokens (Err (fault.TooDeep at)))
answered text tokens ds s = of_outcome ((reads_module most_nested).reads ts ds (module_nests s) [] (s, refl) refl)
  where
    ts : List Lined
    ts = line_lexemes text tokens

    whole_is : ts ++ [] ≡ ts
    whole_is = append-nil ts

    of_outcome : Outcome most_nested (module_at most_nested) ts ds (module_nests s) [] → AnswersModule text tokens (Ok ds) ⊎
        ((at : ℕ) × AnswersModule text tokens (Err (fault.TooDeep at)))
    of_outcome (outcome.whole low e) = inl (module_read text tokens ds (ap (module_at most_nested) (sym whole_is) ∙ e))
    of_outcome (deep pre v k low high n a b c o l e) =
        inr (_, module_stopped text tokens (Deep (k ∷ v ++ [])) (ap (module_at most_nested) (sym whole_is) ∙ e))

pub one_module_law : OneModule
one_module_law = record {
  one_module = one_module;
  answered = answered;
  one_answer = λ text tokens a b some none p q. answer_shown text tokens a some p ∙ sym (answer_shown text tokens b none q);
}
