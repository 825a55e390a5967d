-- The answers that the definitions allow are those of the readers, so a text has one.
use Rattle.std.proofs.Common.{◌≡◌, ◌≢◌, ℕ, ◌+◌, ◌-◌, max, List, [], length, drop, Result, Ok, Err, refl, sym, ap, ◌∙◌, arith, length-append}
use Rattle.fst_types.specs.WrittenTree.{WrittenTree}
use Rattle.std.proofs.lemmas.List.{append-nil}
use Rattle.fst_lexer.specs.declared.token.Token.{Token}
use Rattle.fst_reading.specs.declared.fault.SyntaxFault.{SyntaxFault}
use Rattle.fst_reading.specs.declared.fault.SyntaxFault.TheVariants as fault
use Rattle.fst_base.specs.Limits.{most_nested}
use Rattle.fst_reading.specs.Lexeme.{Lexeme, lexemes, place}
use Rattle.fst_type_syntax.specs.Grammar.{Asked, IsQuestion}
use Rattle.fst_type_syntax.specs.Nesting.{question_nests}
use Rattle.fst_reading.specs.Faults.{Begins, is_left}
use Rattle.fst_type_syntax.specs.Derives.{TypePhrase, QuestionPhrase, lengthens, AnswersQuestion, AnswersType, OneReading}
use Rattle.fst_reading.specs.Reading.{Halt}
use Rattle.fst_type_syntax.specs.TypeReading.{type_at, question_at}
use Rattle.fst_reading.proofs.Phrases.{reads_just}
use Rattle.fst_reading.proofs.Lists.{most, IsWithinLimit-most}
use Rattle.fst_reading.proofs.Exactness.{read_gives}
use Rattle.fst_type_syntax.proofs.Ends.{ends_type, ends_question}
use Rattle.fst_type_syntax.proofs.TypeReads.{reads_type}
use Rattle.fst_type_syntax.proofs.QuestionReads.{reads_question}
use Rattle.fst_reading.proofs.Answers.{fault_of, refused}

abbrev shown_question : ℕ → Result (Asked × List Lexeme) Halt → Result Asked SyntaxFault
shown_question end (Ok x) = Ok x.0
shown_question end (Err h) = Err (fault_of end h)

question_shown : (text : List ℕ) (tokens : List Token) (a : Result Asked SyntaxFault) → a ≢ Err fault.Memory →
    AnswersQuestion text tokens a → a ≡ shown_question (length text) (question_at most_nested (lexemes text tokens))
question_shown text tokens (Ok q) other b =
    sym (ap (shown_question (length text)) (read_gives most_nested (question_at most_nested) QuestionPhrase is_left
    (reads_just (reads_question most_nested)) (ends_question most_nested) refl (lexemes text tokens) q b.0 b.1))
question_shown text tokens (Err e) other b =
    let g = refused (question_at most_nested) QuestionPhrase is_left (reads_just (reads_question most_nested))
    (ends_question most_nested) refl (place (length text)) (lexemes text tokens) e (λ is. other (ap Err is)) b in
    ap Err g.2 ∙ sym (ap (shown_question (length text)) g.1)

abbrev shown_type : ℕ → ℕ → ℕ → Result (WrittenTree × List Lexeme) Halt → Result (WrittenTree × ℕ) SyntaxFault
shown_type end from count (Ok x) = Ok (x.0, from + (count - length x.1))
shown_type end from count (Err h) = Err (fault_of end h)

type_shown : (text : List ℕ) (tokens : List Token) (from : ℕ) (a : Result (WrittenTree × ℕ) SyntaxFault) → a ≢ Err fault.Memory →
    AnswersType text tokens from a →
    a ≡ shown_type (length text) from (length (drop from (lexemes text tokens)))
    (type_at most_nested (drop from (lexemes text tokens)))
type_shown text tokens from (Ok x) other b =
    let ts = drop from (lexemes text tokens) in
    let read = read_gives most_nested (type_at most_nested) (TypePhrase 0) lengthens
    (reads_just (reads_type most_nested most_nested 0 refl)) (ends_type most_nested) refl ts x.0 b.0 b.1 in
    let end : x.1 ≡ from + (length ts - length b.0) = omega (arith, b.2, ap length b.1.0.parts, length-append b.1.0.tokens b.0) in
    ap (λ (n : ℕ). Ok (x.0, n)) end ∙ sym (ap (shown_type (length text) from (length ts)) read)
type_shown text tokens from (Err e) other b =
    let ts = drop from (lexemes text tokens) in
    let g = refused (type_at most_nested) (TypePhrase 0) lengthens (reads_just (reads_type most_nested most_nested 0 refl))
    (ends_type most_nested) refl (place (length text)) ts e (λ is. other (ap Err is)) b in
    ap Err g.2 ∙ sym (ap (shown_type (length text) from (length ts)) g.1)

abbrev done : {A : Type 0} → A × List Lexeme → Result (A × List Lexeme) Halt
done x = Ok x

done_is : {A : Type 0} (x y : A × List Lexeme) → done x ≡ done y → x ≡ y
done_is x y e = cc

one_type : (ts : List Lexeme) (t u : WrittenTree) (x y : List Lexeme) → Begins (TypePhrase 0) lengthens ts t x →
    Begins (TypePhrase 0) lengthens ts u y → (t ≡ u) × (x ≡ y)
one_type ts t u x y a b =
    let n = max (most a.nests) (most b.nests) in
    let one = read_gives n (type_at n) (TypePhrase 0) lengthens (reads_just (reads_type n n 0 (omega arith)))
    (ends_type n) refl ts t x (a, IsWithinLimit-most n a.nests (omega arith)) in
    let two = read_gives n (type_at n) (TypePhrase 0) lengthens (reads_just (reads_type n n 0 (omega arith)))
    (ends_type n) refl ts u y (b, IsWithinLimit-most n b.nests (omega arith)) in
    let same = done_is (t, x) (u, y) (sym one ∙ two) in
    (ap (λ (p : WrittenTree × List Lexeme). p.0) same, ap (λ (p : WrittenTree × List Lexeme). p.1) same)

abbrev whole : (ts : List Lexeme) (q : Asked) (s : IsQuestion ts q) → Begins QuestionPhrase is_left ts q []
whole ts q s = record { tokens = ts; nests = question_nests s; parts = sym (append-nil ts); phrase = (s, refl); ended = refl }

one_question : (ts : List Lexeme) (q r : Asked) → IsQuestion ts q → IsQuestion ts r → q ≡ r
one_question ts q r a b =
    let n = max (most (question_nests a)) (most (question_nests b)) in
    let one = read_gives n (question_at n) QuestionPhrase is_left (reads_just (reads_question n)) (ends_question n) refl ts q []
    (whole ts q a, IsWithinLimit-most n (question_nests a) (omega arith)) in
    let two = read_gives n (question_at n) QuestionPhrase is_left (reads_just (reads_question n)) (ends_question n) refl ts r []
    (whole ts r b, IsWithinLimit-most n (question_nests b) (omega arith)) in
    ap (λ (p : Asked × List Lexeme). p.0) (done_is (q, []) (r, []) (sym one ∙ two))

pub one_reading : OneReading
one_reading = record {
  one_type = one_type;
  one_question = one_question;
  one_type_answer = λ text tokens from a b some none p q. type_shown text tokens from a some p
      ∙ sym (type_shown text tokens from b none q);
  one_question_answer = λ text tokens a b some none p q. question_shown text tokens a some p
      ∙ sym (question_shown text tokens b none q);
}
