-- What the readers answer is what stands there.
use Rattle.std.proofs.Common.{◌≡◌, ℕ, ◌+◌, ◌-◌, ◌≤◌, List, [], length, drop, Ok, Err, refl, ap, arith, length-append}
use Rattle.fst_types.specs.WrittenTree.{WrittenTree}
use Rattle.fst_lexer.specs.declared.token.Token.{Token}
use Rattle.fst_reading.specs.declared.stop.Stop.{Stop}
use Rattle.fst_reading.specs.declared.stop.Stop.TheVariants as stop
use Rattle.fst_base.specs.Limits.{most_nested}
use Rattle.fst_reading.specs.Lexeme.{Lexeme, lexemes, place}
use Rattle.fst_type_syntax.specs.Grammar.{Asked}
use Rattle.fst_type_syntax.specs.Derives.{TypePhrase, QuestionPhrase, lengthens, AnswersQuestion, AnswersType}
use Rattle.fst_reading.specs.Faults.{is_left}
use Rattle.fst_reading.specs.Gives.{Fails, fault_view}
use Rattle.fst_reading.specs.Reading.{Syntax, Deep}
use Rattle.fst_type_syntax.specs.TypeReading.{type_at, question_at}
use Rattle.fst_reading.proofs.Phrases.{reads_just}
use Rattle.fst_reading.proofs.Exactness.{is_read}
use Rattle.fst_reading.proofs.Answers.{refuses}
use Rattle.fst_type_syntax.proofs.Ends.{ends_type, ends_question}
use Rattle.fst_type_syntax.proofs.TypeReads.{reads_type}
use Rattle.fst_type_syntax.proofs.QuestionReads.{reads_question}

pub question_read : (text : List ℕ) (tokens : List Token) (q : Asked) →
    question_at most_nested (lexemes text tokens) ≡ Ok (q, []) → AnswersQuestion text tokens (Ok q)
question_read text tokens q e = (
  [],
  is_read most_nested (question_at most_nested) QuestionPhrase is_left
      (reads_just (reads_question most_nested)) (ends_question most_nested) refl (lexemes text tokens) q [] e,
)

pub question_stopped : (text : List ℕ) (tokens : List Token) (s : Stop) →
    Fails s (question_at most_nested (lexemes text tokens)) → AnswersQuestion text tokens (Err (fault_view (length text) s))
question_stopped text tokens stop.Memory e = tt
question_stopped text tokens (stop.Syntax ts) e =
    refuses (question_at most_nested) QuestionPhrase is_left (reads_just (reads_question most_nested))
    (ends_question most_nested) refl (place (length text)) (lexemes text tokens) (Syntax ts.now) e
question_stopped text tokens (stop.TooDeep ts) e =
    refuses (question_at most_nested) QuestionPhrase is_left (reads_just (reads_question most_nested))
    (ends_question most_nested) refl (place (length text)) (lexemes text tokens) (Deep ts.now) e

pub type_read : (text : List ℕ) (tokens : List Token) (from : ℕ) (t : WrittenTree) (rest : List Lexeme) →
    type_at most_nested (drop from (lexemes text tokens)) ≡ Ok (t, rest) →
    AnswersType text tokens from (Ok (t, from + (length (drop from (lexemes text tokens)) - length rest)))
type_read text tokens from t rest e =
    let ts = drop from (lexemes text tokens) in
    let b = is_read most_nested (type_at most_nested) (TypePhrase 0) lengthens
    (reads_just (reads_type most_nested most_nested 0 refl)) (ends_type most_nested) refl ts t rest e in
    (rest, b, omega (arith, ap length b.0.parts, length-append b.0.tokens rest))

pub type_stopped : (text : List ℕ) (tokens : List Token) (from : ℕ) (s : Stop) →
    Fails s (type_at most_nested (drop from (lexemes text tokens))) →
    AnswersType text tokens from (Err (fault_view (length text) s))
type_stopped text tokens from stop.Memory e = tt
type_stopped text tokens from (stop.Syntax ts) e =
    refuses (type_at most_nested) (TypePhrase 0) lengthens (reads_just (reads_type most_nested most_nested 0 refl))
    (ends_type most_nested) refl (place (length text)) (drop from (lexemes text tokens)) (Syntax ts.now) e
type_stopped text tokens from (stop.TooDeep ts) e =
    refuses (type_at most_nested) (TypePhrase 0) lengthens (reads_just (reads_type most_nested most_nested 0 refl))
    (ends_type most_nested) refl (place (length text)) (drop from (lexemes text tokens)) (Deep ts.now) e

-- no more is left than there was
pub no_more : (n : ℕ) (ts : List Lexeme) (t : WrittenTree) (rest : List Lexeme) → type_at n ts ≡ Ok (t, rest) →
    length rest ≤ length ts
no_more n ts t rest e = let q = (reads_type n n 0 (omega arith)).found ts t rest e in
    omega (arith, ap length q.parts, length-append q.tokens rest)

-- what a question's reader answers
pub ruleset question_answers = (question_read, question_stopped)

-- what a type's reader answers
pub ruleset type_answers = (type_read, type_stopped, no_more)
