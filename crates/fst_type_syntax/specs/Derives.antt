-- What the tokens of a text are: a question, or a type and what stands behind it; or where they stop being one.
use Rattle.std.specs.Prelude.{◌≡◌, ◌≢◌, ℕ, ◌+◌, Bool, ◌||◌, List, length, drop, Result, Ok, Err, codes}
use Rattle.fst_types.specs.WrittenTree.{WrittenTree}
use Rattle.fst_types.specs.declared.kind.Kind.{Kind}
use Rattle.fst_terms.specs.declared.binder.Binder.{Binder}
use Rattle.fst_lexer.specs.declared.token.Token.{Token}
use Rattle.fst_reading.specs.declared.fault.SyntaxFault.{SyntaxFault}
use Rattle.fst_reading.specs.declared.fault.SyntaxFault.TheVariants as fault
use Rattle.fst_base.specs.Limits.{most_nested}
use Rattle.fst_reading.specs.Lexeme.{Lexeme, lexemes, place, spells, is_one}
use Rattle.fst_type_syntax.specs.Grammar.{IsType, IsSeq, IsAtom, IsBinders, Asked, IsQuestion}
use Rattle.fst_type_syntax.specs.Nesting.{type_nests, seq_nests, atom_nests, question_nests}
use Rattle.fst_reading.specs.Faults.{Phrase, Begins, BeginsWithinLimit, is_left, Refuses, level}
use Rattle.fst_reading.specs.Reading.{begins}

-- a type with the nesting of each of its tokens, where this much encloses it
abbrev pub TypePhrase : ℕ → Phrase WrittenTree
TypePhrase d ts t ns = (s : IsType ts t) × (type_nests d s ≡ ns)

-- the same of a `seqtype` and of a `tatom`, where their own tokens have this nesting
abbrev pub SeqPhrase : ℕ → Phrase WrittenTree
SeqPhrase d ts t ns = (s : IsSeq ts t) × (seq_nests d s ≡ ns)

-- an atomic type, with the nesting of each of its tokens
abbrev pub AtomPhrase : ℕ → Phrase WrittenTree
AtomPhrase d ts t ns = (s : IsAtom ts t) × (atom_nests d s ≡ ns)

-- variables with their kinds, of which no token is nested
abbrev pub BindersPhrase : Phrase (List (Binder × Kind))
BindersPhrase ts bs ns = IsBinders ts bs × (level 0 ts ≡ ns)

-- a question, with the nesting of each of its tokens
abbrev pub QuestionPhrase : Phrase Asked
QuestionPhrase ts q ns = (s : IsQuestion ts q) × (question_nests s ≡ ns)

-- what stands here may make a `seqtype` longer: `;`
abbrev pub lengthens_seq : List Lexeme → Bool
lengthens_seq ts = begins (spells (codes ";")) ts

-- what stands here may make a type longer: `;`, `->` or a number of value 1
abbrev pub lengthens : List Lexeme → Bool
lengthens ts = lengthens_seq ts || (begins (spells (codes "->")) ts || begins is_one ts)

-- the tokens of the text are this question, or why they are none
abbrev pub AnswersQuestion : List ℕ → List Token → Result Asked SyntaxFault → Type 0
AnswersQuestion text tokens (Ok q) =
    (rest : List Lexeme) × BeginsWithinLimit most_nested QuestionPhrase is_left
    (lexemes text tokens) q rest
AnswersQuestion text tokens (Err e) =
    Refuses QuestionPhrase is_left (place (length text)) (lexemes text tokens) e

-- from one of its tokens on the text has this type up to another, or why it has none
abbrev pub AnswersType : List ℕ → List Token → ℕ → Result (WrittenTree × ℕ) SyntaxFault → Type 0
AnswersType text tokens from (Ok x) =
    (rest : List Lexeme) × (b : BeginsWithinLimit most_nested (TypePhrase 0) lengthens
    (drop from (lexemes text tokens)) x.0 rest) × (x.1 ≡ from + length b.0.tokens)
AnswersType text tokens from (Err e) =
    Refuses (TypePhrase 0) lengthens (place (length text)) (drop from (lexemes text tokens)) e

-- a list of tokens is at most one question, and begins with at most one type; and a text has at most one answer of each
pub record OneReading : Type 0 where
  pub one_type : (ts : List Lexeme) (t u : WrittenTree) (x y : List Lexeme) →
      Begins (TypePhrase 0) lengthens ts t x → Begins (TypePhrase 0) lengthens ts u y → (t ≡ u) ×
      (x ≡ y)
  pub one_question : (ts : List Lexeme) (q r : Asked) → IsQuestion ts q → IsQuestion ts r → q ≡ r
  pub one_type_answer : (text : List ℕ) (tokens : List Token) (from : ℕ)
      (a b : Result (WrittenTree × ℕ) SyntaxFault) →
      a ≢ Err fault.Memory → b ≢ Err fault.Memory → AnswersType text tokens from a →
      AnswersType text tokens from b → a ≡ b
  pub one_question_answer : (text : List ℕ) (tokens : List Token) (a b : Result Asked SyntaxFault) →
      a ≢ Err fault.Memory → b ≢ Err fault.Memory → AnswersQuestion text tokens a →
      AnswersQuestion text tokens b → a ≡ b
