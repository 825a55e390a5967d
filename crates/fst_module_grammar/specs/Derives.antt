-- What the tokens of a text are: a module, or where they stop being one.
use Rattle.std.specs.Prelude.{◌≡◌, ◌≢◌, ◌⊎◌, ℕ, ◌-◌, List, [], length, take, map, Result, Ok, Err}
use Rattle.fst_lexer.specs.declared.token.Token.{Token}
use Rattle.fst_terms.specs.ModuleTree.{Declared}
use Rattle.fst_reading.specs.declared.fault.SyntaxFault.{SyntaxFault}
use Rattle.fst_reading.specs.declared.fault.SyntaxFault.TheVariants as fault
use Rattle.fst_base.specs.Limits.{most_nested}
use Rattle.fst_reading.specs.Lexeme.{lexeme, place}
use Rattle.fst_reading.specs.Faults.{PhraseOf, BeginsWithinLimit, is_left, Refuses}
use Rattle.fst_module_grammar.specs.Grammar.{Lined, lexemes_of, IsModule}
use Rattle.fst_module_grammar.specs.Nesting.{module_nests}

-- a token of a text, and whether it begins a line
abbrev pub line_lexeme : List ℕ → Token → Lined
line_lexeme text k = record { first = k.first_column; lexeme = lexeme text k }

-- the tokens of a text without the one at its end
abbrev pub line_lexemes : List ℕ → List Token → List Lined
line_lexemes text tokens = map (line_lexeme text) (take (length tokens - 1) tokens)

-- where the first token begins, and where none is left the text ends
abbrev pub line_place : ℕ → List Lined → ℕ
line_place end ts = place end (lexemes_of ts)

-- a module, with the nesting of each of its tokens
abbrev pub ModulePhrase : PhraseOf Lined (List Declared)
ModulePhrase ts ds ns = (s : IsModule ts ds) × (module_nests s ≡ ns)

-- the tokens of the text are this module, or why they are none
abbrev pub AnswersModule : List ℕ → List Token → Result (List Declared) SyntaxFault → Type 0
AnswersModule text tokens (Ok ds) =
    BeginsWithinLimit most_nested ModulePhrase is_left (line_lexemes text tokens) ds []
AnswersModule text tokens (Err e) =
    Refuses ModulePhrase is_left (line_place (length text)) (line_lexemes text tokens) e

-- a list of tokens is at most one module, a text has at most one answer, and a module is read where no token is too deep
pub record OneModule : Type 0 where
  pub one_module : (ts : List Lined) (ds es : List Declared) → IsModule ts ds → IsModule ts es →
      ds ≡ es
  pub one_answer : (text : List ℕ) (tokens : List Token)
      (a b : Result (List Declared) SyntaxFault) →
      a ≢ Err fault.Memory → b ≢ Err fault.Memory → AnswersModule text tokens a →
      AnswersModule text tokens b → a ≡ b
  pub answered : (text : List ℕ) (tokens : List Token) (ds : List Declared) →
      IsModule (line_lexemes text tokens) ds →
      AnswersModule text tokens (Ok ds) ⊎
      ((at : ℕ) × AnswersModule text tokens (Err (fault.TooDeep at)))
