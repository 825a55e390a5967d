-- What stands in the text of a question is a question of the same types.
use Rattle.std.specs.Prelude.{◌≡◌, ◌≢◌, ◌≤◌, ℕ, List, [], length, map, All, Some, None, Ok}
use Rattle.std.specs.Str.{byte}
use Rattle.fst_base.specs.Limits.{most_bytes}
use Rattle.fst_types.specs.Tree.{Tree}
use Rattle.fst_types.specs.declared.kind.Kind.{Kind}
use Rattle.fst_kinds.specs.WellFormed.{IsSession}
use Rattle.fst_lexer.specs.declared.token.Token.{Token}
use Rattle.fst_lexer.specs.Lexes.{Lexes}
use Rattle.fst_terms.specs.declared.binder.Binder.{Binder}
use Rattle.fst_terms.specs.Naming.{Scope, type_of}
use Rattle.fst_type_syntax.specs.Grammar.{Asked}
use Rattle.fst_type_syntax.specs.Derives.{AnswersQuestion}
use Rattle.fst_scopes.specs.Faults.{type_faults}
use Rattle.fst_scopes.specs.Twice.{names, twice, variables}
use Rattle.fst_scopes.specs.TypeNames.{scope_with}
use Rattle.fst_type_print.specs.Texts.{question_text}

-- what is in scope in a question: its variables
abbrev pub question_scope : Asked → Scope
question_scope q = scope_with (names (variables q.binders)) (λ x. None) (λ x. None)

-- the question has no faults, and asks about these types over variables of these kinds
pub record IsQuestionOf (q : Asked) (kinds : List Kind) (t u : Tree) : Type 0 where
  pub once : twice (variables q.binders) ≡ []
  pub left_named : type_faults (question_scope q) q.left ≡ []
  pub right_named : type_faults (question_scope q) q.right ≡ []
  pub kinds_are : kinds ≡ map (λ (b : Binder × Kind). b.1) q.binders
  pub left_is : type_of (question_scope q) q.left ≡ Some t
  pub right_is : type_of (question_scope q) q.right ≡ Some u

-- the tokens of the question's text, which is one line, are a question of the same types
pub record IsAskedAgain (kinds : List Kind) (t u : Tree) : Type 0 where
  pub tokens : List Token
  pub read : Asked
  pub lexes : Lexes (question_text kinds t u) tokens
  pub reads : AnswersQuestion (question_text kinds t u) tokens (Ok read)
  pub asks : IsQuestionOf read kinds t u
  pub one_line : All (λ b. b ≢ byte "\n") (question_text kinds t u)

-- so do those of each question about session types that a text has
abbrev pub AskedAgain : Type 0
AskedAgain = (text : List ℕ) (tokens : List Token) (q : Asked) (kinds : List Kind) (t u : Tree) →
    length text ≤ most_bytes → Lexes text tokens → AnswersQuestion text tokens (Ok q) →
    IsQuestionOf q kinds t u → IsSession kinds t → IsSession kinds u → IsAskedAgain kinds t u
