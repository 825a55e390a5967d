-- Why an input isn't what its command is for. What comes first in the order of refusals is found: tokens, then syntax and
-- nesting, then names and sizes, in each the first by its place, then kinds, of the left type before those of the right one. For `show` only tokens, syntax and nesting count; for `check` also names and sizes.
use Rattle.std.specs.Prelude.{◌≡◌, ◌⊎◌, ℕ, List, Option, Some, None, Result, Ok, Err}
use Rattle.fst_types.specs.Tree.{Tree}
use Rattle.fst_types.specs.declared.kind.Kind.{Kind}
use Rattle.fst_kinds.specs.declared.fault.KindFault.{KindFault}
use Rattle.fst_kinds.specs.declared.fault.KindFault.TheVariants as kind
use Rattle.fst_kinds.specs.Walk.{walk, and_next, needs_session}
use Rattle.fst_kinds.specs.WellFormed.{IsSession}
use Rattle.fst_lexer.specs.declared.token.Token.{Token}
use Rattle.fst_lexer.specs.declared.token.LexFault.TheVariants as lexical
use Rattle.fst_lexer.specs.Lexes.{Lexes, Refuses}
use Rattle.fst_reading.specs.declared.fault.SyntaxFault.{SyntaxFault}
use Rattle.fst_reading.specs.declared.fault.SyntaxFault.TheVariants as syntax
use Rattle.fst_type_syntax.specs.Grammar.{Asked}
use Rattle.fst_type_syntax.specs.Derives.{AnswersQuestion}
use Rattle.fst_module_grammar.specs.Derives.{AnswersModule}
use Rattle.fst_type_print.specs.declared.refusals.Phrase.{Phrase}
use Rattle.fst_type_print.specs.declared.refusals.Phrase.TheVariants as phrase
use Rattle.fst_scopes.specs.declared.fault.NameFault.{NameFault}
use Rattle.fst_scopes.specs.declared.fault.NameFault.TheVariants as naming
use Rattle.fst_terms.specs.ModuleTree.{Declared}
use Rattle.fst_terms.specs.declared.core_module.Module.{Module}
use Rattle.fst_names.specs.declared.question.Question.{Question}
use Rattle.fst_names.specs.Faults.{question_faults}
use Rattle.fst_scopes.specs.First.{first_fault}
use Rattle.fst_names.specs.Resolved.{IsResolved}
use Rattle.fst_names.specs.ResolvedModule.{IsFirstFault, IsResolvedModule}

-- an input is refused at a byte, or a token there is nested too deep, or a type there is too large
pub data Finding : Type 0 where
  refused : ℕ → Phrase → Finding
  too_deep : ℕ → Finding
  too_large : ℕ → Finding

-- ---- tokens and syntax

-- the bytes have no tokens
pub data LexicalFinding (bytes : List ℕ) (f : Finding) : Type 0 where
  not_utf8 : (at : ℕ) → Refuses bytes (lexical.NotUtf8 at) → f ≡ refused at phrase.NotUtf8 →
      LexicalFinding bytes f
  bad_char : (at : ℕ) → Refuses bytes (lexical.BadChar at) → f ≡ refused at phrase.BadChar →
      LexicalFinding bytes f
  wide_number : (at : ℕ) → Refuses bytes (lexical.WideNumber at) →
      f ≡ refused at phrase.WideNumber → LexicalFinding bytes f
  long_name : (at : ℕ) → Refuses bytes (lexical.LongName at) → f ≡ refused at phrase.LongName →
      LexicalFinding bytes f

-- the tokens are read as nothing, for a fault that the reader has
pub data SyntaxFinding (Stops : SyntaxFault → Type 0) (f : Finding) : Type 0 where
  stopped : (at : ℕ) → Stops (syntax.Syntax at) → f ≡ refused at phrase.Syntax →
      SyntaxFinding Stops f
  deep : (at : ℕ) → Stops (syntax.TooDeep at) → f ≡ too_deep at → SyntaxFinding Stops f

-- the bytes are read as this
pub record IsRead {A : Type 0} (Reads : List ℕ → List Token → Result A SyntaxFault → Type 0)
    (bytes : List ℕ) (x : A) : Type 0 where
  pub tokens : List Token
  pub lexes : Lexes bytes tokens
  pub reads : Reads bytes tokens (Ok x)

-- the bytes have no tokens, or such as are read as nothing
pub data IsUnread {A : Type 0} (Reads : List ℕ → List Token → Result A SyntaxFault → Type 0)
    (bytes : List ℕ) (f : Finding) : Type 0 where
  no_tokens : LexicalFinding bytes f → IsUnread Reads bytes f
  no_reading : (tokens : List Token) → Lexes bytes tokens → SyntaxFinding
      (λ e. Reads bytes tokens (Err e)) f → IsUnread Reads bytes f

-- ---- names and sizes

-- what is found of a fault of names and sizes; want of memory is none
abbrev pub name_finding : NameFault → Option Finding
name_finding (naming.Unbound at x) = Some (refused at (phrase.Unbound x))
name_finding (naming.Twice at x) = Some (refused at (phrase.Twice x))
name_finding (naming.Arity at got wanted) = Some (refused at (phrase.Arity got wanted))
name_finding (naming.AliasLoop at x) = Some (refused at (phrase.AliasLoop x))
name_finding (naming.TooLarge at) = Some (too_large at)
name_finding naming.NoMain = Some (refused 0 phrase.NoMain)
name_finding naming.Memory = None

-- ---- kinds

-- the kind of a type over variables of these kinds, which has to be below 1S, or the first fault
abbrev pub session_kind : List Kind → Tree → Result Kind KindFault
session_kind vars t = and_next (walk vars t) (λ k. needs_session k (Ok k))

-- a type over variables of these kinds that is written at a byte is no session type
pub data KindFinding (vars : List Kind) (t : Tree) (at : ℕ) (f : Finding) : Type 0 where
  not_contractive : session_kind vars t ≡ Err kind.NotContractive →
      f ≡ refused at phrase.NotContractive → KindFinding vars t at f
  wrong_kind : (got wanted : Kind) → session_kind vars t ≡ Err (kind.WrongKind got wanted) →
      f ≡ refused at (phrase.WrongKind got wanted) → KindFinding vars t at f
  unbound_type : (k : ℕ) → session_kind vars t ≡ Err (kind.UnboundType k) →
      f ≡ refused at (phrase.UnboundType k) → KindFinding vars t at f
  double_label : (l : List ℕ) → session_kind vars t ≡ Err (kind.DoubleLabel l) →
      f ≡ refused at (phrase.DoubleLabel l) → KindFinding vars t at f

-- a type over variables of these kinds is a session type, and the walk of kinds finds no fault in it
pub record IsFaultless (vars : List Kind) (t : Tree) : Type 0 where
  pub session : IsSession vars t
  pub kind : Kind
  pub walked : session_kind vars t ≡ Ok kind

-- of the two types that a question asks about one is no session type: the left one, or only the right one
pub data KindsFinding (asked : Question) (f : Finding) : Type 0 where
  left : KindFinding asked.kinds.items asked.left asked.left_at f → KindsFinding asked f
  right : IsFaultless asked.kinds.items asked.left →
      KindFinding asked.kinds.items asked.right asked.right_at f → KindsFinding asked f

-- ---- questions and modules

-- a question asks about two session types over its variables
pub record Asks (q : Asked) (asked : Question) : Type 0 where
  pub resolved : IsResolved q asked
  pub left : IsFaultless asked.kinds.items asked.left
  pub right : IsFaultless asked.kinds.items asked.right

-- a question asks about no two session types: it has a fault of names and sizes, of which the first is found, or else one
-- of kinds
pub data QuestionFinding (q : Asked) (f : Finding) : Type 0 where
  names : (fault : NameFault) → first_fault (question_faults q) ≡ Some fault →
      name_finding fault ≡ Some f → QuestionFinding q f
  kinds : (asked : Question) → IsResolved q asked → KindsFinding asked f → QuestionFinding q f

-- the bytes are a question of two session types
pub record AreAsked (bytes : List ℕ) (asked : Question) : Type 0 where
  pub question : Asked
  pub read : IsRead AnswersQuestion bytes question
  pub asks : Asks question asked

-- the bytes are no question of two session types
abbrev pub IsNoQuestion : List ℕ → Finding → Type 0
IsNoQuestion bytes f = IsUnread AnswersQuestion bytes f ⊎
    ((q : Asked) × IsRead AnswersQuestion bytes q × QuestionFinding q f)

-- the bytes are no module
abbrev pub IsNoModule : List ℕ → Finding → Type 0
IsNoModule bytes f = IsUnread AnswersModule bytes f

-- a source stands for no module: it has a fault of names and sizes, of which the first is found
pub record NamesFinding (ds : List Declared) (f : Finding) : Type 0 where
  pub fault : NameFault
  pub first : IsFirstFault ds fault
  pub says : name_finding fault ≡ Some f

-- the bytes are a source that stands for the module
pub record AreResolved (bytes : List ℕ) (m : Module) : Type 0 where
  pub declared : List Declared
  pub read : IsRead AnswersModule bytes declared
  pub resolved : IsResolvedModule declared m

-- the bytes are no such source
abbrev pub AreUnresolved : List ℕ → Finding → Type 0
AreUnresolved bytes f = IsUnread AnswersModule bytes f ⊎
    ((ds : List Declared) × IsRead AnswersModule bytes ds × NamesFinding ds f)
