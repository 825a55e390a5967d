-- What is found of an input.
use Rattle.std.proofs.Common.{◌≡◌, false, inl, inr, ℕ, List, Some, Result, Ok, Err, refl, sym, ap, subst}
use Rattle.std.specs.Prelude.{◌≢◌, IfOk, IfErr}
use Rattle.std.specs.Result.{IsErrAnd}
use Rattle.fst_types.specs.Tree.{Tree}
use Rattle.fst_types.specs.declared.kind.Kind.{Kind}
use Rattle.fst_kinds.specs.Kinds.{session, subkind}
use Rattle.fst_kinds.specs.Walk.{walk, Answers}
use Rattle.fst_types.specs.declared.kind.Use.TheVariants.{Once}
use Rattle.fst_kinds.specs.declared.fault.KindFault.{KindFault}
use Rattle.fst_kinds.specs.declared.fault.KindFault.TheVariants as kind
use Rattle.fst_lexer.specs.declared.token.LexFault.{LexFault}
use Rattle.fst_lexer.specs.declared.token.LexFault.TheVariants as lexical
use Rattle.fst_lexer.specs.declared.token.Token.{Token}
use Rattle.fst_lexer.specs.Lexes.{Lexes, Refuses}
use Rattle.fst_reading.specs.declared.fault.SyntaxFault.{SyntaxFault}
use Rattle.fst_reading.specs.declared.fault.SyntaxFault.TheVariants as syntax
use Rattle.fst_type_syntax.specs.Grammar.{Asked}
use Rattle.fst_type_syntax.specs.Derives.{AnswersQuestion}
use Rattle.fst_scopes.specs.declared.fault.NameFault.{NameFault}
use Rattle.fst_scopes.specs.declared.fault.NameFault.TheVariants as naming
use Rattle.fst_names.specs.declared.question.Question.{Question}
use Rattle.fst_names.specs.Faults.{question_faults}
use Rattle.fst_scopes.specs.First.{first_fault}
use Rattle.fst_names.specs.Resolved.{IsResolved}
use Rattle.fst_type_print.specs.declared.refusals.Phrase.TheVariants as phrase
use Rattle.fst_command.specs.declared.finding.Fault.{Fault}
use Rattle.fst_command.specs.declared.finding.Fault.TheVariants as fault
use Rattle.fst_command.specs.Finding.{Finding, refused, too_large, LexicalFinding, not_utf8, bad_char, wide_number, long_name, SyntaxFinding, IsRead, IsUnread, no_tokens, no_reading, name_finding, session_kind, KindFinding, not_contractive, wrong_kind, unbound_type, double_label, IsFaultless, Asks, AreAsked, QuestionFinding, kinds, IsNoQuestion}
use Rattle.fst_command.specs.Finding as finding
use Rattle.fst_command.specs.Views.{IfFound, lexical_fault, syntax_fault, name_fault, kind_fault}

-- ---- faults

-- what holds of a fault holds of the error that it is
pub of_fault : {A : Type 0} (r : Result A Fault) (g : Fault) (P : Fault → Type 0) → IsErrAnd r (λ f. f ≡ g) → P g → IfErr r P
of_fault (Ok x) g P is h = tt
of_fault (Err f) g P is h = subst P (sym is) h

-- of what is found something else holds too
pub if_found : (P Q : Finding → Type 0) (f : Fault) → ((g : Finding) → P g → Q g) → IfFound f P → IfFound f Q
if_found P Q (fault.Refused at p) step h = step (refused at p) h
if_found P Q (fault.TooDeep at) step h = step (finding.too_deep at) h
if_found P Q (fault.TooLarge at) step h = step (too_large at) h
if_found P Q fault.Memory step h = tt

pub lexical_found : (bytes : List ℕ) (e : LexFault) → Refuses bytes e → IfFound (lexical_fault e) (LexicalFinding bytes)
lexical_found bytes (lexical.NotUtf8 at) h = not_utf8 at h refl
lexical_found bytes (lexical.BadChar at) h = bad_char at h refl
lexical_found bytes (lexical.WideNumber at) h = wide_number at h refl
lexical_found bytes (lexical.LongName at) h = long_name at h refl
lexical_found bytes lexical.Memory h = tt

pub syntax_found : (Stops : SyntaxFault → Type 0) (e : SyntaxFault) → Stops e → IfFound (syntax_fault e) (SyntaxFinding Stops)
syntax_found Stops (syntax.Syntax at) h = finding.stopped at h refl
syntax_found Stops (syntax.TooDeep at) h = finding.deep at h refl
syntax_found Stops syntax.Memory h = tt

pub kind_found : (vars : List Kind) (t : Tree) (at : ℕ) (e : KindFault) → session_kind vars t ≡ Err e →
    IfFound (kind_fault at e) (KindFinding vars t at)
kind_found vars t at kind.NotContractive h = not_contractive h refl
kind_found vars t at (kind.WrongKind got wanted) h = wrong_kind got wanted h refl
kind_found vars t at (kind.UnboundType k) h = unbound_type k h refl
kind_found vars t at (kind.DoubleLabel l) h = double_label l h refl
kind_found vars t at kind.Memory h = tt

-- ---- names and sizes

-- a fault says what is found of it
pub said_found : (P : Finding → Type 0) (e : NameFault) →
    ((g : Finding) → name_finding e ≡ Some g → P g) → IfFound (name_fault e) P
said_found P (naming.Unbound at x) h = h (refused at (phrase.Unbound x)) refl
said_found P (naming.Twice at x) h = h (refused at (phrase.Twice x)) refl
said_found P (naming.Arity at got wanted) h = h (refused at (phrase.Arity got wanted)) refl
said_found P (naming.AliasLoop at x) h = h (refused at (phrase.AliasLoop x)) refl
said_found P (naming.TooLarge at) h = h (too_large at) refl
said_found P naming.NoMain h = h (refused 0 phrase.NoMain) refl
said_found P naming.Memory h = tt

-- the first fault of a question's names and sizes
pub name_found : (q : Asked) (e : NameFault) →
    (e ≢ naming.Memory → first_fault (question_faults q) ≡ Some e) → IfFound (name_fault e) (QuestionFinding q)
name_found q e first = said_found (QuestionFinding q) e
    (λ g says. finding.names e (first (λ is. absurd (cc (says, ap name_finding is)))) says)

-- ---- kinds

-- a type of which the walk finds a fault
pub session_refused : (vars : List Kind) (t : Tree) (at : ℕ) (e : KindFault) (f : Fault) → f ≡ kind_fault at e →
    Answers (walk vars t) (Err e) → IfFound f (KindFinding vars t at)
session_refused vars t at e f is (inl h) = subst
    (λ z. IfFound z (KindFinding vars t at)) (sym is) (kind_found vars t at e (rw (← h) refl))
session_refused vars t at e f is (inr h) =
    let wanted : e ≡ kind.Memory = cc in
    subst (λ z. IfFound z (KindFinding vars t at)) (sym is)
    (subst (λ x. IfFound (kind_fault at x) (KindFinding vars t at)) (sym wanted) tt)

-- a type of a kind that isn't below 1S
pub session_wrong : (vars : List Kind) (t : Tree) (at : ℕ) (k : Kind) (f : Fault) →
    f ≡ kind_fault at (kind.WrongKind k (session Once)) → Answers (walk vars t) (Ok k) → subkind k (session Once) ≡ false →
    IfFound f (KindFinding vars t at)
session_wrong vars t at k f is (inr h) below = absurd (cc h)
session_wrong vars t at k f is (inl h) below =
    subst (λ z. IfFound z (KindFinding vars t at)) (sym is)
    (kind_found vars t at (kind.WrongKind k (session Once)) (rw (← h, below) refl))

-- a fault of the left type
pub left_kind : (q : Asked) (asked : Question) (f : Fault) → IsResolved q asked →
    IfFound f (KindFinding asked.kinds.items asked.left asked.left_at) → IfFound f (QuestionFinding q)
left_kind q asked f is h =
    if_found (KindFinding asked.kinds.items asked.left asked.left_at) (QuestionFinding q) f
    (λ g k. kinds asked is (finding.left k)) h

-- a fault of the right type, where the left one has none
pub right_kind : (q : Asked) (asked : Question) (f : Fault) → IsResolved q asked → IsFaultless asked.kinds.items asked.left →
    IfFound f (KindFinding asked.kinds.items asked.right asked.right_at) → IfFound f (QuestionFinding q)
right_kind q asked f is left h =
    if_found (KindFinding asked.kinds.items asked.right asked.right_at) (QuestionFinding q) f
    (λ g k. kinds asked is (finding.right left k)) h

-- ---- what is read

module _ {A : Type 0} (Reads : List ℕ → List Token → Result A SyntaxFault → Type 0) where
  -- an answer about equal texts and tokens
  pub same_answer : (text bytes : List ℕ) (ts us : List Token) (a : Result A SyntaxFault) → text ≡ bytes → ts ≡ us →
      Reads text ts a → Reads bytes us a
  same_answer text bytes ts us a e g p = subst (λ z. Reads bytes z a) g (subst (λ z. Reads z ts a) e p)

  -- bytes without tokens
  pub lexical_unread : {B : Type 0} (IsNone : Finding → Type 0) (bytes : List ℕ) →
      ((f : Finding) → IsUnread Reads bytes f → IsNone f) → (e : LexFault) (r : Result B Fault) →
      IsErrAnd r (λ f. f ≡ lexical_fault e) → Refuses bytes e → IfErr r (λ f. IfFound f IsNone)
  lexical_unread IsNone bytes none e r is h =
      of_fault r (lexical_fault e) (λ f. IfFound f IsNone) is
      (if_found (LexicalFinding bytes) IsNone (lexical_fault e) (λ g l. none g (no_tokens l)) (lexical_found bytes e h))

  -- tokens that are read as nothing
  pub syntax_unread : {B : Type 0} (IsNone : Finding → Type 0) (bytes : List ℕ) →
      ((f : Finding) → IsUnread Reads bytes f → IsNone f) → (tokens : List Token) (e : SyntaxFault) (r : Result B Fault) →
      IsErrAnd r (λ f. f ≡ syntax_fault e) → Lexes bytes tokens → Reads bytes tokens (Err e) → IfErr r (λ f. IfFound f IsNone)
  syntax_unread IsNone bytes none tokens e r is lexed h =
      of_fault r (syntax_fault e) (λ f. IfFound f IsNone) is
      (if_found (SyntaxFinding (λ d. Reads bytes tokens (Err d))) IsNone (syntax_fault e)
      (λ g s. none g (no_reading tokens lexed s)) (syntax_found (λ d. Reads bytes tokens (Err d)) e h))

-- what a question that was read asks about
pub with_question : (bytes : List ℕ) (q : Asked) (r : Result Question Fault) → IsRead AnswersQuestion bytes q → IfOk r (Asks q) →
    IfOk r (AreAsked bytes)
with_question bytes q (Ok found) is h = record { question = q; read = is; asks = h }
with_question bytes q (Err f) is h = tt

-- why a question that was read asks about no two session types
pub with_fault : (bytes : List ℕ) (q : Asked) (r : Result Question Fault) → IsRead AnswersQuestion bytes q → IfErr r
    (λ f. IfFound f (QuestionFinding q)) → IfErr r (λ f. IfFound f (IsNoQuestion bytes))
with_fault bytes q (Ok found) is h = tt
with_fault bytes q (Err f) is h = if_found (QuestionFinding q) (IsNoQuestion bytes) f (λ g finds. inr (q, is, finds)) h
