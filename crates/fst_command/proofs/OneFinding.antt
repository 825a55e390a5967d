-- An input is one thing.
use Rattle.std.proofs.Common.{◌≡◌, ◌∙◌, inl, inr, ℕ, List, Option, Some, None, Result, Ok, Err, sym, ap, subst}
use Rattle.std.specs.Prelude.{◌≢◌}
use Rattle.std.proofs.lemmas.Option.{none-some, same_Some}
use Rattle.fst_types.specs.Tree.{Tree}
use Rattle.fst_types.specs.declared.kind.Kind.{Kind}
use Rattle.fst_kinds.specs.declared.fault.KindFault.{KindFault}
use Rattle.fst_kinds.specs.declared.fault.KindFault.TheVariants as kind
use Rattle.fst_lexer.specs.declared.token.Token.{Token}
use Rattle.fst_lexer.specs.declared.token.LexFault.{LexFault}
use Rattle.fst_lexer.specs.declared.token.LexFault.TheVariants as lexical
use Rattle.fst_lexer.specs.Lexes.{Lexes, Refuses, OneLexing}
use Rattle.fst_reading.specs.declared.fault.SyntaxFault.{SyntaxFault}
use Rattle.fst_reading.specs.declared.fault.SyntaxFault.TheVariants as syntax
use Rattle.fst_type_syntax.specs.Grammar.{Asked}
use Rattle.fst_type_syntax.specs.Derives.{AnswersQuestion, OneReading}
use Rattle.fst_scopes.specs.declared.fault.NameFault.{NameFault}
use Rattle.fst_names.specs.declared.question.Question.{Question}
use Rattle.fst_names.specs.Faults.{question_faults}
use Rattle.fst_scopes.specs.First.{first_fault}
use Rattle.fst_names.specs.Resolved.{IsResolved}
use Rattle.fst_type_print.specs.declared.refusals.Phrase.TheVariants as phrase
use Rattle.fst_command.specs.Finding.{Finding, refused, too_deep, LexicalFinding, not_utf8, bad_char, wide_number, long_name, SyntaxFinding, IsRead, IsUnread, no_tokens, no_reading, name_finding, session_kind, KindFinding, not_contractive, wrong_kind, unbound_type, double_label, IsFaultless, KindsFinding, Asks, AreAsked, QuestionFinding, IsNoQuestion}
use Rattle.fst_command.specs.Finding as finding

-- ---- what a fault says

lexical_of : LexFault → Option Finding
lexical_of (lexical.NotUtf8 at) = Some (refused at phrase.NotUtf8)
lexical_of (lexical.BadChar at) = Some (refused at phrase.BadChar)
lexical_of (lexical.WideNumber at) = Some (refused at phrase.WideNumber)
lexical_of (lexical.LongName at) = Some (refused at phrase.LongName)
lexical_of lexical.Memory = None

record IsLexical (bytes : List ℕ) (f : Finding) : Type 0 where
  fault : LexFault
  refuses : Refuses bytes fault
  other : fault ≢ lexical.Memory
  says : lexical_of fault ≡ Some f

lexical_is : (bytes : List ℕ) (f : Finding) → LexicalFinding bytes f → IsLexical bytes f
unfolding lexical_of
lexical_is bytes f (not_utf8 at h is) = record {
  fault = lexical.NotUtf8 at;
  refuses = h;
  other =
      λ e. absurd (cc e);
  says = ap Some (sym is);
}
lexical_is bytes f (bad_char at h is) = record {
  fault = lexical.BadChar at;
  refuses = h;
  other =
      λ e. absurd (cc e);
  says = ap Some (sym is);
}
lexical_is bytes f (wide_number at h is) = record {
  fault = lexical.WideNumber at;
  refuses = h;
  other =
      λ e. absurd (cc e);
  says = ap Some (sym is);
}
lexical_is bytes f (long_name at h is) = record {
  fault = lexical.LongName at;
  refuses = h;
  other =
      λ e. absurd (cc e);
  says = ap Some (sym is);
}

syntax_of : SyntaxFault → Option Finding
syntax_of (syntax.Syntax at) = Some (refused at phrase.Syntax)
syntax_of (syntax.TooDeep at) = Some (too_deep at)
syntax_of syntax.Memory = None

record IsSyntax (Stops : SyntaxFault → Type 0) (f : Finding) : Type 0 where
  fault : SyntaxFault
  stops : Stops fault
  other : fault ≢ syntax.Memory
  says : syntax_of fault ≡ Some f

syntax_is : (Stops : SyntaxFault → Type 0) (f : Finding) → SyntaxFinding Stops f → IsSyntax Stops f
unfolding syntax_of
syntax_is Stops f (finding.stopped at h is) = record {
  fault = syntax.Syntax at;
  stops = h;
  other =
      λ e. absurd (cc e);
  says = ap Some (sym is);
}
syntax_is Stops f (finding.deep at h is) = record {
  fault = syntax.TooDeep at;
  stops = h;
  other =
      λ e. absurd (cc e);
  says = ap Some (sym is);
}

kind_of : ℕ → KindFault → Option Finding
kind_of at kind.NotContractive = Some (refused at phrase.NotContractive)
kind_of at (kind.WrongKind got wanted) = Some (refused at (phrase.WrongKind got wanted))
kind_of at (kind.UnboundType k) = Some (refused at (phrase.UnboundType k))
kind_of at (kind.DoubleLabel l) = Some (refused at (phrase.DoubleLabel l))
kind_of at kind.Memory = None

-- ---- reading

abbrev unread : {A : Type 0} → SyntaxFault → Result A SyntaxFault
unread e = Err e

abbrev read : {A : Type 0} → A → Result A SyntaxFault
read x = Ok x

unread_is : {A : Type 0} (d e : SyntaxFault) → unread {A = A} d ≡ unread e → d ≡ e
unread_is d e g = cc

read_is : {A : Type 0} (x y : A) → read x ≡ read y → x ≡ y
read_is x y e = cc

read_some : {A : Type 0} (x : A) → read x ≢ unread syntax.Memory
read_some x e = cc

unread_some : {A : Type 0} (d : SyntaxFault) → d ≢ syntax.Memory → unread {A = A} d ≢ unread syntax.Memory
unread_some {A = A} d n e = n (unread_is {A = A} d syntax.Memory e)

-- a text and its tokens have at most one answer
abbrev pub OneAnswer : {A : Type 0} → (List ℕ → List Token → Result A SyntaxFault → Type 0) → Type 0
OneAnswer {A} Reads = (text : List ℕ) (tokens : List Token) (a b : Result A SyntaxFault) → a ≢ Err syntax.Memory →
    b ≢ Err syntax.Memory → Reads text tokens a → Reads text tokens b → a ≡ b

module _ {A : Type 0} (Reads : List ℕ → List Token → Result A SyntaxFault → Type 0) (lexing : OneLexing)
    (one_answer : OneAnswer Reads) (bytes : List ℕ) where
  -- bytes with two lists of tokens have two answers for one of them
  answered_by : (tokens others : List Token) (a b : Result A SyntaxFault) → Lexes bytes tokens → Lexes bytes others →
      Reads bytes tokens a → Reads bytes others b → a ≢ unread syntax.Memory → b ≢ unread syntax.Memory → a ≡ b
  answered_by tokens others a b x y p q m n =
      let same = lexing.one_list bytes tokens others x y in
      one_answer bytes others a b m n (subst (λ ts. Reads bytes ts a) same p) q

  -- bytes are read as one thing
  pub one_read : (x y : A) → IsRead Reads bytes x → IsRead Reads bytes y → x ≡ y
  one_read x y p q = read_is x y (answered_by p.tokens q.tokens (read x) (read y) p.lexes q.lexes p.reads q.reads (read_some x)
      (read_some y))

  -- bytes with a list of tokens have no fault
  no_lexical : (tokens : List Token) (f : Finding) → Lexes bytes tokens → LexicalFinding bytes f → ⊥
  no_lexical tokens f x l = let i = lexical_is bytes f l in absurd (i.other (lexing.no_fault bytes tokens i.fault x i.refuses))

  -- bytes that are read aren't refused
  pub read_once : (x : A) (f : Finding) → IsRead Reads bytes x → IsUnread Reads bytes f → ⊥
  read_once x f p (no_tokens l) = no_lexical p.tokens f p.lexes l
  read_once x f p (no_reading tokens y s) =
      let i = syntax_is (λ e. Reads bytes tokens (Err e)) f s in
      let both = answered_by p.tokens tokens (read x) (unread i.fault) p.lexes y p.reads i.stops (read_some x)
      (unread_some {A = A} i.fault i.other) in
      absurd cc

  pub one_unread : (f g : Finding) → IsUnread Reads bytes f → IsUnread Reads bytes g → f ≡ g
  one_unread f g (no_tokens p) (no_tokens q) =
      let i = lexical_is bytes f p in
      let j = lexical_is bytes g q in
      same_Some f g (sym i.says ∙ ap lexical_of (lexing.one_fault bytes i.fault j.fault i.other j.other i.refuses j.refuses)
      ∙ j.says)
  one_unread f g (no_tokens p) (no_reading tokens y s) = absurd (no_lexical tokens f y p)
  one_unread f g (no_reading tokens x r) (no_tokens q) = absurd (no_lexical tokens g x q)
  one_unread f g (no_reading tokens x r) (no_reading others y s) =
      let i = syntax_is (λ e. Reads bytes tokens (Err e)) f r in
      let j = syntax_is (λ e. Reads bytes others (Err e)) g s in
      let same = answered_by tokens others (unread i.fault) (unread j.fault) x y i.stops j.stops
      (unread_some {A = A} i.fault i.other) (unread_some {A = A} j.fault j.other) in
      same_Some f g (sym i.says ∙ ap syntax_of (unread_is {A = A} i.fault j.fault same) ∙ j.says)

-- ---- questions

-- what a question asks about is determined
pub record IsSameAsked (asked other : Question) : Type 0 where
  pub kinds : asked.kinds.items ≡ other.kinds.items
  pub left : asked.left ≡ other.left
  pub right : asked.right ≡ other.right
  pub left_at : asked.left_at ≡ other.left_at
  pub right_at : asked.right_at ≡ other.right_at

one_resolved : (q : Asked) (asked other : Question) → IsResolved q asked → IsResolved q other → IsSameAsked asked other
one_resolved q asked other p r = record {
  kinds = p.kinds_are ∙ sym r.kinds_are;
  left = same_Some asked.left other.left (sym p.left_is ∙ r.left_is);
  right = same_Some asked.right other.right (sym p.right_is ∙ r.right_is);
  left_at = p.left_begins ∙ sym r.left_begins;
  right_at = p.right_begins ∙ sym r.right_begins;
}

-- ---- kinds

-- what the walk of kinds finds of a type
record IsWalked (vars : List Kind) (t : Tree) (at : ℕ) (f : Finding) : Type 0 where
  fault : KindFault
  walks : session_kind vars t ≡ Err fault
  says : kind_of at fault ≡ Some f

kind_is : (vars : List Kind) (t : Tree) (at : ℕ) (f : Finding) → KindFinding vars t at f → IsWalked vars t at f
unfolding kind_of
kind_is vars t at f (not_contractive h is) = record { fault = kind.NotContractive; walks = h; says = ap Some (sym is) }
kind_is vars t at f (wrong_kind got wanted h is) =
    record { fault = kind.WrongKind got wanted; walks = h; says = ap Some (sym is) }
kind_is vars t at f (unbound_type k h is) = record { fault = kind.UnboundType k; walks = h; says = ap Some (sym is) }
kind_is vars t at f (double_label l h is) = record { fault = kind.DoubleLabel l; walks = h; says = ap Some (sym is) }

-- a type has one fault of kinds
one_kind : (vars : List Kind) (t : Tree) (at : ℕ) (f g : Finding) → KindFinding vars t at f → KindFinding vars t at g → f ≡ g
one_kind vars t at f g p q =
    let i = kind_is vars t at f p in
    let j = kind_is vars t at g q in
    let both : i.fault ≡ j.fault = cc (i.walks, j.walks) in
    same_Some f g (sym i.says ∙ ap (kind_of at) both ∙ j.says)

-- a type without a fault has none
no_kind : (vars : List Kind) (t : Tree) (at : ℕ) (f : Finding) → IsFaultless vars t → KindFinding vars t at f → ⊥
no_kind vars t at f none k =
    let i = kind_is vars t at f k in
    absurd (cc (none.walked, i.walks))

-- equal types over equal variables at equal places have the same faults
same_finding : (vars others : List Kind) (t u : Tree) (at from : ℕ) (f : Finding) → vars ≡ others → t ≡ u → at ≡ from →
    KindFinding vars t at f → KindFinding others u from f
same_finding vars others t u at from f e g h k =
    subst (λ z. KindFinding z u from f) e (subst (λ z. KindFinding vars z from f) g (subst (λ z. KindFinding vars t z f) h k))

same_faultless : (vars others : List Kind) (t u : Tree) → vars ≡ others → t ≡ u → IsFaultless vars t → IsFaultless others u
same_faultless vars others t u e g k = subst (λ z. IsFaultless z u) e (subst (λ z. IsFaultless vars z) g k)

same_kinds : (asked other : Question) (f : Finding) → IsSameAsked asked other → KindsFinding asked f → KindsFinding other f
same_kinds asked other f s (finding.left k) = finding.left (same_finding _ _ _ _ _ _ f s.kinds s.left s.left_at k)
same_kinds asked other f s (finding.right none k) =
    finding.right (same_faultless _ _ _ _ s.kinds s.left none) (same_finding _ _ _ _ _ _ f s.kinds s.right s.right_at k)

one_kinds : (asked : Question) (f g : Finding) → KindsFinding asked f → KindsFinding asked g → f ≡ g
one_kinds asked f g (finding.left k) (finding.left j) = one_kind asked.kinds.items asked.left asked.left_at f g k j
one_kinds asked f g (finding.left k) (finding.right none j) = absurd (no_kind asked.kinds.items asked.left asked.left_at f none k)
one_kinds asked f g (finding.right none k) (finding.left j) = absurd (no_kind asked.kinds.items asked.left asked.left_at g none j)
one_kinds asked f g (finding.right none k) (finding.right other j) = one_kind asked.kinds.items asked.right asked.right_at f g k j

-- ---- what is found of a question

-- a question without faults of names and sizes has no first one
no_names : (q : Asked) (asked : Question) (e : NameFault) → IsResolved q asked → first_fault (question_faults q) ≡ Some e → ⊥
no_names q asked e is first = none-some e (sym (ap first_fault is.faultless) ∙ first)

pub one_question_finding : (q : Asked) (f g : Finding) → QuestionFinding q f → QuestionFinding q g → f ≡ g
one_question_finding q f g (finding.names e first says) (finding.names d other tells) =
    same_Some f g (sym says ∙ ap name_finding (same_Some e d (sym first ∙ other)) ∙ tells)
one_question_finding q f g (finding.names e first says) (finding.kinds asked is k) = absurd (no_names q asked e is first)
one_question_finding q f g (finding.kinds asked is k) (finding.names e first says) = absurd (no_names q asked e is first)
one_question_finding q f g (finding.kinds asked is k) (finding.kinds other it j) =
    one_kinds other f g (same_kinds asked other f (one_resolved q asked other is it) k) j

-- a question of two session types has no fault
pub asks_or_not : (q : Asked) (asked : Question) (f : Finding) → Asks q asked → QuestionFinding q f → ⊥
asks_or_not q asked f a (finding.names e first says) = no_names q asked e a.resolved first
asks_or_not q asked f a (finding.kinds other is k) = by (same_kinds other asked f (one_resolved q other asked is a.resolved) k)
  where
    by : KindsFinding asked f → ⊥
    by (finding.left k) = no_kind asked.kinds.items asked.left asked.left_at f a.left k
    by (finding.right none k) = no_kind asked.kinds.items asked.right asked.right_at f a.right k

-- a question asks about one pair of types
pub one_asked : (q : Asked) (asked other : Question) → Asks q asked → Asks q other → IsSameAsked asked other
one_asked q asked other a b = one_resolved q asked other a.resolved b.resolved

module _ (lexing : OneLexing) (readings : OneReading) (bytes : List ℕ) where
  -- one thing is found of bytes that are no question of two session types
  pub one_no_question : (f g : Finding) → IsNoQuestion bytes f → IsNoQuestion bytes g → f ≡ g
  one_no_question f g (inl a) (inl b) = one_unread AnswersQuestion lexing readings.one_question_answer bytes f g a b
  one_no_question f g (inl a) (inr (q, r, b)) =
      absurd (read_once AnswersQuestion lexing readings.one_question_answer bytes q f r a)
  one_no_question f g (inr (q, r, a)) (inl b) =
      absurd (read_once AnswersQuestion lexing readings.one_question_answer bytes q g r b)
  one_no_question f g (inr (q, r, a)) (inr (p, s, b)) =
      let same = one_read AnswersQuestion lexing readings.one_question_answer bytes q p r s in
      one_question_finding p f g (subst (λ z. QuestionFinding z f) same a) b

  -- bytes that are such a question are not none
  pub question_or_not : (asked : Question) (f : Finding) → AreAsked bytes asked → IsNoQuestion bytes f → ⊥
  question_or_not asked f a (inl b) = read_once AnswersQuestion lexing readings.one_question_answer bytes a.question f a.read b
  question_or_not asked f a (inr (p, s, b)) =
      let same = one_read AnswersQuestion lexing readings.one_question_answer bytes p a.question s a.read in
      asks_or_not a.question asked f a.asks (subst (λ z. QuestionFinding z f) same b)

  -- they ask about one thing
  pub asked_once : (asked other : Question) → AreAsked bytes asked → AreAsked bytes other → IsSameAsked asked other
  asked_once asked other a b =
      let same = one_read AnswersQuestion lexing readings.one_question_answer bytes a.question b.question a.read b.read in
      one_asked b.question asked other (subst (λ z. Asks z asked) same a.asks) b.asks
