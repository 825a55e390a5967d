-- What is written is an output, and there is at most one.
use Rattle.std.proofs.Common.{◌≡◌, ◌∙◌, ◌⊎◌, inl, inr, ℕ, ◌≤◌, Bool, true, false, List, [], ◌++◌, length, Result, Ok, Err, refl, sym, ap, subst, arith}
use Rattle.std.specs.Prelude.{IfOk, codes}
use Rattle.std.specs.declared.alloc.AllocError.{AllocError}
use Rattle.std.proofs.lemmas.List.{append-nil}
use Rattle.fst_base.specs.Limits.{most_bytes}
use Rattle.fst_lexer.specs.Lexes.{OneLexing}
use Rattle.fst_types.specs.declared.family.Family.{Family}
use Rattle.fst_terms.specs.ModuleTree.{Declared}
use Rattle.fst_terms.specs.declared.core_module.Module.{Module}
use Rattle.fst_reading.specs.Faults.{Begins, is_left}
use Rattle.fst_type_syntax.specs.Derives.{OneReading}
use Rattle.fst_module_grammar.specs.Grammar.{IsModule}
use Rattle.fst_module_grammar.specs.Derives.{line_lexemes, ModulePhrase, OneModule}
use Rattle.fst_module_grammar.specs.Derives.{AnswersModule as ReadsModule}
use Rattle.fst_print.specs.ModuleTexts.{module_text}
use Rattle.fst_roundtrip.specs.ReadAgain.{IsReadAgain, ReadAgain}
use Rattle.fst_equiv.specs.Answers.{Answer, yes, no, undecided, too_large, Answers, OneAnswer}
use Rattle.fst_cert.specs.Audits.{IsValid}
use Rattle.fst_command.specs.declared.answer.Answer.{Answer as Written}
use Rattle.fst_command.specs.declared.finding.Fault.{Fault}
use Rattle.fst_command.specs.declared.finding.Fault.TheVariants as fault
use Rattle.fst_names.specs.declared.question.Question.{Question}
use Rattle.fst_names.specs.ResolvedModule.{AreSame, OneModuleLaw}
use Rattle.fst_derivations.specs.Deriv.{Deriv}
use Rattle.fst_derivations.specs.Modules.{HasDerivations}
use Rattle.fst_typing.specs.Checked.{IsAccepted}
use Rattle.fst_safety.specs.Diamond.{OneEnd}
use Rattle.fst_merge.specs.LeastEvents.{OneListLaw}
use Rattle.fst_buffered.specs.Events.{LeastIsOne}
use Rattle.fst_vm.specs.declared.report.Report.{Report}
use Rattle.fst_make.specs.Made.{made_text}
use Rattle.fst_type_print.specs.Texts.{family_names, question_text}
use Rattle.fst_report.specs.ReportTexts.{report_text}
use Rattle.fst_command.specs.declared.status.Status.{Status}
use Rattle.fst_command.specs.declared.status.Status.TheVariants as status
use Rattle.fst_options.specs.Words.{Command, equiv, show, check, run, buffered, make, audit, IsCommand, default_budget, default_steps}
use Rattle.fst_options.proofs.Laws.{one_command}
use Rattle.fst_typing.specs.Laws.{AcceptedIsNotRefused, OneRefusal}
use Rattle.fst_command.specs.CheckTexts.{cause, cause_text, cause_status}
use Rattle.fst_command.specs.Finding.{Finding, refused, too_deep, IsRead, AreAsked, IsNoQuestion, IsNoModule, AreUnresolved, no_reading}
use Rattle.fst_command.specs.Finding as finding
use Rattle.fst_command.specs.Output.{finding_text, finding_status, answer_text, answer_status, IsCertified, IsAnswerText, IsAnswerTo, AnswersQuestion, ShowsModule, IsFoundOf, accepted, unaccepted, FindsModule, SaysAccepted, SaysBuffered, SaysOutcome, made_summary, WritesOf, too_long, is_none, makes, Writes, usage, command, AreAlike, same, certified, OneOutput, ShownAgain}
use Rattle.fst_command.specs.Audited.{IsNoAudit, AuditsCertificate}
use Rattle.fst_command.specs.Texts.{too_large_text}
use Rattle.fst_command.specs.Views.{IfFound, Found}
use Rattle.fst_command.proofs.OneFinding.{IsSameAsked, one_read, read_once, one_unread, one_no_question, question_or_not, asked_once}
use Rattle.fst_command.proofs.AuditLaws.{one_no_audit, audit_or_not, one_audit}
use Rattle.fst_command.proofs.OneBuffered.{one_buffered}
use Rattle.fst_command.proofs.OneOutcome.{one_outcome}
use Rattle.fst_command.proofs.OneResolved.{one_unresolved, resolved_or_not, same_resolved}
use Rattle.fst_command.proofs.Causes.{same_cause}
use Rattle.fst_command.proofs.SameRefusals.{accepted_module, refused_module}
use Rattle.fst_command.proofs.SameReports.{IsWritten, report_written, same_family_names, summary_written}

-- ---- what is written

-- an input that isn't what its command is for
pub fault_written : (IsNone : List ℕ → Finding → Type 0) (Makes : List ℕ → List ℕ → Status → Type 0) (bytes text : List ℕ)
    (s : Status) (f : Fault) → length bytes ≤ most_bytes → IfFound f (IsNone bytes) →
    Found f (λ g. (text ≡ finding_text bytes g) × (s ≡ finding_status g)) → WritesOf IsNone Makes bytes text s
fault_written IsNone Makes bytes text s (fault.Refused at p) short h w = is_none short (refused at p) h w.0 w.1
fault_written IsNone Makes bytes text s (fault.TooDeep at) short h w = is_none short (too_deep at) h w.0 w.1
fault_written IsNone Makes bytes text s (fault.TooLarge at) short h w = is_none short (finding.too_large at) h w.0 w.1
fault_written IsNone Makes bytes text s fault.Memory short h w = absurd w

-- the same of the answer that a call gives
pub fault_output : (IsNone : List ℕ → Finding → Type 0) (Makes : List ℕ → List ℕ → Status → Type 0) (bytes : List ℕ) (f : Fault)
    (r : Result Written AllocError) → length bytes ≤ most_bytes → IfFound f (IsNone bytes) →
    IfOk r (λ a. Found f (λ g. (a.text.items ≡ finding_text bytes g) × (a.status ≡ finding_status g))) → IfOk r
    (λ a. WritesOf IsNone Makes bytes a.text.items a.status)
fault_output IsNone Makes bytes f (Ok a) short h w = fault_written IsNone Makes bytes a.text.items a.status f short h w
fault_output IsNone Makes bytes f (Err e) short h w = tt

-- a question of two session types
pub asked_output : (bytes : List ℕ) (budget : ℕ) (proof : Bool) (q : Question) (r : Result Written AllocError) →
    length bytes ≤ most_bytes → AreAsked bytes q →
    IfOk r (λ a. IsAnswerTo proof bytes q budget a.text.items a.status) → IfOk r
    (λ a. Writes (equiv budget proof) bytes a.text.items a.status)
asked_output bytes budget proof q (Ok a) short is answer = makes short (record { asked = q; is_asked = is; answer = answer })
asked_output bytes budget proof q (Err e) short is answer = tt

-- ---- one output

-- texts that are so related, with one status
abbrev IsOneBy : (List ℕ → List ℕ → Type 0) → (List ℕ → Status → Type 0) → Type 0
IsOneBy R P = (t u : List ℕ) (s r : Status) → P t s → P u r → R t u × (s ≡ r)

-- texts and statuses, of which there is one at most
abbrev IsOne : (List ℕ → Status → Type 0) → Type 0
IsOne P = IsOneBy (λ t u. t ≡ u) P

module _ (R : List ℕ → List ℕ → Type 0) (equal : (t u : List ℕ) → t ≡ u → R t u) where
  one_written : (IsNone : List ℕ → Finding → Type 0) (Makes : List ℕ → List ℕ → Status → Type 0) (bytes : List ℕ) →
      ((f g : Finding) → IsNone bytes f → IsNone bytes g → f ≡ g) →
      ((f : Finding) (t : List ℕ) (s : Status) → IsNone bytes f → Makes bytes t s → ⊥) → IsOneBy R (Makes bytes) →
      IsOneBy R (WritesOf IsNone Makes bytes)
  one_written IsNone Makes bytes one none made t u s r (too_long long w e) (too_long more x d) =
      (equal t u (w ∙ sym x), e ∙ sym d)
  one_written IsNone Makes bytes one none made t u s r (too_long long w e) (is_none short f h x d) =
      absurd (omega (arith, long, short))
  one_written IsNone Makes bytes one none made t u s r (too_long long w e) (makes short m) = absurd (omega (arith, long, short))
  one_written IsNone Makes bytes one none made t u s r (is_none short f h w e) (too_long long x d) =
      absurd (omega (arith, long, short))
  one_written IsNone Makes bytes one none made t u s r (is_none short f h w e) (is_none low g k x d) =
      let same = one f g h k in
      (equal t u (w ∙ ap (finding_text bytes) same ∙ sym x), e ∙ ap finding_status same ∙ sym d)
  one_written IsNone Makes bytes one none made t u s r (is_none short f h w e) (makes low m) = absurd (none f u r h m)
  one_written IsNone Makes bytes one none made t u s r (makes short m) (too_long long x d) = absurd (omega (arith, long, short))
  one_written IsNone Makes bytes one none made t u s r (makes short m) (is_none low g k x d) = absurd (none g t s k m)
  one_written IsNone Makes bytes one none made t u s r (makes short m) (makes low n) = made t u s r m n

-- the same where the texts are equal
only_written : (IsNone : List ℕ → Finding → Type 0) (Makes : List ℕ → List ℕ → Status → Type 0) (bytes : List ℕ) →
    ((f g : Finding) → IsNone bytes f → IsNone bytes g → f ≡ g) →
    ((f : Finding) (t : List ℕ) (s : Status) → IsNone bytes f → Makes bytes t s → ⊥) → IsOne (Makes bytes) →
    IsOne (WritesOf IsNone Makes bytes)
only_written = one_written (λ t u. t ≡ u) (λ t u e. e)

-- a question with a certificate is one of another question that is the same
same_certified : (asked other : Question) (text : List ℕ) → IsSameAsked asked other → IsCertified other text →
    IsCertified asked text
same_certified asked other text alike c = record {
  basis = c.basis;
  chains = c.chains;
  certificate = c.certificate;
  is_cert = c.is_cert;
  valid = subst (λ t. IsValid t asked.right c.basis c.chains) (sym alike.left)
      (subst (λ u. IsValid other.left u c.basis c.chains) (sym alike.right) c.valid);
  written = c.written ∙ (λ i. question_text (sym alike.kinds i) (sym alike.left i) (sym alike.right i) ++
      (codes "\n" ++ c.certificate));
}

-- the texts of an answer to a question, where a proof is asked for
proved_alike : (words : List (List ℕ)) (budget : ℕ) (bytes : List ℕ) → IsCommand words (equiv budget true) →
    (asked other : Question) → AreAsked bytes asked → IsSameAsked asked other → (t u : List ℕ) (a : Answer) →
    IsAnswerText true bytes asked budget a t → IsAnswerText true bytes other budget a u → AreAlike words bytes t u
proved_alike words budget bytes is asked other it alike t u yes w x =
    certified budget is asked it w (same_certified asked other u alike x)
proved_alike words budget bytes is asked other it alike t u (no word side) w x = same (w ∙ sym x)
proved_alike words budget bytes is asked other it alike t u undecided w x = same (w ∙ sym x)
proved_alike words budget bytes is asked other it alike t u too_large w x =
    same (w ∙ ap (too_large_text bytes) alike.left_at ∙ sym x)

module _ (answers : OneAnswer) (lexing : OneLexing) (readings : OneReading) (modules : OneModule) where
  -- a question of two types has one answer
  one_answer : (budget : ℕ) (proof : Bool) (bytes t u : List ℕ) (s r : Status) (p : AnswersQuestion budget proof bytes t s)
      (q : AnswersQuestion budget proof bytes u r) → p.answer.answer ≡ q.answer.answer
  one_answer budget proof bytes t u s r p q =
      let a = p.answer in
      let b = q.answer in
      let same = asked_once lexing readings bytes p.asked q.asked p.is_asked q.is_asked in
      let mine = subst (λ z. Answers z q.asked.right budget a.answer) same.left
      (subst (λ z. Answers p.asked.left z budget a.answer) same.right a.answers) in
      answers q.asked.kinds.items q.asked.kinds.items q.asked.left q.asked.right budget q.is_asked.asks.left.session
      q.is_asked.asks.right.session a.answer b.answer mine b.answers

  -- one thing is written of it
  one_question : (budget : ℕ) (bytes : List ℕ) → IsOne (AnswersQuestion budget false bytes)
  one_question budget bytes t u s r p q =
      let a = p.answer in
      let b = q.answer in
      let same = asked_once lexing readings bytes p.asked q.asked p.is_asked q.is_asked in
      let one = one_answer budget false bytes t u s r p q in (
        a.written ∙ ap (λ at. answer_text bytes at budget a.answer) same.left_at
            ∙ ap (answer_text bytes q.asked.left_at budget) one ∙ sym b.written,
        a.ended ∙ ap answer_status one ∙ sym b.ended,
      )

  -- or the question with a certificate, where a proof is asked for
  one_proved : (words : List (List ℕ)) (budget : ℕ) (bytes : List ℕ) → IsCommand words (equiv budget true) →
      IsOneBy (AreAlike words bytes) (AnswersQuestion budget true bytes)
  one_proved words budget bytes is t u s r p q =
      let a = p.answer in
      let b = q.answer in
      let alike = asked_once lexing readings bytes p.asked q.asked p.is_asked q.is_asked in
      let one = one_answer budget true bytes t u s r p q in (
        proved_alike words budget bytes is p.asked q.asked p.is_asked alike t u b.answer
            (subst (λ z. IsAnswerText true bytes p.asked budget z t) one a.written) b.written,
        a.ended ∙ ap answer_status one ∙ sym b.ended,
      )

  one_module : (bytes : List ℕ) → IsOne (ShowsModule bytes)
  one_module bytes t u s r p q =
      let same = one_read ReadsModule lexing modules.one_answer bytes p.declared q.declared p.read q.read in
      (p.written ∙ ap module_text same ∙ sym q.written, p.ended ∙ sym q.ended)

  module _ (resolving : OneModuleLaw) (refusals : OneRefusal) (apart : AcceptedIsNotRefused) where
    -- one thing is found of the modules that bytes stand for, where one thing is made of those that are accepted
    one_found : (IsMade : Module → List ℕ → Status → Type 0) (budget : ℕ) (bytes : List ℕ) →
        ((m n : Module) (ds : List Deriv) → AreSame m n → IsAccepted m budget ds →
        (t u : List ℕ) (s r : Status) → IsMade m t s → IsMade n u r → (t ≡ u) × (s ≡ r)) →
        IsOne (FindsModule IsMade budget bytes)
    one_found IsMade budget bytes made t u s r p q = by p.found q.found
      where
        parts : AreSame p.resolved q.resolved
        parts = same_resolved lexing modules bytes resolving p.resolved q.resolved p.is_resolved q.is_resolved

        by : IsFoundOf (IsMade p.resolved) bytes p.resolved budget t s →
            IsFoundOf (IsMade q.resolved) bytes q.resolved budget u r → (t ≡ u) × (s ≡ r)
        by (accepted ds a h) (accepted es b k) = made p.resolved q.resolved ds parts a t u s r h k
        by (accepted ds a h) (unaccepted g b x d) =
            absurd (apart q.resolved budget ds (accepted_module p.resolved q.resolved parts budget ds a) g b)
        by (unaccepted f a w e) (accepted es b k) =
            absurd (apart q.resolved budget es b f (refused_module p.resolved q.resolved parts budget f a))
        by (unaccepted f a w e) (unaccepted g b x d) =
            let alike = refusals q.resolved budget f g (refused_module p.resolved q.resolved parts budget f a) b in
            let names = same_family_names p.resolved.families.items q.resolved.families.items parts.families in
            let cause = ap (λ ns. cause ns f) names ∙ same_cause (family_names q.resolved.families.items) f g alike in
            (w ∙ ap (cause_text bytes budget) cause ∙ sym x, e ∙ ap cause_status cause ∙ sym d)

    -- one thing is written of them
    one_source : (IsMade : Module → List ℕ → Status → Type 0) (budget : ℕ) (bytes : List ℕ) →
        ((m n : Module) (ds : List Deriv) → AreSame m n → IsAccepted m budget ds →
        (t u : List ℕ) (s r : Status) → IsMade m t s → IsMade n u r → (t ≡ u) × (s ≡ r)) →
        IsOne (WritesOf AreUnresolved (FindsModule IsMade budget) bytes)
    one_source IsMade budget bytes made =
        only_written AreUnresolved (FindsModule IsMade budget) bytes (one_unresolved lexing modules bytes)
        (λ f t s none m. resolved_or_not lexing modules bytes m.resolved f m.is_resolved none)
        (one_found IsMade budget bytes made)

    module _ (law : (m : Module) (budget : ℕ) (ds : List Deriv) → IsAccepted m budget ds → HasDerivations m ds)
        (ends : OneEnd) (lists : OneListLaw) (least : LeastIsOne) where
      one_run : (shown : List Family → Report → List ℕ) → IsWritten shown → (events : Bool) (steps budget : ℕ) (bytes : List ℕ) →
          IsOne (WritesOf AreUnresolved (FindsModule (SaysOutcome shown events steps) budget) bytes)
      one_run shown written events steps budget bytes =
          one_source (SaysOutcome shown events steps) budget bytes
          (λ m n ds parts a t u s r o q. one_outcome ends lists shown written events steps m n ds parts
          (law m budget ds a) t u s r o q)

      -- equal texts are alike
      all_alike : (words : List (List ℕ)) (bytes : List ℕ) (P : List ℕ → Status → Type 0) → IsOne P →
          IsOneBy (AreAlike words bytes) P
      all_alike words bytes P one t u s r p q = let both = one t u s r p q in (same both.0, both.1)

      -- of one command one thing is written
      one_text : (words : List (List ℕ)) (c : Command) → IsCommand words c → (bytes : List ℕ) →
          IsOneBy (AreAlike words bytes) (Writes c bytes)
      one_text words (equiv budget false) is bytes = all_alike words bytes (Writes (equiv budget false) bytes)
          (only_written IsNoQuestion (AnswersQuestion budget false) bytes (one_no_question lexing readings bytes)
          (λ f t s none m. question_or_not lexing readings bytes m.asked f m.is_asked none) (one_question budget bytes))
      one_text words (equiv budget true) is bytes =
          one_written (AreAlike words bytes) (λ t u e. same e) IsNoQuestion (AnswersQuestion budget true) bytes
          (one_no_question lexing readings bytes)
          (λ f t s none m. question_or_not lexing readings bytes m.asked f m.is_asked none)
          (one_proved words budget bytes is)
      one_text words show is bytes = all_alike words bytes (Writes show bytes)
          (only_written IsNoModule ShowsModule bytes (one_unread ReadsModule lexing modules.one_answer bytes)
          (λ f t s none m. read_once ReadsModule lexing modules.one_answer bytes m.declared f m.read none) (one_module bytes))
      one_text words (check budget) is bytes = all_alike words bytes (Writes (check budget) bytes)
          (one_source SaysAccepted budget bytes (λ m n ds parts a t u s r h k. (h.0 ∙ sym k.0, h.1 ∙ sym k.1)))
      one_text words (run steps workers budget events) is bytes =
          all_alike words bytes (Writes (run steps workers budget events) bytes)
          (one_run report_text report_written events steps budget bytes)
      one_text words (buffered steps capacity budget) is bytes =
          all_alike words bytes (Writes (buffered steps capacity budget) bytes)
          (one_source (SaysBuffered capacity steps) budget bytes
          (λ m n ds parts a. one_buffered least capacity steps m n parts))
      one_text words (make n) is bytes = all_alike words bytes (Writes (make n) bytes)
          (one_run (made_summary n) (summary_written (length (made_text n))) false default_steps default_budget
          (made_text n))
      one_text words audit is bytes = all_alike words bytes (Writes audit bytes)
          (only_written IsNoAudit AuditsCertificate bytes (one_no_audit lexing readings bytes)
          (λ f t s none m. audit_or_not lexing readings bytes f t s m none) (one_audit lexing readings bytes))

      pub one_output : OneOutput
      one_output words bytes text other s r (usage n none w e) (usage m none' x d) = (same (w ∙ sym x), e ∙ sym d)
      one_output words bytes text other s r (usage n none w e) (command c is w') = absurd (n c is)
      one_output words bytes text other s r (command c is w) (usage n none x d) = absurd (n c is)
      one_output words bytes text other s r (command c is w) (command d it v) =
          let one = one_command words c d is it in
          one_text words d it bytes text other s r (subst (λ z. Writes z bytes text s) one w) v

-- ---- shown again

-- a module that is shown stands in the tokens of its bytes
read_again : ReadAgain → (bytes : List ℕ) (ds : List Declared) → IsRead ReadsModule bytes ds → IsReadAgain ds
read_again again bytes ds r = again bytes r.tokens ds r.lexes (stands r.reads.0)
  where
    stands : Begins ModulePhrase is_left (line_lexemes bytes r.tokens) ds [] → IsModule (line_lexemes bytes r.tokens) ds
    stands b = subst (λ z. IsModule z ds) (sym (b.parts ∙ append-nil b.tokens)) b.phrase.0

-- the text of a module is a module with the same text, or a token of it is too deep
pub shown_twice : ReadAgain → OneModule → ShownAgain
shown_twice again modules bytes text s = by_text text s.written (read_again again bytes s.declared s.read)
  where
    by_text : (text : List ℕ) → text ≡ module_text s.declared → IsReadAgain s.declared → ShowsModule text text status.Done ⊎
        ((at : ℕ) × IsNoModule text (too_deep at))
    by_text text is a = subst (λ z. ShowsModule z z status.Done ⊎ ((at : ℕ) × IsNoModule z (too_deep at))) (sym is)
        (elim (modules.answered (module_text s.declared) a.tokens a.read a.derives) [
          | inl ok ↦ inl (record {
            declared = a.read;
            read = record { tokens = a.tokens; lexes = a.lexes; reads = ok };
            written =
                sym a.same_text;
            ended = refl;
          })
          | inr deep ↦ inr (deep.0, no_reading a.tokens a.lexes (finding.deep deep.0 deep.1 refl))
        ])
