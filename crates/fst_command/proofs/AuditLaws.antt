-- Of an input one thing is said by `audit`.
use Rattle.std.proofs.Common.{◌≡◌, ◌∙◌, ◌≤◌, ℕ, List, length, Result, Ok, Err, refl, sym, ap, subst, arith}
use Rattle.std.specs.Prelude.{IfErr, IfOk, codes}
use Rattle.std.proofs.lemmas.Fmt.{decimal_digit}
use Rattle.std.specs.Str.{IsUtf8}
use Rattle.std.specs.declared.alloc.AllocError.{AllocError}
use Rattle.fst_base.specs.Limits.{most_bytes}
use Rattle.fst_lexer.specs.Lexes.{OneLexing}
use Rattle.fst_lexer.specs.declared.token.LexFault.TheVariants as lexical
use Rattle.fst_basis.specs.declared.proof.Chain.{Chain}
use Rattle.fst_basis.specs.declared.proof.Pair.{Pair}
use Rattle.fst_grammar.specs.Translation.{IsTooLarge}
use Rattle.fst_base.specs.Agreement.{Agree}
use Rattle.fst_lts.specs.Step.{step}
use Rattle.fst_cert.specs.Audits.{IsValid}
use Rattle.fst_cert.specs.Certificates.{IsCertOf}
use Rattle.fst_cert.specs.Texts.{steps_of}
use Rattle.fst_cert.proofs.Laws.{one_bad_line, one_cert, valid_steps}
use Rattle.fst_type_syntax.specs.Derives.{OneReading}
use Rattle.fst_type_print.specs.declared.refusals.Phrase.TheVariants as phrase
use Rattle.fst_names.specs.declared.question.Question.{Question}
use Rattle.fst_options.specs.Words.{audit}
use Rattle.fst_command.specs.declared.answer.Answer.{Answer as Written}
use Rattle.fst_command.specs.declared.finding.Fault.{Fault}
use Rattle.fst_command.specs.declared.status.Status.{Status}
use Rattle.fst_command.specs.declared.status.Status.TheVariants as status
use Rattle.fst_command.specs.Audited.{first_line, other_lines, IsNoAudit, not_utf8, no_question, IsAuditOf, too_large, bad_line, no_basis, valid, AuditsCertificate}
use Rattle.fst_command.specs.Finding.{Finding, refused, AreAsked, IsNoQuestion}
use Rattle.fst_command.specs.Output.{Writes, makes}
use Rattle.fst_command.specs.Views.{IfFound}
use Rattle.fst_command.specs.Texts.{too_large_text, bad_line_text, no_basis_text, valid_text}
use Rattle.fst_command.proofs.FindingLaws.{if_found}
use Rattle.fst_command.proofs.OneFinding.{IsSameAsked, one_no_question, question_or_not, asked_once}

-- a certificate of two types in the same text is valid of them, too
same_valid : (rest : List ℕ) (asked : Question) (basis others : List Pair) (chains more : List Chain) →
    IsCertOf rest basis (steps_of chains) → IsCertOf rest others (steps_of more) →
    IsValid asked.left asked.right basis chains → IsValid asked.left asked.right others more
same_valid rest asked basis others chains more one other holds =
    let both = one_cert rest basis others (steps_of chains) (steps_of more) one other in
    valid_steps asked.left asked.right others chains more both.1
    (subst (λ b. IsValid asked.left asked.right b chains) both.0 holds)

-- of a question and of what stands behind its line one thing is said
one_said : (bytes : List ℕ) (asked : Question) (t u : List ℕ) (s r : Status) → IsAuditOf bytes asked t s →
    IsAuditOf bytes asked u r → (t ≡ u) × (s ≡ r)
one_said bytes asked t u s r (too_large h w e) (too_large k x d) = (w ∙ sym x, e ∙ sym d)
one_said bytes asked t u s r (too_large h w e) (bad_line n k bad x d) = absurd (n h)
one_said bytes asked t u s r (too_large h w e) (no_basis n basis chains is not x d) = absurd (n h)
one_said bytes asked t u s r (too_large h w e) (valid n basis chains is holds agree x d) = absurd (n h)
one_said bytes asked t u s r (bad_line n k bad w e) (too_large h x d) = absurd (n h)
one_said bytes asked t u s r (bad_line n k bad w e) (bad_line m j other x d) =
    (w ∙ ap bad_line_text (one_bad_line (other_lines bytes) k j bad other) ∙ sym x, e ∙ sym d)
one_said bytes asked t u s r (bad_line n k bad w e) (no_basis m basis chains is not x d) =
    absurd (bad.other basis (steps_of chains) is)
one_said bytes asked t u s r (bad_line n k bad w e) (valid m basis chains is holds agree x d) =
    absurd (bad.other basis (steps_of chains) is)
one_said bytes asked t u s r (no_basis n basis chains is not w e) (too_large h x d) = absurd (n h)
one_said bytes asked t u s r (no_basis n basis chains is not w e) (bad_line m j other x d) =
    absurd (other.other basis (steps_of chains) is)
one_said bytes asked t u s r (no_basis n basis chains is not w e) (no_basis m others more it nor x d) = (w ∙ sym x, e ∙ sym d)
one_said bytes asked t u s r (no_basis n basis chains is not w e) (valid m others more it holds agree x d) =
    absurd (not (same_valid (other_lines bytes) asked others basis more chains it is holds))
one_said bytes asked t u s r (valid n basis chains is holds agree w e) (too_large h x d) = absurd (n h)
one_said bytes asked t u s r (valid n basis chains is holds agree w e) (bad_line m j other x d) =
    absurd (other.other basis (steps_of chains) is)
one_said bytes asked t u s r (valid n basis chains is holds agree w e) (no_basis m others more it not x d) =
    absurd (not (same_valid (other_lines bytes) asked basis others chains more is it holds))
one_said bytes asked t u s r (valid n basis chains is holds agree w e) (valid m others more it holds' agree' x d) =
    (w ∙ sym x, e ∙ sym d)

-- the types of a question that is the same aren't too large either
small : (asked other : Question) → IsSameAsked asked other → ¬ (IsTooLarge asked.left asked.right) →
    ¬ (IsTooLarge other.left other.right)
small asked other same n h =
    n (subst (λ z. IsTooLarge z asked.right) (sym same.left) (subst (λ z. IsTooLarge other.left z) (sym same.right) h))

-- what is said of a question is said of another that is the same
same_audit : (bytes : List ℕ) (asked other : Question) (t : List ℕ) (s : Status) → IsSameAsked asked other →
    IsAuditOf bytes asked t s → IsAuditOf bytes other t s
same_audit bytes asked other t s same (too_large h w e) =
    too_large (subst (λ z. IsTooLarge z other.right) same.left (subst (λ z. IsTooLarge asked.left z) same.right h))
    (w ∙ ap (too_large_text bytes) same.left_at) e
same_audit bytes asked other t s same (bad_line n k bad w e) = bad_line (small asked other same n) k bad w e
same_audit bytes asked other t s same (no_basis n basis chains is not w e) =
    no_basis (small asked other same n) basis chains is
    (λ h. not (subst (λ z. IsValid z asked.right basis chains) (sym same.left)
    (subst (λ z. IsValid other.left z basis chains) (sym same.right) h))) w e
same_audit bytes asked other t s same (valid n basis chains is holds agree w e) =
    valid (small asked other same n) basis chains is
    (subst (λ z. IsValid z other.right basis chains) same.left
    (subst (λ z. IsValid asked.left z basis chains) same.right holds))
    (subst (λ z. Agree step step z other.right) same.left (subst (λ z. Agree step step asked.left z) same.right agree)) w e

module _ (lexing : OneLexing) (readings : OneReading) (bytes : List ℕ) where
  -- one thing is found of bytes that are none for `audit`
  pub one_no_audit : (f g : Finding) → IsNoAudit bytes f → IsNoAudit bytes g → f ≡ g
  one_no_audit f g (not_utf8 at h is) (not_utf8 from k it) =
      let both = lexing.one_fault bytes (lexical.NotUtf8 at) (lexical.NotUtf8 from) (λ e. absurd (cc e)) (λ e. absurd (cc e)) h
      k in
      let same : at ≡ from = cc in
      is ∙ ap (λ n. refused n phrase.NotUtf8) same ∙ sym it
  one_no_audit f g (not_utf8 at h is) (no_question text none) = absurd (h.0 text)
  one_no_audit f g (no_question text none) (not_utf8 at h is) = absurd (h.0 text)
  one_no_audit f g (no_question text none) (no_question same other) =
      one_no_question lexing readings (first_line bytes) f g none other

  -- bytes of which something is said are not none
  pub audit_or_not : (f : Finding) (t : List ℕ) (s : Status) → AuditsCertificate bytes t s → IsNoAudit bytes f → ⊥
  audit_or_not f t s a (not_utf8 at h is) = h.0 a.is_text
  audit_or_not f t s a (no_question text none) = question_or_not lexing readings (first_line bytes) a.asked f a.is_asked none

  -- one thing is said of them
  pub one_audit : (t u : List ℕ) (s r : Status) → AuditsCertificate bytes t s → AuditsCertificate bytes u r → (t ≡ u) × (s ≡ r)
  one_audit t u s r a b =
      let same = asked_once lexing readings (first_line bytes) a.asked b.asked a.is_asked b.is_asked in
      one_said bytes b.asked t u s r (same_audit bytes a.asked b.asked t s same a.audit) b.audit

-- ---- what is written

-- a first line that is no question of two session types
pub first_found : (bytes first : List ℕ) (r : Result Question Fault) → IsUtf8 bytes → first ≡ first_line bytes →
    IfErr r (λ f. IfFound f (IsNoQuestion first)) → IfErr r (λ f. IfFound f (IsNoAudit bytes))
first_found bytes first (Ok q) text is h = tt
first_found bytes first (Err f) text is h =
    if_found (IsNoQuestion first) (IsNoAudit bytes) f (λ g none. no_question text (subst (λ z. IsNoQuestion z g) is none)) h

-- a certificate that is valid
pub valid_said : (bytes : List ℕ) (asked : Question) (basis : List Pair) (chains : List Chain) (r : Result Written AllocError) →
    ¬ (IsTooLarge asked.left asked.right) → IsCertOf (other_lines bytes) basis (steps_of chains) →
    IsValid asked.left asked.right basis chains → Agree step step asked.left asked.right →
    IfOk r (λ a. a.text.items ≡ valid_text) → IfOk r (λ a. a.status ≡ status.Done) →
    IfOk r (λ a. IsAuditOf bytes asked a.text.items a.status)
valid_said bytes asked basis chains (Ok a) n is holds agree w e = valid n basis chains is holds agree w e
valid_said bytes asked basis chains (Err f) n is holds agree w e = tt

no_basis_line : codes "refused 1:1 no basis\n" ≡ no_basis_text
no_basis_line = rw (decimal_digit 1 (omega arith)) refl

-- and one that isn't
pub no_basis_said : (bytes : List ℕ) (asked : Question) (basis : List Pair) (chains : List Chain)
    (r : Result Written AllocError) →
    ¬ (IsTooLarge asked.left asked.right) → IsCertOf (other_lines bytes) basis (steps_of chains) →
    ¬ (IsValid asked.left asked.right basis chains) →
    IfOk r (λ a. a.text.items ≡ codes "refused 1:1 no basis\n") → IfOk r (λ a. a.status ≡ status.Refused) →
    IfOk r (λ a. IsAuditOf bytes asked a.text.items a.status)
no_basis_said bytes asked basis chains (Ok a) n is not w e = no_basis n basis chains is not (w ∙ no_basis_line) e
no_basis_said bytes asked basis chains (Err f) n is not w e = tt

-- what is said of a question of two session types is written
pub audit_output : (bytes : List ℕ) (q : Question) (r : Result Written AllocError) → length bytes ≤ most_bytes →
    IsUtf8 bytes → AreAsked (first_line bytes) q → IfOk r (λ a. IsAuditOf bytes q a.text.items a.status) →
    IfOk r (λ a. Writes audit bytes a.text.items a.status)
audit_output bytes q (Ok a) short text is said =
    makes short (record { is_text = text; asked = q; is_asked = is; audit = said })
audit_output bytes q (Err e) short text is said = tt
