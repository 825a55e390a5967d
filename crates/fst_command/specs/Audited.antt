-- What `audit` makes of an input: its first line is a question, and behind that line stands a certificate.
use Rattle.std.specs.Prelude.{◌≡◌, ℕ, List, [], ◌∷◌, if◌then◌else◌}
use Rattle.std.specs.Str.{IsUtf8}
use Rattle.fst_base.specs.Agreement.{Agree}
use Rattle.fst_lts.specs.Step.{step}
use Rattle.fst_lexer.specs.declared.token.LexFault.TheVariants as lexical
use Rattle.fst_lexer.specs.Lexes.{Refuses}
use Rattle.fst_basis.specs.declared.proof.Chain.{Chain}
use Rattle.fst_basis.specs.declared.proof.Pair.{Pair}
use Rattle.fst_grammar.specs.Translation.{IsTooLarge}
use Rattle.fst_cert.specs.Audits.{IsValid}
use Rattle.fst_cert.specs.Certificates.{IsCertOf, IsFirstBad}
use Rattle.fst_cert.specs.Texts.{steps_of}
use Rattle.fst_type_print.specs.declared.refusals.Phrase.TheVariants as phrase
use Rattle.fst_names.specs.declared.question.Question.{Question}
use Rattle.fst_command.specs.declared.status.Status.{Status}
use Rattle.fst_command.specs.declared.status.Status.TheVariants as status
use Rattle.fst_command.specs.Finding.{Finding, refused, AreAsked, IsNoQuestion}
use Rattle.fst_command.specs.Texts.{is_line_feed, too_large_text, valid_text, bad_line_text, no_basis_text}

-- the bytes in front of the first line feed
abbrev pub first_line : List ℕ → List ℕ
first_line [] = []
first_line (c ∷ cs) = if is_line_feed c then [] else c ∷ first_line cs

-- the bytes behind it
abbrev pub other_lines : List ℕ → List ℕ
other_lines [] = []
other_lines (c ∷ cs) = if is_line_feed c then cs else other_lines cs

-- the bytes are no text, or their first line is no question of two session types
pub data IsNoAudit (bytes : List ℕ) (f : Finding) : Type 0 where
  not_utf8 : (at : ℕ) → Refuses bytes (lexical.NotUtf8 at) → f ≡ refused at phrase.NotUtf8 →
      IsNoAudit bytes f
  no_question : IsUtf8 bytes → IsNoQuestion (first_line bytes) f → IsNoAudit bytes f

-- what is said of the two types of a question, and of the bytes behind its line: that the types are too large; or else which line is the
-- first that no certificate has there; or else whether the certificate is valid of the types, which then agree at every depth
pub data IsAuditOf (bytes : List ℕ) (asked : Question) (text : List ℕ) (s : Status) : Type 0 where
  too_large : IsTooLarge asked.left asked.right → text ≡ too_large_text bytes asked.left_at →
      s ≡ status.Limit → IsAuditOf bytes asked text s
  bad_line : ¬ (IsTooLarge asked.left asked.right) → (k : ℕ) → IsFirstBad (other_lines bytes) k →
      text ≡ bad_line_text k → s ≡ status.Refused → IsAuditOf bytes asked text s
  no_basis : ¬ (IsTooLarge asked.left asked.right) → (basis : List Pair) (chains : List Chain) →
      IsCertOf (other_lines bytes) basis (steps_of chains) →
      ¬ (IsValid asked.left asked.right basis chains) →
      text ≡ no_basis_text → s ≡ status.Refused → IsAuditOf bytes asked text s
  valid : ¬ (IsTooLarge asked.left asked.right) → (basis : List Pair) (chains : List Chain) →
      IsCertOf (other_lines bytes) basis (steps_of chains) →
      IsValid asked.left asked.right basis chains → Agree step step asked.left asked.right →
      text ≡ valid_text → s ≡ status.Done → IsAuditOf bytes asked text s

-- the bytes are a text whose first line is a question of two session types, and this text and status are what is said of it and of the
-- lines behind it
pub record AuditsCertificate (bytes text : List ℕ) (s : Status) : Type 0 where
  pub is_text : IsUtf8 bytes
  pub asked : Question
  pub is_asked : AreAsked (first_line bytes) asked
  pub audit : IsAuditOf bytes asked text s
