-- What `equiv` writes of a yes with a proof is valid to `audit`.
use Rattle.std.proofs.Common.{◌≡◌, ◌∙◌, inl, inr, ℕ, ◌+◌, ◌<◌, true, List, [], ◌++◌, length, take, refl, sym, ap, subst, arith, length-take-le}
use Rattle.std.specs.Prelude.{codes}
use Rattle.std.specs.Str.{IsAscii, IsUtf8}
use Rattle.std.proofs.lemmas.Str.{IsUtf8-append, IsUtf8-from_ascii}
use Rattle.std.proofs.lemmas.Str.Ascii.{IsAscii-cons, IsAscii-nil}
use Rattle.fst_base.specs.Agreement.{Agree}
use Rattle.fst_base.specs.Limits.{most_bytes}
use Rattle.fst_lts.specs.Step.{step}
use Rattle.fst_types.specs.Tree.{Tree}
use Rattle.fst_equiv.specs.Answers.{yes, too_large, Answers, AreFoundEqual, OneAnswer}
use Rattle.fst_grammar.specs.Translation.{IsTooLarge}
use Rattle.fst_cert.specs.Certificates.{IsCertOf}
use Rattle.fst_cert.specs.Texts.{steps_of}
use Rattle.fst_cert.proofs.Laws.{ascii_cert}
use Rattle.fst_terms.specs.Naming.{place}
use Rattle.fst_scopes.proofs.Laws.{none_named}
use Rattle.fst_type_print.specs.Texts.{question_text}
use Rattle.fst_roundtrip.specs.ReadQuestion.{AskedAgain, IsAskedAgain, IsQuestionOf}
use Rattle.fst_names.specs.declared.question.Question.{Question}
use Rattle.fst_names.specs.Faults.{types_faults, scope_of}
use Rattle.fst_names.specs.Resolved.{IsResolved}
use Rattle.fst_scopes.specs.Faults.{type_faults}
use Rattle.fst_scopes.specs.Twice.{twice, variables}
use Rattle.fst_type_syntax.specs.Grammar.{Asked}
use Rattle.fst_options.specs.Words.{audit}
use Rattle.fst_command.specs.declared.status.Status.TheVariants as status
use Rattle.fst_command.specs.Audited.{first_line, other_lines, AuditsCertificate, valid}
use Rattle.fst_command.specs.Finding.{AreAsked}
use Rattle.fst_command.specs.Output.{AuditedAgain, IsAnswerText, IsCertified, Writes, too_long, makes}
use Rattle.fst_command.specs.Texts.{valid_text, too_long_text}
use Rattle.fst_command.proofs.FirstLines.{first_before, others_behind}

-- a question that is resolved is one without faults
resolved_question : (q : Asked) (asked : Question) → IsResolved q asked → IsQuestionOf q asked.kinds.items asked.left asked.right
resolved_question q asked r =
    let apart = none_named (twice (variables q.binders)) (types_faults q) r.faultless in
    let types = none_named (type_faults (scope_of q) q.left) (type_faults (scope_of q) q.right) apart.1 in
    record {
      once = apart.0;
      left_named = types.0;
      right_named = types.1;
      kinds_are = r.kinds_are;
      left_is = r.left_is;
      right_is = r.right_is;
    }

-- and the other way round
question_resolved : (q : Asked) (asked : Question) → IsQuestionOf q asked.kinds.items asked.left asked.right →
    asked.left_at ≡ place q.left → asked.right_at ≡ place q.right → IsResolved q asked
question_resolved q asked h left right = record {
  faultless = rw (h.once, h.left_named, h.right_named) refl;
  kinds_are = h.kinds_are;
  left_is = h.left_is;
  right_is = h.right_is;
  left_begins = left;
  right_begins = right;
}

-- the same question at the places of another text
abbrev moved : Question → Asked → Question
moved asked q = record asked { left_at = place q.left; right_at = place q.right }

-- the text of a question asks it again
asked_by : (asked : Question) (bytes : List ℕ) → AreAsked bytes asked →
    (a : IsAskedAgain asked.kinds.items asked.left asked.right) →
    AreAsked (question_text asked.kinds.items asked.left asked.right) (moved asked a.read)
asked_by asked bytes is a = record {
  question = a.read;
  read = record { tokens = a.tokens; lexes = a.lexes; reads = a.reads };
  asks = record {
    resolved = question_resolved a.read (moved asked a.read) a.asks refl refl;
    left = is.asks.left;
    right = is.asks.right;
  };
}

-- types that are found equal agree
found_agree : (s r : Tree) (budget : ℕ) → AreFoundEqual s r budget → Agree step step s r
found_agree s r budget (inl h) = h.shown.agree
found_agree s r budget (inr h) = h.shown.agree

pub audited_twice : AskedAgain → OneAnswer → AuditedAgain
audited_twice law answers budget bytes text m short is_yes = (λ small. makes small said, long)
  where
    asked : Question
    asked = m.asked

    shown : AreFoundEqual asked.left asked.right budget
    shown = subst (λ a. Answers asked.left asked.right budget a) is_yes m.answer.answers

    written : IsCertified asked text
    written = subst (λ a. IsAnswerText true bytes asked budget a text) is_yes m.answer.written

    line : List ℕ
    line = question_text asked.kinds.items asked.left asked.right

    is : AreAsked bytes asked
    is = m.is_asked

    again : IsAskedAgain asked.kinds.items asked.left asked.right
    again = law bytes is.read.tokens is.question asked.kinds.items asked.left asked.right short is.read.lexes
        is.read.reads (resolved_question is.question asked is.asks.resolved) is.asks.left.session is.asks.right.session

    first : first_line text ≡ line
    first = ap first_line written.written ∙ first_before line written.certificate again.one_line

    others : other_lines text ≡ written.certificate
    others = ap other_lines written.written ∙ others_behind line written.certificate again.one_line

    is_text : IsUtf8 text
    is_text = subst IsUtf8 (sym written.written)
        (IsUtf8-append line (codes "\n" ++ written.certificate) again.lexes.text
        (IsUtf8-append (codes "\n") written.certificate
        (IsUtf8-from_ascii (codes "\n") (IsAscii-cons 10 [] (omega arith) IsAscii-nil))
        (IsUtf8-from_ascii written.certificate (subst (λ z. IsAscii z) (sym written.is_cert.text_is)
        (ascii_cert written.basis (steps_of written.chains) written.is_cert.cert)))))

    small : ¬ (IsTooLarge asked.left asked.right)
    small h = absurd (cc (answers asked.kinds.items asked.kinds.items asked.left asked.right budget is.asks.left.session
        is.asks.right.session yes too_large shown h))

    said : AuditsCertificate text valid_text status.Done
    said = record {
      is_text = is_text;
      asked = moved asked again.read;
      is_asked = subst (λ z. AreAsked z (moved asked again.read)) (sym first) (asked_by asked bytes is again);
      audit = valid small written.basis written.chains
          (subst (λ z. IsCertOf z written.basis (steps_of written.chains)) (sym others) written.is_cert)
          written.valid (found_agree asked.left asked.right budget shown) refl refl;
    }

    long : most_bytes < length text → Writes audit (take (most_bytes + 1) text) too_long_text status.Limit
    long over = too_long (length-take-le (most_bytes + 1) text (omega arith)) refl refl
