-- What the texts of `equiv` and `audit` say.
use Rattle.std.proofs.Common.{◌≡◌, ◌∙◌, ◌⊎◌, inl, inr, ℕ, Bool, true, false, List, ◌++◌, length, refl, sym, ap, arith, subst}
use Rattle.std.specs.Prelude.{codes}
use Rattle.std.specs.Str.{byte}
use Rattle.std.proofs.lemmas.List.{length-map}
use Rattle.fst_equiv.specs.Answers.{Answer, yes, no, undecided, too_large, Answers}
use Rattle.fst_command.specs.declared.status.Status.{Status}
use Rattle.fst_command.specs.declared.status.Status.TheVariants as status
use Rattle.fst_names.specs.declared.question.Question.{Question}
use Rattle.fst_type_print.specs.Texts.{side_text, word_text}
use Rattle.fst_options.specs.Words.{equiv, audit}
use Rattle.fst_command.specs.Audited as audited
use Rattle.fst_command.specs.Audited.{IsAuditOf, bad_line, first_line, no_basis, valid}
use Rattle.fst_command.specs.Finding.{Finding, refused, too_deep}
use Rattle.fst_command.specs.Finding as finding
use Rattle.fst_command.specs.Output.{answer_status, answer_text, finding_status, AnswersQuestion, IsAnswerText, IsCertified, Writes, too_long, is_none, makes}
use Rattle.fst_command.specs.Texts.{valid_text, yes_text}
use Rattle.fst_command.specs.Meanings.{MeansAnswer, MeansAudit, MeansCertified, MeansProved, MeansYes, MeansNo, MeansUndecided}
use Rattle.fst_command.proofs.QuestionTexts.{IsApart, initial, question_apart}

-- a text that begins with neither of two bytes answers a question
of_question : (budget : ℕ) (proof : Bool) (bytes text : List ℕ) (s : Status) → Writes (equiv budget proof) bytes text s →
    (initial text ≡ byte "r" → ⊥) → (initial text ≡ byte "l" → ⊥) → AnswersQuestion budget proof bytes text s
of_question budget proof bytes text s (too_long long w e) r l = absurd (l (ap initial w))
of_question budget proof bytes text s (is_none short (refused at phrase) h w e) r l = absurd (r (ap initial w))
of_question budget proof bytes text s (is_none short (too_deep at) h w e) r l = absurd (l (ap initial w))
of_question budget proof bytes text s (is_none short (finding.too_large at) h w e) r l = absurd (l (ap initial w))
of_question budget proof bytes text s (makes short m) r l = m

says_yes : (budget : ℕ) (bytes : List ℕ) (s : Status) → Writes (equiv budget false) bytes yes_text s → MeansYes bytes
says_yes budget bytes s w = by m.answer.answer m.answer.answers m.answer.written
  where
    m : AnswersQuestion budget false bytes yes_text s
    m = of_question budget false bytes yes_text s w (λ e. absurd (omega (arith, e))) (λ e. absurd (omega (arith, e)))

    by : (a : Answer) → Answers m.asked.left m.asked.right budget a → yes_text ≡ answer_text bytes m.asked.left_at budget a →
        MeansYes bytes
    by yes (inl h) is = record { asked = m.asked; is_asked = m.is_asked; agree = h.shown.agree }
    by yes (inr h) is = record { asked = m.asked; is_asked = m.is_asked; agree = h.shown.agree }
    by (no word side) h is = absurd (omega (arith, ap initial is))
    by undecided h is = absurd (omega (arith, ap initial is))
    by too_large h is = absurd (omega (arith, ap initial is))

-- the text of an answer, or that of yes with a certificate
as_answer : (proof : Bool) (bytes text : List ℕ) (asked : Question) (budget : ℕ) (a : Answer) →
    IsAnswerText proof bytes asked budget a text → (text ≡ answer_text bytes asked.left_at budget a) ⊎ IsCertified asked text
as_answer false bytes text asked budget a w = inl w
as_answer true bytes text asked budget yes w = inr w
as_answer true bytes text asked budget (no word side) w = inl w
as_answer true bytes text asked budget undecided w = inl w
as_answer true bytes text asked budget too_large w = inl w

-- a question with a certificate begins like no other answer
certified_apart : (asked : Question) (text : List ℕ) → IsCertified asked text → IsApart text
certified_apart asked text c = subst IsApart (sym c.written)
    (question_apart asked.kinds.items asked.left asked.right (codes "\n" ++ c.certificate))

says_no : (budget : ℕ) (proof : Bool) (bytes rest : List ℕ) (s : Status) →
    Writes (equiv budget proof) bytes (codes "no " ++ rest) s → MeansNo bytes (codes "no " ++ rest)
says_no budget proof bytes rest s w =
    elim (as_answer proof bytes (codes "no " ++ rest) m.asked budget m.answer.answer m.answer.written) [
      | inl is ↦ by m.answer.answer m.answer.answers is
      | inr c ↦ absurd ((certified_apart m.asked (codes "no " ++ rest) c).0 refl)
    ]
  where
    m : AnswersQuestion budget proof bytes (codes "no " ++ rest) s
    m = of_question budget proof bytes (codes "no " ++ rest) s w (λ e. absurd (omega (arith, e))) (λ e. absurd (omega (arith, e)))

    by : (a : Answer) → Answers m.asked.left m.asked.right budget a →
        codes "no " ++ rest ≡ answer_text bytes m.asked.left_at budget a → MeansNo bytes (codes "no " ++ rest)
    by yes h is = absurd (omega (arith, ap initial is))
    by (no word side) h is = record {
      asked = m.asked;
      is_asked = m.is_asked;
      trace = word;
      side = side;
      written = is;
      alone = h.least.alone;
      least = h.least.least;
    }
    by undecided h is = absurd (omega (arith, ap initial is))
    by too_large h is = absurd (omega (arith, ap initial is))

says_undecided : (budget : ℕ) (proof : Bool) (bytes rest : List ℕ) (s : Status) →
    Writes (equiv budget proof) bytes (codes "undecided " ++ rest) s → MeansUndecided budget bytes (codes "undecided " ++ rest)
says_undecided budget proof bytes rest s w =
    elim (as_answer proof bytes (codes "undecided " ++ rest) m.asked budget m.answer.answer m.answer.written) [
      | inl is ↦ by m.answer.answer m.answer.answers is
      | inr c ↦ absurd ((certified_apart m.asked (codes "undecided " ++ rest) c).1 refl)
    ]
  where
    m : AnswersQuestion budget proof bytes (codes "undecided " ++ rest) s
    m = of_question budget proof bytes (codes "undecided " ++ rest) s w (λ e. absurd (omega (arith, e)))
        (λ e. absurd (omega (arith, e)))

    by : (a : Answer) → Answers m.asked.left m.asked.right budget a →
        codes "undecided " ++ rest ≡ answer_text bytes m.asked.left_at budget a →
        MeansUndecided budget bytes (codes "undecided " ++ rest)
    by yes h is = absurd (omega (arith, ap initial is))
    by (no word side) h is = absurd (omega (arith, ap initial is))
    by undecided h is = record {
      asked = m.asked;
      is_asked = m.is_asked;
      written = is;
      letters = h.letters;
      rows = h.rows;
      u = h.shown.u;
      v = h.shown.v;
      marks = h.shown.marks;
      words = h.shown.problem;
      pairs = h.shown.first.found;
      count = sym (length-map h.shown.first.found _) ∙ ap length h.shown.first.pairs_are ∙ h.shown.first.full;
      first = h.shown.first.first;
      alike = h.shown.first.alike;
      further = h.shown.first.more;
      no_basis = h.shown.no_basis;
      not_normed = h.shown.not_normed;
    }
    by too_large h is = absurd (omega (arith, ap initial is))

-- what the texts of `no` and `undecided` mean
no_means : (budget : ℕ) (proof : Bool) (bytes text : List ℕ) (s : Status) → Writes (equiv budget proof) bytes text s →
    (rest : List ℕ) → text ≡ codes "no " ++ rest → MeansNo bytes text
no_means budget proof bytes text s w rest e = subst (MeansNo bytes) (sym e)
    (says_no budget proof bytes rest s (subst (λ t. Writes (equiv budget proof) bytes t s) e w))

undecided_means : (budget : ℕ) (proof : Bool) (bytes text : List ℕ) (s : Status) → Writes (equiv budget proof) bytes text s →
    (rest : List ℕ) → text ≡ codes "undecided " ++ rest → MeansUndecided budget bytes text
undecided_means budget proof bytes text s w rest e = subst (MeansUndecided budget bytes) (sym e)
    (says_undecided budget proof bytes rest s (subst (λ t. Writes (equiv budget proof) bytes t s) e w))

-- what each text means
pub equiv_means : (budget : ℕ) (bytes text : List ℕ) (s : Status) → Writes (equiv budget false) bytes text s →
    MeansAnswer budget bytes text
equiv_means budget bytes text s w = record {
  yes = λ e. says_yes budget bytes s (subst (λ t. Writes (equiv budget false) bytes t s) e w);
  no = no_means budget false bytes text s w;
  undecided = undecided_means budget false bytes text s w;
}

-- an input that isn't what its command is for has another status than that of an answer
not_done : (f : Finding) → finding_status f ≡ status.Done → ⊥
not_done (refused at phrase) e = cc
not_done (too_deep at) e = cc
not_done (finding.too_large at) e = cc

-- a text with a certificate
means_certified : (budget : ℕ) (bytes text : List ℕ) (s : Status) → Writes (equiv budget true) bytes text s → s ≡ status.Done →
    ((rest : List ℕ) → text ≡ codes "no " ++ rest → ⊥) → MeansCertified bytes text
means_certified budget bytes text s (too_long long w e) done other = absurd (cc (e, done))
means_certified budget bytes text s (is_none short f h w e) done other = absurd (not_done f (sym e ∙ done))
means_certified budget bytes text s (makes short m) done other =
    by m.answer.answer m.answer.answers m.answer.written m.answer.ended
  where
    by : (a : Answer) → Answers m.asked.left m.asked.right budget a → IsAnswerText true bytes m.asked budget a text →
        s ≡ answer_status a → MeansCertified bytes text
    by yes (inl h) is e = record { asked = m.asked; is_asked = m.is_asked; certified = is; agree = h.shown.agree }
    by yes (inr h) is e = record { asked = m.asked; is_asked = m.is_asked; certified = is; agree = h.shown.agree }
    by (no word side) h is e = absurd (other (word_text word ++ codes " " ++ side_text side ++ codes "\n") is)
    by undecided h is e = absurd (cc (e, done))
    by too_large h is e = absurd (cc (e, done))

-- what each text means where a proof is asked for
pub proved_means : (budget : ℕ) (bytes text : List ℕ) (s : Status) → Writes (equiv budget true) bytes text s →
    MeansProved budget bytes text s
proved_means budget bytes text s w = record {
  proved = means_certified budget bytes text s w;
  no = no_means budget true bytes text s w;
  undecided = undecided_means budget true bytes text s w;
}

-- what `audit` wrote where it is done
record IsAudited (bytes text : List ℕ) : Type 0 where
  written : text ≡ valid_text
  means : MeansYes (first_line bytes)

is_audited : (bytes text : List ℕ) (s : Status) → Writes audit bytes text s → s ≡ status.Done → IsAudited bytes text
is_audited bytes text s (too_long long w e) done = absurd (cc (e, done))
is_audited bytes text s (is_none short f h w e) done = absurd (not_done f (sym e ∙ done))
is_audited bytes text s (makes short m) done = by m.audit
  where
    by : IsAuditOf bytes m.asked text s → IsAudited bytes text
    by (audited.too_large h w e) = absurd (cc (e, done))
    by (bad_line n k bad w e) = absurd (cc (e, done))
    by (no_basis n basis chains is not w e) = absurd (cc (e, done))
    by (valid n basis chains is holds agree w e) =
        record { written = w; means = record { asked = m.asked; is_asked = m.is_asked; agree = agree } }

-- what `audit` says
pub audit_means : (bytes text : List ℕ) (s : Status) → Writes audit bytes text s → MeansAudit bytes text s
audit_means bytes text s w = record {
  written = λ e. (is_audited bytes text s w e).written;
  done = λ e. (is_audited bytes text s w e).means;
}
