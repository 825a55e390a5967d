-- What is written of a question and of a module that are within the limits.
use Rattle.std.proofs.Common.{◌≡◌, ◌∙◌, ℕ, ◌≤◌, List, [], ◌∷◌, ◌++◌, length, Bool, Option, Some, None, refl, sym, ap, subst, arith, append-nil, length-append}
use Rattle.fst_base.specs.Limits.{most_bytes}
use Rattle.fst_equiv.specs.Answers.{Answer, yes, no, undecided, too_large, Answers}
use Rattle.fst_lexer.specs.Lexes.{OneLexing}
use Rattle.fst_type_syntax.specs.Derives.{OneReading}
use Rattle.fst_types.specs.declared.family.Family.{Family}
use Rattle.fst_terms.specs.declared.core_module.Module.{Module}
use Rattle.fst_module_grammar.specs.Derives.{AnswersModule, OneModule}
use Rattle.fst_names.specs.ResolvedModule.{OneModuleLaw}
use Rattle.fst_vm.specs.declared.report.Outcome.{Outcome}
use Rattle.fst_vm.specs.declared.report.Outcome.TheVariants.{Done, OutOfSteps}
use Rattle.fst_vm.specs.declared.report.Report.{Report}
use Rattle.fst_vm.specs.declared.report.Waiting.{Waiting}
use Rattle.fst_buffered.specs.declared.outcome.BufferedOutcome.{BufferedOutcome}
use Rattle.fst_buffered.specs.declared.outcome.BufferedOutcome.TheVariants as buffered_run
use Rattle.fst_report.specs.ReportTexts.{report_text}
use Rattle.fst_options.specs.Words.{equiv, show, check, run, buffered}
use Rattle.fst_command.specs.declared.status.Status.{Status}
use Rattle.fst_command.specs.declared.status.Status.TheVariants as status
use Rattle.fst_typing.specs.Laws.{WithinIsNotRefused}
use Rattle.fst_command.specs.Complete.{AreComplete, HasBegun, IsComplete, IsInput, IsQuestionWithin, IsReadWithin, IsWithinLimits}
use Rattle.fst_command.specs.Finding.{AreUnresolved, IsNoModule, IsNoQuestion}
use Rattle.fst_command.specs.Output.{AnswersQuestion, FindsModule, IsFoundOf, accepted, unaccepted, SaysAccepted, SaysBuffered, SaysOutcome, ShowsModule, WritesOf, too_long, is_none, makes, answer_status, buffered_outcome_status, outcome_status, waiting_status}
use Rattle.fst_command.specs.Top.{IsAnswered, ReadsInput}
use Rattle.fst_command.specs.Meanings.{MeansBeyond}
use Rattle.fst_command.proofs.OneFinding.{asked_once, question_or_not, read_once}
use Rattle.fst_command.proofs.OneResolved.{resolved_or_not, same_resolved}
use Rattle.fst_command.proofs.Runs.{written_for}
use Rattle.fst_command.proofs.SameRefusals.{refused_module}

-- ---- what was read

-- of an input that is known, and isn't too long, all was read
all_read : (old new : Option (List ℕ)) (bytes all : List ℕ) → old ≡ Some all → length all ≤ most_bytes →
    ReadsInput old new bytes → bytes ≡ all
all_read None new bytes all is short r = absurd (cc is)
all_read (Some xs) None bytes all is short r = absurd r.read
all_read (Some xs) (Some ys) bytes all is short r =
    let same : xs ≡ all = cc in
    let parts : all ≡ bytes ++ ys = sym same ∙ r.read in
    let long = ap length parts ∙ length-append bytes ys in
    let end = r.end (omega (arith, long, short)) in
    sym (append-nil bytes) ∙ ap (λ l. bytes ++ l) (sym end) ∙ sym parts

-- so what holds of an input that isn't too long holds of what was read
read_within : (Are : List ℕ → Type 0) → ((all : List ℕ) → Are all → length all ≤ most_bytes) →
    (old new : Option (List ℕ)) (bytes : List ℕ) → IsInput Are old → ReadsInput old new bytes → Are bytes
read_within Are short None new bytes w r = absurd w
read_within Are short (Some all) new bytes w r = subst Are (sym (all_read (Some all) new bytes all refl (short all w) r)) w

-- ---- what is written

-- the status of a report, and of what so many steps come to
tasks_begun : (ws : List Waiting) → HasBegun (waiting_status ws)
tasks_begun [] = tt
tasks_begun (w ∷ ws) = tt

outcome_begun : (o : Outcome) → HasBegun (outcome_status o)
outcome_begun (Done r) = tasks_begun r.waiting.items
outcome_begun OutOfSteps = tt

buffered_begun : (o : BufferedOutcome) → HasBegun (buffered_outcome_status o)
buffered_begun (buffered_run.Done r unread) = tasks_begun r.waiting.items
buffered_begun buffered_run.OutOfSteps = tt

-- ---- questions

-- a question that is neither spent nor too large has an answer
question_done : OneLexing → OneReading → (budget : ℕ) (proof : Bool) (bytes text : List ℕ) (s : Status) →
    WritesOf IsNoQuestion (AnswersQuestion budget proof) bytes text s → IsQuestionWithin budget bytes → s ≡ status.Done
question_done lexing readings budget proof bytes text s (too_long long w e) l =
    let short = l.short in absurd (omega (arith, long, short))
question_done lexing readings budget proof bytes text s (is_none short f h w e) l =
    absurd (question_or_not lexing readings bytes l.asked f l.is_asked h)
question_done lexing readings budget proof bytes text s (makes short m) l =
    by m.answer.answer (moved m.answer.answer m.answer.answers) m.answer.ended
  where
    moved : (a : Answer) → Answers m.asked.left m.asked.right budget a → Answers l.asked.left l.asked.right budget a
    moved a h = let same = asked_once lexing readings bytes m.asked l.asked m.is_asked l.is_asked in
        subst (λ t. Answers t l.asked.right budget a) same.left (subst (λ t. Answers m.asked.left t budget a) same.right h)

    by : (a : Answer) → Answers l.asked.left l.asked.right budget a → s ≡ answer_status a → s ≡ status.Done
    by yes h e = e
    by (no word side) h e = e
    by undecided h e = absurd (l.unspent h)
    by too_large h e = absurd (l.small h)

-- ---- modules

-- a module as it is written is shown
module_shown : OneLexing → OneModule → (bytes text : List ℕ) (s : Status) → WritesOf IsNoModule ShowsModule bytes text s →
    IsReadWithin bytes → ShowsModule bytes text s
module_shown lexing modules bytes text s (too_long long w e) l = let short = l.short in absurd (omega (arith, long, short))
module_shown lexing modules bytes text s (is_none short f h w e) l =
    absurd (read_once AnswersModule lexing modules.one_answer bytes l.declared f l.read h)
module_shown lexing modules bytes text s (makes short m) l = m

module _ (lexing : OneLexing) (modules : OneModule) (one : OneModuleLaw) (complete : WithinIsNotRefused) where
  -- what is made of the module
  pub makes_within : (IsMade : Module → List ℕ → Status → Type 0) (budget : ℕ) (bytes text : List ℕ) (s : Status) →
      WritesOf AreUnresolved (FindsModule IsMade budget) bytes text s → IsWithinLimits budget bytes →
      (m : FindsModule IsMade budget bytes text s) × IsMade m.resolved text s
  makes_within IsMade budget bytes text s (too_long long w e) l = let short = l.short in absurd (omega (arith, long, short))
  makes_within IsMade budget bytes text s (is_none short f h w e) l =
      absurd (resolved_or_not lexing modules bytes l.resolved f l.is_resolved h)
  makes_within IsMade budget bytes text s (makes short m) l = by m.found
    where
      by : IsFoundOf (IsMade m.resolved) bytes m.resolved budget text s →
          (m : FindsModule IsMade budget bytes text s) × IsMade m.resolved text s
      by (accepted ds a made) = (m, made)
      by (unaccepted f h w e) =
          let parts = same_resolved lexing modules bytes one m.resolved l.resolved m.is_resolved l.is_resolved in
          absurd (complete l.resolved budget l.derivations l.within f (refused_module m.resolved l.resolved parts budget f h))

  -- where no run was begun, the module isn't within the limits
  pub unbegun_beyond : (shown : List Family → Report → List ℕ) (events : Bool) (steps budget : ℕ) (bytes text : List ℕ)
      (s : Status) → WritesOf AreUnresolved (FindsModule (SaysOutcome shown events steps) budget) bytes text s →
      (HasBegun s → ⊥) → MeansBeyond budget bytes
  unbegun_beyond shown events steps budget bytes text s w unbegun l =
      let made = (makes_within (SaysOutcome shown events steps) budget bytes text s w l).1 in
      unbegun (subst HasBegun (sym made.ended) (outcome_begun made.outcome))

  pub unbuffered_beyond : (capacity steps budget : ℕ) (bytes text : List ℕ) (s : Status) →
      WritesOf AreUnresolved (FindsModule (SaysBuffered capacity steps) budget) bytes text s →
      (HasBegun s → ⊥) → MeansBeyond budget bytes
  unbuffered_beyond capacity steps budget bytes text s w unbegun l =
      let made = (makes_within (SaysBuffered capacity steps) budget bytes text s w l).1 in
      unbegun (subst HasBegun (sym made.ended) (buffered_begun made.outcome))

  pub are_complete : OneReading → AreComplete
  are_complete readings = record {
    equiv = question_done lexing readings;
    show = module_shown lexing modules;
    check = λ budget bytes text s w l. (makes_within SaysAccepted budget bytes text s w l).1;
    run = λ steps workers budget events bytes text s w l.
        let m = makes_within (SaysOutcome report_text events steps) budget bytes text s w l in
        record {
          resolved = m.0.resolved;
          is_resolved = m.0.is_resolved;
          says = m.1;
          begun =
              subst HasBegun (sym m.1.ended) (outcome_begun m.1.outcome);
        };
    buffered = λ steps capacity budget bytes text s w l.
        let m = makes_within (SaysBuffered capacity steps) budget bytes text s w l in
        record {
          resolved = m.0.resolved;
          is_resolved = m.0.is_resolved;
          says = m.1;
          begun =
              subst HasBegun (sym m.1.ended) (buffered_begun m.1.outcome);
        };
  }

-- ---- how a run of the program ends

pub is_complete : AreComplete → (words : List (List ℕ)) (old new : Option (List ℕ)) (text : List ℕ) (s : Status) →
    IsAnswered words old new text s → IsComplete words old s
is_complete law words old new text s a = record {
  equiv = λ budget proof it w.
      law.equiv budget proof a.bytes text s (written_for words a.bytes text s (equiv budget proof) it a.output)
      (read_within (IsQuestionWithin budget) (λ all l. l.short) old new a.bytes w (a.read (equiv budget proof) it));
  show = λ it w.
      (law.show a.bytes text s (written_for words a.bytes text s show it a.output)
      (read_within IsReadWithin (λ all l. l.short) old new a.bytes w (a.read show it))).ended;
  check = λ budget it w. (law.check budget a.bytes text s (written_for words a.bytes text s (check budget) it a.output)
      (module_within budget w (a.read (check budget) it))).1;
  run = λ steps workers budget events it w.
      (law.run steps workers budget events a.bytes text s
      (written_for words a.bytes text s (run steps workers budget events) it a.output)
      (module_within budget w (a.read (run steps workers budget events) it))).begun;
  buffered = λ steps capacity budget it w.
      (law.buffered steps capacity budget a.bytes text s
      (written_for words a.bytes text s (buffered steps capacity budget) it a.output)
      (module_within budget w (a.read (buffered steps capacity budget) it))).begun;
}
  where
    module_within : (budget : ℕ) → IsInput (IsWithinLimits budget) old → ReadsInput old new a.bytes →
        IsWithinLimits budget a.bytes
    module_within budget w r = read_within (IsWithinLimits budget) (λ all l. l.short) old new a.bytes w r
