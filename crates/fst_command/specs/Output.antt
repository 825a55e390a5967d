-- Which text and which status belong to which words and which bytes: a command has its own case in `Writes`.
use Rattle.std.specs.Prelude.{◌≡◌, ℕ, ◌+◌, ◌≤◌, ◌<◌, ◌⊎◌, List, [], ◌∷◌, ◌++◌, Bool, true, false, length, take, codes, Some}
use Rattle.fst_base.specs.Limits.{most_bytes}
use Rattle.fst_basis.specs.declared.proof.Chain.{Chain}
use Rattle.fst_basis.specs.declared.proof.Pair.{Pair}
use Rattle.fst_cert.specs.Audits.{IsValid}
use Rattle.fst_cert.specs.Certificates.{IsCertOf}
use Rattle.fst_cert.specs.Texts.{steps_of}
use Rattle.fst_equiv.specs.Answers.{Answer, yes, no, undecided, too_large, Answers}
use Rattle.fst_types.specs.declared.family.Family.{Family}
use Rattle.fst_terms.specs.CoreTree.{CoreTree}
use Rattle.fst_terms.specs.ModuleTree.{Declared}
use Rattle.fst_terms.specs.declared.core_module.Module.{Module}
use Rattle.fst_module_grammar.specs.Derives.{AnswersModule as ReadsModule}
use Rattle.fst_names.specs.declared.question.Question.{Question}
use Rattle.fst_type_print.specs.Texts.{family_names, question_text}
use Rattle.fst_print.specs.ModuleTexts.{module_text}
use Rattle.fst_derivations.specs.Deriv.{Deriv}
use Rattle.fst_typing.specs.Checked.{IsAccepted, IsRefusal}
use Rattle.fst_premises.specs.declared.fault.CheckFault.{CheckFault}
use Rattle.fst_runs.specs.declared.event.Stamped.{Stamped}
use Rattle.fst_runs.specs.Configs.{main_body}
use Rattle.fst_vm.specs.declared.report.Outcome.{Outcome}
use Rattle.fst_vm.specs.declared.report.Outcome.TheVariants.{Done, OutOfSteps}
use Rattle.fst_vm.specs.declared.report.Report.{Report}
use Rattle.fst_vm.specs.declared.report.Waiting.{Waiting}
use Rattle.fst_process.specs.Reports.{IsAnswer}
use Rattle.fst_buffered.specs.declared.outcome.BufferedOutcome.{BufferedOutcome}
use Rattle.fst_buffered.specs.declared.outcome.BufferedOutcome.TheVariants as buffered_run
use Rattle.fst_buffered.specs.Answers.{IsAnswer as IsBufferedAnswer}
use Rattle.fst_report.specs.BufferedTexts.{buffered_text}
use Rattle.fst_merge.specs.EventTexts.{events_text}
use Rattle.fst_merge.specs.LeastEvents.{AreEventsOf}
use Rattle.fst_report.specs.ReportTexts.{report_text}
use Rattle.fst_report.specs.SummaryTexts.{summary_text}
use Rattle.fst_command.specs.declared.status.Status.{Status}
use Rattle.fst_command.specs.declared.status.Status.TheVariants as status
use Rattle.fst_make.specs.Made.{made_text}
use Rattle.fst_options.specs.Words.{Command, equiv, show, check, run, buffered, make, audit, IsCommand, NoCommand, default_budget, default_steps}
use Rattle.fst_command.specs.Finding.{Finding, refused, too_deep, IsRead, AreAsked, IsNoQuestion, IsNoModule, AreResolved, AreUnresolved}
use Rattle.fst_command.specs.Finding as finding
use Rattle.fst_command.specs.Texts.{yes_text, no_text, undecided_text, refused_text, too_deep_text, too_large_text, too_long_text, usage_text, out_of_steps_text, valid_text}
use Rattle.fst_command.specs.Audited.{IsNoAudit, AuditsCertificate}
use Rattle.fst_command.specs.CheckTexts.{accepted_text, cause, cause_text, cause_status}

-- ---- an input that isn't what its command is for

-- the text that says where and why
abbrev pub finding_text : List ℕ → Finding → List ℕ
finding_text bytes (refused at phrase) = refused_text bytes at phrase
finding_text bytes (too_deep at) = too_deep_text bytes at
finding_text bytes (finding.too_large at) = too_large_text bytes at

-- its status
abbrev pub finding_status : Finding → Status
finding_status (refused at phrase) = status.Refused
finding_status (too_deep at) = status.Limit
finding_status (finding.too_large at) = status.Limit

-- ---- `equiv`

-- the text of an answer within a budget, where the left type begins at a byte of the input
abbrev pub answer_text : List ℕ → ℕ → ℕ → Answer → List ℕ
answer_text bytes at budget yes = yes_text
answer_text bytes at budget (no word side) = no_text word side
answer_text bytes at budget undecided = undecided_text budget
answer_text bytes at budget too_large = too_large_text bytes at

-- the status of an answer
abbrev pub answer_status : Answer → Status
answer_status yes = status.Done
answer_status (no word side) = status.Done
answer_status undecided = status.Undecided
answer_status too_large = status.Limit

-- the text is a question on one line, and a certificate that is valid of its two types
pub record IsCertified (asked : Question) (text : List ℕ) : Type 0 where
  pub basis : List Pair
  pub chains : List Chain
  pub certificate : List ℕ
  pub is_cert : IsCertOf certificate basis (steps_of chains)
  pub valid : IsValid asked.left asked.right basis chains
  pub written : text ≡ question_text asked.kinds.items asked.left asked.right
      ++ (codes "\n" ++ certificate)

-- this is the text of an answer; where a proof is asked for, that of yes is the question with a certificate
abbrev pub IsAnswerText : Bool → List ℕ → Question → ℕ → Answer → List ℕ → Type 0
IsAnswerText false bytes asked budget answer text =
    text ≡ answer_text bytes asked.left_at budget answer
IsAnswerText true bytes asked budget yes text = IsCertified asked text
IsAnswerText true bytes asked budget (no word side) text = text ≡ no_text word side
IsAnswerText true bytes asked budget undecided text = text ≡ undecided_text budget
IsAnswerText true bytes asked budget too_large text = text ≡ too_large_text bytes asked.left_at

-- this text and status are the answer to a question of two types
pub record IsAnswerTo (proof : Bool) (bytes : List ℕ) (asked : Question) (budget : ℕ)
    (text : List ℕ) (s : Status) : Type 0 where
  pub answer : Answer
  pub answers : Answers asked.left asked.right budget answer
  pub written : IsAnswerText proof bytes asked budget answer text
  pub ended : s ≡ answer_status answer

-- the bytes are a question of two session types, and this text and status are its answer within a budget
pub record AnswersQuestion (budget : ℕ) (proof : Bool) (bytes text : List ℕ)
    (s : Status) : Type 0 where
  pub asked : Question
  pub is_asked : AreAsked bytes asked
  pub answer : IsAnswerTo proof bytes asked budget text s

-- ---- `show`

-- the bytes are a module, and this is its text
pub record ShowsModule (bytes text : List ℕ) (s : Status) : Type 0 where
  pub declared : List Declared
  pub read : IsRead ReadsModule bytes declared
  pub written : text ≡ module_text declared
  pub ended : s ≡ status.Done

-- ---- `check`, `run` and `make`

-- this text and status are what is found of a module within a budget: it is accepted with some derivations, and then this holds of
-- them, or it is refused with a fault
pub data IsFoundOf (IsMade : List ℕ → Status → Type 0) (bytes : List ℕ) (m : Module) (budget : ℕ)
    (text : List ℕ) (s : Status) : Type 0 where
  accepted : (ds : List Deriv) → IsAccepted m budget ds → IsMade text s →
      IsFoundOf IsMade bytes m budget text s
  unaccepted : (f : CheckFault) → IsRefusal m budget f →
      text ≡ cause_text bytes budget (cause (family_names m.families.items) f) →
      s ≡ cause_status (cause (family_names m.families.items) f) →
      IsFoundOf IsMade bytes m budget text s

-- the bytes stand for a module, and this text and status are what is found of it within a budget, where for one that is accepted
-- this is made
pub record FindsModule (IsMade : Module → List ℕ → Status → Type 0) (budget : ℕ)
    (bytes text : List ℕ) (s : Status) : Type 0 where
  pub resolved : Module
  pub is_resolved : AreResolved bytes resolved
  pub found : IsFoundOf (IsMade resolved) bytes resolved budget text s

-- what `check` writes of a module that is accepted
abbrev pub SaysAccepted : Module → List ℕ → Status → Type 0
SaysAccepted m text s = (text ≡ accepted_text) × (s ≡ status.Done)

-- the status of a report, by the tasks that wait
abbrev pub waiting_status : List Waiting → Status
waiting_status [] = status.Done
waiting_status (w ∷ ws) = status.Waiting

-- the text of what a run comes to, where this is how its report is written for the module's data types
abbrev pub outcome_text : (List Family → Report → List ℕ) → List Family → Outcome → List ℕ
outcome_text shown families (Done r) = shown families r
outcome_text shown families OutOfSteps = out_of_steps_text

-- its status
abbrev pub outcome_status : Outcome → Status
outcome_status (Done r) = waiting_status r.waiting.items
outcome_status OutOfSteps = status.OutOfSteps

-- the lines behind a report: none, or where events are asked for one for each event of the module, where this is the body of its main
abbrev pub AreLines : Bool → Module → CoreTree → Outcome → List ℕ → Type 0
AreLines false m main o lines = lines ≡ []
AreLines true m main (Done r) lines = (es : List Stamped) × AreEventsOf m main es ×
    (lines ≡ events_text es)
AreLines true m main OutOfSteps lines = lines ≡ []

-- this is what so many steps of the module's least run come to, and these are the lines behind its report
pub record IsOutcomeOf (events : Bool) (steps : ℕ) (m : Module) (o : Outcome)
    (lines : List ℕ) : Type 0 where
  pub main : CoreTree
  pub body : main_body m.globals.items ≡ Some main
  pub answer : IsAnswer m main steps o
  pub behind : AreLines events m main o lines

-- this text and status are what they come to, where this is how its report is written
pub record SaysOutcome (shown : List Family → Report → List ℕ) (events : Bool) (steps : ℕ)
    (m : Module) (text : List ℕ) (s : Status) : Type 0 where
  pub outcome : Outcome
  pub lines : List ℕ
  pub is : IsOutcomeOf events steps m outcome lines
  pub written : text ≡ outcome_text shown m.families.items outcome ++ lines
  pub ended : s ≡ outcome_status outcome

-- ---- `run` with channels that hold events

-- the text of what a buffered run comes to, for the module's data types
abbrev pub buffered_outcome_text : List Family → BufferedOutcome → List ℕ
buffered_outcome_text families (buffered_run.Done r unread) =
    buffered_text families r unread.items
buffered_outcome_text families buffered_run.OutOfSteps = out_of_steps_text

-- its status
abbrev pub buffered_outcome_status : BufferedOutcome → Status
buffered_outcome_status (buffered_run.Done r unread) = waiting_status r.waiting.items
buffered_outcome_status buffered_run.OutOfSteps = status.OutOfSteps

-- this is what so many steps of the module's least buffered run come to, where channels hold up to so many events
pub record IsBufferedOf (capacity steps : ℕ) (m : Module) (o : BufferedOutcome) : Type 0 where
  pub main : CoreTree
  pub body : main_body m.globals.items ≡ Some main
  pub answer : IsBufferedAnswer m main capacity steps o

-- this text and status are what they come to
pub record SaysBuffered (capacity steps : ℕ) (m : Module) (text : List ℕ)
    (s : Status) : Type 0 where
  pub outcome : BufferedOutcome
  pub is : IsBufferedOf capacity steps m outcome
  pub written : text ≡ buffered_outcome_text m.families.items outcome
  pub ended : s ≡ buffered_outcome_status outcome

-- ---- all commands

-- what is written of an input: that it is too long, or why it isn't what the command is for, or what the command makes of it
pub data WritesOf (IsNone : List ℕ → Finding → Type 0) (Makes : List ℕ → List ℕ → Status → Type 0)
    (bytes text : List ℕ) (s : Status) : Type 0 where
  too_long : length bytes ≡ most_bytes + 1 → text ≡ too_long_text → s ≡ status.Limit →
      WritesOf IsNone Makes bytes text s
  is_none : length bytes ≤ most_bytes →
      (f : Finding) → IsNone bytes f → text ≡ finding_text bytes f → s ≡ finding_status f →
      WritesOf IsNone Makes bytes text s
  makes : length bytes ≤ most_bytes → Makes bytes text s → WritesOf IsNone Makes bytes text s

-- in place of the report `make` writes its summary, with the number of bytes of the made module, which has no data types
abbrev pub made_summary : ℕ → List Family → Report → List ℕ
made_summary n families r = summary_text (length (made_text n)) r

-- what `make` writes, whatever the input: what `run` writes of the made module, with the steps and the budget that it has where no word
-- sets them, but for the report
abbrev pub WritesMade : ℕ → List ℕ → List ℕ → Status → Type 0
WritesMade n bytes text s =
    WritesOf AreUnresolved (FindsModule (SaysOutcome (made_summary n) false default_steps)
    default_budget) (made_text n) text s

-- what a command writes of an input
abbrev pub Writes : Command → List ℕ → List ℕ → Status → Type 0
Writes (equiv budget proof) = WritesOf IsNoQuestion (AnswersQuestion budget proof)
Writes show = WritesOf IsNoModule ShowsModule
Writes (check budget) = WritesOf AreUnresolved (FindsModule SaysAccepted budget)
Writes (run steps workers budget events) =
    WritesOf AreUnresolved (FindsModule (SaysOutcome report_text events steps) budget)
Writes (buffered steps capacity budget) =
    WritesOf AreUnresolved (FindsModule (SaysBuffered capacity steps) budget)
Writes (make n) = WritesMade n
Writes audit = WritesOf IsNoAudit AuditsCertificate

-- what is written of words and bytes: the usage line where the words are no command's, with nothing read, and else what
-- the command writes
pub data IsOutput (words : List (List ℕ)) (bytes text : List ℕ) (s : Status) : Type 0 where
  usage : NoCommand words → bytes ≡ [] → text ≡ usage_text → s ≡ status.Words →
      IsOutput words bytes text s
  command : (c : Command) → IsCommand words c → Writes c bytes text s → IsOutput words bytes text s

-- ---- laws

-- two texts are one; or the words ask for a proof, and both texts are the question of the bytes, each with a certificate that is valid
pub data AreAlike (words : List (List ℕ)) (bytes text other : List ℕ) : Type 0 where
  same : text ≡ other → AreAlike words bytes text other
  certified : (budget : ℕ) → IsCommand words (equiv budget true) → (asked : Question) →
      AreAsked bytes asked → IsCertified asked text → IsCertified asked other →
      AreAlike words bytes text other

-- words and bytes have at most one output, but for the certificate that `equiv` writes
abbrev pub OneOutput : Type 0
OneOutput =
    (words : List (List ℕ)) (bytes text other : List ℕ) (s t : Status) →
    IsOutput words bytes text s → IsOutput words bytes other t →
    AreAlike words bytes text other × (s ≡ t)

-- what two lists of words write that ask for the same run on different numbers of workers is one text
abbrev pub AnyWorkers : Type 0
AnyWorkers =
    (ws vs : List (List ℕ)) (steps w v budget : ℕ) (events : Bool) (bytes text other : List ℕ)
    (s t : Status) →
    IsCommand ws (run steps w budget events) → IsCommand vs (run steps v budget events) →
    IsOutput ws bytes text s → IsOutput vs bytes other t → (text ≡ other) × (s ≡ t)

-- the text of a module that is shown is a module that is shown by the same text, or a token of it is nested too deep
abbrev pub ShownAgain : Type 0
ShownAgain = (bytes text : List ℕ) → ShowsModule bytes text status.Done →
    ShowsModule text text status.Done ⊎ ((at : ℕ) × IsNoModule text (too_deep at))

-- what `equiv` writes of a yes with a proof is valid to `audit`, or too long for it
abbrev pub AuditedAgain : Type 0
AuditedAgain = (budget : ℕ) (bytes text : List ℕ)
    (m : AnswersQuestion budget true bytes text status.Done) → length bytes ≤ most_bytes →
    m.answer.answer ≡ yes →
    (length text ≤ most_bytes → Writes audit text valid_text status.Done) ×
    (most_bytes < length text →
    Writes audit (take (most_bytes + 1) text) too_long_text status.Limit)
