-- What the texts of `equiv` and `audit` say of the two types that an input asks about, over the variables of the question, and what
-- those of `check`, `run` and `make` say of a module.
use Rattle.std.specs.Prelude.{◌≡◌, ◌↔◌, ℕ, List, ◌++◌, length, codes, Bool, true, false, Some, ⊤}
use Rattle.fst_base.specs.Agreement.{Performs, Agree}
use Rattle.fst_base.specs.Order.{IsBefore}
use Rattle.fst_types.specs.Order.{label_cmp}
use Rattle.fst_types.specs.Differences.{PerformsAlone}
use Rattle.fst_types.specs.declared.family.Family.{Family}
use Rattle.fst_types.specs.declared.label.Label.{Label}
use Rattle.fst_types.specs.declared.side.Side.{Side}
use Rattle.fst_lts.specs.Step.{step}
use Rattle.fst_words.specs.Words.{Productions}
use Rattle.fst_norms.specs.Pruned.{pruned_word}
use Rattle.fst_expand.specs.Good.{IsGood}
use Rattle.fst_breadth.specs.Reached.{AreFirst, IsBeyond, AreAlike, ReachedPair}
use Rattle.fst_equiv.specs.Problem.{IsNormedWithin, IsProblem}
use Rattle.fst_terms.specs.CoreTree.{CoreTree}
use Rattle.fst_terms.specs.ModuleTree.{Declared}
use Rattle.fst_terms.specs.declared.core_module.Module.{Module}
use Rattle.fst_module_grammar.specs.Derives.{AnswersModule}
use Rattle.fst_names.specs.declared.question.Question.{Question}
use Rattle.fst_names.specs.ResolvedModule.{IsResolvedModule}
use Rattle.fst_derivations.specs.Deriv.{Deriv}
use Rattle.fst_derivations.specs.Modules.{HasDerivations}
use Rattle.fst_runs.specs.declared.event.CoreEvent.{CoreEvent}
use Rattle.fst_runs.specs.Configs.{main_body, program}
use Rattle.fst_runs.specs.Configs as configs
use Rattle.fst_runs.specs.Events as core
use Rattle.fst_process.specs.Reports.{IsReport}
use Rattle.fst_safety.specs.Safety.{IsSafe}
use Rattle.fst_vm.specs.declared.report.Outcome.{Outcome}
use Rattle.fst_vm.specs.declared.report.Outcome.TheVariants.{Done}
use Rattle.fst_vm.specs.declared.report.Report.{Report}
use Rattle.fst_execution.specs.Execution.{IsSound}
use Rattle.fst_buffered.specs.Answers.{BufferedEndsAs, IsSoundReport}
use Rattle.fst_buffered.specs.Channels as channels
use Rattle.fst_buffered.specs.Events.{Occurrence, Runs}
use Rattle.fst_buffered.specs.Order.{IsInOrder}
use Rattle.fst_buffered.specs.Safety.{IsSafeAt}
use Rattle.fst_report.specs.BufferedTexts.{buffered_text}
use Rattle.fst_report.specs.ReportTexts.{report_text}
use Rattle.fst_command.specs.declared.status.Status.{Status}
use Rattle.fst_command.specs.declared.status.Status.TheVariants as status
use Rattle.fst_make.specs.Made.{made_text}
use Rattle.fst_options.specs.Words.{Command, equiv, show, check, run, buffered, make, audit, default_budget}
use Rattle.fst_command.specs.Finding.{IsRead, AreAsked, AreResolved}
use Rattle.fst_command.specs.Audited.{first_line}
use Rattle.fst_command.specs.Complete.{IsWithinLimits}
use Rattle.fst_command.specs.Output.{AreLines, IsCertified, Writes, made_summary}
use Rattle.fst_command.specs.Texts.{yes_text, no_text, undecided_text, valid_text}

-- the two types agree at every depth
pub record MeansYes (bytes : List ℕ) : Type 0 where
  pub asked : Question
  pub is_asked : AreAsked bytes asked
  pub agree : Agree step step asked.left asked.right

-- the text has a trace and a side: this side alone performs the trace, and no lesser trace is performed by one side alone
pub record MeansNo (bytes text : List ℕ) : Type 0 where
  pub asked : Question
  pub is_asked : AreAsked bytes asked
  pub trace : List Label
  pub side : Side
  pub written : text ≡ no_text trace side
  pub alone : PerformsAlone step step asked.left asked.right trace side
  pub least : (v : List Label) → IsBefore label_cmp v trace →
      (Performs step asked.left v ↔ Performs step asked.right v)

-- the text has the budget: the pruned words of the two types reach more different pairs than that, and of the first pairs, as
-- many as the budget, none performs different letters on its two sides; the cuts that the words lead to aren't good at the budget; and
-- some non-terminal has no norm below 2^63, or the budget is less than the square of their number
pub record MeansUndecided (budget : ℕ) (bytes text : List ℕ) : Type 0 where
  pub asked : Question
  pub is_asked : AreAsked bytes asked
  pub written : text ≡ undecided_text budget
  pub letters : List Label
  pub rows : Productions
  pub u : List ℕ
  pub v : List ℕ
  pub marks : List Bool
  pub words : IsProblem asked.left asked.right letters rows u v marks
  pub pairs : List ReachedPair
  pub count : length pairs ≡ budget
  pub first : AreFirst rows marks (pruned_word marks u) (pruned_word marks v) pairs
  pub alike : AreAlike rows pairs
  pub further : IsBeyond rows marks (pruned_word marks u) (pruned_word marks v) pairs
  pub no_basis : IsGood rows marks (pruned_word marks u) (pruned_word marks v) budget → ⊥
  pub not_normed : IsNormedWithin rows budget → ⊥

-- what it means that `equiv` wrote the text, by how this begins
pub record MeansAnswer (budget : ℕ) (bytes text : List ℕ) : Type 0 where
  pub yes : text ≡ yes_text → MeansYes bytes
  pub no : (rest : List ℕ) → text ≡ codes "no " ++ rest → MeansNo bytes text
  pub undecided : (rest : List ℕ) → text ≡ codes "undecided " ++ rest →
      MeansUndecided budget bytes text

-- the text is a question with a certificate that is valid of its two types, and these agree at every depth
pub record MeansCertified (bytes text : List ℕ) : Type 0 where
  pub asked : Question
  pub is_asked : AreAsked bytes asked
  pub certified : IsCertified asked text
  pub agree : Agree step step asked.left asked.right

-- what it means that `equiv` wrote the text with this status where a proof was asked for, by how the text begins
pub record MeansProved (budget : ℕ) (bytes text : List ℕ) (s : Status) : Type 0 where
  pub proved : s ≡ status.Done → ((rest : List ℕ) → text ≡ codes "no " ++ rest → ⊥) →
      MeansCertified bytes text
  pub no : (rest : List ℕ) → text ≡ codes "no " ++ rest → MeansNo bytes text
  pub undecided : (rest : List ℕ) → text ≡ codes "undecided " ++ rest →
      MeansUndecided budget bytes text

-- what it means that `audit` ended with this status: where it is done, it wrote that the certificate is valid, and the two types of the
-- first line agree at every depth
pub record MeansAudit (bytes text : List ℕ) (s : Status) : Type 0 where
  pub written : s ≡ status.Done → text ≡ valid_text
  pub done : s ≡ status.Done → MeansYes (first_line bytes)

-- the bytes are a source that stands for a module, which has derivations; and whatever happens in a run of it, nothing goes
-- wrong
pub record MeansAccepted (bytes : List ℕ) : Type 0 where
  pub declared : List Declared
  pub read : IsRead AnswersModule bytes declared
  pub resolved : Module
  pub is_resolved : IsResolvedModule declared resolved
  pub derivations : List Deriv
  pub derived : HasDerivations resolved derivations
  pub safe : IsSafe resolved

-- whatever module the bytes stand for, it has no derivations
abbrev pub MeansRefused : List ℕ → Type 0
MeansRefused bytes = (m : Module) → AreResolved bytes m →
    (ds : List Deriv) → HasDerivations m ds → ⊥

-- the bytes aren't within the limits: they are too many, or each derivation of a module that they stand for has a question that isn't
-- answered within the budget, or a type that is over its size
abbrev pub MeansBeyond : ℕ → List ℕ → Type 0
MeansBeyond budget bytes = IsWithinLimits budget bytes → ⊥

-- what it means that `check` ended with this status
pub record MeansCheck (budget : ℕ) (bytes : List ℕ) (s : Status) : Type 0 where
  pub done : s ≡ status.Done → MeansAccepted bytes
  pub refused : s ≡ status.Refused → MeansRefused bytes
  pub undecided : s ≡ status.Undecided → MeansBeyond budget bytes
  pub limit : s ≡ status.Limit → MeansBeyond budget bytes

-- each run of the module from this body of main that comes to an end has this report
abbrev pub EndsAs : Module → CoreTree → Report → Type 0
EndsAs m main r = (es : List CoreEvent) (c : configs.Config) →
    core.Runs (program m) m.types.items (configs.started main) es c →
    core.IsLast (program m) m.types.items c → IsReport (program m) c (length es) r

-- so are the bytes, and the text is that of a report, written like this, in which each history is a trace of its channel's declared
-- type, and the value of main is one of main's type; behind it stand the lines of the module's events, where they are asked for
pub record MeansReport (shown : List Family → Report → List ℕ) (events : Bool)
    (bytes text : List ℕ) : Type 0 where
  pub accepted : MeansAccepted bytes
  pub report : Report
  pub lines : List ℕ
  pub written : text ≡ shown accepted.resolved.families.items report ++ lines
  pub sound : IsSound accepted.resolved report
  pub main : CoreTree
  pub body : main_body accepted.resolved.globals.items ≡ Some main
  pub behind : AreLines events accepted.resolved main (Done report) lines
  pub ends : EndsAs accepted.resolved main report

-- the report of an outcome is sound, if there is one
abbrev pub IsSoundOutcome : Module → Outcome → Type 0
IsSoundOutcome m o = (r : Report) → o ≡ Done r → IsSound m r

-- what it means that a text was written with this status of the run of a module, with reports written like this, within a budget
abbrev pub MeansRun : (List Family → Report → List ℕ) → Bool → ℕ → Status → List ℕ → List ℕ → Type 0
MeansRun shown events budget status.Done bytes text = MeansReport shown events bytes text
MeansRun shown events budget status.Refused bytes text = MeansRefused bytes
MeansRun shown events budget status.Words bytes text = ⊤
MeansRun shown events budget status.Waiting bytes text = MeansReport shown events bytes text
MeansRun shown events budget status.OutOfSteps bytes text = MeansAccepted bytes
MeansRun shown events budget status.Undecided bytes text = MeansBeyond budget bytes
MeansRun shown events budget status.ReadFault bytes text = ⊤
MeansRun shown events budget status.WriteFault bytes text = ⊤
MeansRun shown events budget status.Limit bytes text = MeansBeyond budget bytes
MeansRun shown events budget status.Memory bytes text = ⊤

-- whatever happens in a run of the module whose channels hold up to so many events, nothing goes wrong, and what is taken at an end
-- is what was put in at the other one, in its order and each once
abbrev pub IsBufferedSafe : ℕ → Module → Type 0
IsBufferedSafe capacity m =
    (main : CoreTree) → main_body m.globals.items ≡ Some main →
    (es : List Occurrence) (c : channels.Config) →
    Runs (program m) m.types.items capacity (channels.started main) es c →
    IsSafeAt m c × IsInOrder es

-- the bytes stand for a module that is accepted, of which no buffered run goes wrong
pub record MeansBufferedSafe (capacity : ℕ) (bytes : List ℕ) : Type 0 where
  pub accepted : MeansAccepted bytes
  pub safe : IsBufferedSafe capacity accepted.resolved

-- so they do, and the text is that of a buffered report in which each history is a trace of its channel's declared type, and the value
-- of main is one of main's type; and each such run that comes to an end has this report
pub record MeansBufferedReport (capacity : ℕ) (bytes text : List ℕ) : Type 0 where
  pub accepted : MeansAccepted bytes
  pub safe : IsBufferedSafe capacity accepted.resolved
  pub report : Report
  pub unread : List ℕ
  pub written : text ≡ buffered_text accepted.resolved.families.items report unread
  pub sound : IsSoundReport accepted.resolved report
  pub main : CoreTree
  pub body : main_body accepted.resolved.globals.items ≡ Some main
  pub ends : BufferedEndsAs accepted.resolved main capacity report unread

-- what it means that a text was written with this status of the buffered run of a module, within a budget
abbrev pub MeansBuffered : ℕ → ℕ → Status → List ℕ → List ℕ → Type 0
MeansBuffered capacity budget status.Done bytes text = MeansBufferedReport capacity bytes text
MeansBuffered capacity budget status.Refused bytes text = MeansRefused bytes
MeansBuffered capacity budget status.Words bytes text = ⊤
MeansBuffered capacity budget status.Waiting bytes text = MeansBufferedReport capacity bytes text
MeansBuffered capacity budget status.OutOfSteps bytes text = MeansBufferedSafe capacity bytes
MeansBuffered capacity budget status.Undecided bytes text = MeansBeyond budget bytes
MeansBuffered capacity budget status.ReadFault bytes text = ⊤
MeansBuffered capacity budget status.WriteFault bytes text = ⊤
MeansBuffered capacity budget status.Limit bytes text = MeansBeyond budget bytes
MeansBuffered capacity budget status.Memory bytes text = ⊤

-- what it means that this text was written for a command, with this status, where these bytes were read: `make` reads none, and what
-- it writes is about the module that it makes
abbrev pub Means : Command → List ℕ → List ℕ → Status → Type 0
Means (equiv budget false) bytes text s = MeansAnswer budget bytes text
Means (equiv budget true) bytes text s = MeansProved budget bytes text s
Means show bytes text s = ⊤
Means (check budget) bytes text s = MeansCheck budget bytes s
Means (run steps workers budget events) bytes text s =
    MeansRun report_text events budget s bytes text
Means (buffered steps capacity budget) bytes text s = MeansBuffered capacity budget s bytes text
Means (make n) bytes text s =
    MeansRun (made_summary n) false default_budget s (made_text n) text
Means audit bytes text s = MeansAudit bytes text s

-- whatever a command writes means that
abbrev pub Meanings : Type 0
Meanings = (c : Command) (bytes text : List ℕ) (s : Status) → Writes c bytes text s →
    Means c bytes text s
