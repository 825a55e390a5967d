-- When a question is answered, a module shown, accepted or run: what is within the limits.
use Rattle.std.specs.Prelude.{◌≡◌, ◌≤◌, ℕ, Bool, List, length, Option, Some, None, ⊤}
use Rattle.fst_base.specs.Limits.{most_bytes}
use Rattle.fst_equiv.specs.Answers.{AreShownSpent}
use Rattle.fst_grammar.specs.Translation.{IsTooLarge}
use Rattle.fst_terms.specs.ModuleTree.{Declared}
use Rattle.fst_terms.specs.declared.core_module.Module.{Module}
use Rattle.fst_module_grammar.specs.Derives.{AnswersModule}
use Rattle.fst_names.specs.declared.question.Question.{Question}
use Rattle.fst_derivations.specs.Deriv.{Deriv}
use Rattle.fst_report.specs.ReportTexts.{report_text}
use Rattle.fst_options.specs.Words.{equiv, show, check, run, buffered, IsCommand}
use Rattle.fst_command.specs.declared.status.Status.{Status}
use Rattle.fst_command.specs.declared.status.Status.TheVariants as status
use Rattle.fst_typing.specs.Checked.{HasDerivationsWithin}
use Rattle.fst_command.specs.CheckTexts.{accepted_text}
use Rattle.fst_command.specs.Finding.{AreAsked, AreResolved, IsRead}
use Rattle.fst_command.specs.Output.{SaysBuffered, SaysOutcome, ShowsModule, Writes}

-- the bytes aren't too many, and ask about two session types that aren't too large and whose question isn't spent at this budget
pub record IsQuestionWithin (budget : ℕ) (bytes : List ℕ) : Type 0 where
  pub short : length bytes ≤ most_bytes
  pub asked : Question
  pub is_asked : AreAsked bytes asked
  pub small : IsTooLarge asked.left asked.right → ⊥
  pub unspent : AreShownSpent asked.left asked.right budget → ⊥

-- the bytes aren't too many, and are a module as the grammar has it, no token of which is nested too deep
pub record IsReadWithin (bytes : List ℕ) : Type 0 where
  pub short : length bytes ≤ most_bytes
  pub declared : List Declared
  pub read : IsRead AnswersModule bytes declared

-- the bytes aren't too many, and stand for a module that has plain derivations within the limits, at this budget
pub record IsWithinLimits (budget : ℕ) (bytes : List ℕ) : Type 0 where
  pub short : length bytes ≤ most_bytes
  pub resolved : Module
  pub is_resolved : AreResolved bytes resolved
  pub derivations : List Deriv
  pub within : HasDerivationsWithin resolved budget derivations

-- what is left of an input is known, and such bytes
abbrev pub IsInput : (List ℕ → Type 0) → Option (List ℕ) → Type 0
IsInput Are None = ⊥
IsInput Are (Some bytes) = Are bytes

-- the status of a run that was begun: tasks wait at its end or none does, or it has more events than its steps
abbrev pub HasBegun : Status → Type 0
HasBegun status.Done = ⊤
HasBegun status.Refused = ⊥
HasBegun status.Words = ⊥
HasBegun status.Waiting = ⊤
HasBegun status.OutOfSteps = ⊤
HasBegun status.Undecided = ⊥
HasBegun status.ReadFault = ⊥
HasBegun status.WriteFault = ⊥
HasBegun status.Limit = ⊥
HasBegun status.Memory = ⊥

-- of an input that is known and within the limits `equiv` ends as where a question is answered, `show` as where a module is shown,
-- `check` as where one is accepted, and `run`, with channels that hold events too, as a run that was begun
pub record IsComplete (words : List (List ℕ)) (old : Option (List ℕ)) (s : Status) : Type 0 where
  pub equiv : (budget : ℕ) (proof : Bool) → IsCommand words (equiv budget proof) →
      IsInput (IsQuestionWithin budget) old → s ≡ status.Done
  pub show : IsCommand words show → IsInput IsReadWithin old → s ≡ status.Done
  pub check : (budget : ℕ) → IsCommand words (check budget) →
      IsInput (IsWithinLimits budget) old → s ≡ status.Done
  pub run : (steps workers budget : ℕ) (events : Bool) →
      IsCommand words (run steps workers budget events) →
      IsInput (IsWithinLimits budget) old → HasBegun s
  pub buffered : (steps capacity budget : ℕ) → IsCommand words (buffered steps capacity budget) →
      IsInput (IsWithinLimits budget) old → HasBegun s

-- the text and the status are what a run of the module comes to, as this says, and say that it was begun
pub record HasRunModule (Says : Module → List ℕ → Status → Type 0) (bytes text : List ℕ)
    (s : Status) : Type 0 where
  pub resolved : Module
  pub is_resolved : AreResolved bytes resolved
  pub says : Says resolved text s
  pub begun : HasBegun s

-- of bytes that are within the limits `equiv` answers the question, `show` writes the text of the module, `check` says that it is
-- accepted, and `run` what its steps come to, with channels that hold events too
pub record AreComplete : Type 0 where
  pub equiv : (budget : ℕ) (proof : Bool) (bytes text : List ℕ) (s : Status) →
      Writes (equiv budget proof) bytes text s → IsQuestionWithin budget bytes → s ≡ status.Done
  pub show : (bytes text : List ℕ) (s : Status) → Writes show bytes text s → IsReadWithin bytes →
      ShowsModule bytes text s
  pub check : (budget : ℕ) (bytes text : List ℕ) (s : Status) → Writes (check budget) bytes text s →
      IsWithinLimits budget bytes → (text ≡ accepted_text) × (s ≡ status.Done)
  pub run : (steps workers budget : ℕ) (events : Bool) (bytes text : List ℕ) (s : Status) →
      Writes (run steps workers budget events) bytes text s → IsWithinLimits budget bytes →
      HasRunModule (SaysOutcome report_text events steps) bytes text s
  pub buffered : (steps capacity budget : ℕ) (bytes text : List ℕ) (s : Status) →
      Writes (buffered steps capacity budget) bytes text s → IsWithinLimits budget bytes →
      HasRunModule (SaysBuffered capacity steps) bytes text s
