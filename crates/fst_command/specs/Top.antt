-- What a run reads, and what it writes of that.
use Rattle.std.specs.Prelude.{ℕ, ◌<◌, ◌≤◌, ◌≡◌, List, [], length, take, Bool, true, false, Option, IsTrue, ⊤}
use Rattle.std.specs.Io.KnownBytes.{Consumes, IsAtEnd, Appends}
use Rattle.fst_base.specs.Limits.{most_bytes}
use Rattle.fst_command.specs.declared.status.Status.{Status}
use Rattle.fst_command.specs.declared.status.Status.TheVariants as status
use Rattle.fst_options.specs.Words.{Command, equiv, show, check, run, buffered, make, audit, IsCommand}
use Rattle.fst_command.specs.Meanings.{Means}
use Rattle.fst_command.specs.Output.{IsOutput}

-- whether the command reads an input
abbrev pub reads_input : Command → Bool
reads_input (equiv budget proof) = true
reads_input show = true
reads_input (check budget) = true
reads_input (run steps workers budget events) = true
reads_input (buffered steps capacity budget) = true
reads_input (make n) = false
reads_input audit = true

-- the words are those of a command that reads an input
abbrev pub WantInput : List (List ℕ) → Type 0
WantInput words = (c : Command) × IsCommand words c × IsTrue (reads_input c)

-- these bytes were read from those that were left: all of them, or as many as are over the limit
pub record ReadsInput (old new : Option (List ℕ)) (bytes : List ℕ) : Type 0 where
  pub read : Consumes old new bytes
  pub end : length bytes ≤ most_bytes → IsAtEnd new

-- nothing was read
pub record ReadsNothing (old new : Option (List ℕ)) (bytes : List ℕ) : Type 0 where
  pub none : bytes ≡ []
  pub same : new ≡ old

-- what is read for a command
abbrev pub ReadsFor : Command → Option (List ℕ) → Option (List ℕ) → List ℕ → Type 0
ReadsFor (equiv budget proof) = ReadsInput
ReadsFor show = ReadsInput
ReadsFor (check budget) = ReadsInput
ReadsFor (run steps workers budget events) = ReadsInput
ReadsFor (buffered steps capacity budget) = ReadsInput
ReadsFor (make n) = ReadsNothing
ReadsFor audit = ReadsInput

-- a text that with this status is an output of the words and of what was read, and means what it says
pub record IsAnswered (words : List (List ℕ)) (old new : Option (List ℕ)) (text : List ℕ)
    (s : Status) : Type 0 where
  pub bytes : List ℕ
  pub read : (c : Command) → IsCommand words c → ReadsFor c old new bytes
  pub output : IsOutput words bytes text s
  pub means : (c : Command) → IsCommand words c → Means c bytes text s

-- such a text was written
pub record WasWritten (words : List (List ℕ)) (old new taken now : Option (List ℕ))
    (s : Status) : Type 0 where
  pub text : List ℕ
  pub answered : IsAnswered words old new text s
  pub whole : Appends taken now text

-- a proper prefix of such a text was written
pub record WasCut (words : List (List ℕ)) (old new taken now : Option (List ℕ)) : Type 0 where
  pub text : List ℕ
  pub status : Status
  pub count : ℕ
  pub short : count < length text
  pub answered : IsAnswered words old new text status
  pub front : Appends taken now (take count text)

-- the status of a text that was written whole
abbrev pub IsAnswer : Status → Type 0
IsAnswer status.Done = ⊤
IsAnswer status.Refused = ⊤
IsAnswer status.Words = ⊤
IsAnswer status.Waiting = ⊤
IsAnswer status.OutOfSteps = ⊤
IsAnswer status.Undecided = ⊤
IsAnswer status.ReadFault = ⊥
IsAnswer status.WriteFault = ⊥
IsAnswer status.Limit = ⊤
IsAnswer status.Memory = ⊥
