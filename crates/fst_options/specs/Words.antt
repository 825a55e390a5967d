-- The words of the command line.
use Rattle.std.specs.Prelude.{◌≡◌, ◌⊎◌, ℕ, zero, suc, ◌≤◌, List, [], ◌∷◌, ◌++◌, length, codes, Bool, true, false, Option, Some, None, ⊤}
use Rattle.std.specs.List.{list_all}
use Rattle.std.specs.Char.{is_ascii_digit}
use Rattle.std.specs.Option.{unwrap_or}
use Rattle.std.specs.Str.Parse.{digits_value}
use Rattle.fst_base.specs.Limits.{most_made}
use Rattle.fst_options.specs.declared.settings.Setting.{Setting as Set}
use Rattle.fst_options.specs.declared.settings.Setting.TheVariants.{Budget, Buffer, Steps, Workers}
use Rattle.fst_options.specs.declared.settings.Flag.{Flag}
use Rattle.fst_options.specs.declared.settings.Flag.TheVariants.{Events, Proof}
use Rattle.fst_options.specs.declared.given.Given.{Given}

-- a number that words may set: the name of its option, the least and the greatest
pub record Setting : Type 0 where
  pub name : List ℕ
  pub least : ℕ
  pub most : ℕ

-- how many pairs a question may have
abbrev pub budget : Setting
budget = record { name = codes "--budget"; least = 1; most = 10000 }

-- as many as this where no word says it
abbrev pub default_budget : ℕ
default_budget = 1000

-- how many events a channel holds at most; where no word says it, channels hold none
abbrev pub buffer : Setting
buffer = record { name = codes "--buffer"; least = 1; most = 64 }

-- how many events a run may have
abbrev pub steps : Setting
steps = record { name = codes "--steps"; least = 0; most = 2000000 }

-- as many as this where no word says it
abbrev pub default_steps : ℕ
default_steps = 1000000

-- how many workers move the tasks of a run
abbrev pub workers : Setting
workers = record { name = codes "--workers"; least = 1; most = 8 }

-- as many as this where no word says it
abbrev pub default_workers : ℕ
default_workers = 1

-- the number that each setting of the code sets
abbrev pub setting_of : Set → Setting
setting_of Budget = budget
setting_of Buffer = buffer
setting_of Steps = steps
setting_of Workers = workers

-- the word that asks for a flag of the code
abbrev pub name_of : Flag → List ℕ
name_of Events = codes "--events"
name_of Proof = codes "--proof"

-- how many digits a number may have, leading zeros included
abbrev pub most_digits : ℕ
most_digits = 9

-- the digits are a number from the least to the most
pub record IsNumber (least most : ℕ) (digits : List ℕ) (n : ℕ) : Type 0 where
  pub spelled : list_all is_ascii_digit digits ≡ true
  pub some : 1 ≤ length digits
  pub few : length digits ≤ most_digits
  pub value : n ≡ digits_value 10 digits
  pub at_least : least ≤ n
  pub at_most : n ≤ most

-- the digits are a value that may be set
abbrev pub IsValue : Setting → List ℕ → ℕ → Type 0
IsValue o digits n = IsNumber o.least o.most digits n

-- the words begin with the option, which has these digits behind `=` or as the next word; others are behind it
abbrev pub Begins : List ℕ → List (List ℕ) → List ℕ → List (List ℕ) → Type 0
Begins name [] digits rest = ⊥
Begins name (w ∷ ws) digits rest = ((w ≡ name ++ codes "=" ++ digits) × (ws ≡ rest)) ⊎
    ((w ≡ name) × (ws ≡ digits ∷ rest))

-- the words begin by setting this value; others are behind it
pub record Sets (o : Setting) (words : List (List ℕ)) (n : ℕ) (rest : List (List ℕ)) : Type 0 where
  pub digits : List ℕ
  pub begins : Begins o.name words digits rest
  pub value : IsValue o digits n

-- the value that is given for an option, if there is one
abbrev pub value_in : Given → Set → Option ℕ
value_in g Budget = g.budget
value_in g Buffer = g.buffer
value_in g Steps = g.steps
value_in g Workers = g.workers

-- with one more
abbrev pub give : Given → Set → ℕ → Given
give g Budget n = record g { budget = Some n }
give g Buffer n = record g { buffer = Some n }
give g Steps n = record g { steps = Some n }
give g Workers n = record g { workers = Some n }

-- whether a flag is given
abbrev pub has_flag : Given → Flag → Bool
has_flag g Events = g.events
has_flag g Proof = g.proof

-- with one flag more
abbrev pub give_flag : Given → Flag → Given
give_flag g Events = record g { events = true }
give_flag g Proof = record g { proof = true }

-- none is given
abbrev pub none_given : Given
none_given = record
    { steps = None; workers = None; budget = None; buffer = None; events = false; proof = false }

-- the words begin by giving a value for an option that has none, or a flag that wasn't given; others are behind it
pub data GivesOne (before : Given) (words : List (List ℕ)) (after : Given)
    (rest : List (List ℕ)) : Type 0 where
  value : (option : Set) (number : ℕ) → Sets (setting_of option) words number rest →
      value_in before option ≡ None → after ≡ give before option number →
      GivesOne before words after rest
  flag : (option : Flag) → words ≡ name_of option ∷ rest → has_flag before option ≡ false →
      after ≡ give_flag before option → GivesOne before words after rest

-- the words give so much, one thing after the other, and nothing else
abbrev pub Give : ℕ → Given → List (List ℕ) → Given → Type 0
Give zero before words after = (words ≡ []) × (after ≡ before)
Give (suc n) before words after = (next : Given) ×
    (rest : List (List ℕ)) × GivesOne before words next rest × Give n next rest after

-- the words set the budget, and ask for a proof or don't, each at most once, in any order, and give nothing else
pub record AreEquivOptions (words : List (List ℕ)) (b : ℕ) (p : Bool) : Type 0 where
  pub count : ℕ
  pub values : Given
  pub give : Give count none_given words values
  pub no_steps : values.steps ≡ None
  pub no_workers : values.workers ≡ None
  pub no_buffer : values.buffer ≡ None
  pub no_events : values.events ≡ false
  pub budget : b ≡ unwrap_or values.budget default_budget
  pub proof : p ≡ values.proof

-- the words set the budget, at most once, and give nothing else
pub record AreCheckOptions (words : List (List ℕ)) (b : ℕ) : Type 0 where
  pub count : ℕ
  pub values : Given
  pub give : Give count none_given words values
  pub no_steps : values.steps ≡ None
  pub no_workers : values.workers ≡ None
  pub no_buffer : values.buffer ≡ None
  pub no_events : values.events ≡ false
  pub no_proof : values.proof ≡ false
  pub budget : b ≡ unwrap_or values.budget default_budget

-- the words set the steps, the workers and the budget, and ask for events or don't, each at most once, in any order, and
-- give nothing else
pub record AreRunOptions (words : List (List ℕ)) (s w b : ℕ) (e : Bool) : Type 0 where
  pub count : ℕ
  pub values : Given
  pub give : Give count none_given words values
  pub no_buffer : values.buffer ≡ None
  pub no_proof : values.proof ≡ false
  pub steps : s ≡ unwrap_or values.steps default_steps
  pub workers : w ≡ unwrap_or values.workers default_workers
  pub budget : b ≡ unwrap_or values.budget default_budget
  pub events : e ≡ values.events

-- the words set how many events a channel holds, and the steps and the budget or don't, each at most once, in any order, and give
-- nothing else
pub record AreBufferOptions (words : List (List ℕ)) (s k b : ℕ) : Type 0 where
  pub count : ℕ
  pub values : Given
  pub give : Give count none_given words values
  pub no_workers : values.workers ≡ None
  pub no_events : values.events ≡ false
  pub no_proof : values.proof ≡ false
  pub steps : s ≡ unwrap_or values.steps default_steps
  pub capacity : values.buffer ≡ Some k
  pub budget : b ≡ unwrap_or values.budget default_budget

-- the only word is a number from the least to the most
pub record IsOneNumber (least most : ℕ) (words : List (List ℕ)) (n : ℕ) : Type 0 where
  pub digits : List ℕ
  pub only : words ≡ digits ∷ []
  pub number : IsNumber least most digits n

-- the words are a command's name, and this holds of those behind it
abbrev pub IsNamed : List ℕ → (List (List ℕ) → Type 0) → List (List ℕ) → Type 0
IsNamed name P [] = ⊥
IsNamed name P (w ∷ ws) = (w ≡ name) × P ws

-- a command: whether two types are equivalent, within a budget, and whether a proof is asked for, or the canonical text of a
-- module, or whether a module is well typed, within a budget, or what so many steps of a module that is well typed come to on so
-- many workers, within a budget, and whether its events are asked for, or what so many of its steps come to with channels that hold
-- up to so many events, within a budget, or in brief what the made module of so many channels comes to, or whether a certificate shows
-- that its two types are equivalent
pub data Command : Type 0 where
  equiv : ℕ → Bool → Command
  show : Command
  check : ℕ → Command
  run : ℕ → ℕ → ℕ → Bool → Command
  buffered : ℕ → ℕ → ℕ → Command
  make : ℕ → Command
  audit : Command

-- the words of a command
abbrev pub IsCommand : List (List ℕ) → Command → Type 0
IsCommand words (equiv b p) = IsNamed (codes "equiv") (λ ws. AreEquivOptions ws b p) words
IsCommand words show = IsNamed (codes "show") (λ ws. ws ≡ []) words
IsCommand words (check b) = IsNamed (codes "check") (λ ws. AreCheckOptions ws b) words
IsCommand words (run s w b e) = IsNamed (codes "run") (λ ws. AreRunOptions ws s w b e) words
IsCommand words (buffered s k b) = IsNamed (codes "run") (λ ws. AreBufferOptions ws s k b) words
IsCommand words (make n) = IsNamed (codes "make") (λ ws. IsOneNumber 0 most_made ws n) words
IsCommand words audit = IsNamed (codes "audit") (λ ws. ws ≡ []) words

-- the words aren't those of a command
abbrev pub NoCommand : List (List ℕ) → Type 0
NoCommand words = (c : Command) → IsCommand words c → ⊥

-- the values of a command are in their ranges
abbrev pub IsWithin : Command → Type 0
IsWithin (equiv b p) = 1 ≤ b
IsWithin show = ⊤
IsWithin (check b) = 1 ≤ b
IsWithin (run s w b e) = (s ≤ steps.most) × (1 ≤ w) × (w ≤ workers.most) × (1 ≤ b)
IsWithin (buffered s k b) = (s ≤ steps.most) × (1 ≤ k) × (k ≤ buffer.most) × (1 ≤ b)
IsWithin (make n) = n ≤ most_made
IsWithin audit = ⊤
