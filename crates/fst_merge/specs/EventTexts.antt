-- The events of a run as text.
use Rattle.std.specs.Prelude.{ℕ, List, [], ◌∷◌, ◌++◌, Bool, false, codes, decimal, sum_by}
use Rattle.fst_type_print.specs.NameTexts.{path_text, channel_text}
use Rattle.fst_runs.specs.declared.event.CoreEvent.{CoreEvent}
use Rattle.fst_runs.specs.declared.event.CoreEvent.TheVariants.{Local, New, Fork, Meet}
use Rattle.fst_runs.specs.declared.event.Stamped.{Stamped}
use Rattle.fst_runs.specs.Configs.{Path, same_path, child_path, channel_name}
use Rattle.fst_runs.specs.Wrong.{once}

-- in the event the task with this path makes a channel
abbrev pub makes : Path → CoreEvent → Bool
makes p (Local q) = false
makes p (New q) = same_path q p
makes p (Fork q) = false
makes p (Meet q r h) = false

-- it makes a task
abbrev pub forks : Path → CoreEvent → Bool
forks p (Local q) = false
forks p (New q) = false
forks p (Fork q) = same_path q p
forks p (Meet q r h) = false

-- how many channels it makes in these events
abbrev pub made_in : Path → List Stamped → ℕ
made_in p es = sum_by (λ (e : Stamped). once (makes p e.event)) es

-- how many tasks
abbrev pub forked_in : Path → List Stamped → ℕ
forked_in p es = sum_by (λ (e : Stamped). once (forks p e.event)) es

-- the task makes a channel, named by it and how many it has made
abbrev pub new_text : Path → ℕ → List ℕ
new_text p made = codes "new " ++ path_text p ++ codes " " ++ channel_text (channel_name p made)

-- it makes a task, whose path is its own with how many it has forked behind it
abbrev pub fork_text : Path → ℕ → List ℕ
fork_text p forked = codes "fork " ++ path_text p ++ codes " " ++ path_text (child_path p forked)

-- what happens, where these events have happened before
abbrev pub event_text : List Stamped → CoreEvent → List ℕ
event_text before (Local p) = codes "local " ++ path_text p
event_text before (New p) = new_text p (made_in p before)
event_text before (Fork p) = fork_text p (forked_in p before)
event_text before (Meet p q h) = codes "meet " ++ channel_text h ++ codes " " ++ path_text p
    ++ codes " " ++ path_text q

-- its line, with its stamp
abbrev pub event_line : List Stamped → Stamped → List ℕ
event_line before e = codes "event " ++ decimal e.stamp ++ codes " " ++ event_text before e.event
    ++ codes "\n"

-- the lines of events behind these, which stand with the last of them first
abbrev pub lines_behind : List Stamped → List Stamped → List ℕ
lines_behind before [] = []
lines_behind before (e ∷ es) = event_line before e ++ lines_behind (e ∷ before) es

-- a line for each event
abbrev pub events_text : List Stamped → List ℕ
events_text es = lines_behind [] es
