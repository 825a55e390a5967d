-- What is put in and taken at ends in the course of a run, and how much is left.
use Rattle.std.specs.Prelude.{◌≡◌, ◌≤◌, ◌+◌, ℕ, Some, List, [], ◌∷◌, ◌++◌, length, if◌then◌else◌}
use Rattle.fst_types.specs.Tree.{Tree}
use Rattle.fst_types.specs.declared.side.Side.{Side}
use Rattle.fst_terms.specs.CoreTree.{CoreTree}
use Rattle.fst_types.specs.declared.ends.ChannelName.{ChannelName}
use Rattle.fst_types.specs.declared.ends.EndName.{EndName}
use Rattle.fst_types.specs.declared.event.Event.{Event}
use Rattle.fst_runs.specs.Configs.{same_end, other}
use Rattle.fst_machine.specs.Machine.{Program}
use Rattle.fst_buffered.specs.Channels.{Channel, Config, seen, started}
use Rattle.fst_buffered.specs.Events.{Occurrence, local, new, fork, put, takes, Runs}

-- what is put in at an end
abbrev pub put_in : EndName → Occurrence → List Event
put_in x (put p y ev) = if same_end x y then ev ∷ [] else []
put_in x (local p) = []
put_in x (new p) = []
put_in x (fork p) = []
put_in x (takes p y ev) = []

-- what is taken there
abbrev pub taken : EndName → Occurrence → List Event
taken x (takes p y ev) = if same_end x y then ev ∷ [] else []
taken x (local p) = []
taken x (new p) = []
taken x (fork p) = []
taken x (put p y ev) = []

-- all that is put in at an end, in its order
abbrev pub all_put : EndName → List Occurrence → List Event
all_put x [] = []
all_put x (e ∷ es) = put_in x e ++ all_put x es

-- all that is taken there
abbrev pub all_taken : EndName → List Occurrence → List Event
all_taken x [] = []
all_taken x (e ∷ es) = taken x e ++ all_taken x es

-- what is taken at an end is what was put in at the other one, in its order and each once; some of it may be left
abbrev pub IsInOrder : List Occurrence → Type 0
IsInOrder es = (x : EndName) → (left : List Event) × (all_put (other x) es ≡ all_taken x es ++ left)

-- no side's view lacks more entries than the capacity
abbrev pub HoldsFew : ℕ → Config → Type 0
HoldsFew capacity c = (h : ChannelName) (k : Channel) → c.channels h ≡ Some k →
    (s : Side) → length k.history ≤ seen s k + capacity

-- so it is after every run, whatever the program
abbrev pub ChannelsHoldFew : Type 0
ChannelsHoldFew =
    (m : Program) (types : List Tree) (capacity : ℕ) (e : CoreTree) (es : List Occurrence)
    (c : Config) → Runs m types capacity (started e) es c → HoldsFew capacity c
