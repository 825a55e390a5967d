-- The report of a run as text.
use Rattle.std.specs.Prelude.{ℕ, List, [], ◌∷◌, ◌++◌, Bool, true, false, Option, Some, None, is_some, codes, unwrap_or}
use Rattle.std.specs.List.{flat_map}
use Rattle.fst_types.specs.Tree.{Tree, skip}
use Rattle.fst_types.specs.declared.family.Family.{Family}
use Rattle.fst_lts.specs.Step.{step}
use Rattle.fst_lts.specs.Histories.{sending, after_event}
use Rattle.fst_value.specs.ValueTree.{ValueTree, int, bool, char, unit}
use Rattle.fst_value.specs.Texts.{value_text}
use Rattle.fst_types.specs.declared.event.Event.{Event}
use Rattle.fst_types.specs.declared.event.Event.TheVariants as event
use Rattle.fst_types.specs.declared.event.Entry.{Entry}
use Rattle.fst_types.specs.declared.event.ChannelHistory.{ChannelHistory}
use Rattle.fst_type_print.specs.NameTexts.{path_text, channel_text}
use Rattle.fst_type_print.specs.Texts.{type_text, family_names, side_text}
use Rattle.fst_vm.specs.declared.report.Report.{Report}
use Rattle.fst_vm.specs.declared.report.Waiting.{Waiting}

-- an end of this type sends the event, or selects the label
abbrev pub sends : Tree → Event → Bool
sends t ev = is_some (step t (sending ev))

-- the sign before a value that an end sends, or else receives
abbrev pub value_sign : Bool → List ℕ
value_sign true = codes "!"
value_sign false = codes "?"

-- the sign before a label that an end selects, or else offers
abbrev pub label_sign : Bool → List ℕ
label_sign true = codes "+"
label_sign false = codes "&"

-- an event that an end sends, or else receives: a value, as values are written where there are no data types, or a label; or
-- that the channel is closed
abbrev pub event_text : Bool → Event → List ℕ
event_text out (event.Int n) = value_sign out ++ value_text [] (int n)
event_text out (event.Bool b) = value_sign out ++ value_text [] (bool b)
event_text out (event.Char c) = value_sign out ++ value_text [] (char c)
event_text out event.Unit = value_sign out ++ value_text [] unit
event_text out (event.Label l) = label_sign out ++ l
event_text out event.Closed = codes "closed"

-- the type behind an event, or Skip where the type doesn't move by it
abbrev pub behind_event : Tree → Event → Tree
behind_event t ev = unwrap_or (after_event t ev) skip

-- a history from where the left end has this type, with a space before each entry
abbrev pub entries_text : Tree → List Entry → List ℕ
entries_text t [] = []
entries_text t (e ∷ es) = codes " " ++ event_text (sends t e.event) e.event ++ entries_text
    (behind_event t e.event) es

-- the type behind these entries
abbrev pub behind_all : Tree → List Entry → Tree
behind_all t [] = t
behind_all t (e ∷ es) = behind_all (behind_event t e.event) es

-- the line of a task that waits
abbrev pub waiting_text : Waiting → List ℕ
waiting_text w = codes "waiting " ++ path_text w.task ++ codes " at " ++ channel_text w.end.channel
    ++ codes " " ++ side_text w.end.side ++ codes "\n"

-- the line of a channel and its type
abbrev pub type_line : List Family → ChannelHistory → List ℕ
type_line families h = codes "channel " ++ channel_text h.name ++ codes " : " ++ type_text
    (family_names families) h.declared ++ codes "\n"

-- the line of what passed over a channel
abbrev pub history_line : ChannelHistory → List ℕ
history_line h = codes "history " ++ channel_text h.name ++ codes " :" ++ entries_text h.declared
    h.entries.items ++ codes "\n"

-- both lines of a channel
abbrev pub history_text : List Family → ChannelHistory → List ℕ
history_text families h = type_line families h ++ history_line h

-- main's value, or that it has none
abbrev pub result_text : List Family → Option ValueTree → List ℕ
result_text families (Some v) = value_text families v
result_text families None = codes "none"

-- the line of main's value
abbrev pub result_line : List Family → Option ValueTree → List ℕ
result_line families o = codes "result " ++ result_text families o ++ codes "\n"

-- the report: main's value, the tasks that wait, and the channels with their histories, a line each
abbrev pub report_text : List Family → Report → List ℕ
report_text families r =
    result_line families r.result ++ flat_map waiting_text r.waiting.items ++ flat_map
    (history_text families) r.channels.items
