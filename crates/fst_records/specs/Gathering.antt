-- The events that parts are, each made from the part of the task that is alone in it or sends.
use Rattle.std.specs.Prelude.{ℕ, Bool, false, List, [], ◌∷◌, ◌++◌, ◌&&◌, nat_eq, if◌then◌else◌}
use Rattle.fst_types.specs.declared.ends.ChannelName.{ChannelName}
use Rattle.fst_runs.specs.declared.event.CoreEvent.TheVariants.{Local, New, Fork, Meet}
use Rattle.fst_runs.specs.Configs.{Path, same_channel}
use Rattle.fst_runs.specs.declared.event.Stamped.{Stamped}
use Rattle.fst_records.specs.Parts.{Deed, stepped, made, forked, sent, got, Part}

-- something was got over this channel
abbrev pub got_over : ChannelName → Deed → Bool
got_over h stepped = false
got_over h made = false
got_over h forked = false
got_over h (sent g) = false
got_over h (got g) = same_channel h g

-- the part is that of the task that got something over this channel at this stamp
abbrev pub gets : ChannelName → ℕ → Part → Bool
gets h n r = got_over h r.deed && nat_eq n r.stamp

-- the path of the first of these parts that is so
abbrev pub getter : List Part → ChannelName → ℕ → Path
getter [] h n = []
getter (r ∷ rs) h n = if gets h n r then r.path else getter rs h n

-- the event that a part begins, among all parts
abbrev pub event_at : List Part → Path → ℕ → Deed → List Stamped
event_at all p n stepped = record { event = Local p; stamp = n } ∷ []
event_at all p n made = record { event = New p; stamp = n } ∷ []
event_at all p n forked = record { event = Fork p; stamp = n } ∷ []
event_at all p n (sent h) = record { event = Meet p (getter all h n) h; stamp = n } ∷ []
event_at all p n (got h) = []

-- the events that these parts begin, among all parts
abbrev pub gathered : List Part → List Part → List Stamped
gathered all [] = []
gathered all (r ∷ rs) = event_at all r.path r.stamp r.deed ++ gathered all rs
