-- The report of a buffered run as text.
use Rattle.std.specs.Prelude.{◌≤◌, ◌-◌, ℕ, List, [], ◌∷◌, ◌++◌, codes, drop, length, take, ⊤}
use Rattle.std.specs.List.{flat_map}
use Rattle.fst_types.specs.Tree.{Tree}
use Rattle.fst_types.specs.declared.family.Family.{Family}
use Rattle.fst_types.specs.declared.event.ChannelHistory.{ChannelHistory}
use Rattle.fst_types.specs.declared.event.Entry.{Entry}
use Rattle.fst_vm.specs.declared.report.Report.{Report}
use Rattle.fst_type_print.specs.NameTexts.{channel_text}
use Rattle.fst_report.specs.ReportTexts.{behind_all, entries_text, result_line, type_line, waiting_text}

-- there is a number for each channel, at most that of its entries
abbrev pub AreWithin : List ChannelHistory → List ℕ → Type 0
AreWithin [] [] = ⊤
AreWithin [] (n ∷ ns) = ⊥
AreWithin (h ∷ hs) [] = ⊥
AreWithin (h ∷ hs) (n ∷ ns) = (n ≤ length h.entries.items) × AreWithin hs ns

-- what one side hasn't taken, from where the left end has this type
abbrev pub unread_text : Tree → List Entry → List ℕ
unread_text t [] = []
unread_text t (e ∷ es) = codes " unread" ++ entries_text t (e ∷ es)

-- the first entries of a history, as many as this, and then those that one side hasn't taken
abbrev pub parted_text : Tree → ℕ → List Entry → List ℕ
parted_text t taken es = entries_text t (take taken es) ++ unread_text
    (behind_all t (take taken es)) (drop taken es)

-- the line of what was put into a channel, of which the last entries, as many as this, are unread
abbrev pub parted_line : ChannelHistory → ℕ → List ℕ
parted_line h unread =
    codes "history " ++ channel_text h.name ++ codes " :" ++ parted_text h.declared
    (length h.entries.items - unread) h.entries.items ++ codes "\n"

-- both lines of each channel
abbrev pub channels_text : List Family → List ChannelHistory → List ℕ → List ℕ
channels_text families [] ns = []
channels_text families (h ∷ hs) [] = []
channels_text families (h ∷ hs) (n ∷ ns) =
    type_line families h ++ parted_line h n ++ channels_text families hs ns

-- the report: main's value, the tasks that wait, and the channels with what was taken and what wasn't, a line each
abbrev pub buffered_text : List Family → Report → List ℕ → List ℕ
buffered_text families r unread =
    result_line families r.result ++ flat_map waiting_text r.waiting.items ++ channels_text families
    r.channels.items unread
