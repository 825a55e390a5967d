-- Records whose last event is taken back.
use Rattle.std.proofs.Common.{◌≡◌, ◌∙◌, ◌<◌, ℕ, ◌+◌, List, [], ◌∷◌, arith}
use Rattle.std.specs.Prelude.{sum_by, All, ⊤}
use Rattle.fst_types.specs.Tree.{Tree}
use Rattle.fst_types.specs.declared.ends.ChannelName.{ChannelName}
use Rattle.fst_types.specs.declared.event.ChannelHistory.{ChannelHistory}
use Rattle.fst_machine.specs.Machine.{Program}
use Rattle.fst_runs.specs.declared.event.CoreEvent.{CoreEvent}
use Rattle.fst_runs.specs.Events.{Write, Does, written}
use Rattle.fst_runs.specs.Logs.{Birth, Exchange}
use Rattle.fst_runs.specs.StampedRuns.{IsStamp}
use Rattle.fst_records.specs.Records.{Course, began, bears, opens, trades, FitsRecord, IsLogged, IsRecorded, shows, config_of}
use Rattle.fst_records.specs.Parts.{Part, parts_of, part_by, parts_by}
use Rattle.fst_records.proofs.Codes.{just, part_code}
use Rattle.fst_records.proofs.LogEntries.{part_is}
use Rattle.fst_records.proofs.Lasts.{HasLast}

-- tasks and channels that have so much less than others: births, channels that are made, and what is exchanged
pub record Lessens (m : Program) (types : List Tree) (ys : List Course) (ks : List ChannelHistory) (zs : List Course)
    (js : List ChannelHistory) : Type 0 where
  pub born : (Birth → ℕ) → ℕ
  pub opened : (ChannelName → Tree → ℕ) → ℕ
  pub passed : (Exchange → ℕ) → ℕ
  pub births : (w : Birth → ℕ) → sum_by (λ (x : Course). w (began x)) ys ≡ sum_by (λ (x : Course). w (began x)) zs + born w
  pub bears : (w : Birth → ℕ) → sum_by (bears m w) ys ≡ sum_by (bears m w) zs + born w
  pub logs : All (IsLogged m types) zs
  pub channels : (w : ChannelName → Tree → ℕ) →
      sum_by (λ (k : ChannelHistory). w k.name k.declared) ks ≡ sum_by (λ (k : ChannelHistory). w k.name k.declared) js + opened w
  pub opens : (w : ChannelName → Tree → ℕ) → sum_by (opens types w) ys ≡ sum_by (opens types w) zs + opened w
  pub shows : (w : Exchange → ℕ) → sum_by (shows w) ks ≡ sum_by (shows w) js + passed w
  pub trades : (w : Exchange → ℕ) → sum_by (trades w) ys ≡ sum_by (trades w) zs + passed w
  pub histories : All IsRecorded js

-- they fit
pub lessened : (m : Program) (types : List Tree) (main : Birth) (ys : List Course) (ks : List ChannelHistory) (zs : List Course)
    (js : List ChannelHistory) →
    FitsRecord m types main ys ks → Lessens m types ys ks zs js → FitsRecord m types main zs js
lessened m types main ys ks zs js fits g = record {
  root = fits.root;
  births = λ w. let a = fits.births w in let b = g.births w in let c = g.bears w in omega (arith, a, b, c);
  logs = g.logs;
  channels = λ w. let a = fits.channels w in let b = g.channels w in let c = g.opens w in omega (arith, a, b, c);
  exchanged = λ w. let a = fits.exchanged w in let b = g.shows w in let c = g.trades w in omega (arith, a, b, c);
  histories = g.histories;
}

-- the logs of these tasks have the parts of the others and those of one event more
abbrev pub IsLess : List Course → List Course → CoreEvent → ℕ → Type 0
IsLess ys zs e n = (w : Part → ℕ) → sum_by (parts_by w) ys ≡ sum_by (parts_by w) zs + sum_by w (parts_of e n)

-- the part is one of the logs of these tasks
abbrev pub HasPart : List Course → Part → Type 0
HasPart ys r = 0 < sum_by (parts_by (just part_code r)) ys

-- each of these parts is one of the logs
abbrev pub HaveParts : List Course → List Part → Type 0
HaveParts ys [] = ⊤
HaveParts ys (r ∷ rs) = HasPart ys r × HaveParts ys rs

-- a record that fits with one event less, which is possible then and leads to the tasks and channels that are there
pub record Undone (m : Program) (types : List Tree) (main : Birth) (ys : List Course) (ks : List ChannelHistory) (e : CoreEvent)
    (n : ℕ) : Type 0 where
  pub courses : List Course
  pub channels : List ChannelHistory
  pub fits : FitsRecord m types main courses channels
  pub parts : IsLess ys courses e n
  pub write : Write
  pub does : Does m types (config_of courses channels) e write
  pub stamped : IsStamp write n
  pub leads : written (config_of courses channels) write ≡ config_of ys ks

-- the last entry of a course that has a part is this part
pub last_part : (w : Part → ℕ) {m : Program} {ys : List Course} {r : Part} (h : HasLast m ys r) →
    part_by w h.course.path h.entry ≡ w r
last_part w {r = r} h =
    part_is w h.course.path h.entry r.deed h.deed ∙ (λ i. w (record { path = h.path i; deed = r.deed; stamp = h.stamp i }))
