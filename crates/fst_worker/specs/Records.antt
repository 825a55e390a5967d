-- The channels of a run that are closed at its end, and what its tasks lack then.
use Rattle.std.specs.Prelude.{◌≡◌, ℕ, ◌+◌, ◌<◌, Option, Some, None, Bool, true, false, Contains, IsPermutation, List, [], ◌∷◌, ◌++◌, length, sum_by, All, slice_get, if◌then◌else◌, ⊤}
use Rattle.fst_types.specs.Tree.{Tree}
use Rattle.fst_types.specs.declared.side.Side.{Side}
use Rattle.fst_types.specs.declared.side.Side.TheVariants.{Left, Right}
use Rattle.fst_lts.specs.Histories.{last_stamp}
use Rattle.fst_derivations.specs.Rules.{Surroundings}
use Rattle.fst_types.specs.declared.event.ChannelHistory.{ChannelHistory}
use Rattle.fst_types.specs.declared.event.Entry.{Entry}
use Rattle.fst_types.specs.declared.event.Event.{Event}
use Rattle.fst_machine.specs.declared.request.Request.TheVariants.{Put}
use Rattle.fst_machine.specs.declared.request.Answer.TheVariants.{Sent}
use Rattle.fst_runs.specs.Configs.{same_channel, same_side, other}
use Rattle.fst_cell.specs.declared.answers.Closed.{Closed}
use Rattle.fst_cell.specs.declared.content.Offer.{Offer}
use Rattle.fst_cell.specs.Close.{ClosedAs}
use Rattle.fst_cell.specs.End.{EndView, end_name}
use Rattle.fst_runs.specs.declared.log.LogEntry.{LogEntry}
use Rattle.fst_safety.specs.WellTyped.{program_in}
use Rattle.fst_runs.specs.Logs.{Birth, Exchange, Follows, births, exchanges, openings}
use Rattle.fst_records.specs.Records.{Course}
use Rattle.fst_safety.specs.Going.{with_entry}
use Rattle.fst_safety.specs.Threads.{Thread, count_of}
use Rattle.fst_safety.specs.Turns.{of_ends}
use Rattle.fst_worker.specs.Pairs.{IsOnePair}
use Rattle.fst_worker.specs.Works.{IsRun, course_of}

-- ---- channels that are closed

-- the two ends of a channel, and what closing it gave
pub record Pair : Type 0 where
  pub left : EndView
  pub right : EndView
  pub closed : Closed

-- the two ends are a left and a right one of one channel, and it was closed
pub record IsShut (p : Pair) : Type 0 where
  pub left_side : p.left.knows.side ≡ Left
  pub right_side : p.right.knows.side ≡ Right
  pub channel : p.right.channel ≡ p.left.channel
  pub closed : ClosedAs p.left.channel p.left.knows p.right.knows p.closed

-- the ends of these threads, open and spent, are those of the pairs
abbrev pub Paired : List Thread → List Pair → Type 0
Paired xs ps = (w : EndView → ℕ) → sum_by (of_ends w) xs ≡ sum_by
    (λ (p : Pair). w p.left + w p.right) ps

-- the ends of these threads, open and spent, are those of the pairs and others
abbrev pub Pooled : List Thread → List Pair → List EndView → Type 0
Pooled xs ps es = (w : EndView → ℕ) → sum_by (of_ends w) xs ≡ sum_by
    (λ (p : Pair). w p.left + w p.right) ps + sum_by w es

-- each of these ends has the other end of its channel beside it, and any end there of that name is a pair with it
pub record Closable (es : List EndView) : Type 0 where
  pub partner : (e : EndView) (rest : List EndView) → IsPermutation es (e ∷ rest) →
      0 < count_of (other (end_name e)) rest
  pub pair : (e f : EndView) (rest : List EndView) → IsPermutation es (e ∷ rest) → Contains rest f →
      end_name f ≡ other (end_name e) → IsOnePair e f

-- a run all of whose channels were closed, with these pairs of ends
pub record IsOver (m : Surroundings) (a : Tree) (main : Birth) (xs : List Thread)
    (ps : List Pair) : Type 0 where
  pub run : IsRun m a main xs
  pub paired : Paired xs ps
  pub shut : All IsShut ps

-- the histories of the closed channels
abbrev pub histories_of : List Pair → List ChannelHistory
histories_of [] = []
histories_of (p ∷ ps) = p.closed.history ∷ histories_of ps

-- the entry behind those that an end knows, in the history of its channel
abbrev pub missing : List ChannelHistory → EndView → Option Entry
missing [] e = None
missing (k ∷ ks) e = if same_channel e.channel k.name then slice_get k.entries.items
    (length e.knows.history) else missing ks e

-- what an end sent and wasn't told of yet, however it is weighed
abbrev pub lag_by : (Exchange → ℕ) → EndView → Option Entry → ℕ
lag_by w e None = 0
lag_by w e (Some d) = w (record {
  end = end_name e;
  sends = true;
  event = d.event;
  stamp = d.stamp;
  clock = d.sent;
})

-- the same by its channel's history
abbrev pub lag : (Exchange → ℕ) → List ChannelHistory → EndView → ℕ
lag w ks e = lag_by w e (missing ks e)

-- the end's offer is the entry that it lacks
pub record IsTrailing (ks : List ChannelHistory) (e : EndView) (o : Offer)
    (d : Entry) : Type 0 where
  pub lacks : missing ks e ≡ Some d
  pub event : d.event ≡ o.event
  pub sent : d.sent ≡ o.clock
  pub later : o.clock < d.stamp

-- the offer that stands is of this side
abbrev pub stands_on : Side → Option (Side × Event) → Bool
stands_on s None = false
stands_on s (Some q) = same_side s q.0

-- an end whose offer stands lacks nothing; for another that waits, the last entry of its channel's history is its offer
abbrev pub IsAsClosed : List ChannelHistory → EndView → Offer → Closed → Bool → Type 0
IsAsClosed ks e o c true = missing ks e ≡ None
IsAsClosed ks e o c false = (d : Entry) × IsTrailing ks e o d ×
    (last_stamp c.history.entries.items ≡ d.stamp)

-- ---- tasks that are told

-- the course of a thread after it was told that what an end of it lacks was sent
abbrev pub told_course : Surroundings → Thread → EndView → Entry → Course
told_course m x e d = course_of (with_entry m x (Put (end_name e) d.event) Sent d.stamp [] [])

-- y is the course of the thread x, or its course after it was told that what its end lacks was sent
pub record Caught (m : Surroundings) (ks : List ChannelHistory) (x : Thread)
    (y : Course) : Type 0 where
  pub path : y.path ≡ x.path
  pub first : y.first ≡ x.first
  pub gained : List LogEntry
  pub log : y.log ≡ x.log ++ gained
  pub follows : Follows (program_in m) y.path y.first y.log y.now
  pub opened : length (openings m.types y.log) ≡ y.now.made
  pub none_born : births (program_in m) x.path x.now gained ≡ []
  pub none_opened : openings m.types gained ≡ []
  pub exchanged : (w : Exchange → ℕ) →
      sum_by w (exchanges x.now.clock gained) ≡ of_ends (lag w ks) x

-- so it is with each of these threads
abbrev pub AllCaught : Surroundings → List ChannelHistory → List Thread → List Course → Type 0
AllCaught m ks [] [] = ⊤
AllCaught m ks [] (y ∷ ys) = ⊥
AllCaught m ks (x ∷ xs) [] = ⊥
AllCaught m ks (x ∷ xs) (y ∷ ys) = Caught m ks x y × AllCaught m ks xs ys
