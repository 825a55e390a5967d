-- What a turn of a task does.
use Rattle.std.specs.Prelude.{◌≡◌, ◌⊎◌, ℕ, ◌+◌, ◌<◌, List, [], ◌++◌, sum_by, All}
use Rattle.atomic_table.specs.Seated.{TableId}
use Rattle.fst_types.specs.Tree.{Tree}
use Rattle.fst_types.specs.declared.side.Side.{Side}
use Rattle.fst_types.specs.declared.side.Side.TheVariants.{Left, Right}
use Rattle.fst_derivations.specs.Rules.{Surroundings}
use Rattle.fst_types.specs.declared.ends.ChannelName.{ChannelName}
use Rattle.fst_types.specs.declared.ends.EndName.{EndName}
use Rattle.fst_runs.specs.Wrong.{held_state}
use Rattle.fst_cell.specs.End.{EndView}
use Rattle.fst_runs.specs.declared.log.LogEntry.{LogEntry}
use Rattle.fst_safety.specs.WellTyped.{program_in}
use Rattle.fst_runs.specs.Logs.{Birth, Exchange, Opening, births, exchanges, openings}
use Rattle.fst_safety.specs.Threads.{shown}
use Rattle.fst_safety.specs.Threads.{Thread, count_of}

-- ---- what is counted of threads, however it is weighed

-- so much of all ends of a thread, the open and the spent ones
abbrev pub of_ends : (EndView → ℕ) → Thread → ℕ
of_ends w x = sum_by w x.bag + sum_by w x.retired

-- n where the sides are the same
abbrev pub on_side : Side → Side → ℕ → ℕ
on_side Left Left n = n
on_side Right Right n = n
on_side Left Right n = 0
on_side Right Left n = 0

-- an end of this side, by its channel's name and declared type
abbrev pub by_type : Side → (ChannelName → Tree → ℕ) → EndView → ℕ
by_type s w e = on_side s e.knows.side (w e.channel e.knows.declared)

-- by its channel's name and its cell
abbrev pub by_cell : Side → (ChannelName → TableId → ℕ) → EndView → ℕ
by_cell s w e = on_side s e.knows.side (w e.channel e.cell)

-- by what it has exchanged
abbrev pub by_exchanges : (Exchange → ℕ) → EndView → ℕ
by_exchanges w e = sum_by w (shown e)

-- the birth of a thread
abbrev pub birth : Thread → Birth
birth x = record { path = x.path; first = x.first }

-- ---- a turn

-- an end that stands in a state and isn't open stands among the spent ones of y, or stood in the state of x and wasn't open there
abbrev pub AreKnownSpent : Thread → Thread → Thread → Type 0
AreKnownSpent x y k =
    (z : EndName) → 0 < held_state z k.now.state → count_of z k.bag ≡ 0 →
    (0 < count_of z y.retired) ⊎ ((0 < held_state z x.now.state) × (count_of z x.bag ≡ 0))

-- the thread x has gone on to y, and has forked the new ones; what all of them have is what x had, and what the log has gained
pub record Turn (m : Surroundings) (x y : Thread) (new : List Thread) : Type 0 where
  pub gained : List LogEntry
  pub log : y.log ≡ x.log ++ gained
  pub path : y.path ≡ x.path
  pub first : y.first ≡ x.first
  pub idle : All (λ (k : Thread). k.log ≡ []) new
  -- the new threads are those that the log forks
  pub born : (w : Birth → ℕ) → sum_by
      (λ (k : Thread). w (birth k)) new ≡ sum_by w (births (program_in m) x.path x.now gained)
  -- the ends of each side are those of x and of the channels that were made, with their declared types
  pub typed : (s : Side) (w : ChannelName → Tree → ℕ) →
      of_ends (by_type s w) y + sum_by (of_ends (by_type s w)) new ≡ of_ends
      (by_type s w) x + sum_by (λ (o : Opening). w o.name o.declared) (openings m.types gained)
  -- as many left as right ends are new in each cell
  pub cells : (w : ChannelName → TableId → ℕ) →
      (of_ends (by_cell Left w) y + sum_by (of_ends (by_cell Left w)) new) + of_ends
      (by_cell Right w) x ≡
      (of_ends (by_cell Right w) y + sum_by (of_ends (by_cell Right w)) new) + of_ends
      (by_cell Left w) x
  -- what the ends have exchanged is what the log says
  pub exchanged : (w : Exchange → ℕ) →
      of_ends (by_exchanges w) y + sum_by (of_ends (by_exchanges w)) new ≡ of_ends
      (by_exchanges w) x + sum_by w (exchanges x.now.clock gained)
  -- spent ends stay, and those that stand in states are known
  pub spent : List EndView
  pub kept : y.retired ≡ x.retired ++ spent
  pub known : AreKnownSpent x y y
  pub known_new : All (AreKnownSpent x y) new
