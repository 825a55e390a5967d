-- What tasks have exchanged, and the entries of histories.
use Rattle.std.specs.Prelude.{◌≡◌, ◌≤◌, sum_by, not, List, ◌∷◌, ◌++◌, All, Contains}
use Rattle.fst_types.specs.declared.side.Side.{Side}
use Rattle.fst_types.specs.declared.side.Side.TheVariants.{Left, Right}
use Rattle.fst_types.specs.declared.ends.ChannelName.{ChannelName}
use Rattle.fst_types.specs.declared.event.ChannelHistory.{ChannelHistory}
use Rattle.fst_types.specs.declared.event.Entry.{Entry}
use Rattle.fst_lts.specs.Residuals.{residual, sends}
use Rattle.fst_runs.specs.Configs.{Path, same_path, same_channel}
use Rattle.fst_runs.specs.Logs.{Exchange, exchanges, part_in}
use Rattle.fst_runs.specs.Wrong.{once}
use Rattle.fst_records.specs.Records.{Course}

-- one side's part in an entry of a channel's history that stands behind these
abbrev pub part_at : ChannelHistory → Side → List Entry → Entry → Exchange
part_at k s before e = part_in (record { channel = k.name; side = s })
    (sends (residual s k.declared before) e.event) e

-- what a task has exchanged is a side's part in an entry of one of the histories
pub record StandsIn (ks : List ChannelHistory) (g : Exchange) : Type 0 where
  pub channel : ChannelHistory
  pub there : Contains ks channel
  pub side : Side
  pub before : List Entry
  pub entry : Entry
  pub behind : List Entry
  pub is : channel.entries.items ≡ before ++ entry ∷ behind
  pub part : g ≡ part_at channel side before entry

-- one of the tasks has exchanged it, as its log says
pub record IsExchanged (ys : List Course) (g : Exchange) : Type 0 where
  pub task : Course
  pub there : Contains ys task
  pub logged : Contains (exchanges task.first.clock task.log) g

-- the logs of these tasks and the histories say the same
pub record Correspond (ys : List Course) (ks : List ChannelHistory) : Type 0 where
  -- no two tasks have one path, and no two channels one name
  pub paths : (p : Path) → sum_by (λ (y : Course). once (same_path p y.path)) ys ≤ 1
  pub names : (h : ChannelName) → sum_by
      (λ (k : ChannelHistory). once (same_channel h k.name)) ks ≤ 1
  -- what a log says that was sent or received at an end stands in its channel's history, with its stamp and the task's clock
  pub logged : All (λ (y : Course). All (StandsIn ks) (exchanges y.first.clock y.log)) ys
  -- each entry of a history was exchanged by a task at the left end, and by one at the right end
  pub exchanged : (k : ChannelHistory) (s : Side) (before : List Entry) (e : Entry)
      (behind : List Entry) → Contains ks k →
      k.entries.items ≡ before ++ e ∷ behind →
      IsExchanged ys (part_at k s before e)
  -- just one of both has sent it
  pub one_sends : (k : ChannelHistory) (before : List Entry) (e : Entry) (behind : List Entry) →
      Contains ks k → k.entries.items ≡ before ++ e ∷ behind →
      sends (residual Left k.declared before)
      e.event ≡ not (sends (residual Right k.declared before) e.event)
