-- The two ends of a channel, among the ends of all threads.
use Rattle.std.specs.Prelude.{◌≡◌, ℕ, ◌+◌, ◌≤◌, List, sum_by}
use Rattle.fst_types.specs.declared.side.Side.TheVariants.{Left, Right}
use Rattle.fst_derivations.specs.Rules.{Surroundings}
use Rattle.fst_types.specs.declared.ends.ChannelName.{ChannelName}
use Rattle.fst_types.specs.declared.ends.EndName.{EndName}
use Rattle.fst_runs.specs.Configs.{Path, same_path, same_channel, same_end, other}
use Rattle.fst_runs.specs.Wrong.{once}
use Rattle.fst_cell.specs.End.{EndView, end_name}
use Rattle.fst_safety.specs.Threads.{Thread}
use Rattle.fst_safety.specs.Turns.{of_ends}
use Rattle.fst_worker.specs.Works.{opens}

-- no two threads have one path, no two channels that the logs make have one name, and no two ends have one name
pub record AreApart (m : Surroundings) (xs : List Thread) : Type 0 where
  pub paths : (p : Path) → sum_by (λ (x : Thread). once (same_path p x.path)) xs ≤ 1
  pub channels : (h : ChannelName) → sum_by (opens m (λ n t. once (same_channel h n))) xs ≤ 1
  pub ends : (z : EndName) → sum_by (of_ends (λ e. once (same_end z (end_name e)))) xs ≤ 1

-- the ends of these threads, open and spent, are this one and others
pub record HasEnd (xs : List Thread) (e : EndView) : Type 0 where
  pub rest : List EndView
  pub ends : (w : EndView → ℕ) → sum_by (of_ends w) xs ≡ w e + sum_by w rest

-- the two ends have one cell and one declared type
pub record IsOnePair (l r : EndView) : Type 0 where
  pub cell : r.cell ≡ l.cell
  pub declared : r.knows.declared ≡ l.knows.declared

-- the ends of these threads are the two ends of channels
pub record ArePaired (xs : List Thread) : Type 0 where
  -- with each end the other end of its channel is there
  pub partner : (e : EndView) → HasEnd xs e → (f : EndView) × HasEnd xs f ×
      (end_name f ≡ other (end_name e)) × IsOnePair e f
  -- a left and a right end of one channel are a pair, whichever they are
  pub one : (l r : EndView) → HasEnd xs l → HasEnd xs r → l.knows.side ≡ Left →
      r.knows.side ≡ Right → r.channel ≡ l.channel → IsOnePair l r
