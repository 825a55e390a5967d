-- What every configuration of a buffered run keeps: its tasks have types, its channels are used as they say, and names are fresh.
use Rattle.std.specs.Prelude.{◌≡◌, Some}
use Rattle.fst_types.specs.Tree.{Tree}
use Rattle.fst_derivations.specs.Rules.{Surroundings}
use Rattle.fst_types.specs.declared.ends.ChannelName.{ChannelName}
use Rattle.fst_types.specs.declared.ends.EndName.{EndName}
use Rattle.fst_runs.specs.Configs.{Path, Task, main_path}
use Rattle.fst_runs.specs.Names.{HasMakers, HasParents}
use Rattle.fst_runs.specs.Wrong.{IsUnspent, IsOwned}
use Rattle.fst_safety.specs.Fitting.{IsTyped}
use Rattle.fst_buffered.specs.Channels.{Channel, Config, residual_in, core}
use Rattle.fst_buffered.specs.Use.{IsUsed}

-- the configuration is sound, where a is the type of main
pub record IsSound (m : Surroundings) (a : Tree) (c : Config) : Type 0 where
  -- each task has a type over the residuals by views, main's has this one
  pub tasks : (p : Path) (t : Task) → c.tasks p ≡ Some t →
      (b : Tree) × IsTyped m (residual_in c) t.state b × (p ≡ main_path → b ≡ a)
  -- no unspent end is held twice, and none is lost
  pub owned : (x : EndName) → IsUnspent (residual_in c) x → IsOwned (core c) x
  pub used : (h : ChannelName) (k : Channel) → c.channels h ≡ Some k → IsUsed k
  -- the name of a task's next channel is new
  pub makers : HasMakers (core c)
  -- so is the path of the next task that it forks
  pub parents : HasParents (core c)
