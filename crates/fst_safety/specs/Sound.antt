-- What every configuration of a run keeps: its tasks have types, its channels are used as they say, and names are fresh.
use Rattle.std.specs.Prelude.{◌≡◌, List, [], Some}
use Rattle.fst_types.specs.Tree.{Tree}
use Rattle.fst_types.specs.declared.side.Side.TheVariants.{Left, Right}
use Rattle.fst_kinds.specs.WellFormed.{IsSession}
use Rattle.fst_lts.specs.Dual.{dual}
use Rattle.fst_terms.specs.declared.core_module.Module.{Module}
use Rattle.fst_derivations.specs.Deriv.{Deriv}
use Rattle.fst_derivations.specs.Modules.{HasDerivations, surroundings}
use Rattle.fst_derivations.specs.Rules.{Surroundings}
use Rattle.fst_types.specs.declared.ends.ChannelName.{ChannelName}
use Rattle.fst_types.specs.declared.ends.EndName.{EndName}
use Rattle.fst_runs.specs.Configs.{Path, Task, Channel, Config, residual_in, channel_residual, main_path}
use Rattle.fst_runs.specs.Names.{HasMakers, HasParents}
use Rattle.fst_runs.specs.Wrong.{IsUnspent, IsOwned}
use Rattle.fst_safety.specs.Fitting.{IsTyped}
use Rattle.fst_safety.specs.Safety.{StaysSafe, main_type}

-- each side has gone on as the dual of the other
abbrev pub IsTrace : Channel → Type 0
IsTrace k = (s : Tree) × IsSession [] k.declared × IsSession [] s ×
    (channel_residual Left k ≡ Some s) × (channel_residual Right k ≡ Some (dual s))

-- the configuration is sound, where a is the type of main
pub record IsSound (m : Surroundings) (a : Tree) (c : Config) : Type 0 where
  -- each task has a type, main's has this one
  pub tasks : (p : Path) (t : Task) → c.tasks p ≡ Some t →
      (b : Tree) × IsTyped m (residual_in c) t.state b × (p ≡ main_path → b ≡ a)
  -- no unspent end is held twice, and none is lost
  pub owned : (x : EndName) → IsUnspent (residual_in c) x → IsOwned c x
  -- both sides of each channel fit
  pub traces : (h : ChannelName) (k : Channel) → c.channels h ≡ Some k → IsTrace k
  -- the name of a task's next channel is new
  pub makers : HasMakers c
  -- so is the path of the next task that it forks
  pub parents : HasParents c

-- what happens from a sound configuration of a module that has derivations on is safe
abbrev pub SoundStaysSafe : Type 0
SoundStaysSafe = (m : Module) (ds : List Deriv) → HasDerivations m ds →
    (a : Tree) → main_type m.types.items m.globals.items ≡ Some a →
    (c : Config) → IsSound (surroundings m []) a c → StaysSafe m c
