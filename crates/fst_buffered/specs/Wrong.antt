-- When a configuration with buffered channels has gone wrong.
use Rattle.std.specs.Prelude.{◌≡◌, Some}
use Rattle.fst_types.specs.Tree.{Tree}
use Rattle.fst_types.specs.declared.side.Side.{Side}
use Rattle.fst_lts.specs.Histories.{after_history, opposite}
use Rattle.fst_types.specs.declared.ends.ChannelName.{ChannelName}
use Rattle.fst_types.specs.declared.ends.EndName.{EndName}
use Rattle.fst_machine.specs.declared.request.Request.{Request}
use Rattle.fst_machine.specs.Machine.{Program, request}
use Rattle.fst_runs.specs.Configs.{Path, Task}
use Rattle.fst_runs.specs.Wrong.{IsAllowed, IsUnspent, IsOwned}
use Rattle.fst_buffered.specs.Channels.{Message, Channel, Config, entries, residual_in, IsNext, core}

-- nothing has gone wrong: each task asks for something that the residuals of its ends allow, each history is a trace of its
-- declared type, each end that isn't spent is held by one task, once, and no side comes to take what it has put in itself
pub record IsRight (m : Program) (c : Config) : Type 0 where
  pub asks : (p : Path) (t : Task) → c.tasks p ≡ Some t → (q : Request) ×
      (request m.families t.state ≡ Some q) × IsAllowed (residual_in c) q
  pub traces : (h : ChannelName) (k : Channel) → c.channels h ≡ Some k → (s : Tree) ×
      (after_history k.declared (entries k.history) ≡ Some s)
  pub owned : (x : EndName) → IsUnspent (residual_in c) x → IsOwned (core c) x
  pub others : (h : ChannelName) (k : Channel) → c.channels h ≡ Some k →
      (s : Side) (e : Message) → IsNext s k e → e.side ≡ opposite s

-- the configuration is wrong
abbrev pub IsWrong : Program → Config → Type 0
IsWrong m c = IsRight m c → ⊥
