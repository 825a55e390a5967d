-- When a configuration has gone wrong, and what its tasks hold.
use Rattle.std.specs.Prelude.{◌≡◌, ℕ, ◌+◌, Bool, true, false, Option, Some, None, List, [], ◌∷◌, ⊤}
use Rattle.fst_types.specs.Tree.{Tree}
use Rattle.fst_types.specs.declared.label.Label.{Label}
use Rattle.fst_types.specs.declared.side.Side.TheVariants.{Left}
use Rattle.fst_lts.specs.Step.{step, terminated}
use Rattle.fst_lts.specs.Histories.{sending, IsInput}
use Rattle.fst_types.specs.declared.ends.ChannelName.{ChannelName}
use Rattle.fst_types.specs.declared.ends.EndName.{EndName}
use Rattle.fst_machine.specs.Values as value
use Rattle.fst_machine.specs.Values.{Value, Values, no_values, Environment, none, hole, slot}
use Rattle.fst_machine.specs.Machine.{Program, State, Frame, at_function, at_argument, at_first, at_second, at_field, at_let, at_split, at_if, at_case, at_left, at_right, at_not, at_value, at_target, at_receive, at_close, at_wait, at_select, at_match, at_seq, Pause, stuck, calls, uses, makes, forks, puts, gets, closes, waits, matches, ended, request}
use Rattle.fst_machine.specs.declared.request.Request.{Request}
use Rattle.fst_machine.specs.declared.request.Request.TheVariants as request
use Rattle.fst_runs.specs.Configs.{Path, Task, Channel, Config, same_path, same_end, residual_in, channel_residual}

-- one or none
abbrev pub once : Bool → ℕ
once true = 1
once false = 0

abbrev mutual
  -- how often an end stands in a value
  pub held : EndName → Value → ℕ
  held x (value.int n) = 0
  held x (value.bool b) = 0
  held x (value.char c) = 0
  held x value.unit = 0
  held x (value.pair v w) = held x v + held x w
  held x (value.made n o vs) = held_all x vs
  held x (value.function e env) = held_env x env
  held x (value.end y) = once (same_end x y)

  -- in some values
  pub held_all : EndName → Values → ℕ
  held_all x no_values = 0
  held_all x (value.value v vs) = held x v + held_all x vs

  -- in an environment
  pub held_env : EndName → Environment → ℕ
  held_env x none = 0
  held_env x (hole env) = held_env x env
  held_env x (slot v env) = held x v + held_env x env

-- in what waits for a value
abbrev pub held_frame : EndName → Frame → ℕ
held_frame x (at_function e env) = held_env x env
held_frame x (at_argument v) = held x v
held_frame x (at_first e env) = held_env x env
held_frame x (at_second v) = held x v
held_frame x (at_field n o done es env) = held_all x done + held_env x env
held_frame x (at_let e env) = held_env x env
held_frame x (at_split e env) = held_env x env
held_frame x (at_if e f env) = held_env x env
held_frame x (at_case bs env) = held_env x env
held_frame x (at_left o e env) = held_env x env
held_frame x (at_right o v) = held x v
held_frame x at_not = 0
held_frame x (at_value e env) = held_env x env
held_frame x (at_target v) = held x v
held_frame x at_receive = 0
held_frame x at_close = 0
held_frame x at_wait = 0
held_frame x (at_select l) = 0
held_frame x (at_match bs env) = held_env x env
held_frame x (at_seq e env) = held_env x env

-- in all that waits
abbrev pub held_frames : EndName → List Frame → ℕ
held_frames x [] = 0
held_frames x (f ∷ fs) = held_frame x f + held_frames x fs

-- in a state
abbrev pub held_state : EndName → State → ℕ
held_state x s = held_env x s.environment + held_frames x s.frames

-- in all that a task holds where it stands still
abbrev pub held_pause : EndName → Pause → ℕ
held_pause x stuck = 0
held_pause x (calls e env v fs) = (held_env x env + held x v) + held_frames x fs
held_pause x (uses g fs) = held_frames x fs
held_pause x (makes k fs) = held_frames x fs
held_pause x (forks e env fs) = held_env x env + held_frames x fs
held_pause x (puts y ev fs) = held x (value.end y) + held_frames x fs
held_pause x (gets y fs) = held x (value.end y) + held_frames x fs
held_pause x (closes y fs) = held x (value.end y) + held_frames x fs
held_pause x (waits y fs) = held x (value.end y) + held_frames x fs
held_pause x (matches y bs env fs) = (held x (value.end y) + held_env x env) + held_frames x fs
held_pause x (ended v) = held x v

-- in a task that may be there
abbrev pub amount : EndName → Option Task → ℕ
amount x None = 0
amount x (Some t) = held_state x t.state

-- the end isn't spent: its residual isn't terminated
abbrev pub IsUnspent : (EndName → Option Tree) → EndName → Type 0
IsUnspent r x = (s : Tree) × (r x ≡ Some s) × (terminated s ≡ false)

-- the end is held by one task, once
abbrev pub IsOwned : Config → EndName → Type 0
IsOwned c x = (p : Path) × (amount x (c.tasks p) ≡ 1) ×
    ((q : Path) → same_path p q ≡ false → amount x (c.tasks q) ≡ 0)

-- the end at which something is asked for, where it is at one
abbrev pub end_of : Request → Option EndName
end_of request.Step = None
end_of (request.New n) = None
end_of request.Fork = None
end_of (request.Put x ev) = Some x
end_of (request.Get x) = Some x
end_of request.Ended = None

-- the residual of the end that is asked at allows what is asked
abbrev pub IsAllowed : (EndName → Option Tree) → Request → Type 0
IsAllowed r request.Step = ⊤
IsAllowed r (request.New n) = ⊤
IsAllowed r request.Fork = ⊤
IsAllowed r (request.Put x ev) = (s : Tree) × (t : Tree) × (r x ≡ Some s) ×
    (step s (sending ev) ≡ Some t)
IsAllowed r (request.Get x) = (s : Tree) × (a : Label) × (t : Tree) × (r x ≡ Some s) × IsInput a ×
    (step s a ≡ Some t)
IsAllowed r request.Ended = ⊤

-- nothing has gone wrong: each task asks for something that the residuals of its ends allow, each history is a trace of its
-- declared type, and each end that isn't spent is held by one task, once
pub record IsRight (m : Program) (c : Config) : Type 0 where
  pub asks : (p : Path) (t : Task) → c.tasks p ≡ Some t → (q : Request) ×
      (request m.families t.state ≡ Some q) × IsAllowed (residual_in c) q
  pub traces : (h : ChannelName) (k : Channel) → c.channels h ≡ Some k → (s : Tree) ×
      (channel_residual Left k ≡ Some s)
  pub owned : (x : EndName) → IsUnspent (residual_in c) x → IsOwned c x

-- the configuration is wrong
abbrev pub IsWrong : Program → Config → Type 0
IsWrong m c = IsRight m c → ⊥
