-- The names of channels and the paths of tasks are those that counts have given.
use Rattle.std.specs.Prelude.{◌≡◌, ℕ, ◌<◌, ◌≤◌, Some}
use Rattle.fst_types.specs.declared.ends.ChannelName.{ChannelName}
use Rattle.fst_runs.specs.Configs.{Path, Task, Channel, Config, child_path}

-- the task that made a channel is there, and has made as many
abbrev pub HasMakers : Config → Type 0
HasMakers c = (h : ChannelName) (k : Channel) → c.channels h ≡ Some k → (t : Task) ×
    (c.tasks h.maker ≡ Some t) × (0 < h.count) × (h.count ≤ t.made)

-- the task that forked a task is there, and has forked more than those before it
abbrev pub HasParents : Config → Type 0
HasParents c = (p : Path) (k : ℕ) (t : Task) → c.tasks (child_path p k) ≡ Some t → (u : Task) ×
    (c.tasks p ≡ Some u) × (k < u.forked)
