-- When a buffered channel is used as its type says.
use Rattle.std.specs.Prelude.{◌≡◌, Some, List, [], ◌∷◌, ◌++◌, length}
use Rattle.fst_types.specs.Tree.{Tree}
use Rattle.fst_types.specs.declared.side.Side.{Side}
use Rattle.fst_kinds.specs.WellFormed.{IsSession}
use Rattle.fst_lts.specs.Step.{step}
use Rattle.fst_lts.specs.Histories.{sending, after_history, side_type, opposite}
use Rattle.fst_buffered.specs.Channels.{Message, Channel, entries, seen}

-- one side alone has put these in, and its type has gone on from s to t with them
abbrev pub Sends : Side → Tree → List Message → Tree → Type 0
Sends a s [] t = t ≡ s
Sends a s (e ∷ es) t = (e.side ≡ a) × (u : Tree) ×
    (step s (sending e.event) ≡ Some u) × Sends a u es t

-- the channel is used as it says: one side's view is the whole history; both sides have a beginning of it in view, after which
-- the type of that side is now; and the rest, which the other side lacks, it has put in
pub record IsUsed (k : Channel) : Type 0 where
  pub ahead : Side
  pub both : List Message
  pub rest : List Message
  pub is : k.history ≡ both ++ rest
  pub whole : seen ahead k ≡ length k.history
  pub behind : seen (opposite ahead) k ≡ length both
  pub now : Tree
  pub next : Tree
  pub comes : after_history (side_type ahead k.declared) (entries both) ≡ Some now
  pub sends : Sends ahead now rest next
  pub declared : IsSession [] k.declared
  pub session : IsSession [] now
