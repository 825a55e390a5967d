-- Channels by the paths of their makers.
use Rattle.std.specs.Prelude.{◌≡◌, ◌&&◌, ℕ, zero, suc, Bool, Option, Some, None, option_map, List, [], length, slice_get, nat_eq, if◌then◌else◌}
use Rattle.std.specs.Map.{lookup}
use Rattle.std.specs.declared.alloc.Global.{Global}
use Rattle.std.specs.declared.vec.Vec.{Vec}
use Rattle.fst_types.specs.declared.ends.ChannelName.{ChannelName}
use Rattle.fst_paths.specs.Paths.{Path, Key, at_path, same_path}

-- channels by the paths of their makers, and then in the order in which they were made
abbrev pub ChannelLists : Type 0 → Type 0
ChannelLists X = List (Key × Vec X Global)

-- the elements of a list that may be there
abbrev pub listed : {X : Type 0} → Option (Vec X Global) → List X
listed None = []
listed (Some v) = v.items

-- the channels that the task with this path has made
abbrev pub made_in : {X : Type 0} → ChannelLists X → Path → List X
made_in js p = listed (lookup (at_path p) js)

-- how many these are
abbrev pub many_in : {X : Type 0} → ChannelLists X → Path → ℕ
many_in js p = length (made_in js p)

-- the channel with this number, counted from 1
abbrev pub numbered : {X : Type 0} → List X → ℕ → Option X
numbered js zero = None
numbered js (suc n) = slice_get js n

-- what is seen of the channel with this name
abbrev pub named_in : {X V : Type 0} → (X → V) → ChannelLists X → ChannelName → Option V
named_in view js h = option_map view (numbered (made_in js h.maker) h.count)

-- the names are the same
abbrev pub same_channel : ChannelName → ChannelName → Bool
same_channel g h = same_path g.maker h.maker && nat_eq g.count h.count

-- a channel is changed, if it is there
abbrev pub change_channel : {V : Type 0} → ChannelName → (V → V) →
    (ChannelName → Option V) → ChannelName → Option V
change_channel h f js g = if same_channel h g then option_map f (js g) else js g

-- a channel at one name
abbrev pub put_channel : {V : Type 0} → ChannelName → V →
    (ChannelName → Option V) → ChannelName → Option V
put_channel h j js g = if same_channel h g then Some j else js g

-- in a list of channels what is seen of the one with this number is changed, if it is there
pub record IsChangedAt {X V : Type 0} (view : X → V) (n : ℕ) (f : V → V)
    (old new : List X) : Type 0 where
  pub channels : (i : ℕ) → option_map view (numbered new i) ≡
      (if nat_eq n i then option_map f (option_map view (numbered old i)) else option_map view
      (numbered old i))
  pub same_length : length new ≡ length old
