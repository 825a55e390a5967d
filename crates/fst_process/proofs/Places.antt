-- What stands at the name of a channel.
use Rattle.std.proofs.Common.{◌≡◌, Bool, true, false, refl, ap}
use Rattle.std.specs.Prelude.{if◌then◌else◌}
use Rattle.fst_types.specs.declared.ends.ChannelName.{ChannelName}
use Rattle.fst_runs.specs.Configs.{same_channel}
use Rattle.fst_runs.proofs.Laws.{same_channel-itself, same_channel-same}

-- what holds at a channel's name, and at each other
pub channel_cases : {X : Type 0} (P : X → Type 0) (g h : ChannelName) (x y : X) → (g ≡ h → P x) →
    (same_channel g h ≡ false → P y) →
    P (if same_channel g h then x else y)
channel_cases P g h x y f k = go (same_channel g h) refl
  where
    go : (b : Bool) → same_channel g h ≡ b → P (if b then x else y)
    go true e = f (same_channel-same g h e)
    go false e = k e

-- so it is with two things
pub channel_both : {X Y : Type 0} (P : X → Y → Type 0) (g h : ChannelName) (x x' : X) (y y' : Y) → (g ≡ h → P x y) →
    (same_channel g h ≡ false → P x' y') →
    P (if same_channel g h then x else x') (if same_channel g h then y else y')
channel_both P g h x x' y y' f k = go (same_channel g h) refl
  where
    go : (b : Bool) → same_channel g h ≡ b → P (if b then x else x') (if b then y else y')
    go true e = f (same_channel-same g h e)
    go false e = k e

-- what stands under a test at a channel's own name
pub channel_here : {X : Type 0} (h : ChannelName) (x y : X) → (if same_channel h h then x else y) ≡ x
channel_here h x y = ap (λ b. if b then x else y) (same_channel-itself h)
