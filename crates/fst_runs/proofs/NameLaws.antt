-- When paths, names of channels, sides and ends are the same.
use Rattle.std.proofs.Common.{◌≡◌, Bool, true, false, refl}
use Rattle.std.specs.Prelude.{nat_eq}
use Rattle.std.specs.Str.{bytes_eq}
use Rattle.std.proofs.lemmas.Bool.{and_from}
use Rattle.std.proofs.lemmas.Slice.Eq.{bytes_eq-Decides}
use Rattle.fst_base.proofs.Bools.{and_parts, same_nat, nat_itself}
use Rattle.fst_types.specs.declared.side.Side.{Side}
use Rattle.fst_types.specs.declared.side.Side.TheVariants.{Left, Right}
use Rattle.fst_types.specs.declared.ends.ChannelName.{ChannelName}
use Rattle.fst_types.specs.declared.ends.EndName.{EndName}
use Rattle.fst_runs.specs.Configs.{Path, same_path, same_channel, same_side, same_end}

-- a path is the same as itself
pub same_path-itself : (p : Path) → same_path p p ≡ true
same_path-itself p = (bytes_eq-Decides p p).1 refl

-- paths that pass the test are one
pub same_path-same : (p q : Path) → same_path p q ≡ true → p ≡ q
same_path-same p q e = (bytes_eq-Decides p q).0 e

-- paths that aren't one don't pass it
pub same_path-apart : (p q : Path) → (p ≡ q → ⊥) → same_path p q ≡ false
same_path-apart p q n = go (same_path p q) refl
  where
    go : (b : Bool) → same_path p q ≡ b → b ≡ false
    go false e = refl
    go true e = absurd (n (same_path-same p q e))

-- a channel's name is the same as itself
pub same_channel-itself : (h : ChannelName) → same_channel h h ≡ true
same_channel-itself h = and_from (bytes_eq h.maker h.maker) (nat_eq h.count h.count) (same_path-itself h.maker)
    (nat_itself h.count)

-- names that pass the test are one
pub same_channel-same : (g h : ChannelName) → same_channel g h ≡ true → g ≡ h
same_channel-same g h e =
    let both = and_parts (bytes_eq g.maker h.maker) (nat_eq g.count h.count) e in
    let makers = same_path-same g.maker h.maker both.0 in
    let counts = same_nat g.count h.count both.1 in
    λ i. record { maker = makers i; count = counts i }

same_side-itself : (s : Side) → same_side s s ≡ true
same_side-itself Left = refl
same_side-itself Right = refl

-- sides that pass the test are one
pub same_side-same : (s t : Side) → same_side s t ≡ true → s ≡ t
same_side-same Left Left e = refl
same_side-same Left Right e = absurd (cc e)
same_side-same Right Left e = absurd (cc e)
same_side-same Right Right e = refl

-- an end is the same as itself
pub same_end-itself : (x : EndName) → same_end x x ≡ true
same_end-itself x = and_from (same_channel x.channel x.channel) (same_side x.side x.side) (same_channel-itself x.channel)
    (same_side-itself x.side)

-- ends that pass the test are one
pub same_end-same : (x y : EndName) → same_end x y ≡ true → x ≡ y
same_end-same x y e =
    let both = and_parts (same_channel x.channel y.channel) (same_side x.side y.side) e in
    let channels = same_channel-same x.channel y.channel both.0 in
    let sides = same_side-same x.side y.side both.1 in
    λ i. record { channel = channels i; side = sides i }
