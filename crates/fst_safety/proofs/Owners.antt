-- Which ends there are of a channel, and which stand in an end.
use Rattle.std.proofs.Common.{◌≡◌, ◌⊎◌, inl, inr, Bool, true, false, refl}
use Rattle.fst_types.specs.declared.side.Side.{Side}
use Rattle.fst_types.specs.declared.side.Side.TheVariants.{Left, Right}
use Rattle.fst_lts.specs.Histories.{opposite}
use Rattle.fst_types.specs.declared.ends.EndName.{EndName}
use Rattle.fst_machine.specs.Values as value
use Rattle.fst_runs.specs.Configs.{same_side, same_end, other}
use Rattle.fst_runs.specs.Wrong.{once, held}
use Rattle.fst_runs.proofs.Laws.{same_side-same, same_end-same}

-- an end of the channel is the end or the other one
pub or_other : (z x : EndName) → z.channel ≡ x.channel → (z ≡ x) ⊎ (z ≡ other x)
or_other z x e = go (same_side z.side x.side) refl
  where
    flip : (a b : Side) → same_side a b ≡ false → a ≡ opposite b
    flip Left Left h = absurd (cc h)
    flip Left Right h = refl
    flip Right Left h = refl
    flip Right Right h = absurd (cc h)

    go : (b : Bool) → same_side z.side x.side ≡ b → (z ≡ x) ⊎ (z ≡ other x)
    go true s = inl (λ i. record { channel = e i; side = same_side-same z.side x.side s i })
    go false s = inr (λ i. record { channel = e i; side = flip z.side x.side s i })

-- no other end stands in an end
pub held_apart : (z y : EndName) → (z ≡ y → ⊥) → held z (value.end y) ≡ 0
held_apart z y n = go (same_end z y) refl
  where
    go : (b : Bool) → same_end z y ≡ b → once b ≡ 0
    go true e = absurd (n (same_end-same z y e))
    go false e = refl
