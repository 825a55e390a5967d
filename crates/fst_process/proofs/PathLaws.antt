-- Paths, names of channels and ends that aren't the same, and the other ends.
use Rattle.std.proofs.Common.{◌≡◌, ◌∙◌, ◌⊎◌, inl, inr, false, refl, sym, ap}
use Rattle.std.proofs.lemmas.Bool.{true≢false}
use Rattle.fst_types.specs.declared.side.Side.{Side}
use Rattle.fst_types.specs.declared.side.Side.TheVariants.{Left, Right}
use Rattle.fst_lts.specs.Histories.{opposite}
use Rattle.fst_types.specs.declared.ends.ChannelName.{ChannelName}
use Rattle.fst_types.specs.declared.ends.EndName.{EndName}
use Rattle.fst_runs.specs.Configs.{Path, same_path, same_channel, other}
use Rattle.fst_runs.proofs.Laws.{same_path-itself, same_channel-itself}

-- paths that fail the test aren't one
pub apart_paths : (p q : Path) → same_path p q ≡ false → p ≡ q → ⊥
apart_paths p q f e = true≢false (sym (same_path-itself p) ∙ ap (same_path p) e ∙ f)

-- names that fail it aren't one
pub apart_channels : (g h : ChannelName) → same_channel g h ≡ false → g ≡ h → ⊥
apart_channels g h f e = true≢false (sym (same_channel-itself g) ∙ ap (same_channel g) e ∙ f)

-- a side is the same as another, or the opposite one
pub sides : (s t : Side) → (s ≡ t) ⊎ (opposite s ≡ t)
sides Left Left = inl refl
sides Left Right = inr refl
sides Right Left = inr refl
sides Right Right = inl refl

-- a side is opposite to its opposite
pub opposite-twice : (s : Side) → opposite (opposite s) ≡ s
opposite-twice Left = refl
opposite-twice Right = refl

-- an end is the other one of its other one
pub other-twice : (x : EndName) → other (other x) ≡ x
other-twice x = λ i. record { channel = x.channel; side = opposite-twice x.side i }

-- an end of a channel is one of both
pub one_of_both : (x y : EndName) → x.channel ≡ y.channel → (x ≡ y) ⊎ (other x ≡ y)
one_of_both x y e = elim (sides x.side y.side) [
  | inl f ↦ inl (λ i. record { channel = e i; side = f i })
  | inr f ↦ inr (λ i. record { channel = e i; side = f i })
]
