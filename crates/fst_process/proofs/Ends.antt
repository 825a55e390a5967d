-- Which tasks ask at the ends of channels after one is changed.
use Rattle.std.proofs.Common.{◌≡◌, ◌∙◌, ◌⊎◌, inl, inr, ℕ, Bool, true, false, Option, Some, None, refl, sym, ap}
use Rattle.std.specs.Prelude.{option_map, option_and_then, is_some}
use Rattle.fst_base.proofs.Options.{some_same, none_some}
use Rattle.fst_types.specs.declared.side.Side.{Side}
use Rattle.fst_types.specs.declared.side.Side.TheVariants.{Left, Right}
use Rattle.fst_lts.specs.Histories.{opposite}
use Rattle.fst_types.specs.declared.ends.ChannelName.{ChannelName}
use Rattle.fst_types.specs.declared.ends.EndName.{EndName}
use Rattle.fst_machine.specs.declared.request.Request.{Request}
use Rattle.fst_machine.specs.declared.request.Request.TheVariants.{Step, New, Fork, Put, Get, Ended}
use Rattle.fst_runs.specs.Configs as runs
use Rattle.fst_runs.specs.Configs.{Path, other}
use Rattle.fst_process.specs.Kept.{Channel, Kept, asker_at, with_asker, asker, end_of, partner, moves_with, changed}
use Rattle.fst_process.specs.Reflects.{bare}
use Rattle.fst_process.proofs.PathLaws.{one_of_both, apart_channels}
use Rattle.fst_process.proofs.Places.{channel_cases, channel_here}

-- what asks at an end moves where its partner is there
pub moves_at : (types : ℕ) (d : Kept) (q : Request) (x : EndName) → end_of q ≡ Some x →
    moves_with types d q ≡ is_some (partner d x)
moves_at types d Step x e = absurd (none_some e)
moves_at types d (New n) x e = absurd (none_some e)
moves_at types d Fork x e = absurd (none_some e)
moves_at types d (Put y ev) x e = ap (λ z. is_some (partner d z)) (some_same e)
moves_at types d (Get y) x e = ap (λ z. is_some (partner d z)) (some_same e)
moves_at types d Ended x e = absurd (none_some e)

left_right : Left ≡ Right → ⊥
left_right e = cc e

-- a side isn't the opposite one
pub no_opposite : (s : Side) → opposite s ≡ s → ⊥
no_opposite Left e = left_right (sym e)
no_opposite Right e = left_right e

-- an end is not its other one
pub not_other : (x : EndName) → x ≡ other x → ⊥
not_other x e = no_opposite x.side (ap (λ (z : EndName). z.side) (sym e))

-- two ends are one or not
pub one_or_not : (x y : EndName) → (x ≡ y) ⊎ (x ≡ y → ⊥)
one_or_not x y =
    channel_cases (λ (b : Bool). (x ≡ y) ⊎ (x ≡ y → ⊥)) x.channel y.channel true false
    (λ e. elim (one_of_both x y e) [ inl f ↦ inl f | inr f ↦ inr (λ g. not_other x (g ∙ sym f)) ])
    (λ e. inr (λ g. apart_channels x.channel y.channel e (ap (λ (z : EndName). z.channel) g)))

asks_own : (s : Side) (o : Option Path) (j : Channel) → asker_at s (with_asker s o j) ≡ o
asks_own Left o j = refl
asks_own Right o j = refl

asks_opposite : (s : Side) (o : Option Path) (j : Channel) → asker_at (opposite s) (with_asker s o j) ≡ asker_at (opposite s) j
asks_opposite Left o j = refl
asks_opposite Right o j = refl

opposite_asked : (s : Side) (o : Option Path) (u : Option Channel) →
    option_and_then (asker_at (opposite s)) (option_map (with_asker s o) u) ≡ option_and_then (asker_at (opposite s)) u
opposite_asked s o None = refl
opposite_asked s o (Some j) = asks_opposite s o j

-- who asks at an end from then on
pub asker_own : (d : Kept) (x : EndName) (o : Option Path) (j : Channel) → d.channels x.channel ≡ Some j →
    asker (changed x.channel (with_asker x.side o) d) x ≡ o
asker_own d x o j e =
    ap (option_and_then (asker_at x.side)) (channel_here x.channel (option_map (with_asker x.side o) (d.channels x.channel))
    (d.channels x.channel) ∙ ap (option_map (with_asker x.side o)) e)
    ∙ asks_own x.side o j

-- who asks at another end asks there still
pub asker_else : (d : Kept) (x y : EndName) (o : Option Path) →
    (x ≡ y → ⊥) → asker (changed x.channel (with_asker x.side o) d) y ≡ asker d y
asker_else d x y o n =
    channel_cases (λ (z : Option Channel). option_and_then (asker_at y.side) z ≡ asker d y) x.channel y.channel
    (option_map (with_asker x.side o) (d.channels y.channel)) (d.channels y.channel)
    (λ e. elim (one_of_both x y e) [
      | inl f ↦ absurd (n f)
      | inr f ↦
          ap (λ (z : EndName). option_and_then (asker_at z.side) (option_map (with_asker x.side o) (d.channels y.channel)))
          (sym f)
          ∙ opposite_asked x.side o (d.channels y.channel)
          ∙ ap (λ (z : EndName). option_and_then (asker_at z.side) (d.channels y.channel)) f
    ])
    (λ e. refl)

asked_bare : (s : Side) (o : Option Path) (j : Channel) → bare (with_asker s o j) ≡ bare j
asked_bare Left o j = refl
asked_bare Right o j = refl

all_bare : (s : Side) (o : Option Path) (u : Option Channel) → option_map bare (option_map (with_asker s o) u) ≡ option_map bare u
all_bare s o None = refl
all_bare s o (Some j) = ap Some (asked_bare s o j)

-- who asks doesn't matter for what a channel is
pub still_bare : (d : Kept) (x : EndName) (o : Option Path) (h : ChannelName) →
    option_map bare ((changed x.channel (with_asker x.side o) d).channels h) ≡ option_map bare (d.channels h)
still_bare d x o h =
    channel_cases (λ (z : Option Channel). option_map bare z ≡ option_map bare (d.channels h)) x.channel h
    (option_map (with_asker x.side o) (d.channels h)) (d.channels h) (λ e. all_bare x.side o (d.channels h)) (λ e. refl)

-- a channel that is there is there in its bare form
pub bare_there : (u : Option Channel) (j : Channel) → u ≡ Some j → option_map bare u ≡ Some (bare j)
bare_there u j e = ap (option_map bare) e

-- and the other way
pub there_bare : (u : Option Channel) (v : Option runs.Channel) (j : runs.Channel) → option_map bare u ≡ v → v ≡ Some j →
    (i : Channel) × (u ≡ Some i) × (bare i ≡ j)
there_bare None v j e f = absurd (none_some (e ∙ f))
there_bare (Some i) v j e f = (i, refl, some_same (e ∙ f))
