-- How the residuals of a channel's two ends go on with an entry.
use Rattle.std.proofs.Common.{◌≡◌, ◌∙◌, List, [], ◌∷◌, ◌++◌, Option, Some, None, refl, sym, ap}
use Rattle.std.specs.Prelude.{option_map, option_and_then}
use Rattle.fst_types.specs.Tree.{Tree}
use Rattle.fst_types.specs.declared.side.Side.{Side}
use Rattle.fst_types.specs.declared.side.Side.TheVariants.{Left, Right}
use Rattle.fst_kinds.specs.WellFormed.{IsSession}
use Rattle.fst_lts.specs.Step.{step}
use Rattle.fst_lts.specs.Dual.{dual}
use Rattle.fst_lts.specs.Histories.{sending, after_event, after_history, side_type, opposite}
use Rattle.fst_lts.proofs.Laws.{dual-dual, after_sent, dual_session}
use Rattle.fst_base.specs.Agreement.{residual}
use Rattle.fst_types.specs.declared.event.Entry.{Entry}
use Rattle.fst_runs.specs.Configs.{Channel, channel_residual}
use Rattle.fst_runs.specs.Events.{extended}
use Rattle.fst_runs.proofs.Laws.{residual-opposite}
use Rattle.fst_safety.specs.Sound.{IsTrace}

then_itself : (o : Option Tree) → option_and_then (λ y. residual after_event y []) o ≡ o
then_itself None = refl
then_itself (Some t) = refl

-- the type after one more entry
pub after_extended : (t : Tree) (h : List Entry) (e : Entry) → after_history t (h ++ e ∷ []) ≡ option_and_then
    (λ y. after_event y e.event) (after_history t h)
after_extended t [] e = then_itself (after_event t e.event)
after_extended t (d ∷ h) e = go (after_event t d.event) (λ y. after_extended y h e)
  where
    go : (o : Option Tree) → ((y : Tree) → after_history y (h ++ e ∷ []) ≡ option_and_then
        (λ z. after_event z e.event) (after_history y h)) →
        option_and_then (λ y. after_history y (h ++ e ∷ [])) o ≡ option_and_then
        (λ z. after_event z e.event) (option_and_then (λ y. after_history y h) o)
    go None f = refl
    go (Some y) f = f y

-- the residual of a side after one more entry
pub residual_extended : (side : Side) (k : Channel) (e : Entry) (s : Tree) → channel_residual side k ≡ Some s →
    channel_residual side (extended k e) ≡ after_event s e.event
residual_extended side k e s h = after_extended (side_type side k.declared) k.history e
    ∙ ap (option_and_then (λ y. after_event y e.event)) h

-- both residuals of a channel, seen from one side
abbrev pub Sides : Side → Channel → Tree → Type 0
Sides side k s = (channel_residual side k ≡ Some s) × (channel_residual (opposite side) k ≡ Some (dual s))

-- from either side the other residual is the dual
pub sides_from : (k : Channel) (side : Side) (u : Tree) → channel_residual side k ≡ Some u → Sides side k u
sides_from k side u e = (e, residual-opposite side k ∙ ap (option_map dual) e)

-- and so the channel is used as it says
pub trace_from : (k : Channel) (side : Side) (u : Tree) → IsSession [] k.declared → IsSession [] u → Sides side k u → IsTrace k
trace_from k Left u d w h = (u, d, w, h.0, h.1)
trace_from k Right u d w h = (dual u, d, dual_session [] u w, h.1, h.0 ∙ ap Some (sym (dual-dual u)))

-- what one side sends takes both on
pub sides_grow : (k : Channel) (side : Side) (e : Entry) (s t : Tree) → Sides side k s → step s (sending e.event) ≡ Some t →
    Sides side (extended k e) t
sides_grow k side e s t h g = sides_from (extended k e) side t (residual_extended side k e s h.0 ∙ after_sent s t e.event g)
