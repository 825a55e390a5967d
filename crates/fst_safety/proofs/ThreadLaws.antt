-- Ends that go on with their threads.
use Rattle.std.proofs.Common.{◌≡◌, ◌∙◌, ◌<◌, ◌≤◌, List, [], ◌∷◌, Option, Some, None, refl, sym, arith}
use Rattle.std.specs.Prelude.{All}
use Rattle.std.proofs.lemmas.List.Elements.{All-nil, All-cons, All-head, All-tail}
use Rattle.fst_derivations.specs.Rules.{Surroundings}
use Rattle.fst_types.specs.declared.event.Event.{Event}
use Rattle.fst_machine.specs.declared.request.Request.TheVariants as request
use Rattle.fst_machine.specs.Machine as machine
use Rattle.fst_runs.specs.Configs.{Task}
use Rattle.fst_cell.specs.declared.content.Offer.{Offer}
use Rattle.fst_cell.specs.End.{EndView, end_name}
use Rattle.fst_safety.specs.Threads.{FitsEnd, count_of}
use Rattle.fst_safety.proofs.Pasts.{rise_later}
use Rattle.fst_safety.proofs.BagLaws.{counted, count_first, counted_so}

-- ---- ends that wait

none_or_some : {o : Offer} → None ≡ Some o → ⊥
none_or_some e = absurd (cc e)

-- an end doesn't wait where the task doesn't ask to send on it
pub idle_end : (m : Surroundings) (t : Task) (e : EndView) → FitsEnd m t e →
    ((ev : Event) → machine.request m.families t.state ≡ Some (request.Put (end_name e) ev) → ⊥) → e.knows.offer ≡ None
idle_end m t e f h = go e.knows.offer refl
  where
    go : (o : Option Offer) → e.knows.offer ≡ o → o ≡ None
    go None q = refl
    go (Some o) q = absurd (h o.event (f.waits o q).asks)

-- one that doesn't wait fits each later state
pub later_end : (m : Surroundings) (t u : Task) (e : EndView) → t.clock ≤ u.clock → e.knows.offer ≡ None → FitsEnd m t e →
    FitsEnd m u e
later_end m t u e le idle f = record {
  past = rise_later 0 e.knows.history t.clock u.clock le f.past;
  waits =
      λ o q. absurd (none_or_some (sym idle ∙ q));
}

-- so it is with all of some ends
pub later_ends : (m : Surroundings) (t u : Task) → t.clock ≤ u.clock → (es : List EndView) → All (FitsEnd m t) es →
    ((e : EndView) → FitsEnd m t e → counted (end_name e) e ≡ 1 → 0 < count_of (end_name e) es → e.knows.offer ≡ None) →
    All (FitsEnd m u) es
later_ends m t u le [] f h = All-nil (FitsEnd m u)
later_ends m t u le (e ∷ es) f h =
    let own = counted_so (end_name e) e refl in
    let head = All-head (FitsEnd m t) e es f in
    let c = count_first (end_name e) e es in
    All-cons (FitsEnd m u) e es (later_end m t u e le (h e head own (omega (arith, c, own))) head)
    (later_ends m t u le es (All-tail (FitsEnd m t) e es f)
    (λ d g o n. let c = count_first (end_name d) e es in h d g o (omega (arith, c, n))))
