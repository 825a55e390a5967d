-- All runs from a sound configuration that come to an end have the same events with the same stamps.
use Rattle.std.proofs.Common.{◌≡◌, ◌∙◌, ℕ, ◌+◌, List, [], ◌∷◌, Bool, true, false, refl, sym, ap, subst, arith}
use Rattle.std.specs.Prelude.{sum_by}
use Rattle.std.proofs.lemmas.List.Sums.{sum_by-cons}
use Rattle.fst_types.specs.Tree.{Tree}
use Rattle.fst_derivations.specs.Rules.{Surroundings}
use Rattle.fst_runs.specs.declared.event.Stamped.{Stamped}
use Rattle.fst_runs.specs.Configs.{Config}
use Rattle.fst_runs.specs.Events.{Write, written, Does, IsLast}
use Rattle.fst_runs.specs.StampedRuns.{IsStamp, RunsAt}
use Rattle.fst_runs.proofs.Laws.{one_stamp}
use Rattle.fst_safety.specs.WellTyped.{IsWellTyped, program_in}
use Rattle.fst_safety.specs.Sound.{IsSound}
use Rattle.fst_safety.proofs.Commuting.{commute}
use Rattle.fst_safety.proofs.OneEnd.{sound_regular}
use Rattle.fst_safety.proofs.OneWrite.{one_write, same_event, same_event-same, same_event-itself}
use Rattle.fst_safety.proofs.Runs.{does_sound}

module _ (m : Surroundings) (well : IsWellTyped m) (a : Tree) where
  -- a run of the events but for one, however they are weighed
  record Without (b : Stamped) (es : List Stamped) (c d : Config) : Type 0 where
    list : List Stamped
    others : (w : Stamped → ℕ) → sum_by w es ≡ w b + sum_by w list
    runs : RunsAt (program_in m) m.types c list d

  -- each event that is possible can stand first in a run that comes to an end, with its stamp
  begin_with : (es : List Stamped) (c d : Config) (b : Stamped) (v : Write) → IsSound m a c →
      RunsAt (program_in m) m.types c es d → IsLast (program_in m) m.types d →
      Does (program_in m) m.types c b.event v → IsStamp v b.stamp → Without b es (written c v) d
  begin_with [] c d b v h g l f s = absurd (subst (IsLast (program_in m) m.types) g l b.event v f)
  begin_with (e ∷ es) c d b v h g l f s =
      go (begin_with es (written c g.0) d b v (does_sound m well a c e.event g.0 h g.1) g.3 l)
      (same_event e.event b.event) refl
    where
      go : (Does (program_in m) m.types (written c g.0) b.event v → IsStamp v b.stamp →
          Without b es (written (written c g.0) v) d) →
          (z : Bool) → same_event e.event b.event ≡ z → Without b (e ∷ es) (written c v) d
      go later true q =
          let k : e.event ≡ b.event = same_event-same e.event b.event q in
          let x : g.0 ≡ v = one_write (program_in m) m.types c b.event g.0 v
          (subst (λ z. Does (program_in m) m.types c z g.0) k g.1) f in
          let n : e.stamp ≡ b.stamp = one_stamp (program_in m) m.types c b.event v e.stamp b.stamp f
          (subst (λ w. IsStamp w e.stamp) x g.2) s in
          let y : e ≡ b = λ i. record { event = k i; stamp = n i } in
          record {
            list = es;
            others = λ w. sum_by-cons w e es ∙ ap (λ z. w z + sum_by w es) y;
            runs = subst (λ w. RunsAt (program_in m) m.types (written c w) es d) x g.3;
          }
      go later false q =
          let differ : e.event ≡ b.event → ⊥ =
          λ p. let z : true ≡ false = sym (same_event-itself e.event) ∙ ap (same_event e.event) p ∙ q in absurd (cc z) in
          let x = commute (program_in m) m.types c e.event b.event g.0 v (sound_regular m well a c h) g.1 f differ in
          let r = later x.0 s in
          record {
            list = e ∷ r.list;
            others = λ w.
                let i = sum_by-cons w e es in
                let j = sum_by-cons w e r.list in
                let k = r.others w in
                omega (arith, i, j, k);
            runs = (g.0, x.1, g.2, subst (λ z. RunsAt (program_in m) m.types z r.list d) x.2 r.runs);
          }

  -- runs that come to an end have the same events
  pub same_events : (fs es : List Stamped) (c d e : Config) → IsSound m a c → RunsAt (program_in m) m.types c es d →
      IsLast (program_in m) m.types d → RunsAt (program_in m) m.types c fs e → IsLast (program_in m) m.types e →
      (w : Stamped → ℕ) → sum_by w fs ≡ sum_by w es
  same_events [] [] c d e h g l f k w = refl
  same_events [] (x ∷ es) c d e h g l f k w = absurd (subst (IsLast (program_in m) m.types) f k x.event g.0 g.1)
  same_events (y ∷ fs) es c d e h g l f k w =
      let s = begin_with es c d y f.0 h g l f.1 f.2 in
      let r = same_events fs s.list (written c f.0) d e (does_sound m well a c y.event f.0 h f.1) s.runs l f.3 k w in
      let i = s.others w in
      let j = sum_by-cons w y fs in
      omega (arith, r, i, j)
