-- All runs from a sound configuration that come to an end are of one length and lead to one configuration.
use Rattle.std.proofs.Common.{◌≡◌, ◌∙◌, ℕ, suc, ◌≤◌, List, [], ◌∷◌, length, Bool, true, false, refl, sym, ap, subst, arith}
use Rattle.fst_types.specs.Tree.{Tree}
use Rattle.fst_derivations.specs.Rules.{Surroundings}
use Rattle.fst_runs.specs.declared.event.CoreEvent.{CoreEvent}
use Rattle.fst_runs.specs.Configs.{Config}
use Rattle.fst_runs.specs.Events.{Write, written, Does, Runs, IsLast}
use Rattle.fst_safety.specs.WellTyped.{IsWellTyped, program_in}
use Rattle.fst_safety.specs.Sound.{IsSound}
use Rattle.fst_safety.proofs.Askers.{IsRegular}
use Rattle.fst_safety.proofs.Commuting.{commute}
use Rattle.fst_safety.proofs.OneWrite.{one_write, same_event, same_event-same, same_event-itself}
use Rattle.fst_safety.proofs.Runs.{does_sound}
use Rattle.fst_safety.proofs.SoundLaws.{sound_right}

module _ (m : Surroundings) (well : IsWellTyped m) (a : Tree) where
  -- in a sound configuration nothing has gone wrong, and names are fresh
  pub sound_regular : (c : Config) → IsSound m a c → IsRegular (program_in m) c
  sound_regular c h = record { fine = sound_right m well a c h; makers = h.makers; parents = h.parents }

  -- a run with one event less leads from the configuration to the other
  abbrev Shorter : List CoreEvent → Config → Config → Type 0
  Shorter es c d = (fs : List CoreEvent) × (length es ≡ suc (length fs)) × Runs (program_in m) m.types c fs d

  -- each event that is possible can stand first in a run that comes to an end
  begin_with : (es : List CoreEvent) (c d : Config) (b : CoreEvent) (v : Write) → IsSound m a c →
      Runs (program_in m) m.types c es d → IsLast (program_in m) m.types d →
      Does (program_in m) m.types c b v → Shorter es (written c v) d
  begin_with [] c d b v h g l f = absurd (subst (IsLast (program_in m) m.types) g l b v f)
  begin_with (e ∷ es) c d b v h g l f =
      go (begin_with es (written c g.0) d b v (does_sound m well a c e g.0 h g.1) g.2 l) (same_event e b) refl
    where
      go : (Does (program_in m) m.types (written c g.0) b v → Shorter es (written (written c g.0) v) d) →
          (z : Bool) → same_event e b ≡ z → Shorter (e ∷ es) (written c v) d
      go later true s =
          let x : g.0 ≡ v = one_write (program_in m) m.types c b g.0 v
          (subst (λ z. Does (program_in m) m.types c z g.0) (same_event-same e b s) g.1) f in
          (es, refl, subst (λ w. Runs (program_in m) m.types (written c w) es d) x g.2)
      go later false s =
          let differ : e ≡ b → ⊥ = λ q. let z : true ≡ false = sym (same_event-itself e) ∙ ap (same_event e) q ∙ s in
          absurd (cc z) in
          let x = commute (program_in m) m.types c e b g.0 v (sound_regular c h) g.1 f differ in
          let r = later x.0 in
          (e ∷ r.0, ap suc r.1, (g.0, x.1, subst (λ z. Runs (program_in m) m.types z r.0 d) x.2 r.2))

  one_less : {n j k : ℕ} → n ≡ suc j → k ≤ j → suc k ≤ n
  one_less e l = omega (arith, e, l)

  -- no run has more events than one that comes to an end, and each that does so has as many and leads to the same configuration
  pub ends_alike : (fs es : List CoreEvent) (c d e : Config) → IsSound m a c → Runs (program_in m) m.types c es d →
      IsLast (program_in m) m.types d →
      Runs (program_in m) m.types c fs e → (length fs ≤ length es) ×
      (IsLast (program_in m) m.types e → (length fs ≡ length es) × (e ≡ d))
  ends_alike [] [] c d e h g l f = (omega arith, λ q. (refl, f ∙ sym g))
  ends_alike [] (x ∷ es) c d e h g l f = (omega arith, λ q. absurd (subst (IsLast (program_in m) m.types) f q x g.0 g.1))
  ends_alike (y ∷ fs) es c d e h g l f =
      let s = begin_with es c d y f.0 h g l f.1 in
      let r = ends_alike fs s.0 (written c f.0) d e (does_sound m well a c y f.0 h f.1) s.2 l f.2 in
      (one_less s.1 r.0, λ q. (ap suc (r.1 q).0 ∙ sym s.1, (r.1 q).1))
