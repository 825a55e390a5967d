-- All that a run leads to is sound.
use Rattle.std.proofs.Common.{zero, List, [], ◌∷◌, refl, sym, subst}
use Rattle.fst_base.proofs.Options.{none_some}
use Rattle.fst_types.specs.Tree.{Tree}
use Rattle.fst_types.specs.declared.kind.Use.TheVariants.{Many}
use Rattle.fst_kinds.specs.Kinds.{top, join}
use Rattle.fst_terms.specs.CoreTree.{CoreTree}
use Rattle.fst_derivations.specs.Modules.{IsPrintable, base_types, data_types, pairs}
use Rattle.fst_derivations.specs.Parts.{IsFormed}
use Rattle.fst_derivations.specs.Rules.{Surroundings}
use Rattle.fst_machine.specs.Machine.{begins}
use Rattle.fst_runs.specs.declared.event.CoreEvent.{CoreEvent}
use Rattle.fst_runs.specs.declared.event.CoreEvent.TheVariants.{Local, New, Fork, Meet}
use Rattle.fst_runs.specs.Configs.{Config, same_path, residual_in, main_path, new_task, started}
use Rattle.fst_runs.specs.Events.{Write, written, Does, Runs}
use Rattle.fst_runs.proofs.Laws.{named_start, in_test}
use Rattle.fst_safety.specs.Running.{HasType}
use Rattle.fst_safety.specs.Fitting.{Residuals, IsTyped}
use Rattle.fst_safety.specs.WellTyped.{IsWellTyped, program_in}
use Rattle.fst_safety.specs.Sound.{IsSound}
use Rattle.fst_safety.proofs.Closed.{closed_by}
use Rattle.fst_safety.proofs.Equals.{equals_itself}
use Rattle.fst_safety.proofs.Shapes.{plain_formed}
use Rattle.fst_safety.proofs.ForkLaws.{fork_sound}
use Rattle.fst_safety.proofs.MeetLaws.{meet_sound}
use Rattle.fst_safety.proofs.NewLaws.{new_sound}
use Rattle.fst_safety.proofs.SoundLaws.{local_sound}

-- a type whose values can be printed is well formed
pub printable_formed : (t : Tree) → IsPrintable t → IsFormed [] t
printable_formed t (base_types {b}) = plain_formed b
printable_formed t (data_types {n}) = (top Many, record { kinded = refl; contractive = tt; scoped = tt; ordered = tt })
printable_formed t (pairs {s} {t = r} p q) =
    let f = printable_formed s p in
    let g = printable_formed r q in (
      top (join f.0.uses g.0.uses),
      record {
        kinded = (f.0, g.0, f.1.kinded, g.1.kinded, refl);
        contractive = (f.1.contractive, g.1.contractive);
        scoped = (f.1.scoped, g.1.scoped);
        ordered = (f.1.ordered, g.1.ordered);
      },
    )

-- a body of main's type begins in a state of that type, whatever the residuals
pub main_begins : (m : Surroundings) (r : Residuals) (a : Tree) (e : CoreTree) → IsPrintable a → HasType m [] e a →
    IsTyped m r (begins e []) a
main_begins m r a e p h = record {
  variables = [];
  type = a;
  environment = (tt, λ k. sym (closed_by m [] e a k h refl));
  term = h;
  frames = equals_itself a (printable_formed a p);
}

module _ (m : Surroundings) (well : IsWellTyped m) (a : Tree) where
  -- a configuration stays sound whatever happens
  pub does_sound : (c : Config) (e : CoreEvent) (w : Write) → IsSound m a c → Does (program_in m) m.types c e w →
      IsSound m a (written c w)
  does_sound c (Local p) w h d = local_sound m well a c p w h d
  does_sound c (New p) w h d = new_sound m well a c p w h d
  does_sound c (Fork p) w h d = fork_sound m well a c p w h d
  does_sound c (Meet p q h') w h d = meet_sound m well a c p q h' w h d

  -- a run leads to sound configurations
  pub runs_sound : (es : List CoreEvent) (c d : Config) → IsSound m a c → Runs (program_in m) m.types c es d → IsSound m a d
  runs_sound [] c d h r = subst (IsSound m a) (sym r) h
  runs_sound (e ∷ es) c d h r = runs_sound es (written c r.0) d (does_sound c e r.0 h r.1) r.2

  -- the start of a typed term whose values can be printed is sound
  pub started_sound : (e : CoreTree) → IsPrintable a → HasType m [] e a → IsSound m a (started e)
  started_sound e p h = record {
    tasks = λ q t i. in_test (same_path main_path q) (new_task (begins e []) zero) t
        (λ g z. (
          a,
          subst (λ z. IsTyped m (residual_in (started e)) z.state a) z (main_begins m (residual_in (started e)) a e p h),
          λ z. refl,
        )) i;
    owned = λ x u. absurd (none_some u.1);
    traces = λ k t i. absurd (none_some i);
    makers = (named_start e).0;
    parents = (named_start e).1;
  }
