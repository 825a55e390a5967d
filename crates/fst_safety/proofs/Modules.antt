-- No run of a module that has derivations goes wrong.
use Rattle.std.proofs.Common.{◌≡◌, ℕ, zero, suc, List, [], ◌∷◌, Bool, true, false, Some, refl, sym, ap, ◌∙◌, subst, codes}
use Rattle.std.specs.Prelude.{slice_get, if◌then◌else◌}
use Rattle.std.specs.Str.{bytes_eq}
use Rattle.fst_base.proofs.Options.{some_same, none_some}
use Rattle.fst_types.specs.Tree as type
use Rattle.fst_types.specs.Tree.{Tree}
use Rattle.fst_types.specs.Instance.{instantiated}
use Rattle.fst_kinds.specs.WellFormed.{IsInstantiation}
use Rattle.fst_terms.specs.CoreTree.{CoreTree}
use Rattle.fst_terms.specs.declared.core_module.Module.{Module}
use Rattle.fst_terms.specs.declared.global.GlobalEntry.{GlobalEntry}
use Rattle.fst_derivations.specs.Deriv.{Deriv}
use Rattle.fst_derivations.specs.Modules.{HasDerivations, HasMain, IsMain, IsPrintable, base_types, data_types, pairs, surroundings}
use Rattle.fst_machine.specs.Values.{Value}
use Rattle.fst_machine.specs.Machine.{State, ended, pause}
use Rattle.fst_runs.specs.Configs.{Config, main_path, main_body, residual_in, started}
use Rattle.fst_safety.specs.Running.{HasType}
use Rattle.fst_safety.specs.Fitting.{Residuals, Fits, IsTyped}
use Rattle.fst_safety.specs.Pauses.{Allowed}
use Rattle.fst_safety.specs.WellTyped.{IsWellTyped}
use Rattle.fst_safety.specs.Safety.{main_type, HasMainType, IsSafeAt, DerivedIsSafe}
use Rattle.fst_safety.specs.Sound.{IsSound, SoundStaysSafe}
use Rattle.fst_safety.proofs.Checked.{checked}
use Rattle.fst_safety.proofs.Runs.{runs_sound, started_sound}
use Rattle.fst_safety.proofs.Settles.{pause_goes}
use Rattle.fst_safety.proofs.Shown.{result_of, of_shown}
use Rattle.fst_safety.proofs.SoundLaws.{sound_right}

-- the global named main, which has this body
record HasMainAt (types : List Tree) (gs : List GlobalEntry) (e : CoreTree) : Type 0 where
  number : ℕ
  entry : GlobalEntry
  there : slice_get gs number ≡ Some entry
  body : entry.body ≡ e
  declared : main_type types gs ≡ slice_get types entry.signature
  main : IsMain types entry

main_at : (types : List Tree) (gs : List GlobalEntry) (e : CoreTree) → HasMain types gs → main_body gs ≡ Some e →
    HasMainAt types gs e
main_at types [] e h q = absurd (none_some q)
main_at types (g ∷ gs) e h q = pick (main_at types gs e h.1) (bytes_eq g.name (codes "main")) refl q
  where
    pick : (main_body gs ≡ Some e → HasMainAt types gs e) → (b : Bool) → bytes_eq g.name (codes "main") ≡ b →
        (if b then Some g.body else main_body gs) ≡ Some e → HasMainAt types (g ∷ gs) e
    pick later true i q = record {
      number = zero;
      entry = g;
      there = refl;
      body = some_same q;
      declared = ap (λ b. if b then slice_get types g.signature else main_type types gs) i;
      main = h.0 i;
    }
    pick later false i q =
        let k = later q in
        record {
          number = suc k.number;
          entry = k.entry;
          there = k.there;
          body = k.body;
          declared = ap (λ b. if b then slice_get types g.signature else main_type types gs) i ∙ k.declared;
          main = k.main;
        }

-- an instance of a type whose values can be printed is that type
printable_instance : (args : List Tree) (t : Tree) → IsPrintable t → instantiated args t ≡ t
printable_instance args t (base_types {b}) = refl
printable_instance args t (data_types {n}) = refl
printable_instance args t (pairs {s} {t = r} p q) = λ i. type.pair (printable_instance args s p i) (printable_instance args r q i)

-- main's body has its declared type, whose values can be printed
pub record IsMainTyped (m : Module) (e : CoreTree) : Type 0 where
  pub type : Tree
  pub declared : main_type m.types.items m.globals.items ≡ Some type
  pub typed : HasType (surroundings m []) [] e type
  pub printable : IsPrintable type

-- so it is where the module has derivations
pub main_typed : (m : Module) (ds : List Deriv) → HasDerivations m ds →
    (e : CoreTree) → main_body m.globals.items ≡ Some e → IsMainTyped m e
main_typed m ds h e q =
    let k = main_at m.types.items m.globals.items e h.main q in
    let t = k.main.1.0 in
    let closing = subst (λ vars. IsInstantiation [] vars []) (sym k.main.0) tt in
    record {
      type = t;
      declared = k.declared ∙ k.main.1.1;
      typed = subst (λ b. HasType (surroundings m []) [] b t) k.body
          (subst (HasType (surroundings m []) [] k.entry.body) (printable_instance [] t k.main.1.2)
          ((checked m ds h).bodies_typed k.number k.entry t [] k.there k.main.1.1 closing));
      printable = k.main.1.2;
    }

-- where a state of main's type has ended, its value is one of main's declared type
pub main_ends : (m : Module) → IsWellTyped (surroundings m []) → (e : CoreTree) (k : IsMainTyped m e) (r : Residuals) (s : State)
    (v : Value) → IsTyped (surroundings m []) r s k.type → pause m.families.items s ≡ ended v → HasMainType m v
main_ends m well e k r s v h q =
    let n = surroundings m [] in
    let f : Fits n r v k.type = subst (λ z. Allowed n r z k.type) q (pause_goes n well r s k.type h).0 in
    let o = result_of m well r v k.type k.printable f in
    record { type = k.type; declared = k.declared; typed = o; shown = of_shown m v k.type o }

-- where main has a type it has a body
has_body : (types : List Tree) (gs : List GlobalEntry) (a : Tree) → main_type types gs ≡ Some a → (e : CoreTree) ×
    (main_body gs ≡ Some e)
has_body types [] a q = absurd (none_some q)
has_body types (g ∷ gs) a q = pick (has_body types gs a) (bytes_eq g.name (codes "main")) refl q
  where
    pick : (main_type types gs ≡ Some a → (e : CoreTree) × (main_body gs ≡ Some e)) →
        (b : Bool) → bytes_eq g.name (codes "main") ≡ b →
        (if b then slice_get types g.signature else main_type types gs) ≡ Some a → (e : CoreTree) × (main_body (g ∷ gs) ≡ Some e)
    pick later true i p = (g.body, ap (λ b. if b then Some g.body else main_body gs) i)
    pick later false i p =
        let k = later p in
        (k.0, ap (λ b. if b then Some g.body else main_body gs) i ∙ k.1)

-- a sound configuration in which main has a type whose values can be printed is safe
sound_safe : (m : Module) → IsWellTyped (surroundings m []) →
    (e : CoreTree) (k : IsMainTyped m e) (c : Config) → IsSound (surroundings m []) k.type c → IsSafeAt m c
sound_safe m w e k c s = record {
  right = sound_right (surroundings m []) w k.type c s;
  sessions = λ h j i. (s.traces h j i).1;
  result = λ t v i p.
      let g = s.tasks main_path t i in
      main_ends m w e k (residual_in c) t.state v (subst (IsTyped (surroundings m []) (residual_in c) t.state) (g.2 refl) g.1) p;
}

-- so it stays
pub stays_safe : SoundStaysSafe
stays_safe m ds h a q c s =
    let n = surroundings m [] in
    let w = checked m ds h in
    let (e, body) = has_body m.types.items m.globals.items a q in
    let k = main_typed m ds h e body in
    let same : a ≡ k.type = some_same (sym q ∙ k.declared) in
    λ es d r. sound_safe m w e k d (subst (λ b. IsSound n b d) same (runs_sound n w a es c d s r))

-- a module that has derivations is safe
pub modules_safe : DerivedIsSafe
modules_safe m ds h e q =
    let k = main_typed m ds h e q in
    stays_safe m ds h k.type k.declared (started e)
    (started_sound (surroundings m []) (checked m ds h) k.type e k.printable k.typed)
