-- What other crates cite of the types of a module.
use Rattle.std.proofs.Common.{◌≡◌, ◌<◌, ℕ, zero, suc, List, [], ◌∷◌, ◌++◌, Some, subst, arith}
use Rattle.std.specs.Prelude.{slice_get, Contains}
use Rattle.std.specs.List.{AllByRecursion}
use Rattle.std.proofs.lemmas.Option.{get_or_from_slice_get}
use Rattle.fst_types.specs.Tree.{Tree}
use Rattle.fst_types.specs.declared.family.Family.{Family}
use Rattle.fst_kinds.specs.declared.fault.KindFault.{KindFault}
use Rattle.fst_terms.specs.declared.core_module.Module.{Module}
use Rattle.fst_terms.specs.declared.global.GlobalEntry.{GlobalEntry}
use Rattle.fst_derivations.specs.Modules.{types_in, family_types, IsFormedAt, AreStandingFormed, AreMakersFormed, AreFamiliesFormed, AreFamiliesPrintable, AreGlobalsFormed, AreTypesFormed}
use Rattle.fst_written.specs.Faults.{IsFirstKindFault}
use Rattle.fst_written.specs.First.{IsFirst}
use Rattle.fst_written.specs.Printable.{IsFirstUnprintable}
use Rattle.fst_written.specs.Readings.{Reading, readings, begins, IsFormedReading}
use Rattle.fst_written.proofs.FirstLaws as firsts
use Rattle.fst_written.proofs.FieldLaws as fields
use Rattle.fst_written.proofs.ModuleLaws as modules

-- behind what is as P says the next one is the first
pub first_new : {A : Type 0} (begins : A → ℕ) (P : A → Type 0) (xs : List A) (x : A) → AllByRecursion P xs →
    IsFirst begins P (xs ++ x ∷ []) x
first_new = firsts.first_new

-- the first stays, where the next one doesn't begin before it or is as P says
pub first_kept : {A : Type 0} (begins : A → ℕ) (P : A → Type 0) (xs : List A) (x y : A) → IsFirst begins P xs y →
    (begins x < begins y → P x) → IsFirst begins P (xs ++ x ∷ []) y
first_kept = firsts.first_kept

-- the next one is the first, where it begins before the one so far
pub first_less : {A : Type 0} (begins : A → ℕ) (P : A → Type 0) (xs : List A) (x y : A) → IsFirst begins P xs y →
    begins x < begins y → IsFirst begins P (xs ++ x ∷ []) x
first_less = firsts.first_less

signature_at : (types : List Tree) (gs : List GlobalEntry) (k : ℕ) (g : GlobalEntry) → AreGlobalsFormed types gs →
    slice_get gs k ≡ Some g → IsFormedAt types g.kinds.items g.signature
signature_at types [] k g h is = absurd (cc is)
signature_at types (f ∷ gs) zero g h is = let same : f ≡ g = cc in subst
    (λ x. IsFormedAt types x.kinds.items x.signature) same h.0
signature_at types (f ∷ gs) (suc k) g h is = signature_at types gs k g h.2 is

equation_at : (types : List Tree) (gs : List GlobalEntry) (k : ℕ) (g : GlobalEntry) → AreGlobalsFormed types gs →
    slice_get gs k ≡ Some g → AreStandingFormed types g.kinds.items (types_in g.body)
equation_at types [] k g h is = absurd (cc is)
equation_at types (f ∷ gs) zero g h is = let same : f ≡ g = cc in subst
    (λ x. AreStandingFormed types x.kinds.items (types_in x.body)) same h.1
equation_at types (f ∷ gs) (suc k) g h is = equation_at types gs k g h.2 is

makers_at : (types : List Tree) (fs : List Family) (n : ℕ) (f : Family) → AreFamiliesFormed types fs → slice_get fs n ≡ Some f →
    AreMakersFormed types f.makers.items
makers_at types [] n f h is = absurd (cc is)
makers_at types (e ∷ fs) zero f h is = let same : e ≡ f = cc in subst (λ x. AreMakersFormed types x.makers.items) same h.0
makers_at types (e ∷ fs) (suc n) f h is = makers_at types fs n f h.1 is

module _ (m : Module) where
  -- the signature of a global is well formed over its variables
  pub signature_formed : AreTypesFormed m → (k : ℕ) (g : GlobalEntry) → slice_get m.globals.items k ≡ Some g →
      IsFormedAt m.types.items g.kinds.items g.signature
  signature_formed h k g is = signature_at m.types.items m.globals.items k g h.globals is

  -- so are the types in its equation
  pub equation_formed : AreTypesFormed m → (k : ℕ) (g : GlobalEntry) → slice_get m.globals.items k ≡ Some g →
      AreStandingFormed m.types.items g.kinds.items (types_in g.body)
  equation_formed h k g is = equation_at m.types.items m.globals.items k g h.globals is

  -- the fields of a data type are well formed
  pub makers_formed : AreTypesFormed m → (n : ℕ) (f : Family) → slice_get m.families.items n ≡ Some f →
      AreMakersFormed m.types.items f.makers.items
  makers_formed h n f is = makers_at m.types.items m.families.items n f h.families is

  -- the types of a module are well formed just where each is that stands in it
  pub types_formed : AllByRecursion (IsFormedReading m) (readings m) → AreTypesFormed m
  types_formed = modules.types_formed m

  pub formed_types : AreTypesFormed m → AllByRecursion (IsFormedReading m) (readings m)
  formed_types = modules.formed_types m

  -- where a type has a fault, those of the module aren't all well formed
  pub refused : (at : ℕ) (f : KindFault) → IsFirstKindFault m (readings m) at f → AreTypesFormed m → ⊥
  refused = modules.refused m

  -- what begins before the first type that isn't well formed is well formed
  pub formed_before : (rs : List Reading) (at : ℕ) (f : KindFault) → IsFirstKindFault m rs at f →
      (r : Reading) → Contains rs r → begins m r < at → IsFormedReading m r
  formed_before rs at f found r there lt =
      let place = get_or_from_slice_get m.places.items found.reading.number at 0 found.fails.begins in
      firsts.first_before (begins m) (IsFormedReading m) rs found.reading found.first r there (omega (arith, place))

-- a field that isn't printable excludes that all are
pub fields_refused : (m : Module) (k : ℕ) → IsFirstUnprintable m (family_types m.families.items) k →
    AreFamiliesPrintable m.types.items m.families.items → ⊥
fields_refused = fields.one_refused
