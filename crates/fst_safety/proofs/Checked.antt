-- A module with derivations has all that runs need.
use Rattle.std.proofs.Common.{◌≡◌, ◌∙◌, ℕ, zero, suc, List, [], ◌∷◌, Option, Some, None, slice_get, refl, sym, subst}
use Rattle.std.specs.List.{AllByRecursion}
use Rattle.std.proofs.lemmas.Option.{same_Some}
use Rattle.fst_types.specs.Tree.{Tree}
use Rattle.fst_types.specs.Instance.{instantiated}
use Rattle.fst_types.specs.declared.family.Family.{Family}
use Rattle.fst_types.specs.declared.family.Maker.{Maker}
use Rattle.fst_types.specs.declared.kind.Kind.{Kind}
use Rattle.fst_kinds.specs.WellFormed.{IsInstantiation}
use Rattle.fst_terms.specs.InRange.{maker_of}
use Rattle.fst_terms.specs.declared.core_module.Module.{Module}
use Rattle.fst_terms.specs.declared.global.GlobalEntry.{GlobalEntry}
use Rattle.fst_context.specs.Vars.{no_vars}
use Rattle.fst_derivations.specs.Deriv.{Deriv}
use Rattle.fst_derivations.specs.Modules.{HasDerivations, surroundings, AreDerived, IsFormedAt, AreGlobalsFormed, ArePrintable, HavePrintableFields, AreFamiliesPrintable, IsPrintable}
use Rattle.fst_derivations.specs.Parts.{IsFormed, IsConversion, AreAt}
use Rattle.fst_derivations.specs.Rules.{Converted, converting, At, Row}
use Rattle.fst_safety.specs.Running.{HasType}
use Rattle.fst_safety.specs.WellTyped.{IsFieldType, IsWellTyped}
use Rattle.fst_safety.proofs.AtOnce.{HasFormedParts, wanted_typed}
use Rattle.fst_safety.proofs.Makers.{numbered_formed, fields_formed}
use Rattle.fst_safety.proofs.MakerNames.{distinct_family, named_itself}

-- ---- fields

maker_printable : (types : List Tree) (os : List Maker) (k : ℕ) (o : Maker) → HavePrintableFields types os →
    slice_get os k ≡ Some o → ArePrintable types o.fields.items
maker_printable types [] k o h e = absurd (cc e)
maker_printable types (p ∷ os) zero o h e = let same : p ≡ o = cc in subst
    (λ (q : Maker). ArePrintable types q.fields.items) same h.0
maker_printable types (p ∷ os) (suc k) o h e = maker_printable types os k o h.1 e

family_printable : (types : List Tree) (fs : List Family) (n : ℕ) (f : Family) → AreFamiliesPrintable types fs →
    slice_get fs n ≡ Some f → HavePrintableFields types f.makers.items
family_printable types [] n f h e = absurd (cc e)
family_printable types (p ∷ fs) zero f h e = let same : p ≡ f = cc in subst
    (λ (q : Family). HavePrintableFields types q.makers.items) same h.0
family_printable types (p ∷ fs) (suc n) f h e = family_printable types fs n f h.1 e

numbered_printable : (types : List Tree) (fs : List Family) (n k : ℕ) (o : Maker) → AreFamiliesPrintable types fs →
    maker_of (slice_get fs n) k ≡ Some o → ArePrintable types o.fields.items
numbered_printable types fs n k o h e = pick (slice_get fs n) refl e
  where
    pick : (g : Option Family) → slice_get fs n ≡ g → maker_of g k ≡ Some o → ArePrintable types o.fields.items
    pick None i j = absurd (cc j)
    pick (Some g) i j = maker_printable types g.makers.items k o (family_printable types fs n g h i) j

-- types that are well formed and closed, and are printable, are types of fields
field_types : (types : List Tree) (ks : List ℕ) (ts : List Tree) → AreAt types ks ts → ArePrintable types ks →
    AllByRecursion (IsFormed []) ts → AllByRecursion IsFieldType ts
field_types types [] [] x p f = tt
field_types types [] (t ∷ ts) x p f = absurd x
field_types types (k ∷ ks) [] x p f = absurd x
field_types types (k ∷ ks) (t ∷ ts) x p f = (
  record { formed = f.0; printable = subst IsPrintable (same_Some (p.0).0 t (sym (p.0).1 ∙ x.0)) (p.0).2 },
  field_types types ks ts x.1 p.1 f.1,
)

-- ---- globals

written_formed : (types : List Tree) (g : GlobalEntry) (t : Tree) → IsFormedAt types g.kinds.items g.signature →
    slice_get types g.signature ≡ Some t → IsFormed g.kinds.items t
written_formed types g t h s = subst (λ z. IsFormed g.kinds.items z) (same_Some h.0 t (sym h.1 ∙ s)) h.2

-- signatures are well formed
signature_formed : (types : List Tree) (gs : List GlobalEntry) (k : ℕ) (g : GlobalEntry) (t : Tree) → AreGlobalsFormed types gs →
    slice_get gs k ≡ Some g → slice_get types g.signature ≡ Some t → IsFormed g.kinds.items t
signature_formed types [] k g t h e s = absurd (cc e)
signature_formed types (p ∷ gs) zero g t h e s =
    let same : p ≡ g = cc in
    written_formed types g t (subst (λ (q : GlobalEntry). IsFormedAt types q.kinds.items q.signature) same h.0) s
signature_formed types (p ∷ gs) (suc k) g t h e s = signature_formed types gs k g t h.2 e s

-- the equation of a global has a derivation at its signature
abbrev HasDerivation : Module → GlobalEntry → Type 0
HasDerivation m g =
    (d : Deriv) × (t : Tree) × (slice_get m.types.items g.signature ≡ Some t) ×
    At g.kinds.items t (Converted (IsConversion g.kinds.items))
    (Row (surroundings m g.kinds.items) (converting (IsConversion g.kinds.items)) g.body []) no_vars d

derived_at : (m : Module) (gs : List GlobalEntry) (ds : List Deriv) (k : ℕ) (g : GlobalEntry) → AreDerived m IsConversion gs ds →
    slice_get gs k ≡ Some g → HasDerivation m g
derived_at m [] ds k g h e = absurd (cc e)
derived_at m (p ∷ gs) [] k g h e = absurd h
derived_at m (p ∷ gs) (d ∷ ds) zero g h e = let same : p ≡ g = cc in subst (HasDerivation m) same (d, (h.0).0, (h.0).1, (h.0).2)
derived_at m (p ∷ gs) (d ∷ ds) (suc k) g h e = derived_at m gs ds k g h.1 e

-- what instances of terms ask of the module holds over any variables
formed_parts : (m : Module) (ds : List Deriv) (vars : List Kind) → HasDerivations m ds → HasFormedParts (surroundings m vars)
formed_parts m ds vars h = record {
  families = h.types.families;
  signatures =
      λ k g t e s. signature_formed m.types.items m.globals.items k g t h.types.globals e s;
}

-- each body has its type as it runs, in each closing instance of its signature
body_typed : (m : Module) (ds : List Deriv) → HasDerivations m ds →
    (k : ℕ) (g : GlobalEntry) (t : Tree) (args : List Tree) → slice_get m.globals.items k ≡ Some g →
    slice_get m.types.items g.signature ≡ Some t →
    IsInstantiation [] g.kinds.items args → HasType (surroundings m []) [] g.body (instantiated args t)
body_typed m ds h k g t args e s i =
    let r = derived_at m m.globals.items ds k g h.equations e in
    subst (λ z. HasType (surroundings m []) [] g.body (instantiated args z)) (same_Some r.1 t (sym r.2 ∙ s))
    (wanted_typed (surroundings m g.kinds.items) (formed_parts m ds g.kinds.items h) args i r.1 g.body [] [] tt no_vars r.0 r.3)

-- a module with derivations is well typed for runs
pub checked : (m : Module) (ds : List Deriv) → HasDerivations m ds → IsWellTyped (surroundings m [])
checked m ds h = record {
  bodies_typed = body_typed m ds h;
  fields = λ n o c ts e x.
      field_types m.types.items c.fields.items ts x (numbered_printable m.types.items m.families.items n o c h.fields e)
      (fields_formed m.types.items c.fields.items ts (numbered_formed m.types.items m.families.items n o c h.types.families e) x);
  names = λ n o f c e x. named_itself f.makers.items o c (distinct_family m.families.items n f m.whole.makers_differ e) x;
}
