-- What holds of all types that stand in a module, and what well-formed types of a module are.
use Rattle.std.proofs.Common.{◌≡◌, ◌∙◌, refl, ap, ℕ, List, [], ◌∷◌, ◌++◌, map}
use Rattle.std.specs.List.{AllByRecursion}
use Rattle.std.proofs.lemmas.List.{map-append}
use Rattle.fst_base.proofs.Alls.{all_append, all_left, all_right}
use Rattle.fst_types.specs.declared.family.Family.{Family}
use Rattle.fst_types.specs.declared.family.Maker.{Maker}
use Rattle.fst_types.specs.declared.kind.Kind.{Kind}
use Rattle.fst_terms.specs.declared.core_module.Module.{Module}
use Rattle.fst_terms.specs.declared.global.GlobalEntry.{GlobalEntry}
use Rattle.fst_derivations.specs.Modules.{Standing, types_in, IsFormedAt, AreStandingFormed, AreFieldsFormed, AreMakersFormed, AreFamiliesFormed, AreGlobalsFormed, global_types, maker_types, family_types}
use Rattle.fst_written.specs.Readings.{Reading, standing_readings, global_readings, closed_readings, IsFormedReading}

-- ---- numbers

standing_numbers : (vars : List Kind) (ps : List Standing) → map (λ r. r.number) (standing_readings vars ps) ≡ map (λ p. p.0) ps
standing_numbers vars [] = refl
standing_numbers vars (p ∷ ps) = ap (λ ks. p.0 ∷ ks) (standing_numbers vars ps)

-- the numbers of the types that stand in globals
pub global_numbers : (gs : List GlobalEntry) → map (λ r. r.number) (global_readings gs) ≡ global_types gs
global_numbers [] = refl
global_numbers (g ∷ gs) =
    let vars = g.kinds.items in
    let ps = types_in g.body in
    ap (λ ks. g.signature ∷ ks) (map-append (λ (r : Reading). r.number) (standing_readings vars ps) (global_readings gs)
    ∙ (λ i. standing_numbers vars ps i ++ global_numbers gs i))

-- the numbers of types over no variables
pub closed_numbers : (ks : List ℕ) → map (λ r. r.number) (closed_readings ks) ≡ ks
closed_numbers [] = refl
closed_numbers (k ∷ ks) = ap (λ js. k ∷ js) (closed_numbers ks)

-- ---- well-formed types

module _ (m : Module) where
  abbrev pub AllFormed : List Reading → Type 0
  AllFormed rs = AllByRecursion (IsFormedReading m) rs

  standing_formed : (vars : List Kind) (ps : List Standing) → AllFormed (standing_readings vars ps) →
      AreStandingFormed m.types.items vars ps
  standing_formed vars [] h = tt
  standing_formed vars (p ∷ ps) h = (h.0, standing_formed vars ps h.1)

  formed_standing : (vars : List Kind) (ps : List Standing) → AreStandingFormed m.types.items vars ps →
      AllFormed (standing_readings vars ps)
  formed_standing vars [] h = tt
  formed_standing vars (p ∷ ps) h = (h.0, formed_standing vars ps h.1)

  pub globals_formed : (gs : List GlobalEntry) → AllFormed (global_readings gs) → AreGlobalsFormed m.types.items gs
  globals_formed [] h = tt
  globals_formed (g ∷ gs) h =
      let rs = standing_readings g.kinds.items (types_in g.body) in (
        h.0,
        standing_formed g.kinds.items (types_in g.body) (all_left (IsFormedReading m) rs (global_readings gs) h.1),
        globals_formed gs (all_right (IsFormedReading m) rs (global_readings gs) h.1),
      )

  pub formed_globals : (gs : List GlobalEntry) → AreGlobalsFormed m.types.items gs → AllFormed (global_readings gs)
  formed_globals [] h = tt
  formed_globals (g ∷ gs) h = (
    h.0,
    all_append (IsFormedReading m) (standing_readings g.kinds.items (types_in g.body)) (global_readings gs)
        (formed_standing g.kinds.items (types_in g.body) h.1) (formed_globals gs h.2),
  )

  -- the types of these numbers are well formed over no variables
  abbrev pub AllClosed : List ℕ → Type 0
  AllClosed ks = AllByRecursion (IsFormedAt m.types.items []) ks

  pub closed_formed : (ks : List ℕ) → AllFormed (closed_readings ks) → AllClosed ks
  closed_formed [] h = tt
  closed_formed (k ∷ ks) h = (h.0, closed_formed ks h.1)

  pub formed_closed : (ks : List ℕ) → AllClosed ks → AllFormed (closed_readings ks)
  formed_closed [] h = tt
  formed_closed (k ∷ ks) h = (h.0, formed_closed ks h.1)

  fields_formed : (ks : List ℕ) → AllClosed ks → AreFieldsFormed m.types.items ks
  fields_formed [] h = tt
  fields_formed (k ∷ ks) h = (h.0, fields_formed ks h.1)

  formed_fields : (ks : List ℕ) → AreFieldsFormed m.types.items ks → AllClosed ks
  formed_fields [] h = tt
  formed_fields (k ∷ ks) h = (h.0, formed_fields ks h.1)

  makers_formed : (os : List Maker) → AllClosed (maker_types os) → AreMakersFormed m.types.items os
  makers_formed [] h = tt
  makers_formed (o ∷ os) h =
      let ks = o.fields.items in (
        fields_formed ks (all_left (IsFormedAt m.types.items []) ks (maker_types os) h),
        makers_formed os (all_right (IsFormedAt m.types.items []) ks (maker_types os) h),
      )

  formed_makers : (os : List Maker) → AreMakersFormed m.types.items os → AllClosed (maker_types os)
  formed_makers [] h = tt
  formed_makers (o ∷ os) h = all_append (IsFormedAt m.types.items []) o.fields.items (maker_types os)
      (formed_fields o.fields.items h.0) (formed_makers os h.1)

  pub families_formed : (fs : List Family) → AllClosed (family_types fs) → AreFamiliesFormed m.types.items fs
  families_formed [] h = tt
  families_formed (f ∷ fs) h =
      let ks = maker_types f.makers.items in (
        makers_formed f.makers.items (all_left (IsFormedAt m.types.items []) ks (family_types fs) h),
        families_formed fs (all_right (IsFormedAt m.types.items []) ks (family_types fs) h),
      )

  pub formed_families : (fs : List Family) → AreFamiliesFormed m.types.items fs → AllClosed (family_types fs)
  formed_families [] h = tt
  formed_families (f ∷ fs) h = all_append (IsFormedAt m.types.items []) (maker_types f.makers.items) (family_types fs)
      (formed_makers f.makers.items h.0) (formed_families fs h.1)
