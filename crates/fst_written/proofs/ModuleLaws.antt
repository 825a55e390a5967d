-- The types of a module: their numbers, and what it is that they are well formed.
use Rattle.std.proofs.Common.{◌≡◌, ◌∙◌, refl, ap, subst, sym, ℕ, List, [], ◌∷◌, ◌++◌, length, map}
use Rattle.std.specs.List.{AllByRecursion}
use Rattle.std.proofs.lemmas.List.{map-append}
use Rattle.fst_base.proofs.Alls.{all_append, all_left, all_right}
use Rattle.fst_kinds.specs.declared.fault.KindFault.{KindFault}
use Rattle.fst_terms.specs.InRange.{AreNumbersBelow}
use Rattle.fst_terms.specs.declared.core_module.Module.{Module}
use Rattle.fst_derivations.specs.Modules.{IsFormedAt, AreTypesFormed, global_types, family_types}
use Rattle.fst_derivations.specs.Parts.{IsFormed}
use Rattle.fst_written.specs.Faults.{HasFault, IsFirstKindFault}
use Rattle.fst_written.specs.Readings.{Reading, global_readings, closed_readings, others, readings, reading_of, IsFormedReading}
use Rattle.fst_written.specs.declared.readings.Occurrence.{Occurrence}
use Rattle.fst_written.proofs.OtherLaws.{others_have, have_others}
use Rattle.fst_written.proofs.RangeLaws.{below_append, globals_in_range, families_in_range, others_in_range}
use Rattle.fst_written.proofs.ReadingLaws.{global_numbers, closed_numbers, globals_formed, formed_globals, closed_formed, formed_closed, families_formed, formed_families}

occurrence_numbers : (os : List Occurrence) → map (λ o. o.number) os ≡ map (λ r. r.number) (map reading_of os)
occurrence_numbers [] = refl
occurrence_numbers (o ∷ os) = ap (λ ks. o.number ∷ ks) (occurrence_numbers os)

module _ (m : Module) where
  -- the numbers of the types that stand somewhere
  abbrev pub standing_types : List ℕ
  standing_types = global_types m.globals.items ++ family_types m.families.items

  some_numbers : map (λ r. r.number) (global_readings m.globals.items ++ closed_readings (family_types m.families.items))
      ≡ standing_types
  some_numbers =
      map-append (λ (r : Reading). r.number) (global_readings m.globals.items) (closed_readings (family_types m.families.items))
      ∙ (λ i. global_numbers m.globals.items i ++ closed_numbers (family_types m.families.items) i)

  -- the numbers of the types that stand in globals and in fields
  pub standing_numbers_of : (os : List Occurrence) →
      map reading_of os ≡ global_readings m.globals.items ++ closed_readings (family_types m.families.items) →
      map (λ o. o.number) os ≡ standing_types
  standing_numbers_of os e = occurrence_numbers os ∙ ap (map (λ (r : Reading). r.number)) e ∙ some_numbers

  -- they are those of types that are there
  pub standing_there : AreNumbersBelow (length m.types.items) standing_types
  standing_there =
      below_append (length m.types.items) (global_types m.globals.items) (family_types m.families.items)
      (globals_in_range (record { families = m.families.items; globals = length m.globals.items; types = length m.types.items })
      m.globals.items m.whole.global_parts)
      (families_in_range (length m.types.items) m.families.items m.whole.family_parts)

  all_numbers : map (λ r. r.number) (readings m) ≡ global_types m.globals.items
      ++ (family_types m.families.items ++ others standing_types (length m.types.items))
  all_numbers =
      let number : Reading → ℕ = λ r. r.number in
      let fields = closed_readings (family_types m.families.items) in
      let left = closed_readings (others standing_types (length m.types.items)) in
      map-append number (global_readings m.globals.items) (fields ++ left)
      ∙ (λ i. global_numbers m.globals.items i ++ map-append number fields left i)
      ∙ (λ i. global_types m.globals.items ++ (closed_numbers (family_types m.families.items) i ++ closed_numbers
      (others standing_types (length m.types.items)) i))

  -- so are the numbers of all types
  pub all_there : (os : List Occurrence) → map reading_of os ≡ readings m →
      AreNumbersBelow (length m.types.items) (map (λ o. o.number) os)
  all_there os e =
      let n = length m.types.items in
      let globals = globals_in_range (record { families = m.families.items; globals = length m.globals.items; types = n })
      m.globals.items m.whole.global_parts in
      let fields = families_in_range n m.families.items m.whole.family_parts in
      subst (AreNumbersBelow n) (sym (occurrence_numbers os ∙ ap (map (λ (r : Reading). r.number)) e ∙ all_numbers))
      (below_append n (global_types m.globals.items) (family_types m.families.items ++ others standing_types n) globals
      (below_append n (family_types m.families.items) (others standing_types n) fields (others_in_range standing_types n)))

  -- where each type is well formed where it stands, the types of the module are
  pub types_formed : AllByRecursion (IsFormedReading m) (readings m) → AreTypesFormed m
  types_formed h =
      let fields = closed_readings (family_types m.families.items) in
      let left = closed_readings (others standing_types (length m.types.items)) in
      let rest = all_right (IsFormedReading m) (global_readings m.globals.items) (fields ++ left) h in
      record {
        families = families_formed m m.families.items
            (closed_formed m (family_types m.families.items) (all_left (IsFormedReading m) fields left rest));
        globals = globals_formed m m.globals.items (all_left (IsFormedReading m) (global_readings m.globals.items)
            (fields ++ left) h);
        others = others_have (IsFormedAt m.types.items []) standing_types (length m.types.items)
            (closed_formed m (others standing_types (length m.types.items)) (all_right (IsFormedReading m) fields left rest));
      }

  -- and the other way round
  pub formed_types : AreTypesFormed m → AllByRecursion (IsFormedReading m) (readings m)
  formed_types h =
      let fields = closed_readings (family_types m.families.items) in
      let left = closed_readings (others standing_types (length m.types.items)) in
      all_append (IsFormedReading m) (global_readings m.globals.items) (fields ++ left)
      (formed_globals m m.globals.items h.globals)
      (all_append (IsFormedReading m) fields left (formed_closed m (family_types m.families.items)
      (formed_families m m.families.items h.families))
      (formed_closed m (others standing_types (length m.types.items))
      (have_others (IsFormedAt m.types.items []) standing_types (length m.types.items) h.others)))

  -- a type with a fault isn't well formed
  pub unformed : (r : Reading) (at : ℕ) (f : KindFault) → HasFault m r at f → IsFormedReading m r → ⊥
  unformed r at f has formed =
      let same : has.type ≡ formed.0 = cc (sym has.is ∙ formed.1) in
      has.unformed (subst (IsFormed r.vars) (sym same) formed.2)

  -- where a type has a fault, those of the module aren't all well formed
  pub refused : (at : ℕ) (f : KindFault) → IsFirstKindFault m (readings m) at f → AreTypesFormed m → ⊥
  refused at f found h =
      let at_first = found.first in
      let all = subst (AllByRecursion (IsFormedReading m)) at_first.stands (formed_types h) in
      unformed found.reading at f found.fails (all_right (IsFormedReading m) at_first.before
      (found.reading ∷ at_first.after) all).0
