-- The first field that isn't printable, and what follows from it.
use Rattle.std.proofs.Common.{subst, ℕ, ◌<◌, List, ◌∷◌, length, Option, Some, None}
use Rattle.std.specs.Prelude.{MatchOption, IfSome}
use Rattle.std.specs.List.{AllByRecursion}
use Rattle.std.proofs.lemmas.Option.{slice_get_within}
use Rattle.fst_base.proofs.Alls.{all_right}
use Rattle.fst_terms.specs.declared.core_module.Module.{Module}
use Rattle.fst_derivations.specs.Modules.{AreFamiliesPrintable, family_types}
use Rattle.fst_written.specs.Printable.{IsFirstUnprintable, IsPrintableAt, IsLeastField}
use Rattle.fst_written.proofs.OneLaws.{unprintable}
use Rattle.fst_written.proofs.PrintableLaws.{families_printable, printable_families}

module _ (m : Module) where
  -- what was found is a type that is there
  pub found_there : (ks : List ℕ) (found : Option ℕ) → IsLeastField m ks found → IfSome found (λ k. k < length m.types.items)
  found_there ks None h = tt
  found_there ks (Some k) h = slice_get_within m.types.items k h.type h.is

  -- where nothing was found, each data type's fields are printable
  pub least_fields : (found : Option ℕ) → IsLeastField m (family_types m.families.items) found →
      MatchOption found (AreFamiliesPrintable m.types.items m.families.items)
      (IsFirstUnprintable m (family_types m.families.items))
  least_fields None h = families_printable m.types.items m.families.items h
  least_fields (Some k) h = h

  -- a field that isn't printable excludes that all are
  pub one_refused : (k : ℕ) → IsFirstUnprintable m (family_types m.families.items) k →
      AreFamiliesPrintable m.types.items m.families.items → ⊥
  one_refused k f h =
      let all = subst (AllByRecursion (IsPrintableAt m.types.items)) f.first.stands
      (printable_families m.types.items m.families.items h) in
      let here = (all_right (IsPrintableAt m.types.items) f.first.before (k ∷ f.first.after) all).0 in
      unprintable m k f.type f.is f.unprintable here

  -- where something was found, they aren't
  pub fields_refused : (found : Option ℕ) → IsLeastField m (family_types m.families.items) found → IfSome found
      (λ _. AreFamiliesPrintable m.types.items m.families.items → ⊥)
  fields_refused None h = tt
  fields_refused (Some k) h = one_refused k h
