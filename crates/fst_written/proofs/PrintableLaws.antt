-- The test for printable types, and the fields of a module.
use Rattle.std.proofs.Common.{◌≡◌, ◌↔◌, refl, ℕ, List, [], ◌∷◌, true, false, Bool}
use Rattle.std.specs.Prelude.{◌&&◌}
use Rattle.std.specs.List.{AllByRecursion}
use Rattle.fst_base.proofs.Alls.{all_append, all_left, all_right}
use Rattle.fst_types.specs.Tree.{Tree, skip, send, receive, close, wait, select, offer, seq, rec, back, var, plain, arrow, pair, named}
use Rattle.fst_types.specs.declared.family.Family.{Family}
use Rattle.fst_types.specs.declared.family.Maker.{Maker}
use Rattle.fst_derivations.specs.Modules.{IsPrintable, base_types, data_types, pairs, ArePrintable, HavePrintableFields, AreFamiliesPrintable, maker_types, family_types}
use Rattle.fst_written.specs.Printable.{printable, IsPrintableAt}

both_true : (a b : Bool) → (a && b) ≡ true → (a ≡ true) × (b ≡ true)
both_true true b e = (refl, e)
both_true false b e = absurd (cc e)

and_true : (a b : Bool) → a ≡ true → b ≡ true → (a && b) ≡ true
and_true true b e f = f
and_true false b e f = absurd (cc e)

passed : (t : Tree) → printable t ≡ true → IsPrintable t
passed skip e = absurd (cc e)
passed (send b) e = absurd (cc e)
passed (receive b) e = absurd (cc e)
passed close e = absurd (cc e)
passed wait e = absurd (cc e)
passed (select bs) e = absurd (cc e)
passed (offer bs) e = absurd (cc e)
passed (seq s r) e = absurd (cc e)
passed (rec s) e = absurd (cc e)
passed (back n) e = absurd (cc e)
passed (var n) e = absurd (cc e)
passed (plain b) e = base_types
passed (arrow u s r) e = absurd (cc e)
passed (pair s r) e = let both = both_true (printable s) (printable r) e in pairs (passed s both.0) (passed r both.1)
passed (named n) e = data_types

passes : {t : Tree} → IsPrintable t → printable t ≡ true
passes base_types = refl
passes data_types = refl
passes (pairs {s = s} {t = t} h g) = and_true (printable s) (printable t) (passes h) (passes g)

-- the test passes just printable types
pub printable_is : (t : Tree) → (printable t ≡ true) ↔ IsPrintable t
printable_is t = (passed t, passes)

module _ (types : List Tree) where
  all_printable : (ks : List ℕ) → AllByRecursion (IsPrintableAt types) ks → ArePrintable types ks
  all_printable [] h = tt
  all_printable (k ∷ ks) h = (h.0, all_printable ks h.1)

  makers_printable : (os : List Maker) → AllByRecursion (IsPrintableAt types) (maker_types os) → HavePrintableFields types os
  makers_printable [] h = tt
  makers_printable (o ∷ os) h = (
    all_printable o.fields.items (all_left (IsPrintableAt types) o.fields.items (maker_types os) h),
    makers_printable os (all_right (IsPrintableAt types) o.fields.items (maker_types os) h),
  )

  -- where each field is printable, those of all data types are
  pub families_printable : (fs : List Family) → AllByRecursion (IsPrintableAt types) (family_types fs) →
      AreFamiliesPrintable types fs
  families_printable [] h = tt
  families_printable (f ∷ fs) h = (
    makers_printable f.makers.items (all_left (IsPrintableAt types) (maker_types f.makers.items) (family_types fs) h),
    families_printable fs (all_right (IsPrintableAt types) (maker_types f.makers.items) (family_types fs) h),
  )

  printable_all : (ks : List ℕ) → ArePrintable types ks → AllByRecursion (IsPrintableAt types) ks
  printable_all [] h = tt
  printable_all (k ∷ ks) h = (h.0, printable_all ks h.1)

  printable_makers : (os : List Maker) → HavePrintableFields types os → AllByRecursion (IsPrintableAt types) (maker_types os)
  printable_makers [] h = tt
  printable_makers (o ∷ os) h = all_append (IsPrintableAt types) o.fields.items (maker_types os)
      (printable_all o.fields.items h.0) (printable_makers os h.1)

  -- and the other way round
  pub printable_families : (fs : List Family) → AreFamiliesPrintable types fs →
      AllByRecursion (IsPrintableAt types) (family_types fs)
  printable_families [] h = tt
  printable_families (f ∷ fs) h = all_append (IsPrintableAt types) (maker_types f.makers.items) (family_types fs)
      (printable_makers f.makers.items h.0) (printable_families fs h.1)
