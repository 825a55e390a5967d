-- The types of constructors' fields.
use Rattle.std.proofs.Common.{◌≡◌, ◌∙◌, ℕ, zero, suc, Bool, true, false, List, [], ◌∷◌, Option, Some, None, slice_get, refl, sym, subst}
use Rattle.std.specs.Prelude.{if◌then◌else◌}
use Rattle.std.specs.List.{AllByRecursion}
use Rattle.std.specs.Str.{bytes_eq}
use Rattle.std.proofs.lemmas.Option.{same_Some}
use Rattle.fst_types.specs.Tree.{Tree}
use Rattle.fst_types.specs.declared.family.Family.{Family}
use Rattle.fst_types.specs.declared.family.Maker.{Maker}
use Rattle.fst_terms.specs.InRange.{maker_named, maker_of}
use Rattle.fst_derivations.specs.Modules.{AreFieldsFormed, AreMakersFormed, AreFamiliesFormed}
use Rattle.fst_derivations.specs.Parts.{IsFormed, AreAt}

-- the constructors of a data type have well-formed fields
pub family_formed : (types : List Tree) (fs : List Family) (n : ℕ) (f : Family) → AreFamiliesFormed types fs →
    slice_get fs n ≡ Some f → AreMakersFormed types f.makers.items
family_formed types [] n f h e = absurd (cc e)
family_formed types (p ∷ fs) zero f h e = let same : p ≡ f = cc in subst
    (λ (q : Family). AreMakersFormed types q.makers.items) same h.0
family_formed types (p ∷ fs) (suc n) f h e = family_formed types fs n f h.1 e

-- so has each of them
pub maker_formed : (types : List Tree) (os : List Maker) (k : ℕ) (o : Maker) → AreMakersFormed types os →
    slice_get os k ≡ Some o → AreFieldsFormed types o.fields.items
maker_formed types [] k o h e = absurd (cc e)
maker_formed types (p ∷ os) zero o h e = let same : p ≡ o = cc in subst
    (λ (q : Maker). AreFieldsFormed types q.fields.items) same h.0
maker_formed types (p ∷ os) (suc k) o h e = maker_formed types os k o h.1 e

-- also one that a name stands for
pub named_formed : (types : List Tree) (os : List Maker) (l : List ℕ) (o : Maker) → AreMakersFormed types os →
    maker_named l os ≡ Some o → AreFieldsFormed types o.fields.items
named_formed types [] l o h e = absurd (cc e)
named_formed types (p ∷ os) l o h e = pick (named_formed types os l o h.1) (bytes_eq l p.name) e
  where
    pick : (maker_named l os ≡ Some o → AreFieldsFormed types o.fields.items) → (b : Bool) →
        (if b then Some p else maker_named l os) ≡ Some o → AreFieldsFormed types o.fields.items
    pick f true i = let same : p ≡ o = cc in subst (λ (q : Maker). AreFieldsFormed types q.fields.items) same h.0
    pick f false i = f i

-- also one that a data type's number and its own stand for
pub numbered_formed : (types : List Tree) (fs : List Family) (n k : ℕ) (o : Maker) → AreFamiliesFormed types fs →
    maker_of (slice_get fs n) k ≡ Some o → AreFieldsFormed types o.fields.items
numbered_formed types fs n k o h e = pick (slice_get fs n) refl e
  where
    pick : (g : Option Family) → slice_get fs n ≡ g → maker_of g k ≡ Some o → AreFieldsFormed types o.fields.items
    pick None i j = absurd (cc j)
    pick (Some g) i j = maker_formed types g.makers.items k o (family_formed types fs n g h i) j

-- the types of well-formed fields are well formed and closed
pub fields_formed : (types : List Tree) (ks : List ℕ) (ts : List Tree) → AreFieldsFormed types ks → AreAt types ks ts →
    AllByRecursion (IsFormed []) ts
fields_formed types [] [] h x = tt
fields_formed types [] (t ∷ ts) h x = absurd x
fields_formed types (k ∷ ks) [] h x = absurd x
fields_formed types (k ∷ ks) (t ∷ ts) h x =
    (subst (λ z. IsFormed [] z) (same_Some (h.0).0 t (sym (h.0).1 ∙ x.0)) (h.0).2, fields_formed types ks ts h.1 x.1)
