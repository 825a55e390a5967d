-- Constructors, and the types of their fields.
use Rattle.std.proofs.Common.{◌≡◌, ◌∙◌, ℕ, zero, suc, Bool, true, false, List, [], ◌∷◌, Option, Some, None, length, slice_get, refl, sym, ap, subst}
use Rattle.std.specs.Prelude.{if◌then◌else◌}
use Rattle.std.specs.Str.{bytes_eq}
use Rattle.fst_types.specs.Tree.{Tree, named}
use Rattle.fst_types.specs.declared.family.Family.{Family}
use Rattle.fst_types.specs.declared.family.Maker.{Maker}
use Rattle.fst_terms.specs.CoreTree.{CoreList, make}
use Rattle.fst_terms.specs.InRange.{HasFields, maker_named, maker_of, terms_length}
use Rattle.fst_terms.specs.ModelCoreView.{cores_of}
use Rattle.fst_terms.specs.CoreTree.{CoreTree}
use Rattle.fst_context.specs.Scope.{Scope, Variable}
use Rattle.fst_context.proofs.Laws.{takes_as}
use Rattle.fst_derivations.specs.Deriv.{Deriv, Derivs, row, type_of}
use Rattle.fst_derivations.specs.Modules.{AreFieldsFormed, AreMakersFormed}
use Rattle.fst_derivations.specs.Parts.{AreAt, IsFormed}
use Rattle.fst_derivations.specs.Rules.{Fields}
use Rattle.fst_premises.specs.Scenes.{IsReady, IsSetUp}
use Rattle.fst_typing.specs.Scenes.{AreFieldsReady}
use Rattle.fst_premises.specs.Checks.{Check, IsInSize}
use Rattle.fst_typing.proofs.Formed.{named_small}
use Rattle.fst_typing.specs.Typed.{AreFieldsTyped, IsPlain, IsTyped, checking}

-- there are as many terms as in their list
pub terms_of_length : (ts : List CoreTree) → terms_length (cores_of ts) ≡ length ts
terms_of_length [] = refl
terms_of_length (t ∷ ts) = ap suc (terms_of_length ts)

-- the fields of a constructor that is there are formed
formed_maker : (types : List Tree) (os : List Maker) (k : ℕ) (o : Maker) → AreMakersFormed types os → slice_get os k ≡ Some o →
    AreFieldsFormed types o.fields.items
formed_maker types [] zero o h e = absurd (cc e)
formed_maker types [] (suc k) o h e = absurd (cc e)
formed_maker types (p ∷ os) zero o h e = let same : p ≡ o = cc in subst
    (λ (q : Maker). AreFieldsFormed types q.fields.items) same h.0
formed_maker types (p ∷ os) (suc k) o h e = formed_maker types os k o h.1 e

pub formed_fields : (c : Check) (n k : ℕ) (o : Maker) →
    ((n : ℕ) (g : Family) → slice_get c.surroundings.families n ≡ Some g → AreMakersFormed c.surroundings.types g.makers.items) →
    maker_of (slice_get c.surroundings.families n) k ≡ Some o → AreFieldsFormed c.surroundings.types o.fields.items
formed_fields c n k o s e = pick (slice_get c.surroundings.families n) refl e
  where
    pick : (g : Option Family) → slice_get c.surroundings.families n ≡ g → maker_of g k ≡ Some o →
        AreFieldsFormed c.surroundings.types o.fields.items
    pick None h i = absurd (cc i)
    pick (Some g) h i = formed_maker c.surroundings.types g.makers.items k o (s n g h) i

-- formed fields have types
pub field_types : (types : List Tree) (ks : List ℕ) → AreFieldsFormed types ks → (ts : List Tree) × AreAt types ks ts
field_types types [] h = ([], tt)
field_types types (k ∷ ks) h = let r = field_types types ks h.1 in (h.0.0 ∷ r.0, (h.0.1, r.1))

-- a constructor's arguments are ready where it is
pub make_ready : (c : Check) (at n k : ℕ) (es : CoreList) (o : Maker) (g : List Variable) → IsSetUp c →
    IsReady c (make at n k es) g → maker_of (slice_get c.surroundings.families n) k ≡ Some o →
    AreFieldsReady c es o.fields.items g
make_ready c at n k es o g s h e = record {
  range = h.range.1;
  standing = h.formed;
  held = h.held;
  fields = formed_fields c n k o s.fields e;
  long = subst (λ m. HasFields m (terms_length es)) e h.range.0;
}

pub make_typed : (c : Check) (at n k : ℕ) (es : CoreList) (w : Deriv) (o : Maker) (ts : List Tree) (ds : Derivs) (t : Tree)
    (r s : Scope) → maker_of (slice_get c.surroundings.families n) k ≡ Some o →
    AreAt c.surroundings.types o.fields.items ts → AreFieldsTyped c es ts r s ds → t ≡ named n → w ≡ row t ds →
    IsTyped c r s (make at n k es) w
make_typed c at n k es w o ts ds t r s e a x j q =
    let is : w ≡ row (named n) ds = q ∙ ap (λ p. row p ds) j in
    takes_as (λ u. Fields c.surroundings (checking c) es ts r.variables u ds) (IsPlain c (make at n k es) r.variables w) r s
    (λ u p. record {
      rule = (o, ts, ds, e, a, p, is);
      formed = subst
          (λ v. IsFormed c.surroundings.vars (type_of v)) (sym is)
          (_, record { kinded = refl; contractive = tt; scoped = tt; ordered = tt });
      small = subst
          (λ v. IsInSize (type_of v)) (sym is) (named_small n);
    }) x

-- a constructor that a name stands for has formed fields
pub formed_named : (types : List Tree) (os : List Maker) (l : List ℕ) (o : Maker) → AreMakersFormed types os →
    maker_named l os ≡ Some o → AreFieldsFormed types o.fields.items
formed_named types [] l o h e = absurd (cc e)
formed_named types (p ∷ os) l o h e = pick (formed_named types os l o h.1) (bytes_eq l p.name) e
  where
    pick : (maker_named l os ≡ Some o → AreFieldsFormed types o.fields.items) → (b : Bool) →
        (if b then Some p else maker_named l os) ≡ Some o → AreFieldsFormed types o.fields.items
    pick f true i = let same : p ≡ o = cc in subst (λ (q : Maker). AreFieldsFormed types q.fields.items) same h.0
    pick f false i = f i
