-- A constructor of a data type is the one that its name stands for.
use Rattle.std.proofs.Common.{◌≡◌, ◌∙◌, ◌++◌, ℕ, zero, suc, Bool, true, false, List, [], ◌∷◌, Some, map, slice_get, refl, sym, ap, subst}
use Rattle.std.specs.Prelude.{if◌then◌else◌}
use Rattle.std.specs.List.{AllByRecursion, IsDistinct}
use Rattle.std.specs.Str.{bytes_eq}
use Rattle.fst_base.proofs.Bools.{same_text, text_itself}
use Rattle.fst_types.specs.declared.family.Family.{Family}
use Rattle.fst_types.specs.declared.family.Maker.{Maker}
use Rattle.fst_terms.specs.InRange.{maker_named, makers}

abbrev names : List Maker → List (List ℕ)
names os = map (λ (o : Maker). o.name) os

all_front : (P : List ℕ → Type 0) (os ms : List Maker) → AllByRecursion P (names (os ++ ms)) → AllByRecursion P (names os)
all_front P [] ms h = tt
all_front P (p ∷ os) ms h = (h.0, all_front P os ms h.1)

distinct_front : (os ms : List Maker) → IsDistinct bytes_eq (names (os ++ ms)) → IsDistinct bytes_eq (names os)
unfolding IsDistinct
distinct_front [] ms d = tt
distinct_front (p ∷ os) ms d = (all_front (λ y. bytes_eq p.name y ≡ false) os ms d.0, distinct_front os ms d.1)

distinct_behind : (os ms : List Maker) → IsDistinct bytes_eq (names (os ++ ms)) → IsDistinct bytes_eq (names ms)
unfolding IsDistinct
distinct_behind [] ms d = d
distinct_behind (p ∷ os) ms d = distinct_behind os ms d.1

-- where all constructors have different names, so have those of one data type
pub distinct_family : (fs : List Family) (n : ℕ) (f : Family) → IsDistinct bytes_eq (map (λ (o : Maker). o.name) (makers fs)) →
    slice_get fs n ≡ Some f → IsDistinct bytes_eq (map (λ (o : Maker). o.name) f.makers.items)
distinct_family [] n f d e = absurd (cc e)
distinct_family (g ∷ fs) zero f d e = let same : g ≡ f = cc in subst
    (λ (q : Family). IsDistinct bytes_eq (names q.makers.items)) same (distinct_front g.makers.items (makers fs) d)
distinct_family (g ∷ fs) (suc n) f d e = distinct_family fs n f (distinct_behind g.makers.items (makers fs) d) e

all_at : (P : List ℕ → Type 0) (os : List Maker) (k : ℕ) (o : Maker) → AllByRecursion P (names os) → slice_get os k ≡ Some o →
    P o.name
all_at P [] k o h e = absurd (cc e)
all_at P (p ∷ os) zero o h e = let same : p ≡ o = cc in subst (λ (q : Maker). P q.name) same h.0
all_at P (p ∷ os) (suc k) o h e = all_at P os k o h.1 e

-- what stands behind a constructor of another name
later_named : (p o : Maker) (os : List Maker) → bytes_eq p.name o.name ≡ false → maker_named o.name os ≡ Some o →
    maker_named o.name (p ∷ os) ≡ Some o
later_named p o os differs h = pick (bytes_eq o.name p.name) refl
  where
    pick : (b : Bool) → bytes_eq o.name p.name ≡ b → (if bytes_eq o.name p.name then Some p else maker_named o.name os) ≡ Some o
    pick true e =
        let wrong : true ≡ false = sym (text_itself p.name) ∙ ap (bytes_eq p.name) (sym (same_text o.name p.name e)) ∙ differs in
        absurd (cc wrong)
    pick false e = ap (λ b. if b then Some p else maker_named o.name os) e ∙ h

-- a constructor among some of different names is the one that its name stands for
pub named_itself : (os : List Maker) (k : ℕ) (o : Maker) → IsDistinct bytes_eq (map (λ (q : Maker). q.name) os) →
    slice_get os k ≡ Some o → maker_named o.name os ≡ Some o
unfolding IsDistinct
named_itself [] k o d e = absurd (cc e)
named_itself (p ∷ os) zero o d e =
    let same : p ≡ o = cc in
    subst (λ (q : Maker). maker_named q.name (p ∷ os) ≡ Some q) same
    (ap (λ b. if b then Some p else maker_named p.name os) (text_itself p.name))
named_itself (p ∷ os) (suc k) o d e = later_named p o os (all_at (λ y. bytes_eq p.name y ≡ false) os k o d.0 e)
    (named_itself os k o d.1 e)
