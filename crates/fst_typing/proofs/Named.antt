-- A constructor of a data type is the first with its name in the whole module.
use Rattle.std.proofs.Common.{◌≡◌, ◌∙◌, ◌++◌, ℕ, zero, suc, Bool, true, false, List, [], ◌∷◌, Some, map, slice_get, refl, sym, ap, subst}
use Rattle.std.specs.Prelude.{Contains, if◌then◌else◌}
use Rattle.std.specs.List.{AllByRecursion, IsDistinct}
use Rattle.std.specs.Str.{bytes_eq}
use Rattle.fst_base.proofs.Bools.{same_text, text_itself}
use Rattle.fst_types.specs.declared.family.Family.{Family}
use Rattle.fst_types.specs.declared.family.Maker.{Maker}
use Rattle.fst_terms.specs.InRange.{maker_named, makers}
use Rattle.fst_typing.proofs.Containing.{contains_cases, no_first}

abbrev names : List Maker → List (List ℕ)
names os = map (λ (o : Maker). o.name) os

named_left : (l : List ℕ) (os ms : List Maker) (o : Maker) → maker_named l os ≡ Some o → maker_named l (os ++ ms) ≡ Some o
named_left l [] ms o h = absurd (cc h)
named_left l (p ∷ os) ms o h = pick (named_left l os ms o) (bytes_eq l p.name) refl h
  where
    pick : (maker_named l os ≡ Some o → maker_named l (os ++ ms) ≡ Some o) → (b : Bool) → bytes_eq l p.name ≡ b →
        (if b then Some p else maker_named l os) ≡ Some o →
        (if bytes_eq l p.name then Some p else maker_named l (os ++ ms)) ≡ Some o
    pick f true e i = ap (λ b. if b then Some p else maker_named l (os ++ ms)) e ∙ i
    pick f false e i = ap (λ b. if b then Some p else maker_named l (os ++ ms)) e ∙ f i

named_name : (l : List ℕ) (os : List Maker) (o : Maker) → maker_named l os ≡ Some o → bytes_eq l o.name ≡ true
named_name l [] o h = absurd (cc h)
named_name l (p ∷ os) o h = pick (named_name l os o) (bytes_eq l p.name) refl h
  where
    pick : (maker_named l os ≡ Some o → bytes_eq l o.name ≡ true) → (b : Bool) → bytes_eq l p.name ≡ b →
        (if b then Some p else maker_named l os) ≡ Some o → bytes_eq l o.name ≡ true
    pick f true e i = let same : p ≡ o = cc in subst (λ (q : Maker). bytes_eq l q.name ≡ true) same e
    pick f false e i = f i

all_named : (P : List ℕ → Type 0) (l : List ℕ) (ms : List Maker) (o : Maker) → AllByRecursion P (names ms) →
    maker_named l ms ≡ Some o → P o.name
all_named P l [] o a h = absurd (cc h)
all_named P l (p ∷ ms) o a h = pick (all_named P l ms o a.1) (bytes_eq l p.name) h
  where
    pick : (maker_named l ms ≡ Some o → P o.name) → (b : Bool) → (if b then Some p else maker_named l ms) ≡ Some o → P o.name
    pick f true i = let same : p ≡ o = cc in subst (λ (q : Maker). P q.name) same a.0
    pick f false i = f i

-- what is behind a constructor of another name
named_behind : (l : List ℕ) (p : Maker) (qs : List Maker) (q : Maker) → maker_named l qs ≡ Some q →
    bytes_eq p.name q.name ≡ false → maker_named l (p ∷ qs) ≡ Some q
named_behind l p qs q h differs = pick (bytes_eq l p.name) refl (named_name l qs q h)
  where
    pick : (b : Bool) → bytes_eq l p.name ≡ b → bytes_eq l q.name ≡ true →
        (if bytes_eq l p.name then Some p else maker_named l qs) ≡ Some q
    pick true e agrees = let wrong : true ≡ false = sym (subst (λ x. bytes_eq x q.name ≡ true) (same_text l p.name e) agrees)
        ∙ differs in absurd (cc wrong)
    pick false e agrees = ap (λ b. if b then Some p else maker_named l qs) e ∙ h

named_right : (l : List ℕ) (os ms : List Maker) (o : Maker) → IsDistinct bytes_eq (names (os ++ ms)) → maker_named l ms ≡ Some o →
    maker_named l (os ++ ms) ≡ Some o
unfolding IsDistinct
named_right l [] ms o d h = h
named_right l (p ∷ os) ms o d h =
    let there = named_right l os ms o d.1 h in
    named_behind l p (os ++ ms) o there (all_named (λ y. bytes_eq p.name y ≡ false) l (os ++ ms) o d.0 there)

distinct_later : (os ms : List Maker) → IsDistinct bytes_eq (names (os ++ ms)) → IsDistinct bytes_eq (names ms)
unfolding IsDistinct
distinct_later [] ms d = d
distinct_later (p ∷ os) ms d = distinct_later os ms d.1

-- what a name stands for among a data type's constructors it stands for in the module
pub family_named : (fs : List Family) (n : ℕ) (g : Family) (l : List ℕ) (o : Maker) → IsDistinct bytes_eq (names (makers fs)) →
    slice_get fs n ≡ Some g → maker_named l g.makers.items ≡ Some o → maker_named l (makers fs) ≡ Some o
family_named [] zero g l o d h e = absurd (cc h)
family_named [] (suc n) g l o d h e = absurd (cc h)
family_named (f ∷ fs) zero g l o d h e = let same : f ≡ g = cc in
    named_left l f.makers.items (makers fs) o (subst (λ (q : Family). maker_named l q.makers.items ≡ Some o) (sym same) e)
family_named (f ∷ fs) (suc n) g l o d h e = named_right l f.makers.items (makers fs) o d
    (family_named fs n g l o (distinct_later f.makers.items (makers fs) d) h e)

-- a name among those of constructors stands for one
pub contained_named : (os : List Maker) (x : List ℕ) → Contains (names os) x → (o : Maker) × (maker_named x os ≡ Some o)
contained_named [] x h = absurd (no_first x h)
contained_named (p ∷ os) x h = pick (contained_named os x) (bytes_eq x p.name) refl
  where
    pick : (Contains (names os) x → (o : Maker) × (maker_named x os ≡ Some o)) → (b : Bool) → bytes_eq x p.name ≡ b →
        (o : Maker) × ((if bytes_eq x p.name then Some p else maker_named x os) ≡ Some o)
    pick f true e = (p, ap (λ b. if b then Some p else maker_named x os) e)
    pick f false e =
        let later : Contains (names os) x = contains_cases (Contains (names os) x) p.name x (names os) h
        (λ s. let wrong : true ≡ false = sym (text_itself x) ∙ ap (bytes_eq x) (sym s) ∙ e in absurd (cc wrong)) (λ y. y) in
        let r = f later in (r.0, ap (λ b. if b then Some p else maker_named x os) e ∙ r.1)
