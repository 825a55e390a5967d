-- The first of some faults.
use Rattle.std.proofs.Common.{◌≡◌, ◌∙◌, ◌⊎◌, inl, inr, ℕ, suc, zero, Bool, true, false, ◌||◌, ◌&&◌, List, [], ◌∷◌, ◌++◌, Option, Some, None, refl, sym, subst, arith}
use Rattle.std.specs.Prelude.{nat_lt, nat_eq, if◌then◌else◌, Contains}
use Rattle.std.proofs.lemmas.Bool.Decides.{nat_tests}
use Rattle.std.proofs.lemmas.List.Elements.{Contains-append_right}
use Rattle.std.proofs.lemmas.Option.{same_Some}
use Rattle.fst_base.proofs.Lists.{contains_none}
use Rattle.fst_scopes.specs.declared.fault.NameFault.{NameFault}
use Rattle.fst_scopes.specs.First.{place, number, comes_before, earlier, first_from, first_fault, FirstFaultLaw}

-- faults one after another
pub first_append : (kept : Option NameFault) (fs gs : List NameFault) →
    first_from kept (fs ++ gs) ≡ first_from (first_from kept fs) gs
first_append kept [] gs = refl
first_append kept (f ∷ fs) gs = first_append (earlier kept f) fs gs

-- ---- the order of faults

-- a place and a number come before others
abbrev before : ℕ → ℕ → ℕ → ℕ → Bool
before p n q m = nat_lt p q || (nat_eq p q && nat_lt n m)

-- what comes after a thing doesn't come before what that thing doesn't come before
after_first : (p n q m r l : ℕ) → before p n q m ≡ true → before p n r l ≡ false → before q m r l ≡ false
after_first p n q m r l one two = grind (arith, nat_tests)

-- what doesn't come before a thing doesn't come before what that thing doesn't come before
not_before : (p n q m r l : ℕ) → before p n q m ≡ false → before q m r l ≡ false → before p n r l ≡ false
not_before p n q m r l one two = grind (arith, nat_tests)

not_itself : (p n : ℕ) → before p n p n ≡ false
not_itself p n = grind (arith, nat_tests)

-- ---- the first fault

abbrev some : NameFault → Option NameFault
some f = Some f

abbrev none : Option NameFault
none = None

-- a fault comes before no kept one, or no further one
abbrev IsLeast : NameFault → Option NameFault → Type 0
IsLeast f kept = (k : NameFault) → kept ≡ some k → comes_before k f ≡ false

head_there : (f : NameFault) (fs : List NameFault) → Contains (f ∷ fs) f
head_there f fs = (0, omega arith, refl)

tail_there : (f g : NameFault) (fs : List NameFault) → Contains fs g → Contains (f ∷ fs) g
tail_there f g fs c = Contains-append_right (f ∷ []) fs g c

-- a member of a list is its first item or one of the others
by_place : (f g : NameFault) (fs : List NameFault) → Contains (f ∷ fs) g → (g ≡ f) ⊎ Contains fs g
by_place f g fs (zero, lt, is) = inl (sym is)
by_place f g fs (suc k, lt, is) = inr (k, omega arith, is)

-- what is kept of one further fault
kept_there : (kept : Option NameFault) (g f : NameFault) → earlier kept g ≡ some f → (kept ≡ some f) ⊎ (g ≡ f)
kept_there None g f e = inr (same_Some g f e)
kept_there (Some k) g f e = pick (comes_before g k) e
  where
    pick : (c : Bool) → (if c then Some g else Some k) ≡ some f → (some k ≡ some f) ⊎ (g ≡ f)
    pick true e = inr (same_Some g f e)
    pick false e = inl e

there : (kept : Option NameFault) (fs : List NameFault) (f : NameFault) → first_from kept fs ≡ some f →
    (kept ≡ some f) ⊎ Contains fs f
there kept [] f e = inl e
there kept (g ∷ fs) f e = elim (there (earlier kept g) fs f e) [
  | inl k ↦ elim (kept_there kept g f k) [ inl old ↦ inl old | inr new ↦ inr (subst (Contains (g ∷ fs)) new (head_there g fs)) ]
  | inr c ↦ inr (tail_there g f fs c)
]

-- what is no later than what is kept of a further fault is no later than both
both_least : (kept : Option NameFault) (g f : NameFault) → IsLeast f (earlier kept g) → IsLeast f kept ×
    (comes_before g f ≡ false)
both_least None g f l = (λ k e. absurd (cc e), l g refl)
both_least (Some h) g f l = pick (comes_before g h) refl l
  where
    pick : (c : Bool) → comes_before g h ≡ c → IsLeast f (if c then Some g else Some h) → IsLeast f (Some h) ×
        (comes_before g f ≡ false)
    pick true is l = (
      λ k e. subst (λ z. comes_before z f ≡ false) (same_Some h k e)
          (after_first (place g) (number g) (place h) (number h) (place f) (number f) is (l g refl)),
      l g refl,
    )
    pick false is l = (l, not_before (place g) (number g) (place h) (number h) (place f) (number f) is (l h refl))

least : (kept : Option NameFault) (fs : List NameFault) (f : NameFault) → first_from kept fs ≡ some f → IsLeast f kept ×
    ((g : NameFault) → Contains fs g → comes_before g f ≡ false)
least kept [] f e = (
  λ k is. subst (λ z. comes_before z f ≡ false) (same_Some f k (sym e ∙ is)) (not_itself (place f) (number f)),
  λ g c. absurd (contains_none g c),
)
least kept (h ∷ fs) f e =
    let rest = least (earlier kept h) fs f e in
    let here = both_least kept h f rest.0 in (
      here.0,
      λ g c. elim (by_place h g fs c) [
        | inl is ↦ subst
            (λ z. comes_before z f ≡ false) (sym is) here.1
        | inr c ↦ rest.1 g c
      ],
    )

-- what is kept stays something
some_stays : (k : NameFault) (fs : List NameFault) → first_from (Some k) fs ≡ none → ⊥
some_stays k [] e = absurd (cc e)
some_stays k (f ∷ fs) e = pick (comes_before f k) (λ h. some_stays h fs) e
  where
    pick : (c : Bool) → ((h : NameFault) → first_from (Some h) fs ≡ none → ⊥) →
        first_from (if c then Some f else Some k) fs ≡ none → ⊥
    pick true stays e = stays f e
    pick false stays e = stays k e

-- there is no first fault where there is none
pub no_first : (fs : List NameFault) → first_fault fs ≡ none → fs ≡ []
no_first [] e = refl
no_first (f ∷ fs) e = absurd (some_stays f fs e)

pub first_fault_law : FirstFaultLaw
first_fault_law = record {
  first = λ fs f e. record {
    there = elim (there none fs f e) [ inl n ↦ absurd (cc n) | inr c ↦ c ];
    least =
        (least none fs f e).1;
  };
  none = λ fs. (no_first fs, λ e. subst (λ z. first_fault z ≡ none) (sym e) refl);
}
