-- A term without faults is in range once it has numbers in place of names.
use Rattle.std.proofs.Common.{◌≡◌, ◌∙◌, ℕ, suc, ◌+◌, ◌≤◌, ◌<◌, List, [], ◌∷◌, ◌++◌, length, Bool, true, false, Option, Some, None, refl, sym, ap, subst, arith}
use Rattle.std.specs.Prelude.{reverse, slice_get, ◌==◌, if◌then◌else◌}
use Rattle.std.proofs.lemmas.List.{length-append, length-reverse, length-map}
use Rattle.fst_base.proofs.Bools.{same_number}
use Rattle.fst_types.specs.WrittenTree.{WrittenTree}
use Rattle.fst_types.specs.declared.family.Family.{Family}
use Rattle.fst_terms.specs.declared.binder.Binder.{Binder}
use Rattle.fst_terms.specs.Filled.{HasArm, BindOne, IsFilled, AreFilled, HaveArmsFilled}
use Rattle.fst_terms.specs.InRange as core
use Rattle.fst_terms.specs.InRange.{maker_named, maker_of, HasFields, AreNumbersBelow, HasCoreArm, Bounds, IsInRange, AreInRange, AreCasesInRange, AreMatchesInRange}
use Rattle.fst_terms.specs.Naming.{place_of, or_else, is_there}
use Rattle.fst_terms.specs.TermTree.{TermTree, named, int, bool, char, unit, pair, make, lambda, apply, let_in, split, if_else, case_of, operate, negate, new, send, receive, close, wait, select, match_with, fork, seq, TermList, no_terms, term, TermArms, no_arms, arm}
use Rattle.fst_scopes.specs.declared.fault.NameFault.TheVariants.{Arity}
use Rattle.fst_scopes.specs.Faults.{is_among, unless_there, type_faults}
use Rattle.fst_scopes.specs.Twice.{names}
use Rattle.fst_scopes.proofs.Laws.{none_named, place_within}
use Rattle.fst_term_faults.specs.TermFaults.{Surroundings, types_faults, name_faults, maker_faults, terms_length, within, term_faults, terms_faults, cases_faults, matches_faults}
use Rattle.fst_term_names.specs.CoreTerms.{Numbers, from, number, name_term, maker_term, core_term, core_terms, core_arms}
use Rattle.fst_term_names.specs.TermTypes.{TypeUse, with_variables, written_in, written_in_all, written_in_arms}

-- what is in scope has numbers: each global has one, and each constructor has those of its data type and its own there, which
-- has as many fields, and is the first of its name
pub record Fits (s : Surroundings) (ns : Numbers) (families : List Family) : Type 0 where
  pub globals : (x : List ℕ) → is_among s.globals x ≡ true → is_among ns.globals x ≡ true
  pub makers : (x : List ℕ) (n : ℕ) → s.makers x ≡ Some n → (f : ℕ) × (k : ℕ) × (ns.makers x ≡ Some (f, k)) ×
      HasFields (maker_of (slice_get families f) k) n × HasFields (maker_named x (core.makers families)) n

-- what the numbers in a term may stand for
abbrev pub bounds_of : Numbers → List Family → ℕ → Bounds
bounds_of ns families types = record { families = families; globals = length ns.globals; types = types }

-- how many names are in scope behind some binders
pub long_within : (bs : List Binder) (xs : List (List ℕ)) → length (within bs xs) ≡ length bs + length xs
long_within bs xs = length-append (reverse (names bs)) xs ∙ ap
    (λ n. n + length xs) (length-reverse (names bs) ∙ length-map bs (λ (b : Binder). b.name))

-- as many numbers as types
pub from_long : (n : ℕ) (ts : List WrittenTree) → length (from n ts) ≡ length ts
from_long n [] = refl
from_long n (t ∷ ts) = ap suc (from_long (suc n) ts)

-- numbers from one on are below what the last of them is below
pub from_below : (top n : ℕ) (ts : List WrittenTree) → n + length ts ≤ top → AreNumbersBelow top (from n ts)
from_below top n [] low = tt
from_below top n (t ∷ ts) low = (omega arith, from_below top (suc n) ts (omega arith))

-- the first types, and those behind them
left_low : (n top : ℕ) (us vs : List TypeUse) → n + length (us ++ vs) ≤ top → n + length us ≤ top
left_low n top us vs low = let long = length-append us vs in omega (arith, low, long)

right_low : (n top : ℕ) (us vs : List TypeUse) → n + length (us ++ vs) ≤ top → n + length us + length vs ≤ top
right_low n top us vs low = let long = length-append us vs in omega (arith, low, long)

-- a name that is among others has a place there
among_place : (xs : List (List ℕ)) (x : List ℕ) → is_among xs x ≡ true → number (place_of xs x) < length xs
among_place xs x e = pick (place_of xs x) refl e
  where
    pick : (o : Option ℕ) → place_of xs x ≡ o → is_there o ≡ true → number o < length xs
    pick (Some k) is h = place_within xs x k is
    pick None is h = absurd (cc h)

-- a name that is no fault is there
is_found : {A : Type 0} (at : ℕ) (x : List ℕ) (o : Option A) → unless_there at x o ≡ [] → is_there o ≡ true
is_found at x (Some a) e = refl
is_found at x None e = absurd (cc e)

-- a constructor that is no fault has as many parts as fields
maker_found : (at : ℕ) (x : List ℕ) (got : ℕ) (o : Option ℕ) → maker_faults at x got o ≡ [] → o ≡ Some got
maker_found at x got None e = absurd (cc e)
maker_found at x got (Some wanted) e = pick (got == wanted) refl e
  where
    pick : (c : Bool) → (got == wanted) ≡ c → (if c then [] else Arity at got wanted ∷ []) ≡ [] → Some wanted ≡ Some got
    pick true is h = ap Some (sym (same_number got wanted is))
    pick false is h = absurd (cc h)

-- as many terms with numbers as with names
cores_long : (ns : Numbers) (xs : List (List ℕ)) (n : ℕ) (ts : TermList) →
    core.terms_length (core_terms ns xs n ts) ≡ terms_length ts
cores_long ns xs n no_terms = refl
cores_long ns xs n (term t ts) = ap suc (cores_long ns xs (n + length (written_in t)) ts)

-- there is an arm with numbers where there is one with names
core_arm_there : (ns : Numbers) (xs : List (List ℕ)) (n : ℕ) (bs : TermArms) → HasArm bs → HasCoreArm (core_arms ns xs n bs)
core_arm_there ns xs n no_arms h = h
core_arm_there ns xs n (arm l bs t arms) h = tt

module _ (s : Surroundings) (ns : Numbers) (families : List Family) (fits : Fits s ns families) (types : ℕ) where
  name_in_range : (xs : List (List ℕ)) (n at : ℕ) (x : List ℕ) (ts : List WrittenTree) → name_faults xs s.globals at x ts ≡ [] →
      n + length ts ≤ types →
      IsInRange (bounds_of ns families types) (length xs) (name_term ns n at x ts (place_of xs x))
  name_in_range xs n at x [] e low = pick (place_of xs x) refl e
    where
      pick : (o : Option ℕ) → place_of xs x ≡ o → unless_there at x (or_else o (place_of s.globals x)) ≡ [] →
          IsInRange (bounds_of ns families types) (length xs) (name_term ns n at x [] o)
      pick (Some k) is h = place_within xs x k is
      pick None is h = (among_place ns.globals x (fits.globals x (is_found at x (place_of s.globals x) h)), tt)
  name_in_range xs n at x (t ∷ ts) e low =
      (among_place ns.globals x (fits.globals x (is_found at x (place_of s.globals x) e)), from_below types n (t ∷ ts) low)

  -- a constructor with its arguments
  maker_in_range : (xs : List (List ℕ)) (n at : ℕ) (x : List ℕ) (ts : TermList) →
      maker_faults at x (terms_length ts) (s.makers x) ≡ [] →
      AreInRange (bounds_of ns families types) (length xs) (core_terms ns xs n ts) →
      IsInRange (bounds_of ns families types) (length xs) (maker_term at (core_terms ns xs n ts) (ns.makers x))
  maker_in_range xs n at x ts e all =
      let found = fits.makers x (terms_length ts) (maker_found at x (terms_length ts) (s.makers x) e) in
      subst (λ o. IsInRange (bounds_of ns families types) (length xs) (maker_term at (core_terms ns xs n ts) o)) (sym found.2)
      (subst (HasFields (maker_of (slice_get families found.0) found.1)) (sym (cores_long ns xs n ts)) found.3, all)

  -- a term under further binders
  under : (bs : List Binder) (xs : List (List ℕ)) (n : ℕ) (t : TermTree) →
      IsInRange (bounds_of ns families types) (length (within bs xs)) (core_term ns (within bs xs) n t) →
      IsInRange (bounds_of ns families types) (length bs + length xs) (core_term ns (within bs xs) n t)
  under bs xs n t h = subst (λ m. IsInRange (bounds_of ns families types) m (core_term ns (within bs xs) n t))
      (long_within bs xs) h

  mutual
    -- a term without faults is in range
    pub in_range : (xs : List (List ℕ)) (n : ℕ) (t : TermTree) → term_faults s xs t ≡ [] → IsFilled t →
        n + length (written_in t) ≤ types →
        IsInRange (bounds_of ns families types) (length xs) (core_term ns xs n t)
    in_range xs n (named at x ts) e filled low =
        let two = none_named (name_faults xs s.globals at x ts) (types_faults s.types ts) e in
        let long = length-map ts with_variables in
        name_in_range xs n at x ts two.0 (omega (arith, low, long))
    in_range xs n (int at i) e filled low = tt
    in_range xs n (bool at b) e filled low = tt
    in_range xs n (char at c) e filled low = tt
    in_range xs n (unit at) e filled low = tt
    in_range xs n (pair at t u) e filled low =
        let two = none_named (term_faults s xs t) (term_faults s xs u) e in (
          in_range xs n t two.0 filled.0 (left_low n types (written_in t) (written_in u) low),
          in_range xs (n + length (written_in t)) u two.1 filled.1 (right_low n types (written_in t) (written_in u) low),
        )
    in_range xs n (make at x ts) e filled low =
        let two = none_named (maker_faults at x (terms_length ts) (s.makers x)) (terms_faults s xs ts) e in
        maker_in_range xs n at x ts two.0 (all_in_range xs n ts two.1 filled low)
    in_range xs n (lambda at u a x t) e filled low =
        let two = none_named (type_faults s.types a) (term_faults s (x.name ∷ xs) t) e in
        (omega (arith, low), in_range (x.name ∷ xs) (suc n) t two.1 filled.1 (omega (arith, low)))
    in_range xs n (apply at t u) e filled low =
        let two = none_named (term_faults s xs t) (term_faults s xs u) e in (
          in_range xs n t two.0 filled.0 (left_low n types (written_in t) (written_in u) low),
          in_range xs (n + length (written_in t)) u two.1 filled.1 (right_low n types (written_in t) (written_in u) low),
        )
    in_range xs n (let_in at x t u) e filled low =
        let two = none_named (term_faults s xs t) (term_faults s (x.name ∷ xs) u) e in (
          in_range xs n t two.0 filled.0 (left_low n types (written_in t) (written_in u) low),
          in_range (x.name ∷ xs) (n + length (written_in t)) u two.1 filled.1
              (right_low n types (written_in t) (written_in u) low),
        )
    in_range xs n (split at x y t u) e filled low =
        let two = none_named (term_faults s xs t) (term_faults s (y.name ∷ x.name ∷ xs) u) e in (
          in_range xs n t two.0 filled.0 (left_low n types (written_in t) (written_in u) low),
          in_range (y.name ∷ x.name ∷ xs) (n + length (written_in t)) u two.1 filled.1
              (right_low n types (written_in t) (written_in u) low),
        )
    in_range xs n (if_else at t u v) e filled low =
        let one = none_named (term_faults s xs t) (term_faults s xs u ++ term_faults s xs v) e in
        let two = none_named (term_faults s xs u) (term_faults s xs v) one.1 in
        let rest = right_low n types (written_in t) (written_in u ++ written_in v) low in (
          in_range xs n t one.0 filled.0 (left_low n types (written_in t) (written_in u ++ written_in v) low),
          in_range xs (n + length (written_in t)) u two.0 filled.1
              (left_low (n + length (written_in t)) types (written_in u) (written_in v) rest),
          in_range xs (n + length (written_in t) + length (written_in u)) v two.1 filled.2
              (right_low (n + length (written_in t)) types (written_in u) (written_in v) rest),
        )
    in_range xs n (case_of at t bs) e filled low =
        let two = none_named (term_faults s xs t) (cases_faults s xs bs) e in (
          core_arm_there ns xs (n + length (written_in t)) bs filled.0,
          in_range xs n t two.0 filled.1 (left_low n types (written_in t) (written_in_arms bs) low),
          cases_in_range xs (n + length (written_in t)) bs two.1 filled.2
              (right_low n types (written_in t) (written_in_arms bs) low),
        )
    in_range xs n (operate at o t u) e filled low =
        let two = none_named (term_faults s xs t) (term_faults s xs u) e in (
          in_range xs n t two.0 filled.0 (left_low n types (written_in t) (written_in u) low),
          in_range xs (n + length (written_in t)) u two.1 filled.1 (right_low n types (written_in t) (written_in u) low),
        )
    in_range xs n (negate at t) e filled low = in_range xs n t e filled low
    in_range xs n (new at a) e filled low = omega (arith, low)
    in_range xs n (send at t u) e filled low =
        let two = none_named (term_faults s xs t) (term_faults s xs u) e in (
          in_range xs n t two.0 filled.0 (left_low n types (written_in t) (written_in u) low),
          in_range xs (n + length (written_in t)) u two.1 filled.1 (right_low n types (written_in t) (written_in u) low),
        )
    in_range xs n (receive at t) e filled low = in_range xs n t e filled low
    in_range xs n (close at t) e filled low = in_range xs n t e filled low
    in_range xs n (wait at t) e filled low = in_range xs n t e filled low
    in_range xs n (select at l t) e filled low = in_range xs n t e filled low
    in_range xs n (match_with at t bs) e filled low =
        let two = none_named (term_faults s xs t) (matches_faults s xs bs) e in (
          core_arm_there ns xs (n + length (written_in t)) bs filled.0,
          in_range xs n t two.0 filled.2 (left_low n types (written_in t) (written_in_arms bs) low),
          matches_in_range xs (n + length (written_in t)) bs two.1 filled.1 filled.3
              (right_low n types (written_in t) (written_in_arms bs) low),
        )
    in_range xs n (fork at t) e filled low = in_range xs n t e filled low
    in_range xs n (seq at t u) e filled low =
        let two = none_named (term_faults s xs t) (term_faults s xs u) e in (
          in_range xs n t two.0 filled.0 (left_low n types (written_in t) (written_in u) low),
          in_range xs (n + length (written_in t)) u two.1 filled.1 (right_low n types (written_in t) (written_in u) low),
        )

    all_in_range : (xs : List (List ℕ)) (n : ℕ) (ts : TermList) → terms_faults s xs ts ≡ [] → AreFilled ts →
        n + length (written_in_all ts) ≤ types →
        AreInRange (bounds_of ns families types) (length xs) (core_terms ns xs n ts)
    all_in_range xs n no_terms e filled low = tt
    all_in_range xs n (term t ts) e filled low =
        let two = none_named (term_faults s xs t) (terms_faults s xs ts) e in (
          in_range xs n t two.0 filled.0 (left_low n types (written_in t) (written_in_all ts) low),
          all_in_range xs (n + length (written_in t)) ts two.1 filled.1
              (right_low n types (written_in t) (written_in_all ts) low),
        )

    cases_in_range : (xs : List (List ℕ)) (n : ℕ) (bs : TermArms) → cases_faults s xs bs ≡ [] → HaveArmsFilled bs →
        n + length (written_in_arms bs) ≤ types →
        AreCasesInRange (bounds_of ns families types) (length xs) (core_arms ns xs n bs)
    cases_in_range xs n no_arms e filled low = tt
    cases_in_range xs n (arm l bs t arms) e filled low =
        let one = none_named (maker_faults l.at l.name (length bs) (s.makers l.name))
        (term_faults s (within bs xs) t ++ cases_faults s xs arms) e in
        let two = none_named (term_faults s (within bs xs) t) (cases_faults s xs arms) one.1 in
        let found = fits.makers l.name (length bs) (maker_found l.at l.name (length bs) (s.makers l.name) one.0) in (
          found.4,
          under bs xs n t (in_range (within bs xs) n t two.0 filled.0
              (left_low n types (written_in t) (written_in_arms arms) low)),
          cases_in_range xs (n + length (written_in t)) arms two.1 filled.1
              (right_low n types (written_in t) (written_in_arms arms) low),
        )

    matches_in_range : (xs : List (List ℕ)) (n : ℕ) (bs : TermArms) → matches_faults s xs bs ≡ [] → BindOne bs →
        HaveArmsFilled bs → n + length (written_in_arms bs) ≤ types →
        AreMatchesInRange (bounds_of ns families types) (length xs) (core_arms ns xs n bs)
    matches_in_range xs n no_arms e one filled low = tt
    matches_in_range xs n (arm l bs t arms) e one filled low =
        let two = none_named (term_faults s (within bs xs) t) (matches_faults s xs arms) e in
        let is = one.0 in (
          is,
          subst (λ m. IsInRange (bounds_of ns families types) m (core_term ns (within bs xs) n t)) (omega (arith, is))
              (under bs xs n t (in_range (within bs xs) n t two.0 filled.0
              (left_low n types (written_in t) (written_in_arms arms) low))),
          matches_in_range xs (n + length (written_in t)) arms two.1 one.1 filled.1
              (right_low n types (written_in t) (written_in_arms arms) low),
        )
