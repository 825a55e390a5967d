-- Entering the variables of an arm, one after the other.
use Rattle.std.proofs.Common.{◌≡◌, ◌∙◌, ◌+◌, ◌<◌, ℕ, zero, suc, List, [], ◌∷◌, Some, drop, get_or, inl, inr, length, slice_get, refl, sym, ap, subst, arith}
use Rattle.std.proofs.lemmas.List.{drop_all, drop_more}
use Rattle.std.proofs.lemmas.Option.{same_Some}
use Rattle.fst_types.specs.Tree.{Tree}
use Rattle.fst_types.specs.declared.kind.Kind.{Kind}
use Rattle.fst_types.specs.declared.kind.Use.{Use}
use Rattle.fst_terms.specs.declared.binder.Binder.{Binder}
use Rattle.fst_context.specs.Scope.{Scope, Variable, entered}
use Rattle.fst_derivations.specs.Modules.{IsFormedAt}
use Rattle.fst_derivations.specs.Parts.{AreAt, AreVariables, HasUse}
use Rattle.fst_premises.specs.Scenes.{AreFormed}
use Rattle.fst_premises.specs.Shown.{IsLargeBinder, IsTooLargeAt}
use Rattle.fst_premises.specs.Scopes.{entered_all}
use Rattle.fst_premises.specs.Checks.{Check, IsInSize, AreInSize}
use Rattle.fst_premises.specs.declared.fault.CheckFault.{CheckFault}
use Rattle.fst_premises.proofs.Numbers.{at_number, numbers_long}

formed_from : (vars : List Kind) (ts : List Tree) (i : ℕ) → AreFormed vars ts → AreFormed vars (drop i ts)
formed_from vars ts zero h = h
formed_from vars [] (suc i) h = h
formed_from vars (t ∷ ts) (suc i) h = formed_from vars ts i h.1

-- the type with a number is formed where all are
pub formed_at : (vars : List Kind) (types : List Tree) (ks : List ℕ) (ts : List Tree) (i d : ℕ) → AreAt types ks ts →
    AreFormed vars ts → i < length ks → IsFormedAt types vars (get_or ks i d)
formed_at vars types ks ts i d a h l = let r = at_number types ks ts i d a l in
    (r.0, r.1, (subst (AreFormed vars) r.2 (formed_from vars ts i h)).0)

module _ (c : Check) where
  abbrev V : List Kind
  V = c.surroundings.vars

  abbrev T : List Tree
  T = c.surroundings.types

  -- all variables are entered, where the others are behind the first i
  pub record AllEntered (xs : List Binder) (ts : List Tree) (ys : List Binder) (ws : List Variable)
      (before now : Scope) : Type 0 where
    pub variables : List Variable
    pub types : AreVariables V ts variables
    pub small : AreInSize ts
    pub long : length xs ≡ length variables
    pub same : entered_all xs variables before ≡ entered_all ys ws now

  pub record EnteredSoFar (xs : List Binder) (ks : List ℕ) (i : ℕ) (before now : Scope) : Type 0 where
    pub entered : (ts : List Tree) → AreAt T ks ts →
        (ws : List Variable) → AreVariables V (drop i ts) ws → AreInSize (drop i ts) → length (drop i xs) ≡ length ws →
        AllEntered xs ts (drop i xs) ws before now
    pub large : (ts : List Tree) → AreAt T ks ts →
        (f : CheckFault) → IsLargeBinder (drop i xs) (drop i ts) f → IsLargeBinder xs ts f

  pub entered_start : (xs : List Binder) (ks : List ℕ) (s : Scope) → EnteredSoFar xs ks 0 s s
  entered_start xs ks s = record {
    entered = λ ts a ws v m l.
        record { variables = ws; types = v; small = m; long = l; same = refl };
    large = λ ts a f h. h;
  }

  -- the types behind the i-th
  front : (xs : List Binder) (ks : List ℕ) (i : ℕ) (t : Tree) (ts : List Tree) → AreAt T ks ts → i < length ks →
      slice_get T (get_or ks i 0) ≡ Some t → drop i ts ≡ t ∷ drop (i + 1) ts
  front xs ks i t ts a m w = let r = at_number T ks ts i 0 a m in r.2 ∙ ap
      (λ y. y ∷ drop (i + 1) ts) (same_Some r.0 t (sym r.1 ∙ w))

  pub entered_step : (xs : List Binder) (ks : List ℕ) (i : ℕ) (x : Binder) (t p : Tree) (n : Use) (before now next : Scope) →
      EnteredSoFar xs ks i before now → i < length xs → i < length ks → get_or xs i x ≡ x →
      slice_get T (get_or ks i 0) ≡ Some t → IsInSize t → p ≡ t → HasUse V p n →
      next ≡ entered x.name (record { type = p; uses = n }) now → EnteredSoFar xs ks (i + 1) before next
  entered_step xs ks i x t p n before now next h l m at w small q u g =
      let head : drop i xs ≡ x ∷ drop (i + 1) xs = drop_more xs i x l ∙ ap (λ y. y ∷ drop (i + 1) xs) at in
      let v : Variable = record { type = p; uses = n } in
      record {
        entered = λ ts a ws vs o k.
            let all = h.entered ts a (v ∷ ws) (subst (λ us. AreVariables V us (v ∷ ws)) (sym (front xs ks i t ts a m w))
            (q, subst (λ o. HasUse V o n) q u, vs)) (subst AreInSize (sym (front xs ks i t ts a m w)) (small, o))
            (ap (λ (ys : List Binder). length ys) head ∙ ap suc k) in
            record {
              variables = all.variables;
              types = all.types;
              small = all.small;
              long = all.long;
              same = all.same ∙ ap (λ ys. entered_all ys (v ∷ ws) now) head ∙ ap (entered_all (drop (i + 1) xs) ws) (sym g);
            };
        large = λ ts a f o. h.large ts a f (subst (λ ys. IsLargeBinder ys (drop i ts) f) (sym head)
            (subst (λ us. IsLargeBinder (x ∷ drop (i + 1) xs) us f) (sym (front xs ks i t ts a m w))
            (inr ((λ h. absurd (omega (arith, h, small))), o))));
      }

  -- the type of the next one is over its size
  pub entered_large : (xs : List Binder) (ks : List ℕ) (i : ℕ) (x : Binder) (t : Tree) (before now : Scope) (ts : List Tree)
      (f : CheckFault) → EnteredSoFar xs ks i before now → i < length xs → i < length ks → get_or xs i x ≡ x →
      slice_get T (get_or ks i 0) ≡ Some t → AreAt T ks ts → IsTooLargeAt x.at t f → IsLargeBinder xs ts f
  entered_large xs ks i x t before now ts f h l m at w a o =
      let head : drop i xs ≡ x ∷ drop (i + 1) xs = drop_more xs i x l ∙ ap (λ y. y ∷ drop (i + 1) xs) at in
      h.large ts a f (subst (λ ys. IsLargeBinder ys (drop i ts) f) (sym head)
      (subst (λ us. IsLargeBinder (x ∷ drop (i + 1) xs) us f) (sym (front xs ks i t ts a m w)) (inl o)))

  pub entered_end : (xs : List Binder) (ks : List ℕ) (before now : Scope) → EnteredSoFar xs ks (length xs) before now →
      length xs ≡ length ks → (ts : List Tree) → AreAt T ks ts →
      (vs : List Variable) × AreVariables V ts vs × AreInSize ts × (length xs ≡ length vs) × (now ≡ entered_all xs vs before)
  entered_end xs ks before now h e ts a =
      let none : drop (length xs) xs ≡ [] = drop_all (length xs) xs (omega arith) in
      let gone : drop (length xs) ts ≡ [] = drop_all (length xs) ts (omega (arith, e, numbers_long T ks ts a)) in
      let all = h.entered ts a [] (subst (λ us. AreVariables V us []) (sym gone) tt) (subst AreInSize (sym gone) tt)
      (ap (λ (ys : List Binder). length ys) none) in
      (all.variables, all.types, all.small, all.long, sym (all.same ∙ ap (λ ys. entered_all ys [] now) none))
