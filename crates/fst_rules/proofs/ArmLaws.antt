-- Variables that are entered and left one after the other.
use Rattle.std.proofs.Common.{◌≡◌, ◌∙◌, ◌+◌, ◌≤◌, ◌<◌, ℕ, zero, suc, Bool, true, false, List, [], ◌∷◌, length, slice_get, Option, Some, None, refl, ap, subst, arith, nat_eq, add-one}
use Rattle.std.specs.Prelude.{if◌then◌else◌}
use Rattle.std.proofs.lemmas.Option.{same_Some}
use Rattle.fst_base.proofs.Bools.{same_nat}
use Rattle.fst_types.specs.Tree.{Tree}
use Rattle.fst_types.specs.declared.kind.Kind.{Kind}
use Rattle.fst_terms.specs.CoreTree.{CoreTree}
use Rattle.fst_terms.specs.ModelCoreView.{core_arms_of, cores_of}
use Rattle.fst_terms.specs.declared.binder.Binder.{Binder}
use Rattle.fst_terms.specs.declared.core_term.Arm.{Arm}
use Rattle.fst_context.specs.Scope.{Scope, Variable, entered, tail}
use Rattle.fst_derivations.specs.Deriv.{deriv_of, parts_of, type_of}
use Rattle.fst_derivations.specs.declared.derivation.Derivation.{Derivation}
use Rattle.fst_derivations.specs.Rules.{Surroundings, Binding}
use Rattle.fst_fits.specs.Tests.{use_in, same_tree, is_type}
use Rattle.fst_rules.specs.Walks.{Walk, next, only, further, entered_all, closed, closed_all, further_walk, fields_walk, arm_walk, bound_types, whole, row_walk}

-- ---- entering

nothing : {A : Type 0} (o : Option A) (f : A → Option Scope) → ((x : A) → f x ≡ None) → next o f ≡ None
nothing None f h = refl
nothing (Some x) f h = h x

pub none_entered : (vars : List Kind) (xs : List Binder) (ts : List Tree) (s : Scope) →
    (length xs ≡ length ts → ⊥) → entered_all vars xs ts s ≡ None
none_entered vars [] [] s f = absurd (f refl)
none_entered vars [] (t ∷ ts) s f = refl
none_entered vars (x ∷ xs) [] s f = refl
none_entered vars (x ∷ xs) (t ∷ ts) s f =
    nothing (use_in vars t) (λ n. entered_all vars xs ts (entered x.name (record { type = t; uses = n }) s))
    (λ n. none_entered vars xs ts (entered x.name (record { type = t; uses = n }) s) (λ e. f (ap suc e)))

some_of : {A : Type 0} (o : Option A) (f : A → Option Scope) (r : Scope) → next o f ≡ Some r → (x : A) × (f x ≡ Some r)
some_of None f r h = absurd (cc h)
some_of (Some x) f r h = (x, h)

pub entered_long : (vars : List Kind) (xs : List Binder) (ts : List Tree) (s r : Scope) → entered_all vars xs ts s ≡ Some r →
    length xs + length s.variables ≡ length r.variables
entered_long vars [] [] s r h = let e = ap (λ z. length z.variables) (same_Some s r h) in omega (arith, e)
entered_long vars [] (t ∷ ts) s r h = absurd (cc h)
entered_long vars (x ∷ xs) [] s r h = absurd (cc h)
entered_long vars (x ∷ xs) (t ∷ ts) s r h =
    let n = some_of (use_in vars t) (λ n. entered_all vars xs ts (entered x.name (record { type = t; uses = n }) s)) r h in
    let e = entered_long vars xs ts (entered x.name (record { type = t; uses = n.0 }) s) r n.1 in
    omega (arith, e)

-- ---- leaving

number_less : (m n : ℕ) → nat_eq m (suc n) ≡ false → m ≤ suc n → m ≤ n
number_less m n h e = grind arith

closed_stops : (n i : ℕ) (s : Scope) → i ≤ n → closed_all i s ≡ None → closed_all n s ≡ None
closed_stops zero i s h e = let z : i ≡ 0 = omega arith in subst (λ k. closed_all k s ≡ None) z e
closed_stops (suc n) i s h e = pick (nat_eq i (suc n)) refl (closed_stops n i s)
  where
    pick : (b : Bool) → nat_eq i (suc n) ≡ b → (i ≤ n → closed_all i s ≡ None → closed_all n s ≡ None) →
        closed_all (suc n) s ≡ None
    pick true f go = subst (λ k. closed_all k s ≡ None) (same_nat i (suc n) f) e
    pick false f go = ap (λ o. next o closed) (go (number_less i n f h) e)

pub closed_none : (n i : ℕ) (s r : Scope) → closed_all i s ≡ Some r → closed r ≡ None → i < n → closed_all n s ≡ None
closed_none n i s r h e f = closed_stops n (i + 1) s (omega arith) (rw add-one (ap (λ o. next o closed) h ∙ e))

left_some : (b : Bool) (s r : Scope) → (if b then None else Some s) ≡ Some r → s ≡ r
left_some true s r h = absurd (cc h)
left_some false s r h = same_Some s r h

one_less : (vs : List Variable) → 0 < length vs → length vs ≡ suc (length (tail vs))
one_less [] h = absurd (omega arith)
one_less (v ∷ vs) h = refl

-- ---- as many derivations as arms and terms

tested : (b : Bool) (F : Walk) (r : Scope) → F r ≡ None → only b F r ≡ None
tested true F r h = h
tested false F r h = refl

module _ (m : Surroundings) (B : Binding) (t : Tree) (s : Scope) where
  one_wrong : (b : Arm) (bs : List Arm) (p : Derivation) (ps : List Derivation) (r : Scope) →
      ((q : Scope) → further_walk m B (core_arms_of bs) t (parts_of ps) s q ≡ None) →
      further_walk m B (core_arms_of (b ∷ bs)) t (parts_of (p ∷ ps)) s r ≡ None
  one_wrong b bs p ps r f =
      let F = λ (z : Scope). next (further (arm_walk m.vars (bound_types m B b.label) b.binders.items
      (whole m.vars (row_walk m b.body) (deriv_of p))) s z) (further_walk m B (core_arms_of bs) t (parts_of ps) s) in
      tested (same_tree (type_of (deriv_of p)) t) F r
      (nothing (further (arm_walk m.vars (bound_types m B b.label) b.binders.items
      (whole m.vars (row_walk m b.body) (deriv_of p))) s r) (further_walk m B (core_arms_of bs) t (parts_of ps) s) f)

  pub none_further : (bs : List Arm) (ps : List Derivation) (r : Scope) →
      (length bs ≡ length ps → ⊥) → further_walk m B (core_arms_of bs) t (parts_of ps) s r ≡ None
  none_further [] [] r f = absurd (f refl)
  none_further [] (p ∷ ps) r f = refl
  none_further (b ∷ bs) [] r f = refl
  none_further (b ∷ bs) (p ∷ ps) r f = one_wrong b bs p ps r (λ q. none_further bs ps q (λ e. f (ap suc e)))

module _ (m : Surroundings) where
  field_wrong : (e : CoreTree) (es : List CoreTree) (k : ℕ) (ks : List ℕ) (p : Derivation) (ps : List Derivation) (s : Scope) →
      ((q : Scope) → fields_walk m (cores_of es) ks (parts_of ps) q ≡ None) →
      fields_walk m (cores_of (e ∷ es)) (k ∷ ks) (parts_of (p ∷ ps)) s ≡ None
  field_wrong e es k ks p ps s f =
      let F = λ (z : Scope). next (whole m.vars (row_walk m e) (deriv_of p) z) (fields_walk m (cores_of es) ks (parts_of ps)) in
      tested (is_type (slice_get m.types k) (type_of (deriv_of p))) F s
      (nothing (whole m.vars (row_walk m e) (deriv_of p) s) (fields_walk m (cores_of es) ks (parts_of ps)) f)

  pub none_fields : (es : List CoreTree) (ks : List ℕ) (ps : List Derivation) (s : Scope) →
      (length es ≡ length ks → ⊥) → fields_walk m (cores_of es) ks (parts_of ps) s ≡ None
  none_fields [] [] ps s f = absurd (f refl)
  none_fields [] (k ∷ ks) ps s f = refl
  none_fields (e ∷ es) [] ps s f = refl
  none_fields (e ∷ es) (k ∷ ks) [] s f = refl
  none_fields (e ∷ es) (k ∷ ks) (p ∷ ps) s f = field_wrong e es k ks p ps s (λ q. none_fields es ks ps q (λ h. f (ap suc h)))

  pub none_parts : (es : List CoreTree) (ks : List ℕ) (ps : List Derivation) (s : Scope) →
      (length es ≡ length ps → ⊥) → fields_walk m (cores_of es) ks (parts_of ps) s ≡ None
  none_parts [] [] [] s f = absurd (f refl)
  none_parts [] [] (p ∷ ps) s f = refl
  none_parts [] (k ∷ ks) ps s f = refl
  none_parts (e ∷ es) [] ps s f = refl
  none_parts (e ∷ es) (k ∷ ks) [] s f = refl
  none_parts (e ∷ es) (k ∷ ks) (p ∷ ps) s f = field_wrong e es k ks p ps s (λ q. none_parts es ks ps q (λ h. f (ap suc h)))
