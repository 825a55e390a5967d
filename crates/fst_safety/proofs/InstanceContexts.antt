-- Instances of contexts, and the linear variables of parts in them.
use Rattle.std.proofs.Common.{◌≡◌, ◌∙◌, ◌+◌, ℕ, zero, suc, Bool, true, false, ◌&&◌, List, [], ◌∷◌, Some, length, map, slice_get, refl, sym, ap, subst, arith}
use Rattle.std.specs.Prelude.{⊤}
use Rattle.std.proofs.lemmas.Bool.{and_parts}
use Rattle.fst_types.specs.Tree.{Tree}
use Rattle.fst_types.specs.Instance.{instantiated}
use Rattle.fst_types.specs.declared.kind.Kind.{Kind}
use Rattle.fst_types.specs.declared.kind.Use.{Use}
use Rattle.fst_types.specs.declared.kind.Use.TheVariants.{Many, Once}
use Rattle.fst_kinds.specs.Kinds.{prekind_below, use_below}
use Rattle.fst_kinds.specs.WellFormed.{IsInstantiation}
use Rattle.fst_kinds.proofs.Laws.{instantiated_well_formed}
use Rattle.fst_context.specs.Scope.{Variable, is_once}
use Rattle.fst_context.specs.Vars.{Vars, no_vars, under, IsSplit}
use Rattle.fst_derivations.specs.Parts.{HasUse, AreVariables, enter_all, under_all}
use Rattle.fst_safety.specs.Running.{Apart, Alike, Plentiful, Spends, SpendAll, IsVariable}
use Rattle.fst_safety.proofs.Sets.{IsSetOf}

-- the closed instance of a type of this use: it is linear only where the type is
pub record HasInstance (args : List Tree) (t : Tree) (n : Use) : Type 0 where
  pub uses : Use
  pub variable : HasUse [] (instantiated args t) uses
  pub falls : is_once uses ≡ true → is_once n ≡ true

-- w has the instance of v's type, and is linear only where v is
pub record IsOneOf (args : List Tree) (v w : Variable) : Type 0 where
  pub type : w.type ≡ instantiated args v.type
  pub variable : IsVariable w
  pub falls : is_once w.uses ≡ true → is_once v.uses ≡ true

-- so it is place by place
abbrev pub IsInstanceOf : List Tree → List Variable → List Variable → Type 0
IsInstanceOf args [] [] = ⊤
IsInstanceOf args [] (w ∷ h) = ⊥
IsInstanceOf args (v ∷ g) [] = ⊥
IsInstanceOf args (v ∷ g) (w ∷ h) = IsOneOf args v w × IsInstanceOf args g h

-- ---- instances of variables

use_falls : (j n : Use) → use_below j n ≡ true → is_once j ≡ true → is_once n ≡ true
use_falls Many n e o = absurd (cc o)
use_falls Once Many e o = absurd (cc e)
use_falls Once Once e o = refl

-- a type that has a use has a closed instance
pub has_instance : (vars : List Kind) (args : List Tree) (t : Tree) (n : Use) → IsInstantiation [] vars args → HasUse vars t n →
    HasInstance args t n
has_instance vars args t n i w =
    let r = instantiated_well_formed [] vars args t w.kind i w.formed in
    record {
      uses = r.kind.uses;
      variable = record { kind = r.kind; formed = r.well_formed; is = refl };
      falls = λ o. ap is_once (sym w.is) ∙ use_falls r.kind.uses w.kind.uses
          (and_parts (prekind_below r.kind.prekind w.kind.prekind) (use_below r.kind.uses w.kind.uses) r.below).1 o;
    }

-- a type whose values may be used often has such an instance
pub many_in : (vars : List Kind) (args : List Tree) (t : Tree) → IsInstantiation [] vars args → HasUse vars t Many →
    HasUse [] (instantiated args t) Many
many_in vars args t i w = let r = has_instance vars args t Many i w in pick r.uses r.falls r.variable
  where
    pick : (n : Use) → (is_once n ≡ true → is_once Many ≡ true) → HasUse [] (instantiated args t) n →
        HasUse [] (instantiated args t) Many
    pick Many f h = h
    pick Once f h = absurd (cc (f refl))

-- the closed instance of a variable
pub variable_in : (args : List Tree) (t : Tree) (n : Use) (r : HasInstance args t n) →
    IsOneOf args (record { type = t; uses = n }) (record { type = instantiated args t; uses = r.uses })
variable_in args t n r = record { type = refl; variable = r.variable; falls = r.falls }

-- variables of these types have closed instances
pub variables_in : (vars : List Kind) (args : List Tree) → IsInstantiation [] vars args →
    (ts : List Tree) (vs : List Variable) → AreVariables vars ts vs →
    (ws : List Variable) × AreVariables [] (map (instantiated args) ts) ws × IsInstanceOf args vs ws
variables_in vars args i [] [] x = ([], tt, tt)
variables_in vars args i [] (v ∷ vs) x = absurd x
variables_in vars args i (t ∷ ts) [] x = absurd x
variables_in vars args i (t ∷ ts) (v ∷ vs) x =
    let r = has_instance vars args t v.uses i x.1 in
    let more = variables_in vars args i ts vs x.2 in (
      record { type = instantiated args t; uses = r.uses } ∷ more.0,
      (refl, r.variable, more.1),
      (record { type = ap (instantiated args) (sym x.0); variable = r.variable; falls = r.falls }, more.2),
    )

-- ---- places in an instance of a context

-- what stands in the instance for a variable of the context
pub found_in : (args : List Tree) (g h : List Variable) → IsInstanceOf args g h →
    (k : ℕ) (v : Variable) → slice_get g k ≡ Some v → (w : Variable) × (slice_get h k ≡ Some w) × IsOneOf args v w
found_in args [] h q k v e = absurd (cc e)
found_in args (a ∷ g) [] q k v e = absurd q
found_in args (a ∷ g) (b ∷ h) q zero v e = let same : a ≡ v = cc in (b, refl, subst (λ z. IsOneOf args z b) same q.0)
found_in args (a ∷ g) (b ∷ h) q (suc k) v e = found_in args g h q.1 k v e

-- what a variable of the instance stands for
found_of : (args : List Tree) (g h : List Variable) → IsInstanceOf args g h → (k : ℕ) (w : Variable) → slice_get h k ≡ Some w →
    (v : Variable) × (slice_get g k ≡ Some v) × IsOneOf args v w
found_of args g [] q k w e = absurd (cc e)
found_of args [] (b ∷ h) q k w e = absurd q
found_of args (a ∷ g) (b ∷ h) q zero w e = let same : b ≡ w = cc in (a, refl, subst (λ z. IsOneOf args a z) same q.0)
found_of args (a ∷ g) (b ∷ h) q (suc k) w e = found_of args g h q.1 k w e

-- variables entered in a context and in its instance
pub entered_in : (args : List Tree) (vs ws g h : List Variable) → IsInstanceOf args vs ws → IsInstanceOf args g h →
    IsInstanceOf args (enter_all vs g) (enter_all ws h)
entered_in args [] [] g h p q = q
entered_in args [] (w ∷ ws) g h p q = absurd p
entered_in args (v ∷ vs) [] g h p q = absurd p
entered_in args (v ∷ vs) (w ∷ ws) g h p q = entered_in args vs ws (v ∷ g) (w ∷ h) p.1 (p.0, q)

-- an instance has as many variables
pub same_length : (args : List Tree) (vs ws : List Variable) → IsInstanceOf args vs ws → length vs ≡ length ws
same_length args [] [] p = refl
same_length args [] (w ∷ ws) p = absurd p
same_length args (v ∷ vs) [] p = absurd p
same_length args (v ∷ vs) (w ∷ ws) p = ap suc (same_length args vs ws p.1)

-- ---- the linear variables of parts

and_true : (b c : Bool) → c ≡ true → (b && c) ≡ b
and_true true c e = e
and_true false c e = refl

-- a set of a context's linear variables has in an instance those that are linear there
pub alike_in : (args : List Tree) (g h : List Variable) (u : Vars) (p : ℕ → Bool) → IsInstanceOf args g h → IsSetOf g u p →
    Alike h u p
alike_in args g h u p q s k w x o =
    let f = found_of args g h q k w x in
    s k f.0 f.1 ∙ and_true (p k) (is_once (f.0).uses) (f.2.falls o)

-- parts of a split set have no linear variable in common
pub apart_in : (h : List Variable) (u l r : Vars) (p q : ℕ → Bool) → IsSplit u l r → Alike h l p → Alike h r q → Apart h p q
apart_in h u l r p q s f g k w x o = (λ i. sym (f k w x o) i && sym (g k w x o) i) ∙ s.apart k

-- parts with one set have the same linear variables
pub alike_of : (h : List Variable) (u : Vars) (p q : ℕ → Bool) → Alike h u p → Alike h u q → Alike h p q
alike_of h u p q f g k w x o = sym (f k w x o) ∙ g k w x o

-- a part whose set is empty has no linear variable
pub plentiful_in : (h : List Variable) (u : Vars) (p : ℕ → Bool) → u ≡ no_vars → Alike h u p → Plentiful h p
plentiful_in h u p e f k w x used = pick (is_once w.uses) refl
  where
    pick : (b : Bool) → is_once w.uses ≡ b → is_once w.uses ≡ false
    pick false is = is
    pick true is = let wrong : false ≡ true = ap (λ z. z k) (sym e) ∙ f k w x is ∙ used in absurd (cc wrong)

-- a variable that is in the set where it is linear is used
pub spends_in : (h : List Variable) (u : Vars) (p : ℕ → Bool) (k : ℕ) (w : Variable) → Alike h u p → slice_get h k ≡ Some w →
    (is_once w.uses ≡ true → u k ≡ true) → Spends w (p k)
spends_in h u p k w f x g o = sym (f k w x o) ∙ g o

-- the number of a variable beyond these
beyond : List Variable → ℕ → ℕ
beyond [] k = k
beyond (v ∷ vs) k = beyond vs (suc k)

beyond_length : (vs : List Variable) (k : ℕ) → beyond vs k ≡ length vs + k
unfolding beyond
beyond_length [] k = omega arith
beyond_length (v ∷ vs) k = let b = beyond_length vs (suc k) in omega (arith, b)

entered_beyond : (ws h : List Variable) (k : ℕ) → slice_get (enter_all ws h) (beyond ws k) ≡ slice_get h k
unfolding beyond
entered_beyond [] h k = refl
entered_beyond (w ∷ ws) h k = entered_beyond ws (w ∷ h) (suc k)

under_beyond : (vs : List Variable) (u : Vars) (k : ℕ) → under_all vs u (beyond vs k) ≡ u k
unfolding beyond
under_beyond [] u k = refl
under_beyond (v ∷ vs) u k = under_beyond vs (under (is_once v.uses) u) (suc k)

at_length : (vs : List Variable) → beyond vs zero ≡ length vs
at_length vs = let b = beyond_length vs zero in omega (arith, b)

-- each variable of an arm that is linear is used
pub spend_all_in : (args : List Tree) (vs ws h : List Variable) (u : Vars) (p : ℕ → Bool) → IsInstanceOf args vs ws →
    Alike (enter_all ws h) (under_all vs u) p → SpendAll ws p
spend_all_in args [] [] h u p q f = tt
spend_all_in args [] (w ∷ ws) h u p q f = absurd q
spend_all_in args (v ∷ vs) [] h u p q f = absurd q
spend_all_in args (v ∷ vs) (w ∷ ws) h u p q f =
    let there : slice_get (enter_all ws (w ∷ h)) (length ws) ≡ Some w = subst
    (λ z. slice_get (enter_all ws (w ∷ h)) z ≡ Some w) (at_length ws) (entered_beyond ws (w ∷ h) zero) in
    let long : beyond vs zero ≡ length ws = at_length vs ∙ same_length args vs ws q.1 in
    let held : under_all vs (under (is_once v.uses) u) (length ws) ≡ is_once v.uses = subst
    (λ z. under_all vs (under (is_once v.uses) u) z ≡ is_once v.uses) long
    (under_beyond vs (under (is_once v.uses) u) zero) in (
      spends_in (enter_all ws (w ∷ h)) (under_all vs (under (is_once v.uses) u)) p (length ws) w f there
          (λ o. held ∙ q.0.falls o),
      spend_all_in args vs ws (w ∷ h) (under (is_once v.uses) u) p q.1 f,
    )
