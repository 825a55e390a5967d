-- The row that arms make, one after the other.
use Rattle.std.proofs.Common.{◌≡◌, ◌∙◌, ◌+◌, ◌<◌, ◌≤◌, ℕ, List, [], ◌∷◌, ◌++◌, drop, get_or, length, inl, inr, refl, sym, ap, subst, arith}
use Rattle.std.proofs.lemmas.List.{drop_more}
use Rattle.fst_types.specs.Tree.{Tree}
use Rattle.fst_terms.specs.CoreTree.{no_arms, arm}
use Rattle.fst_terms.specs.ModelCoreView.{core_arms_of}
use Rattle.fst_terms.specs.declared.core_term.Arm.{Arm}
use Rattle.fst_context.specs.Scope.{Scope, Takes}
use Rattle.fst_derivations.specs.Deriv.{Deriv, convert, deriv_of, none, part, parts_of, row, type_of}
use Rattle.fst_derivations.specs.declared.derivation.Derivation.{Derivation}
use Rattle.fst_derivations.specs.Parts.{IsFormed, enter_all, under_all}
use Rattle.fst_derivations.specs.Rules.{Binding, FurtherArms}
use Rattle.fst_typing.specs.Scenes.{AreArmsReady, AreArmsTyped, IsArmReady, IsArmTyped, IsFirstTyped, ShowsArm}
use Rattle.fst_premises.specs.Shown.{UseDifferent, place}
use Rattle.fst_typing.specs.Shown.{IsUnequal, ShowsArms, ShowsFurther}
use Rattle.fst_premises.specs.Checks.{Check, IsInSize}
use Rattle.fst_typing.specs.Typed.{IsKnown, IsPlain, checking}
use Rattle.fst_premises.specs.declared.fault.CheckFault.{CheckFault}
use Rattle.fst_typing.proofs.Arms.{ArmsSoFar, arms_end, arms_start, arms_step}
use Rattle.fst_typing.proofs.Refusals.{behind_under, under_more}
use Rattle.fst_typing.proofs.Under.{takes_under}

module _ (c : Check) (B : Binding) where
  -- what is known when the arms before the i-th are checked, and their derivations stand behind that of what they look at
  pub record RowSoFar (arms : List Arm) (i : ℕ) (before after : Scope) (d : Deriv) (t : Tree)
      (parts : List Derivation) : Type 0 where
    pub first : Derivation
    pub others : List Derivation
    pub is : parts ≡ first ∷ others
    pub value : deriv_of first ≡ d
    pub formed : IsFormed c.surroundings.vars t
    pub small : IsInSize t
    pub ready : AreArmsReady c B (core_arms_of (drop i arms)) before.variables
    pub arms_so_far : ArmsSoFar c B arms i before after t others

  -- the i-th arm is ready
  pub arm_ready : (arms : List Arm) (i : ℕ) (a : Arm) (before : Scope) →
      AreArmsReady c B (core_arms_of (drop i arms)) before.variables → i < length arms → a ≡ get_or arms i a →
      IsArmReady c B a.label a.binders.items a.body before.variables
  arm_ready arms i a before h l e =
      (subst (λ xs. AreArmsReady c B (core_arms_of xs) before.variables)
      (drop_more arms i a l ∙ ap (λ x. x ∷ drop (i + 1) arms) (sym e)) h).0

  later_arms : (arms : List Arm) (i : ℕ) (a : Arm) (before : Scope) →
      AreArmsReady c B (core_arms_of (drop i arms)) before.variables → i < length arms → a ≡ get_or arms i a →
      AreArmsReady c B (core_arms_of (drop (i + 1) arms)) before.variables
  later_arms arms i a before h l e =
      (subst (λ xs. AreArmsReady c B (core_arms_of xs) before.variables)
      (drop_more arms i a l ∙ ap (λ x. x ∷ drop (i + 1) arms) (sym e)) h).1

  -- arms that begin with one
  split_first : (arms : List Arm) (a : Arm) → 0 < length arms → a ≡ get_or arms 0 a → arms ≡ a ∷ drop 1 arms
  split_first [] a l e = absurd (omega (arith, l))
  split_first (b ∷ arms) a l e = ap (λ x. x ∷ arms) (sym e)

  pub row_start : (arms : List Arm) (a : Arm) (value p : Derivation) (before after : Scope) (parts : List Derivation) (t : Tree) →
      0 < length arms → a ≡ get_or arms 0 a →
      AreArmsReady c B (core_arms_of arms) before.variables →
      IsArmTyped c B a.label a.binders.items before after a.body (deriv_of p) → t ≡ type_of (deriv_of p) →
      parts ≡ value ∷ p ∷ [] →
      RowSoFar arms 1 before after (deriv_of value) t parts
  row_start arms a value p before after parts t l e h y n q =
      let front = split_first arms a l e in
      record {
        first = value;
        others = p ∷ [];
        is = q;
        value = refl;
        formed = subst (IsFormed c.surroundings.vars) (sym n) y.typed.typed.fact.formed;
        small = subst IsInSize (sym n) y.typed.typed.fact.small;
        ready = later_arms arms 0 a before h l e;
        arms_so_far = subst (λ o. ArmsSoFar c B arms 1 before after o (p ∷ [])) (sym n)
            (subst (λ xs. ArmsSoFar c B xs 1 before after (type_of (deriv_of p)) (p ∷ [])) (sym front)
            (arms_start c B a (drop 1 arms) y.types (deriv_of p) p before after y.binds y.typed refl));
      }

  -- the first arm of a row
  pub row_begin : (arms : List Arm) (value p : Derivation) (before after : Scope) (parts : List Derivation) (t : Tree) →
      AreArmsReady c B (core_arms_of arms) before.variables →
      IsFirstTyped c B (core_arms_of arms) before after (deriv_of p) → t ≡ type_of (deriv_of p) → parts ≡ value ∷ p ∷ [] →
      RowSoFar arms 1 before after (deriv_of value) t parts
  row_begin [] value p before after parts t h y n q = absurd y
  row_begin (a ∷ arms) value p before after parts t h y n q =
      row_start (a ∷ arms) a value p before after parts t (omega arith) refl h y n q

  -- the one with the first number is the first
  pub first_is : (arms : List Arm) (a : Arm) (before after : Scope) (d : Deriv) → 0 < length arms → a ≡ get_or arms 0 a →
      IsArmTyped c B a.label a.binders.items before after a.body d →
      IsFirstTyped c B (core_arms_of arms) before after d
  first_is arms a before after d l e y = subst (λ xs. IsFirstTyped c B (core_arms_of xs) before after d)
      (sym (split_first arms a l e)) y

  pub row_step : (arms : List Arm) (i : ℕ) (a : Arm) (d : Deriv) (p : Derivation) (t : Tree) (before now after : Scope)
      (v : Deriv) (parts parts' : List Derivation) → RowSoFar arms i before after v t parts →
      i < length arms → a ≡ get_or arms i a → IsArmTyped c B a.label a.binders.items before now a.body d → now ≡ after →
      IsKnown c (type_of d) t → deriv_of p ≡ convert (type_of d) t d →
      parts' ≡ parts ++ p ∷ [] → RowSoFar arms (i + 1) before after v t parts'
  row_step arms i a d p t before now after v parts parts' h l e y n k q g = record {
    first = h.first;
    others = h.others ++ p ∷ [];
    is = g ∙ ap (λ xs. xs ++ p ∷ []) h.is;
    value = h.value;
    formed = h.formed;
    small = h.small;
    ready = later_arms arms i a before h.ready l e;
    arms_so_far = arms_step c B arms i a y.types d p t before now after h.others (h.others ++ p ∷ []) h.arms_so_far l
        (sym e) y.binds y.typed n k q refl;
  }

  pub row_end : (arms : List Arm) (before after : Scope) (v w : Deriv) (t : Tree) (parts : List Derivation) →
      RowSoFar arms (length arms) before after v t parts → w ≡ row t (parts_of parts) →
      AreArmsTyped c B (core_arms_of arms) before after v w
  row_end arms before after v w t parts h q = record {
    type = t;
    parts = parts_of h.others;
    is = q ∙ ap (λ xs. row t (parts_of xs)) h.is ∙ ap (λ o. row t (part o (parts_of h.others))) h.value;
    formed = h.formed;
    small = h.small;
    takes = arms_end c B arms before after t h.others h.arms_so_far;
  }

  -- the i-th arm is refused
  shown_at : (arms : List Arm) (i : ℕ) (a : Arm) (before after : Scope) (t : Tree) (v : Deriv) (parts : List Derivation)
      (f : CheckFault) → RowSoFar arms i before after v t parts → i < length arms → a ≡ get_or arms i a →
      ShowsFurther c B (arm a.label a.binders.items a.body (core_arms_of (drop (i + 1) arms))) before after t f →
      ShowsArms c B (core_arms_of arms) before f
  shown_at arms i a before after t v parts f h l e y =
      h.arms_so_far.shown f (subst (λ xs. ShowsFurther c B (core_arms_of xs) before after t f)
      (sym (drop_more arms i a l ∙ ap (λ x. x ∷ drop (i + 1) arms) (sym e))) y)

  pub further_refused : (arms : List Arm) (i : ℕ) (a : Arm) (before after : Scope) (t : Tree) (v : Deriv)
      (parts : List Derivation) (f : CheckFault) → RowSoFar arms i before after v t parts → i < length arms →
      a ≡ get_or arms i a →
      ShowsArm c B a.label a.binders.items a.body before f → ShowsArms c B (core_arms_of arms) before f
  further_refused arms i a before after t v parts f h l e (ts, b, inl y) =
      shown_at arms i a before after t v parts f h l e (ts, b, inl y)
  further_refused arms i a before after t v parts f h l e (ts, b, inr y) =
      shown_at arms i a before after t v parts f h l e (ts, b, inr (under_more y))

  pub further_different : (arms : List Arm) (i : ℕ) (a : Arm) (before now after : Scope) (t : Tree) (v d : Deriv)
      (parts : List Derivation) (f : CheckFault) → RowSoFar arms i before after v t parts → i < length arms →
      a ≡ get_or arms i a →
      IsArmTyped c B a.label a.binders.items before now a.body d → UseDifferent (place a.body) after now f →
      ShowsArms c B (core_arms_of arms) before f
  further_different arms i a before now after t v d parts f h l e y u =
      shown_at arms i a before after t v parts f h l e (y.types, y.binds, inr (behind_under y.typed (inl u)))

  pub further_unequal : (arms : List Arm) (i : ℕ) (a : Arm) (before now after : Scope) (t : Tree) (v d : Deriv)
      (parts : List Derivation) (f : CheckFault) → RowSoFar arms i before after v t parts → i < length arms →
      a ≡ get_or arms i a →
      IsArmTyped c B a.label a.binders.items before now a.body d → now ≡ after → IsUnequal c (place a.body) (type_of d) t f →
      ShowsArms c B (core_arms_of arms) before f
  further_unequal arms i a before now after t v d parts f h l e y n u =
      shown_at arms i a before after t v parts f h l e (y.types, y.binds, inr (behind_under y.typed (inr (n, inl u))))

  -- the first arm is
  pub first_refused : (arms : List Arm) (a : Arm) (before : Scope) (f : CheckFault) → 0 < length arms → a ≡ get_or arms 0 a →
      ShowsArm c B a.label a.binders.items a.body before f → ShowsArms c B (core_arms_of arms) before f
  first_refused arms a before f l e y = subst (λ xs. ShowsArms c B (core_arms_of xs) before f) (sym (split_first arms a l e))
      (turn y)
    where
      turn : ShowsArm c B a.label a.binders.items a.body before f → ShowsArms c B (core_arms_of (a ∷ drop 1 arms)) before f
      turn (ts, b, inl z) = (ts, b, inl z)
      turn (ts, b, inr z) = (ts, b, inr (under_more z))

  first_some : (arms : List Arm) (before after : Scope) (d : Deriv) → IsFirstTyped c B (core_arms_of arms) before after d →
      0 < length arms
  first_some [] before after d y = absurd y
  first_some (a ∷ arms) before after d y = omega arith

  -- the loop over the further arms ends behind the last
  pub all_seen : (arms : List Arm) (i : ℕ) (before after : Scope) (d : Deriv) →
      IsFirstTyped c B (core_arms_of arms) before after d → length arms ≤ i →
      (1 ≤ length arms → i ≤ length arms) → i ≡ length arms
  all_seen arms i before after d y l h = let some = first_some arms before after d y in omega (arith, l, h some)

  -- what an arm takes
  pub arm_takes : (a : Arm) (before after : Scope) (d : Deriv)
      (y : IsArmTyped c B a.label a.binders.items before after a.body d) →
      Takes (λ u. IsPlain c a.body (enter_all y.typed.variables before.variables) d (under_all y.typed.variables u)) before after
  arm_takes a before after d y = takes_under c a.binders.items y.types before after a.body d y.typed

  -- what all arms take
  pub row_takes : (arms : List Arm) (i : ℕ) (before after : Scope) (v : Deriv) (t : Tree) (parts : List Derivation) →
      RowSoFar arms i before after v t parts → Takes
      (λ u. FurtherArms c.surroundings (checking c) B no_arms before.variables u t none) before after
  row_takes arms i before after v t parts h = h.arms_so_far.reached
