-- Arms, which all begin with the same variables and use the same.
use Rattle.std.proofs.Common.{◌≡◌, ◌∙◌, ◌+◌, ◌<◌, ℕ, List, [], ◌∷◌, ◌++◌, drop, get_or, length, inr, refl, sym, ap, subst, arith, append_assoc, append-nil}
use Rattle.std.proofs.lemmas.List.{drop_all, drop_more}
use Rattle.fst_types.specs.Tree.{Tree}
use Rattle.fst_terms.specs.CoreTree.{CoreTree, CoreArms, no_arms, arm}
use Rattle.fst_terms.specs.ModelCoreView.{core_arms_of}
use Rattle.fst_terms.specs.declared.binder.Binder.{Binder}
use Rattle.fst_terms.specs.declared.core_term.Arm.{Arm}
use Rattle.fst_context.specs.Scope.{Scope, Variable, Takes}
use Rattle.fst_context.specs.Vars.{Vars}
use Rattle.fst_context.proofs.Laws.{takes_as, takes_same}
use Rattle.fst_derivations.specs.Deriv.{Deriv, Derivs, convert, deriv_of, none, part, parts_of, type_of}
use Rattle.fst_derivations.specs.declared.derivation.Derivation.{Derivation}
use Rattle.fst_derivations.specs.Parts.{enter_all, under_all}
use Rattle.fst_derivations.specs.Rules.{Binding, Binds, Arms, FurtherArms}
use Rattle.fst_typing.specs.Shown.{ShowsArms, ShowsFurther}
use Rattle.fst_premises.specs.Checks.{Check}
use Rattle.fst_typing.specs.Typed.{IsKnown, IsPlain, IsTypedUnder, checking}
use Rattle.fst_premises.specs.declared.fault.CheckFault.{CheckFault}
use Rattle.fst_typing.proofs.Forms.{over, at_type}
use Rattle.fst_typing.proofs.Refusals.{behind_under}
use Rattle.fst_typing.proofs.Under.{takes_under}

module _ (c : Check) (B : Binding) where
  -- what is taken by an arm on its own
  abbrev Taken : Scope → List Variable → CoreTree → Deriv → Vars → Type 0
  Taken r vs e d u = IsPlain c e (enter_all vs r.variables) d (under_all vs u)

  -- arms behind the first, of its type
  abbrev Further : List Variable → CoreArms → Tree → Derivs → Vars → Type 0
  Further g bs t ds u = FurtherArms c.surroundings (checking c) B bs g u t ds

  -- all arms
  abbrev All : List Variable → CoreArms → Tree → Derivs → Vars → Type 0
  All g bs t ds u = Arms c.surroundings (checking c) B bs g u t ds

  pub first_typed : (l : List ℕ) (xs : List Binder) (e : CoreTree) (bs : CoreArms) (ts : List Tree) (d : Deriv) (more : Derivs)
      (r s : Scope) → Binds c.surroundings B l ts →
      IsTypedUnder c xs ts r s e d → Takes (Further r.variables bs (type_of d) more) r s →
      Takes (All r.variables (arm l xs e bs) (type_of d) (part d more)) r s
  first_typed l xs e bs ts d more r s b y z =
      takes_as (λ u. Taken r y.variables e d u × Further r.variables bs (type_of d) more u)
      (All r.variables (arm l xs e bs) (type_of d) (part d more)) r s
      (λ u p. (
        ts,
        y.variables,
        d,
        more,
        b,
        y.types,
        y.small,
        y.long,
        over c e (enter_all y.variables r.variables) d (under_all y.variables u) p.0,
        refl,
        p.1,
        refl,
      ))
      (takes_same (Taken r y.variables e d) (Further r.variables bs (type_of d) more) r s (takes_under c xs ts r s e d y) z)

  pub further_typed : (l : List ℕ) (xs : List Binder) (e : CoreTree) (bs : CoreArms) (ts : List Tree) (d : Deriv) (t : Tree)
      (more : Derivs) (r s : Scope) → Binds c.surroundings B l ts →
      IsTypedUnder c xs ts r s e d → IsKnown c (type_of d) t → Takes (Further r.variables bs t more) r s →
      Takes (Further r.variables (arm l xs e bs) t (part (convert (type_of d) t d) more)) r s
  further_typed l xs e bs ts d t more r s b y k z =
      takes_as (λ u. Taken r y.variables e d u × Further r.variables bs t more u)
      (Further r.variables (arm l xs e bs) t (part (convert (type_of d) t d) more)) r s
      (λ u p. (
        ts,
        y.variables,
        convert (type_of d) t d,
        more,
        b,
        y.types,
        y.small,
        y.long,
        at_type c e (enter_all y.variables r.variables) t d (under_all y.variables u) k p.0,
        p.1,
        refl,
      ))
      (takes_same (Taken r y.variables e d) (Further r.variables bs t more) r s (takes_under c xs ts r s e d y) z)

  pub none_typed : (t : Tree) (r s : Scope) (l : List ℕ) (xs : List Binder) (e : CoreTree) (ts : List Tree) (d : Deriv) →
      IsTypedUnder c xs ts r s e d → Takes (Further r.variables no_arms t none) r s
  none_typed t r s l xs e ts d y = takes_as (Taken r y.variables e d) (Further r.variables no_arms t none) r s
      (λ u p. refl) (takes_under c xs ts r s e d y)

  -- what is known when the arms before the i-th are checked
  pub record ArmsSoFar (arms : List Arm) (i : ℕ) (before after : Scope) (t : Tree) (parts : List Derivation) : Type 0 where
    pub reached : Takes (Further before.variables no_arms t none) before after
    pub typed : (more : List Derivation) → Takes (Further before.variables (core_arms_of (drop i arms)) t (parts_of more)) before
        after →
        Takes (All before.variables (core_arms_of arms) t (parts_of (parts ++ more))) before after
    pub shown : (f : CheckFault) → ShowsFurther c B (core_arms_of (drop i arms)) before after t f →
        ShowsArms c B (core_arms_of arms) before f

  -- the first arm
  pub arms_start : (a : Arm) (arms : List Arm) (ts : List Tree) (d : Deriv) (p : Derivation) (before after : Scope) →
      Binds c.surroundings B a.label ts →
      IsTypedUnder c a.binders.items ts before after a.body d → deriv_of p ≡ d →
      ArmsSoFar (a ∷ arms) 1 before after (type_of d) (p ∷ [])
  arms_start a arms ts d p before after b y e = record {
    reached = none_typed (type_of d) before after a.label a.binders.items a.body ts d y;
    typed = λ more z. subst (λ o. Takes (All before.variables (core_arms_of (a ∷ arms)) (type_of d) (part o (parts_of more)))
        before after) (sym e)
        (first_typed a.label a.binders.items a.body (core_arms_of arms) ts d (parts_of more) before after b y z);
    shown = λ f z. (ts, b, inr (behind_under y z));
  }

  -- a further one
  pub arms_step : (arms : List Arm) (i : ℕ) (a : Arm) (ts : List Tree) (d : Deriv) (p : Derivation) (t : Tree)
      (before now after : Scope) (parts parts' : List Derivation) → ArmsSoFar arms i before after t parts →
      i < length arms → get_or arms i a ≡ a → Binds c.surroundings B a.label ts →
      IsTypedUnder c a.binders.items ts before now a.body d → now ≡ after → IsKnown c (type_of d) t →
      deriv_of p ≡ convert (type_of d) t d → parts' ≡ parts ++ p ∷ [] → ArmsSoFar arms (i + 1) before after t parts'
  arms_step arms i a ts d p t before now after parts parts' h l at b y n k q g =
      let front : drop i arms ≡ a ∷ drop (i + 1) arms = drop_more arms i a l ∙ ap (λ x. x ∷ drop (i + 1) arms) at in
      let y' : IsTypedUnder c a.binders.items ts before after a.body d = subst
      (λ s. IsTypedUnder c a.binders.items ts before s a.body d) n y in
      record {
        reached = h.reached;
        typed = λ more z.
            subst (λ ds. Takes (All before.variables (core_arms_of arms) t (parts_of ds)) before after)
            (sym (ap (λ ds. ds ++ more) g ∙ append_assoc parts (p ∷ []) more))
            (h.typed (p ∷ more)
            (subst (λ xs. Takes (Further before.variables (core_arms_of xs) t (parts_of (p ∷ more))) before after) (sym front)
            (subst (λ o. Takes (Further before.variables (core_arms_of (a ∷ drop (i + 1) arms)) t (part o (parts_of more))) before
            after) (sym q)
            (further_typed a.label a.binders.items a.body (core_arms_of (drop (i + 1) arms)) ts d t
            (parts_of more) before after b y' k z))));
        shown = λ f z. h.shown f (subst (λ xs. ShowsFurther c B (core_arms_of xs) before after t f) (sym front)
            (ts, b, inr (behind_under y (inr (n, inr (k, z))))));
      }

  -- all of them
  pub arms_end : (arms : List Arm) (before after : Scope) (t : Tree) (parts : List Derivation) →
      ArmsSoFar arms (length arms) before after t parts →
      Takes (All before.variables (core_arms_of arms) t (parts_of parts)) before after
  arms_end arms before after t parts h =
      subst (λ ds. Takes (All before.variables (core_arms_of arms) t (parts_of ds)) before after) (append-nil parts)
      (h.typed [] (subst (λ xs. Takes (Further before.variables (core_arms_of xs) t none) before after)
      (sym (drop_all (length arms) arms (omega arith))) h.reached))
