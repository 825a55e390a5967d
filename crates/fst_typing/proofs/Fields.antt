-- A constructor's arguments, one after the other.
use Rattle.std.proofs.Common.{◌≡◌, ◌∙◌, ◌+◌, ◌<◌, ℕ, List, [], ◌∷◌, ◌++◌, Some, drop, get_or, length, slice_get, inl, inr, refl, sym, ap, subst, arith, append_assoc, append-nil}
use Rattle.std.proofs.lemmas.List.{drop_all, drop_more}
use Rattle.std.proofs.lemmas.Option.{same_Some}
use Rattle.fst_types.specs.Tree.{Tree}
use Rattle.fst_types.specs.declared.kind.Kind.{Kind}
use Rattle.fst_terms.specs.CoreTree.{CoreTree, CoreList, no_terms, term}
use Rattle.fst_terms.specs.ModelCoreView.{cores_of}
use Rattle.fst_context.specs.Scope.{Scope, Variable, Takes}
use Rattle.fst_context.specs.Vars.{Vars, Both}
use Rattle.fst_context.proofs.Laws.{takes_both, takes_none, takes_as}
use Rattle.fst_derivations.specs.Deriv.{Deriv, Derivs, convert, deriv_of, none, part, parts_of, type_of}
use Rattle.fst_derivations.specs.declared.derivation.Derivation.{Derivation}
use Rattle.fst_derivations.specs.Modules.{IsFormedAt, types_in, types_in_all}
use Rattle.fst_derivations.specs.Parts.{AreAt}
use Rattle.fst_derivations.specs.Rules.{Fields}
use Rattle.fst_premises.specs.Scenes.{IsReady}
use Rattle.fst_premises.proofs.Laws.{at_number, numbers_long}
use Rattle.fst_typing.specs.Scenes.{AreFieldsReady}
use Rattle.fst_premises.specs.Shown.{place}
use Rattle.fst_typing.specs.Shown.{IsUnequal, ShowsFields}
use Rattle.fst_premises.specs.Checks.{Check}
use Rattle.fst_typing.specs.Typed.{AreFieldsTyped, IsKnown, IsPlain, IsTyped, checking}
use Rattle.fst_premises.specs.declared.fault.CheckFault.{CheckFault}
use Rattle.fst_typing.proofs.Forms.{at_type, same_variables}
use Rattle.fst_typing.proofs.Ready.{standing_parts}

module _ (c : Check) where
  abbrev V : List Kind
  V = c.surroundings.vars

  abbrev T : List Tree
  T = c.surroundings.types

  -- what is known when the first i arguments are checked: the others are ready, their derivations make that of all, and their
  -- refusals are refusals of all
  pub record FieldsSoFar (args : List CoreTree) (ks : List ℕ) (i : ℕ) (before now : Scope)
      (parts : List Derivation) : Type 0 where
    pub ready : AreFieldsReady c (cores_of (drop i args)) (drop i ks) now.variables
    pub typed : (ts : List Tree) → AreAt T ks ts → (more : List Derivation) (z : Scope) →
        AreFieldsTyped c (cores_of (drop i args)) (drop i ts) now z (parts_of more) →
        AreFieldsTyped c (cores_of args) ts before z (parts_of (parts ++ more))
    pub shown : (ts : List Tree) → AreAt T ks ts →
        (f : CheckFault) → ShowsFields c (cores_of (drop i args)) (drop i ts) now f → ShowsFields c (cores_of args) ts before f

  -- at the start
  pub fields_start : (args : List CoreTree) (ks : List ℕ) (s : Scope) → AreFieldsReady c (cores_of args) ks s.variables →
      FieldsSoFar args ks 0 s s []
  fields_start args ks s h = record { ready = h; typed = λ ts a more z x. x; shown = λ ts a f x. x }

  -- the first of the others is ready
  first_ready : (e : CoreTree) (es : CoreList) (k : ℕ) (ks : List ℕ) (g : List Variable) →
      AreFieldsReady c (term e es) (k ∷ ks) g → IsReady c e g × AreFieldsReady c es ks g × IsFormedAt T [] k
  first_ready e es k ks g h =
      let parts = standing_parts T V (types_in e) (types_in_all es) h.standing in (
        record { range = h.range.0; formed = parts.0; held = h.held },
        record { range = h.range.1; standing = parts.1; held = h.held; fields = h.fields.1; long = omega (arith, h.long) },
        h.fields.0,
      )

  pub next_ready : (args : List CoreTree) (ks : List ℕ) (i : ℕ) (d : CoreTree) (before now : Scope) (parts : List Derivation) →
      FieldsSoFar args ks i before now parts → i < length args → i < length ks →
      IsReady c (get_or args i d) now.variables × IsFormedAt T [] (get_or ks i 0)
  next_ready args ks i d before now parts h l m =
      let r = first_ready (get_or args i d) (cores_of (drop (i + 1) args)) (get_or ks i 0) (drop (i + 1) ks) now.variables
      (subst (λ xs. AreFieldsReady c (cores_of xs) (get_or ks i 0 ∷ drop (i + 1) ks) now.variables) (drop_more args i d l)
      (subst (λ xs. AreFieldsReady c (cores_of (drop i args)) xs now.variables) (drop_more ks i 0 m) h.ready)) in
      (r.0, r.2)

  -- one argument more
  typed_more : (e : CoreTree) (es : CoreList) (t : Tree) (ts : List Tree) (d : Deriv) (ds : Derivs) (r s z : Scope) →
      IsTyped c r s e d → IsKnown c (type_of d) t → AreFieldsTyped c es ts s z ds →
      AreFieldsTyped c (term e es) (t ∷ ts) r z (part (convert (type_of d) t d) ds)
  typed_more e es t ts d ds r s z x k y =
      let P : Vars → Type 0 = IsPlain c e r.variables d in
      let Q : List Variable → Vars → Type 0 = λ g u. Fields c.surroundings (checking c) es ts g u ds in
      takes_as (Both P (Q r.variables)) (λ u. Fields c.surroundings (checking c) (term e es) (t ∷ ts) r.variables u
      (part (convert (type_of d) t d) ds)) r z
      (λ u p. (
        convert (type_of d) t d,
        ds,
        record {
          left = p.left;
          right = p.right;
          split = p.split;
          first =
              at_type c e r.variables t d p.left k p.first;
          second = p.second;
        },
        refl,
      ))
      (takes_both P (Q r.variables) r s z x (subst (λ g. Takes (Q g) s z) (same_variables c P r s x) y))

  pub fields_step : (args : List CoreTree) (ks : List ℕ) (i : ℕ) (e : CoreTree) (before now next : Scope)
      (parts parts' : List Derivation) (d : Deriv) (p : Derivation) (t : Tree) →
      FieldsSoFar args ks i before now parts → i < length args → i < length ks → get_or args i e ≡ e → IsTyped c now next e d →
      slice_get T (get_or ks i 0) ≡ Some t →
      deriv_of p ≡ convert (type_of d) t d → IsKnown c (type_of d) t → parts' ≡ parts ++ p ∷ [] →
      FieldsSoFar args ks (i + 1) before next parts'
  fields_step args ks i e before now next parts parts' d p t h l m at x w q k g =
      let rest : CoreList = cores_of (drop (i + 1) args) in
      let front : drop i args ≡ e ∷ drop (i + 1) args = drop_more args i e l ∙ ap (λ y. y ∷ drop (i + 1) args) at in
      let same : (ts : List Tree) → AreAt T ks ts → drop i ts ≡ t ∷ drop (i + 1) ts = λ ts a.
      let r = at_number T ks ts i 0 a m in r.2 ∙ ap (λ y. y ∷ drop (i + 1) ts) (same_Some r.0 t (sym r.1 ∙ w)) in
      let ready = first_ready e rest (get_or ks i 0) (drop (i + 1) ks) now.variables
      (subst (λ xs. AreFieldsReady c (cores_of xs) (get_or ks i 0 ∷ drop (i + 1) ks) now.variables) front
      (subst (λ xs. AreFieldsReady c (cores_of (drop i args)) xs now.variables) (drop_more ks i 0 m) h.ready)) in
      record {
        ready = subst (λ vs. AreFieldsReady c rest (drop (i + 1) ks) vs)
            (sym (same_variables c (IsPlain c e now.variables d) now next x)) ready.1;
        typed = λ ts a more z y.
            subst (λ ds. AreFieldsTyped c (cores_of args) ts before z (parts_of ds))
            (sym (ap (λ ds. ds ++ more) g ∙ append_assoc parts (p ∷ []) more))
            (h.typed ts a (p ∷ more) z
            (subst (λ us. AreFieldsTyped c (cores_of (drop i args)) us now z (parts_of (p ∷ more))) (sym (same ts a))
            (subst (λ xs. AreFieldsTyped c (cores_of xs) (t ∷ drop (i + 1) ts) now z (parts_of (p ∷ more))) (sym front)
            (subst (λ o. AreFieldsTyped c (term e rest) (t ∷ drop (i + 1) ts) now z (part o (parts_of more))) (sym q)
            (typed_more e rest t (drop (i + 1) ts) d (parts_of more) now next z x k y)))));
        shown = λ ts a f y.
            h.shown ts a f
            (subst (λ us. ShowsFields c (cores_of (drop i args)) us now f) (sym (same ts a))
            (subst (λ xs. ShowsFields c (cores_of xs) (t ∷ drop (i + 1) ts) now f) (sym front)
            (inr (record { scope = next; derivation = d; typed = x; then = inr (k, y) }))));
      }

  -- the first of the others is refused
  pub fields_refused : (args : List CoreTree) (ks : List ℕ) (i : ℕ) (e : CoreTree) (before now : Scope) (parts : List Derivation)
      (ts : List Tree) (f : CheckFault) →
      FieldsSoFar args ks i before now parts → i < length args → i < length ks → get_or args i e ≡ e → AreAt T ks ts →
      ((t : Tree) (us : List Tree) → ShowsFields c (term e (cores_of (drop (i + 1) args))) (t ∷ us) now f) →
      ShowsFields c (cores_of args) ts before f
  fields_refused args ks i e before now parts ts f h l m at a g =
      let front : drop i args ≡ e ∷ drop (i + 1) args = drop_more args i e l ∙ ap (λ y. y ∷ drop (i + 1) args) at in
      let r = at_number T ks ts i 0 a m in
      h.shown ts a f (subst (λ us. ShowsFields c (cores_of (drop i args)) us now f) (sym r.2)
      (subst (λ xs. ShowsFields c (cores_of xs) (r.0 ∷ drop (i + 1) ts) now f) (sym front) (g r.0 (drop (i + 1) ts))))

  -- or it isn't known to have its field's type
  pub fields_unequal : (args : List CoreTree) (ks : List ℕ) (i : ℕ) (e : CoreTree) (before now next : Scope)
      (parts : List Derivation) (ts : List Tree) (d : Deriv) (t : Tree) (p : ℕ) (f : CheckFault) →
      FieldsSoFar args ks i before now parts → i < length args → i < length ks → get_or args i e ≡ e → AreAt T ks ts →
      IsTyped c now next e d → slice_get T (get_or ks i 0) ≡ Some t →
      p ≡ place e → IsUnequal c p (type_of d) t f → ShowsFields c (cores_of args) ts before f
  fields_unequal args ks i e before now next parts ts d t p f h l m at a x w q u =
      let front : drop i args ≡ e ∷ drop (i + 1) args = drop_more args i e l ∙ ap (λ y. y ∷ drop (i + 1) args) at in
      let r = at_number T ks ts i 0 a m in
      let same : drop i ts ≡ t ∷ drop (i + 1) ts = r.2 ∙ ap (λ y. y ∷ drop (i + 1) ts) (same_Some r.0 t (sym r.1 ∙ w)) in
      let shown : ShowsFields c (term e (cores_of (drop (i + 1) args))) (t ∷ drop (i + 1) ts) now f =
      inr (record { scope = next; derivation = d; typed = x; then = inl (subst (λ n. IsUnequal c n (type_of d) t f) q u) }) in
      h.shown ts a f (subst (λ us. ShowsFields c (cores_of (drop i args)) us now f) (sym same)
      (subst (λ xs. ShowsFields c (cores_of xs) (t ∷ drop (i + 1) ts) now f) (sym front) shown))

  -- at the end
  pub fields_end : (args : List CoreTree) (ks : List ℕ) (before now : Scope) (parts : List Derivation) →
      FieldsSoFar args ks (length args) before now parts → (ts : List Tree) → AreAt T ks ts →
      length ks ≡ length args → AreFieldsTyped c (cores_of args) ts before now (parts_of parts)
  fields_end args ks before now parts h ts a n =
      let none_left : drop (length args) args ≡ [] = drop_all (length args) args (omega arith) in
      let no_types : drop (length args) ts ≡ [] = ap (λ m. drop m ts) (sym (numbers_long T ks ts a ∙ n))
      ∙ drop_all (length ts) ts (omega arith) in
      let empty : AreFieldsTyped c no_terms [] now now none = takes_none
      (λ u. Fields c.surroundings (checking c) no_terms [] now.variables u none) now (refl, refl) in
      subst (λ ds. AreFieldsTyped c (cores_of args) ts before now (parts_of ds)) (append-nil parts)
      (h.typed ts a [] now
      (subst (λ us. AreFieldsTyped c (cores_of (drop (length args) args)) us now now none) (sym no_types)
      (subst (λ xs. AreFieldsTyped c (cores_of xs) [] now now none) (sym none_left) empty)))
