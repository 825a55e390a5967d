-- The derivations of terms that bind variables or have branches.
use Rattle.std.proofs.Common.{◌≡◌, ◌∙◌, ℕ, List, [], ◌∷◌, Some, slice_get, sym, ap, subst}
use Rattle.fst_types.specs.Tree as type
use Rattle.fst_types.specs.Tree.{Tree, plain, arrow}
use Rattle.fst_types.specs.declared.base.Base.TheVariants.{Bool as Truth}
use Rattle.fst_types.specs.declared.kind.Kind.{Kind}
use Rattle.fst_types.specs.declared.kind.Use.{Use}
use Rattle.fst_types.specs.declared.kind.Use.TheVariants.{Many, Once}
use Rattle.fst_terms.specs.CoreTree.{CoreTree, lambda, let_in, split, if_else}
use Rattle.fst_terms.specs.declared.binder.Binder.{Binder}
use Rattle.fst_context.specs.Scope.{Scope, Variable, is_once, begun, ended, Takes}
use Rattle.fst_context.specs.Vars.{Vars, no_vars, under, Both}
use Rattle.fst_context.proofs.Laws.{takes_both, takes_as, takes_body, takes_same}
use Rattle.fst_derivations.specs.Deriv.{Deriv, row, convert, type_of, one, two, three}
use Rattle.fst_derivations.specs.Parts.{IsFormed, HasUse, AreVariables, enter_all, under_all}
use Rattle.fst_derivations.specs.Rules.{Surroundings}
use Rattle.fst_premises.specs.Scopes.{after_body, inside}
use Rattle.fst_premises.specs.Checks.{Check, IsInSize}
use Rattle.fst_typing.specs.Typed.{IsKnown, IsPlain, IsTyped, IsTypedUnder}
use Rattle.fst_typing.proofs.Formed.{arrow_of_formed}
use Rattle.fst_typing.proofs.Forms.{over, at_type, same_variables}
use Rattle.fst_typing.proofs.Under.{takes_under}

module _ (c : Check) where
  abbrev M : Surroundings
  M = c.surroundings

  abbrev V : List Kind
  V = c.surroundings.vars

  abbrev E : Tree → Tree → Type 0
  E = IsKnown c

  abbrev Judged : CoreTree → List Variable → Deriv → Vars → Type 0
  Judged e g d = IsPlain c e g d

  -- a variable of a type, with its use
  abbrev var_of : Tree → Use → Variable
  var_of t n = record { type = t; uses = n }

  -- what is taken under one variable
  pub record TakenUnder (t : Tree) (r s : Scope) (e : CoreTree) (d : Deriv) : Type 0 where
    pub uses : Use
    pub has : HasUse V t uses
    pub small : IsInSize t
    pub takes : Takes (λ u. Judged e (var_of t uses ∷ r.variables) d (under (is_once uses) u)) r s

  pub under_one : (x : Binder) (t : Tree) (r s : Scope) (e : CoreTree) (d : Deriv) → IsTypedUnder c (x ∷ []) (t ∷ []) r s e d →
      TakenUnder t r s e d
  under_one x t r s e d y = pick y.variables y.types (takes_under c (x ∷ []) (t ∷ []) r s e d y)
    where
      pick : (vs : List Variable) → AreVariables V (t ∷ []) vs → Takes
          (λ u. Judged e (enter_all vs r.variables) d (under_all vs u)) r s → TakenUnder t r s e d
      pick [] a z = absurd a
      pick (v ∷ []) a z = record {
        uses = v.uses;
        has = a.1;
        small = y.small.0;
        takes = subst
            (λ o. Takes (λ u. Judged e (var_of o v.uses ∷ r.variables) d (under (is_once v.uses) u)) r s) a.0 z;
      }
      pick (v ∷ w ∷ vs) a z = absurd a.2

  -- and under two
  pub record TakenUnderTwo (t o : Tree) (r s : Scope) (e : CoreTree) (d : Deriv) : Type 0 where
    pub first : Use
    pub second : Use
    pub has_first : HasUse V t first
    pub has_second : HasUse V o second
    pub takes : Takes (λ u. Judged e (var_of o second ∷ var_of t first ∷ r.variables) d
        (under (is_once second) (under (is_once first) u))) r s

  pub under_two : (x y : Binder) (t o : Tree) (r s : Scope) (e : CoreTree) (d : Deriv) →
      IsTypedUnder c (x ∷ y ∷ []) (t ∷ o ∷ []) r s e d → TakenUnderTwo t o r s e d
  under_two x y t o r s e d h = pick h.variables h.types (takes_under c (x ∷ y ∷ []) (t ∷ o ∷ []) r s e d h)
    where
      pick : (vs : List Variable) → AreVariables V (t ∷ o ∷ []) vs → Takes
          (λ u. Judged e (enter_all vs r.variables) d (under_all vs u)) r s → TakenUnderTwo t o r s e d
      pick [] a z = absurd a
      pick (v ∷ []) a z = absurd a.2
      pick (v ∷ w ∷ []) a z = record {
        first = v.uses;
        second = w.uses;
        has_first = a.1;
        has_second = a.2.1;
        takes = subst (λ p. Takes (λ u. Judged e (var_of p w.uses ∷ var_of t v.uses ∷ r.variables) d
            (under (is_once w.uses) (under (is_once v.uses) u))) r s) a.2.0
            (subst (λ p. Takes (λ u. Judged e (w ∷ var_of p v.uses ∷ r.variables) d
            (under (is_once w.uses) (under (is_once v.uses) u))) r s) a.0 z);
      }
      pick (v ∷ w ∷ q ∷ vs) a z = absurd a.2.2

  pub let_typed : (at : ℕ) (x : Binder) (a b : CoreTree) (w d h : Deriv) (t : Tree) (r s z : Scope) → IsTyped c r s a d →
      IsTypedUnder c (x ∷ []) (t ∷ []) s z b h → t ≡ type_of d →
      w ≡ row (type_of h) (two d h) → IsTyped c r z (let_in at x a b) w
  let_typed at x a b w d h t r s z p y e is =
      let inner = under_one x (type_of d) s z b h (subst (λ o. IsTypedUnder c (x ∷ []) (o ∷ []) s z b h) e y) in
      let n : Use = inner.uses in
      let P : List Variable → Vars → Type 0 = λ g u. Judged b (var_of (type_of d) n ∷ g) h (under (is_once n) u) in
      takes_as (Both (Judged a r.variables d) (P r.variables)) (Judged (let_in at x a b) r.variables w) r z
      (λ u v. record {
        rule = (
          d,
          h,
          n,
          record {
            left = v.left;
            right = v.right;
            split = v.split;
            first =
                over c a r.variables d v.left v.first;
            second =
                over c b (var_of (type_of d) n ∷ r.variables) h (under (is_once n) v.right) v.second;
          },
          inner.has,
          is,
        );
        formed = subst
            (λ o. IsFormed V (type_of o)) (sym is) v.second.formed;
        small = subst
            (λ o. IsInSize (type_of o)) (sym is) v.second.small;
      })
      (takes_both (Judged a r.variables d) (P r.variables) r s z p
      (subst (λ g. Takes (P g) s z) (same_variables c (Judged a r.variables d) r s p) inner.takes))

  pub split_typed : (at : ℕ) (x y : Binder) (a b : CoreTree) (w d h : Deriv) (t o : Tree) (r s z : Scope) → IsTyped c r s a d →
      IsTypedUnder c (x ∷ y ∷ []) (t ∷ o ∷ []) s z b h → type_of d ≡ type.pair t o →
      w ≡ row (type_of h) (two d h) → IsTyped c r z (split at x y a b) w
  split_typed at x y a b w d h t o r s z p q e is =
      let inner = under_two x y t o s z b h q in
      let n : Use = inner.first in
      let m : Use = inner.second in
      let P : List Variable → Vars → Type 0 = λ g u. Judged b (var_of o m ∷ var_of t n ∷ g) h
      (under (is_once m) (under (is_once n) u)) in
      takes_as (Both (Judged a r.variables d) (P r.variables)) (Judged (split at x y a b) r.variables w) r z
      (λ u v. record {
        rule = (
          d,
          h,
          t,
          o,
          n,
          m,
          record {
            left = v.left;
            right = v.right;
            split = v.split;
            first =
                over c a r.variables d v.left v.first;
            second =
                over c b (var_of o m ∷ var_of t n ∷ r.variables) h (under (is_once m) (under (is_once n) v.right)) v.second;
          },
          e,
          inner.has_first,
          inner.has_second,
          is,
        );
        formed = subst (λ j. IsFormed V (type_of j)) (sym is) v.second.formed;
        small =
            subst (λ o. IsInSize (type_of o)) (sym is) v.second.small;
      })
      (takes_both (Judged a r.variables d) (P r.variables) r s z p
      (subst (λ g. Takes (P g) s z) (same_variables c (Judged a r.variables d) r s p) inner.takes))

  -- the type of a function with this body
  function_formed : (n m : Use) (t : Tree) (d : Deriv) → HasUse V t m → IsFormed V (type_of d) →
      IsFormed V (arrow n t (type_of d))
  function_formed n m t d h f = arrow_of_formed V n t (type_of d) (h.kind, h.formed) f

  pub once_typed : (at k : ℕ) (x : Binder) (a : CoreTree) (w d : Deriv) (t o : Tree) (r z : Scope) →
      IsTypedUnder c (x ∷ []) (t ∷ []) r z a d → slice_get M.types k ≡ Some t → o ≡ arrow Once t (type_of d) →
      w ≡ row o (one d) → IsInSize (type_of w) → IsTyped c r z (lambda at Once k x a) w
  once_typed at k x a w d t o r z y p e q m =
      let inner = under_one x t r z a d y in
      let n : Use = inner.uses in
      let is : w ≡ row (arrow Once t (type_of d)) (one d) = q ∙ ap (λ j. row j (one d)) e in
      takes_as (λ u. Judged a (var_of t n ∷ r.variables) d (under (is_once n) u))
      (Judged (lambda at Once k x a) r.variables w) r z
      (λ u v. record {
        rule = (
          t,
          n,
          d,
          p,
          inner.has,
          inner.small,
          (λ l. absurd (cc l)),
          over c a (var_of t n ∷ r.variables) d (under (is_once n) u) v,
          is,
        );
        formed = subst
            (λ j. IsFormed V (type_of j)) (sym is) (function_formed Once n t d inner.has v.formed);
        small = m;
      })
      inner.takes

  pub many_typed : (at k : ℕ) (x : Binder) (a : CoreTree) (w d : Deriv) (t o : Tree) (r z s : Scope) →
      IsTypedUnder c (x ∷ []) (t ∷ []) (begun r) z a d → s ≡ ended z → slice_get M.types k ≡ Some t →
      o ≡ arrow Many t (type_of d) → w ≡ row o (one d) → IsInSize (type_of w) → IsTyped c r s (lambda at Many k x a) w
  many_typed at k x a w d t o r z s y j p e q m =
      let inner = under_one x t (begun r) z a d y in
      let n : Use = inner.uses in
      let P : Vars → Type 0 = λ u. Judged a (var_of t n ∷ r.variables) d (under (is_once n) u) in
      let is : w ≡ row (arrow Many t (type_of d)) (one d) = q ∙ ap (λ j. row j (one d)) e in
      subst (λ l. IsTyped c r l (lambda at Many k x a) w) (sym j)
      (takes_as (λ u. (u ≡ no_vars) × P u) (Judged (lambda at Many k x a) r.variables w) r (ended z)
      (λ u v. record {
        rule = (
          t,
          n,
          d,
          p,
          inner.has,
          inner.small,
          (λ l. v.0),
          over c a (var_of t n ∷ r.variables) d (under (is_once n) u) v.1,
          is,
        );
        formed = subst
            (λ j. IsFormed V (type_of j)) (sym is) (function_formed Many n t d inner.has v.1.formed);
        small = m;
      })
      (takes_body P r z inner.takes))

  -- a function of either use
  pub function_typed : (at k : ℕ) (n : Use) (x : Binder) (a : CoreTree) (w d : Deriv) (t o : Tree) (r z s : Scope) →
      IsTypedUnder c (x ∷ []) (t ∷ []) (inside n r) z a d → s ≡ after_body n z →
      slice_get M.types k ≡ Some t → o ≡ arrow n t (type_of d) → w ≡ row o (one d) → IsInSize (type_of w) →
      IsTyped c r s (lambda at n k x a) w
  function_typed at k Once x a w d t o r z s y j p e q m = subst
      (λ l. IsTyped c r l (lambda at Once k x a) w) (sym j) (once_typed at k x a w d t o r z y p e q m)
  function_typed at k Many x a w d t o r z s y j p e q m = many_typed at k x a w d t o r z s y j p e q m

  pub if_typed : (at : ℕ) (a b o : CoreTree) (w d k h l m : Deriv) (t wanted : Tree) (r s z : Scope) → IsTyped c r s a d →
      t ≡ plain Truth → k ≡ convert (type_of d) t d → E (type_of d) t →
      IsTyped c s z b h → IsTyped c s z o l → m ≡ convert (type_of l) (type_of h) l → E (type_of l) (type_of h) →
      w ≡ row (type_of h) (three k h m) → IsTyped c r z (if_else at a b o) w
  if_typed at a b o w d k h l m t wanted r s z x g e p y v f n q =
      let is : w ≡ row (type_of h) (three (convert (type_of d) (plain Truth) d) h (convert (type_of l) (type_of h) l)) = q
      ∙ (λ i. row (type_of h) (three ((e ∙ ap (λ j. convert (type_of d) j d) g) i) h (f i))) in
      let known : E (type_of d) (plain Truth) = subst (E (type_of d)) g p in
      let B : List Variable → Vars → Type 0 = λ g u. Judged b g h u × Judged o g l u in
      let both : Takes (B r.variables) s z = subst
      (λ g. Takes (B g) s z) (same_variables c (Judged a r.variables d) r s x)
      (takes_same (Judged b s.variables h) (Judged o s.variables l) s z y v) in
      takes_as (Both (Judged a r.variables d) (B r.variables)) (Judged (if_else at a b o) r.variables w) r z
      (λ u j. record {
        rule = (
          convert (type_of d) (plain Truth) d,
          h,
          convert (type_of l) (type_of h) l,
          record {
            left = j.left;
            right = j.right;
            split = j.split;
            first =
                at_type c a r.variables (plain Truth) d j.left known j.first;
            second =
                (over c b r.variables h j.right j.second.0, at_type c o r.variables (type_of h) l j.right n j.second.1);
          },
          is,
        );
        formed = subst (λ i. IsFormed V (type_of i)) (sym is) j.second.0.formed;
        small = subst (λ i. IsInSize (type_of i)) (sym is) j.second.0.small;
      })
      (takes_both (Judged a r.variables d) (B r.variables) r s z x both)
