-- How the derivations of parts make the derivation of a term: one taking after another is a split.
use Rattle.std.proofs.Common.{◌≡◌, ◌∙◌, ℕ, List, Some, refl, sym, ap, subst}
use Rattle.fst_types.specs.Tree as type
use Rattle.fst_types.specs.Tree.{Tree, plain, arrow}
use Rattle.fst_types.specs.declared.base.Base.{Base}
use Rattle.fst_types.specs.declared.base.Base.TheVariants.{Int, Bool as Truth, Unit as Nothing}
use Rattle.fst_types.specs.declared.kind.Kind.{Kind}
use Rattle.fst_types.specs.declared.kind.Use.{Use}
use Rattle.fst_types.specs.declared.kind.Use.TheVariants.{Many}
use Rattle.fst_types.specs.declared.label.Label.{Label}
use Rattle.fst_types.specs.declared.label.Label.TheVariants.{Send, Receive, Select, Close, Wait, Var}
use Rattle.fst_lts.specs.Step.{step}
use Rattle.fst_terms.specs.CoreTree.{CoreTree, pair, apply, operate, negate, send, receive, close, wait, select, fork, seq}
use Rattle.fst_terms.specs.declared.term.Op.{Op}
use Rattle.fst_terms.specs.declared.term.Op.TheVariants.{Add, Subtract, Multiply, Equal, Unequal, Less, AtMost, Greater, AtLeast, And, Or}
use Rattle.fst_context.specs.Scope.{Scope, Variable, Takes}
use Rattle.fst_context.specs.Vars.{Vars, no_vars, Both}
use Rattle.fst_context.proofs.Laws.{takes_both, takes_none, takes_as}
use Rattle.fst_derivations.specs.Deriv.{Deriv, row, convert, type_of, one, two}
use Rattle.fst_derivations.specs.Parts.{IsFormed, HasUse, IsComparable}
use Rattle.fst_derivations.specs.Rules.{Surroundings, Mode, Over, At, Operates, Row}
use Rattle.fst_premises.specs.Checks.{Check, IsInSize}
use Rattle.fst_premises.proofs.Laws.{pair_of_formed}
use Rattle.fst_typing.specs.Typed.{IsKnown, IsPlain, IsTyped, checking}
use Rattle.fst_premises.specs.Signs.{operand, result_type}
use Rattle.fst_typing.specs.Shown.{IsOperand}
use Rattle.fst_typing.proofs.Formed.{arrow_formed, arrow_small, base_small, moved_formed, moving_session}

module _ (c : Check) where
  abbrev M : Surroundings
  M = c.surroundings

  abbrev V : List Kind
  V = c.surroundings.vars

  abbrev E : Tree → Tree → Type 0
  E = IsKnown c

  abbrev S : Mode
  S = checking c

  -- the judgement of a part with its derivation fixed
  abbrev Judged : CoreTree → List Variable → Deriv → Vars → Type 0
  Judged e g d = IsPlain c e g d

  pub over : (e : CoreTree) (g : List Variable) (d : Deriv) (u : Vars) → Judged e g d u → Over V S.kept (Row M S e g) u d
  over e g d u p = record { core = d; stands = (refl, p.small); rule = p.rule; formed = p.formed }

  pub at_type : (e : CoreTree) (g : List Variable) (t : Tree) (d : Deriv) (u : Vars) → E (type_of d) t → Judged e g d u →
      At V t S.compared (Row M S e g) u (convert (type_of d) t d)
  at_type e g t d u h p = record { core = d; stands = ((t, h, refl), p.small); rule = p.rule; formed = p.formed; wanted = refl }

  -- a later part is judged in the same variables
  pub same_variables : (P : Vars → Type 0) (r s : Scope) → Takes P r s → s.variables ≡ r.variables
  same_variables P r s x = ap (λ z. z.variables) x.rest

  pub later : (e f : CoreTree) (d h : Deriv) (r s t : Scope) → IsTyped c r s e d → IsTyped c s t f h →
      Takes (Judged f r.variables h) s t
  later e f d h r s t x y = subst (λ g. Takes (Judged f g h) s t) (same_variables (Judged e r.variables d) r s x) y

  pub typed_leaf : (s : Scope) (e : CoreTree) (d : Deriv) → Judged e s.variables d no_vars → IsTyped c s s e d
  typed_leaf s e d p = takes_none (Judged e s.variables d) s p

  -- two parts, one after the other
  pub typed_both : (e a b : CoreTree) (w d h : Deriv) (r s t : Scope) → IsTyped c r s a d → IsTyped c s t b h →
      ((u : Vars) → Both (Judged a r.variables d) (Judged b r.variables h) u → Judged e r.variables w u) → IsTyped c r t e w
  typed_both e a b w d h r s t x y f =
      takes_as (Both (Judged a r.variables d) (Judged b r.variables h)) (Judged e r.variables w) r t f
      (takes_both (Judged a r.variables d) (Judged b r.variables h) r s t x (later a b d h r s t x y))

  -- one part
  pub typed_one : (e a : CoreTree) (w d : Deriv) (r s : Scope) → IsTyped c r s a d →
      ((u : Vars) → Judged a r.variables d u → Judged e r.variables w u) → IsTyped c r s e w
  typed_one e a w d r s x f = takes_as (Judged a r.variables d) (Judged e r.variables w) r s f x

  -- what two parts are split into, both without a comparison
  split_over : (a b : CoreTree) (g : List Variable) (d h : Deriv) (u : Vars) → Both (Judged a g d) (Judged b g h) u →
      Both (λ v. Over V S.kept (Row M S a g) v d) (λ w. Over V S.kept (Row M S b g) w h) u
  split_over a b g d h u z = record {
    left = z.left;
    right = z.right;
    split = z.split;
    first = over a g d z.left z.first;
    second =
        over b g h z.right z.second;
  }

  -- what is left of a type after a move is well formed
  pub next_formed : (t next : Tree) (l : Label) →
      ((k : ℕ) → l ≡ Var k → ⊥) → IsFormed V t → step t l ≡ Some next → IsFormed V next
  next_formed t next l n f e = moved_formed V t next l (moving_session V t f.0 l next f.1 n e) e

  -- a base type is well formed
  pub base_formed : (b : Base) → IsFormed V (plain b)
  base_formed b = (_, record { kinded = refl; contractive = tt; scoped = tt; ordered = tt })

  pub pair_typed : (at : ℕ) (a b : CoreTree) (w d h : Deriv) (t : Tree) (r s z : Scope) → IsTyped c r s a d → IsTyped c s z b h →
      t ≡ type.pair (type_of d) (type_of h) → w ≡ row t (two d h) → IsInSize (type_of w) →
      IsTyped c r z (pair at a b) w
  pair_typed at a b w d h t r s z x y e q m =
      let is : w ≡ row (type.pair (type_of d) (type_of h)) (two d h) = q ∙ ap (λ o. row o (two d h)) e in
      typed_both (pair at a b) a b w d h r s z x y
      (λ u p. record {
        rule = (d, h, split_over a b r.variables d h u p, is);
        formed = subst
            (λ o. IsFormed V (type_of o)) (sym is) (pair_of_formed V (type_of d) (type_of h) p.first.formed p.second.formed);
        small = m;
      })

  pub apply_typed : (at : ℕ) (a b : CoreTree) (w d h k : Deriv) (n : Use) (from to : Tree) (r s z : Scope) → IsTyped c r s a d →
      IsTyped c s z b h → type_of d ≡ arrow n from to →
      k ≡ convert (type_of h) from h → E (type_of h) from → w ≡ row to (two d k) → IsTyped c r z (apply at a b) w
  apply_typed at a b w d h k n from to r s z x y f e l q =
      let is : w ≡ row to (two d (convert (type_of h) from h)) = q ∙ ap (λ o. row to (two d o)) e in
      typed_both (apply at a b) a b w d h r s z x y
      (λ u p. record {
        rule = (
          d,
          convert (type_of h) from h,
          n,
          from,
          to,
          record {
            left = p.left;
            right = p.right;
            split = p.split;
            first = over a r.variables d p.left p.first;
            second =
                at_type b r.variables from h p.right l p.second;
          },
          f,
          is,
        );
        formed = subst (λ o. IsFormed V (type_of o)) (sym is) (arrow_formed V n from to (subst (IsFormed V) f p.first.formed)).1;
        small = subst (λ o. IsInSize (type_of o)) (sym is) (arrow_small n from to (subst IsInSize f p.first.small)).1;
      })

  -- the sign's operands have this type, and it gives that
  operates : (o : Op) (s wanted : Tree) → IsOperand c (operand o) s wanted → Operates o wanted (result_type o) ×
      IsFormed V (result_type o) × IsInSize (result_type o)
  operates Add s w h = ((h.1, refl), base_formed Int, base_small Int)
  operates Subtract s w h = ((h.1, refl), base_formed Int, base_small Int)
  operates Multiply s w h = ((h.1, refl), base_formed Int, base_small Int)
  operates Equal s w h = ((subst IsComparable (sym h.1) h.0, refl), base_formed Truth, base_small Truth)
  operates Unequal s w h = ((subst IsComparable (sym h.1) h.0, refl), base_formed Truth, base_small Truth)
  operates Less s w h = ((subst IsComparable (sym h.1) h.0, refl), base_formed Truth, base_small Truth)
  operates AtMost s w h = ((subst IsComparable (sym h.1) h.0, refl), base_formed Truth, base_small Truth)
  operates Greater s w h = ((subst IsComparable (sym h.1) h.0, refl), base_formed Truth, base_small Truth)
  operates AtLeast s w h = ((subst IsComparable (sym h.1) h.0, refl), base_formed Truth, base_small Truth)
  operates And s w h = ((h.1, refl), base_formed Truth, base_small Truth)
  operates Or s w h = ((h.1, refl), base_formed Truth, base_small Truth)

  pub operate_typed : (at : ℕ) (o : Op) (a b : CoreTree) (w d h k l : Deriv) (t wanted : Tree) (r s z : Scope) →
      IsTyped c r s a d → IsTyped c s z b h →
      k ≡ convert (type_of d) wanted d → E (type_of d) wanted → IsOperand c (operand o) (type_of d) wanted →
      l ≡ convert (type_of h) wanted h → E (type_of h) wanted →
      t ≡ result_type o → w ≡ row t (two k l) → IsTyped c r z (operate at o a b) w
  operate_typed at o a b w d h k l t wanted r s z x y e m i f n j q =
      let is : w ≡ row (result_type o) (two (convert (type_of d) wanted d) (convert (type_of h) wanted h)) = q
      ∙ (λ v. row (j v) (two (e v) (f v))) in
      let good = operates o (type_of d) wanted i in
      typed_both (operate at o a b) a b w d h r s z x y
      (λ u p. record {
        rule = (
          convert (type_of d) wanted d,
          convert (type_of h) wanted h,
          wanted,
          result_type o,
          good.0,
          record {
            left = p.left;
            right = p.right;
            split = p.split;
            first = at_type a r.variables wanted d p.left m p.first;
            second = at_type b r.variables wanted h p.right n p.second;
          },
          is,
        );
        formed = subst (λ v. IsFormed V (type_of v)) (sym is) good.1;
        small = subst (λ v. IsInSize (type_of v)) (sym is) good.2;
      })

  pub negate_typed : (at : ℕ) (a : CoreTree) (w d k : Deriv) (t wanted : Tree) (r s : Scope) → IsTyped c r s a d →
      wanted ≡ plain Truth → k ≡ convert (type_of d) wanted d → E (type_of d) wanted →
      t ≡ plain Truth → w ≡ row t (one k) → IsTyped c r s (negate at a) w
  negate_typed at a w d k t wanted r s x g e l j q =
      let is : w ≡ row (plain Truth) (one (convert (type_of d) (plain Truth) d)) = q
      ∙ (λ v. row (j v) (one ((e ∙ ap (λ o. convert (type_of d) o d) g) v))) in
      let known : E (type_of d) (plain Truth) = subst (E (type_of d)) g l in
      typed_one (negate at a) a w d r s x
      (λ u p. record {
        rule = (convert (type_of d) (plain Truth) d, at_type a r.variables (plain Truth) d u known p, is);
        formed =
            subst (λ v. IsFormed V (type_of v)) (sym is) (base_formed Truth);
        small = subst
            (λ v. IsInSize (type_of v)) (sym is) (base_small Truth);
      })

  pub send_typed : (at : ℕ) (a b : CoreTree) (w d h : Deriv) (k : Base) (next : Tree) (r s z : Scope) → IsTyped c r s a d →
      IsTyped c s z b h →
      type_of d ≡ plain k → step (type_of h) (Send k) ≡ Some next → w ≡ row next (two d h) → IsInSize (type_of w) →
      IsTyped c r z (send at a b) w
  send_typed at a b w d h k next r s z x y e f is m =
      typed_both (send at a b) a b w d h r s z x y
      (λ u p. record {
        rule = (d, h, k, next, split_over a b r.variables d h u p, e, f, is);
        formed = subst (λ v. IsFormed V (type_of v)) (sym is)
            (next_formed (type_of h) next (Send k) (λ n v. cc v) p.second.formed f);
        small = m;
      })

  pub receive_typed : (at : ℕ) (a : CoreTree) (w d : Deriv) (k : Base) (next t : Tree) (r s : Scope) → IsTyped c r s a d →
      step (type_of d) (Receive k) ≡ Some next →
      t ≡ type.pair (plain k) next → w ≡ row t (one d) → IsInSize (type_of w) → IsTyped c r s (receive at a) w
  receive_typed at a w d k next t r s x f j q m =
      let is : w ≡ row (type.pair (plain k) next) (one d) = q ∙ ap (λ o. row o (one d)) j in
      typed_one (receive at a) a w d r s x
      (λ u p. record {
        rule = (d, k, next, over a r.variables d u p, f, is);
        formed = subst (λ v. IsFormed V (type_of v)) (sym is)
            (pair_of_formed V (plain k) next (base_formed k) (next_formed (type_of d) next (Receive k) (λ n v. cc v) p.formed f));
        small = m;
      })

  -- a row at the type of the value without content, with one part
  nothing_typed : (e a : CoreTree) (w d : Deriv) (r s : Scope) → IsTyped c r s a d → w ≡ row (plain Nothing) (one d) →
      ((u : Vars) → Over V S.kept (Row M S a r.variables) u d → Row M S e r.variables u w) → IsTyped c r s e w
  nothing_typed e a w d r s x is f =
      typed_one e a w d r s x (λ u p. record {
        rule = f u (over a r.variables d u p);
        formed = subst (λ v. IsFormed V (type_of v)) (sym is) (base_formed Nothing);
        small = subst (λ v. IsInSize (type_of v)) (sym is) (base_small Nothing);
      })

  pub close_typed : (at : ℕ) (a : CoreTree) (w d : Deriv) (next : Tree) (r s : Scope) → IsTyped c r s a d →
      step (type_of d) Close ≡ Some next → w ≡ row (plain Nothing) (one d) → IsTyped c r s (close at a) w
  close_typed at a w d next r s x f is = nothing_typed (close at a) a w d r s x is (λ u o. (d, next, o, f, is))

  pub wait_typed : (at : ℕ) (a : CoreTree) (w d : Deriv) (next : Tree) (r s : Scope) → IsTyped c r s a d →
      step (type_of d) Wait ≡ Some next → w ≡ row (plain Nothing) (one d) → IsTyped c r s (wait at a) w
  wait_typed at a w d next r s x f is = nothing_typed (wait at a) a w d r s x is (λ u o. (d, next, o, f, is))

  pub select_typed : (at : ℕ) (l : List ℕ) (a : CoreTree) (w d : Deriv) (next : Tree) (r s : Scope) → IsTyped c r s a d →
      step (type_of d) (Select l) ≡ Some next → w ≡ row next (one d) → IsInSize (type_of w) →
      IsTyped c r s (select at l a) w
  select_typed at l a w d next r s x f is m =
      typed_one (select at l a) a w d r s x
      (λ u p. record {
        rule = (d, next, over a r.variables d u p, f, is);
        formed = subst
            (λ v. IsFormed V (type_of v)) (sym is) (next_formed (type_of d) next (Select l) (λ n v. cc v) p.formed f);
        small = m;
      })

  pub fork_typed : (at : ℕ) (a : CoreTree) (w d : Deriv) (r s : Scope) → IsTyped c r s a d →
      HasUse V (type_of d) Many → w ≡ row (plain Nothing) (one d) → IsTyped c r s (fork at a) w
  fork_typed at a w d r s x n is = nothing_typed (fork at a) a w d r s x is (λ u o. (d, o, n, is))

  pub seq_typed : (at : ℕ) (a b : CoreTree) (w d h : Deriv) (r s z : Scope) → IsTyped c r s a d → HasUse V (type_of d) Many →
      IsTyped c s z b h → w ≡ row (type_of h) (two d h) →
      IsTyped c r z (seq at a b) w
  seq_typed at a b w d h r s z x n y is =
      typed_both (seq at a b) a b w d h r s z x y
      (λ u p. record {
        rule = (d, h, split_over a b r.variables d h u p, n, is);
        formed = subst
            (λ v. IsFormed V (type_of v)) (sym is) p.second.formed;
        small = subst
            (λ v. IsInSize (type_of v)) (sym is) p.second.small;
      })
