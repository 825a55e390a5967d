-- What signs give for values of the types that they take.
use Rattle.std.proofs.Common.{◌≡◌, ℤ, Bool, Option, Some, refl, sym, ap, subst, inl, inr}
use Rattle.std.specs.declared.cmp.Ordering.{Ordering}
use Rattle.std.specs.Int.{w64, int_wrapping_add, int_wrapping_sub, int_wrapping_mul}
use Rattle.std.specs.Ordering.{int_cmp, nat_cmp, is_eq, is_ne, is_lt, is_le, is_gt, is_ge}
use Rattle.fst_types.specs.Tree.{Tree, plain}
use Rattle.fst_types.specs.declared.base.Base.TheVariants.{Int, Bool as Truth}
use Rattle.fst_terms.specs.declared.term.Op.{Op}
use Rattle.fst_terms.specs.declared.term.Op.TheVariants.{Add, Subtract, Multiply, Equal, Unequal, Less, AtMost, Greater, AtLeast, And, Or}
use Rattle.fst_derivations.specs.Parts.{IsComparable}
use Rattle.fst_derivations.specs.Rules.{Surroundings, Operates}
use Rattle.fst_types.specs.declared.ends.EndName.{EndName}
use Rattle.fst_machine.specs.Values as value
use Rattle.fst_machine.specs.Values.{Value, both, either, computed, decided, tested, operated}
use Rattle.fst_runs.specs.Wrong.{held}
use Rattle.fst_safety.specs.Fitting.{Residuals, Fits}
use Rattle.fst_safety.proofs.Equals.{equals_itself}
use Rattle.fst_safety.proofs.Shapes.{plain_formed, int_value, bool_value, char_value}

module _ (m : Surroundings) (r : Residuals) where
  -- the value is there, of this type, and neither it nor the operands hold an end
  pub record Gives (v w : Value) (o : Option Value) (t : Tree) : Type 0 where
    pub result : Value
    pub is : o ≡ Some result
    pub fits : Fits m r result t
    pub empty : (x : EndName) → held x result ≡ 0
    pub left : (x : EndName) → held x v ≡ 0
    pub right : (x : EndName) → held x w ≡ 0

  computed_gives : (f : ℤ → ℤ → ℤ) (v w : Value) → Fits m r v (plain Int) → Fits m r w (plain Int) →
      Gives v w (computed f v w) (plain Int)
  computed_gives f v w g h =
      let p = int_value m r v g in
      let q = int_value m r w h in
      record {
        result = value.int (f p.0 q.0);
        is = λ i. computed f (p.1 i) (q.1 i);
        fits = equals_itself (plain Int) (plain_formed Int);
        empty = λ x. refl;
        left = λ x. ap (held x) p.1;
        right = λ x. ap (held x) q.1;
      }

  decided_gives : (f : Bool → Bool → Bool) (v w : Value) → Fits m r v (plain Truth) → Fits m r w (plain Truth) →
      Gives v w (decided f v w) (plain Truth)
  decided_gives f v w g h =
      let p = bool_value m r v g in
      let q = bool_value m r w h in
      record {
        result = value.bool (f p.0 q.0);
        is = λ i. decided f (p.1 i) (q.1 i);
        fits = equals_itself (plain Truth) (plain_formed Truth);
        empty = λ x. refl;
        left = λ x. ap (held x) p.1;
        right = λ x. ap (held x) q.1;
      }

  tested_gives : (f : Ordering → Bool) (s : Tree) (v w : Value) → IsComparable s → Fits m r v s → Fits m r w s →
      Gives v w (tested f v w) (plain Truth)
  tested_gives f s v w (inl e) g h =
      let p = int_value m r v (subst (Fits m r v) e g) in
      let q = int_value m r w (subst (Fits m r w) e h) in
      record {
        result = value.bool (f (int_cmp p.0 q.0));
        is = λ i. tested f (p.1 i) (q.1 i);
        fits = equals_itself (plain Truth) (plain_formed Truth);
        empty = λ x. refl;
        left = λ x. ap (held x) p.1;
        right = λ x. ap (held x) q.1;
      }
  tested_gives f s v w (inr e) g h =
      let p = char_value m r v (subst (Fits m r v) e g) in
      let q = char_value m r w (subst (Fits m r w) e h) in
      record {
        result = value.bool (f (nat_cmp p.0 q.0));
        is = λ i. tested f (p.1 i) (q.1 i);
        fits = equals_itself (plain Truth) (plain_formed Truth);
        empty = λ x. refl;
        left = λ x. ap (held x) p.1;
        right = λ x. ap (held x) q.1;
      }

  at_type : (v w : Value) (o : Option Value) (s t : Tree) → t ≡ s → Gives v w o s → Gives v w o t
  at_type v w o s t e g = subst (Gives v w o) (sym e) g

  -- a sign has a result for operands of its type
  pub operated_gives : (o : Op) (s t : Tree) (v w : Value) → Operates o s t → Fits m r v s → Fits m r w s →
      Gives v w (operated o v w) t
  operated_gives Add s t v w p g h = at_type v w (operated Add v w) (plain Int) t p.1
      (computed_gives (int_wrapping_add w64) v w (subst (Fits m r v) p.0 g) (subst (Fits m r w) p.0 h))
  operated_gives Subtract s t v w p g h = at_type v w (operated Subtract v w) (plain Int) t p.1
      (computed_gives (int_wrapping_sub w64) v w (subst (Fits m r v) p.0 g) (subst (Fits m r w) p.0 h))
  operated_gives Multiply s t v w p g h = at_type v w (operated Multiply v w) (plain Int) t p.1
      (computed_gives (int_wrapping_mul w64) v w (subst (Fits m r v) p.0 g) (subst (Fits m r w) p.0 h))
  operated_gives Equal s t v w p g h = at_type v w (operated Equal v w) (plain Truth) t p.1 (tested_gives is_eq s v w p.0 g h)
  operated_gives Unequal s t v w p g h = at_type v w (operated Unequal v w) (plain Truth) t p.1 (tested_gives is_ne s v w p.0 g h)
  operated_gives Less s t v w p g h = at_type v w (operated Less v w) (plain Truth) t p.1 (tested_gives is_lt s v w p.0 g h)
  operated_gives AtMost s t v w p g h = at_type v w (operated AtMost v w) (plain Truth) t p.1 (tested_gives is_le s v w p.0 g h)
  operated_gives Greater s t v w p g h = at_type v w (operated Greater v w) (plain Truth) t p.1 (tested_gives is_gt s v w p.0 g h)
  operated_gives AtLeast s t v w p g h = at_type v w (operated AtLeast v w) (plain Truth) t p.1 (tested_gives is_ge s v w p.0 g h)
  operated_gives And s t v w p g h = at_type v w (operated And v w) (plain Truth) t p.1
      (decided_gives both v w (subst (Fits m r v) p.0 g) (subst (Fits m r w) p.0 h))
  operated_gives Or s t v w p g h = at_type v w (operated Or v w) (plain Truth) t p.1
      (decided_gives either v w (subst (Fits m r v) p.0 g) (subst (Fits m r w) p.0 h))
