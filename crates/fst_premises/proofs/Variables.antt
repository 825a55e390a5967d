-- What taking a variable finds.
use Rattle.std.proofs.Common.{◌≡◌, ◌∙◌, ℕ, zero, suc, Bool, true, false, ◌&&◌, List, [], ◌∷◌, Option, Some, None, cond, slice_get, refl, sym, ap, subst}
use Rattle.std.specs.Prelude.{option_map}
use Rattle.fst_types.specs.Tree.{Tree}
use Rattle.fst_types.specs.declared.kind.Kind.{Kind}
use Rattle.fst_terms.specs.CoreTree.{local}
use Rattle.fst_context.specs.Scope.{Scope, Variable, at_or_not, is_inside, is_once, linear_at, open_in, without}
use Rattle.fst_context.specs.Vars.{single}
use Rattle.fst_context.specs.View.{after_take, taken_at}
use Rattle.fst_context.specs.declared.context.Taken.{Taken}
use Rattle.fst_context.specs.declared.context.Taken.TheVariants.{Here, Gone, Outside}
use Rattle.fst_derivations.specs.Deriv.{Deriv, row, none, type_of}
use Rattle.fst_derivations.specs.Parts.{HasUse, IsFormed}
use Rattle.fst_premises.specs.Scenes.{AreHeld}
use Rattle.fst_premises.specs.Checks.{Check, IsInSize, IsTypedAlone}

single_at : (b : Bool) (k j : ℕ) → single b k j ≡ true → (b ≡ true) × (k ≡ j)
single_at b zero zero h = (h, refl)
single_at b zero (suc j) h = absurd (cc h)
single_at b (suc k) zero h = absurd (cc h)
single_at b (suc k) (suc j) h = let r = single_at b k j h in (r.0, ap suc r.1)

here_open : (l t i : Bool) → cond l (cond t (cond i Here Outside) Gone) Here ≡ Here → l ≡ true → (t && i) ≡ true
here_open false t i h e = absurd (cc e)
here_open true false i h e = absurd (cc h)
here_open true true false h e = absurd (cc h)
here_open true true true h e = refl

linear_once : (vs : List Variable) (k : ℕ) (v : Variable) → slice_get vs k ≡ Some v → linear_at vs k ≡ is_once v.uses
linear_once [] zero v h = absurd (cc h)
linear_once [] (suc k) v h = absurd (cc h)
linear_once (w ∷ vs) zero v h = let same : w ≡ v = cc in ap (λ (z : Variable). is_once z.uses) same
linear_once (w ∷ vs) (suc k) v h = linear_once vs k v h

-- a variable in scope has its use, and a type within its size
pub held_at : (vars : List Kind) (vs : List Variable) (k : ℕ) (v : Variable) → AreHeld vars vs → slice_get vs k ≡ Some v →
    HasUse vars v.type v.uses × IsInSize v.type
held_at vars [] zero v h e = absurd (cc e)
held_at vars [] (suc k) v h e = absurd (cc e)
held_at vars (w ∷ vs) zero v h e = let same : w ≡ v = cc in subst
    (λ (z : Variable). HasUse vars z.type z.uses × IsInSize z.type) same (h.0, h.1)
held_at vars (w ∷ vs) (suc k) v h e = held_at vars vs k v h.2 e

-- a variable that can be taken has its derivation
pub variable_typed : (c : Check) (at k : ℕ) (r s : Scope) (v : Variable) (w : Deriv) → AreHeld c.surroundings.vars r.variables →
    slice_get r.variables k ≡ Some v → taken_at r k ≡ Here →
    s ≡ without (single (linear_at r.variables k) k) r → w ≡ row v.type none → IsTypedAlone c r s (local at k) w
variable_typed c at k r s v w h e t a is =
    let linear : linear_at r.variables k ≡ is_once v.uses = linear_once r.variables k v e in
    let held = held_at c.surroundings.vars r.variables k v h e in
    record {
      used = single (is_once v.uses) k;
      fact = record {
        rule = (v, e, refl, is);
        formed = subst
            (λ d. IsFormed c.surroundings.vars (type_of d)) (sym is) (held.0.kind, held.0.formed);
        small = subst
            (λ d. IsInSize (type_of d)) (sym is) held.1;
      };
      within = λ j y. let z = single_at (is_once v.uses) k j y in
          subst (λ i. open_in r i ≡ true) z.1 (here_open (linear_at r.variables k) (at_or_not r.there k) (is_inside r.bodies k) t
          (linear ∙ z.0));
      rest = a ∙ ap (λ b. without (single b k) r) linear;
    }

-- the same of a context whose variables are the ones before
pub taken_typed : (c : Check) (at k : ℕ) (r s : Scope) (w : Deriv) (t u : Tree) (found : Taken) →
    AreHeld c.surroundings.vars r.variables → found ≡ taken_at r k → found ≡ Here → s ≡ after_take found k r →
    option_map (λ (v : Variable). v.type) (slice_get s.variables k) ≡ Some u → t ≡ u → w ≡ row t none →
    IsTypedAlone c r s (local at k) w
taken_typed c at k r s w t u found h e here a y z q =
    let after : s ≡ without (single (linear_at r.variables k) k) r = a ∙ ap (λ o. after_take o k r) here in
    let typed : option_map (λ (v : Variable). v.type) (slice_get r.variables k) ≡ Some u = ap
    (λ (o : Scope). option_map (λ (v : Variable). v.type) (slice_get o.variables k)) (sym after) ∙ y in
    pick (slice_get r.variables k) refl typed after
  where
    pick : (o : Option Variable) → slice_get r.variables k ≡ o → option_map (λ (v : Variable). v.type) o ≡ Some u →
        s ≡ without (single (linear_at r.variables k) k) r → IsTypedAlone c r s (local at k) w
    pick None i j after = absurd (cc j)
    pick (Some v) i j after = let same : v.type ≡ u = cc in
        variable_typed c at k r s v w h i (sym e ∙ here) after (q ∙ ap (λ o. row o none) (z ∙ sym same))
