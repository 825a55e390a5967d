-- Walks inside a variable, in the body of a function, along two branches, and of a variable itself.
use Rattle.std.proofs.Common.{◌≡◌, ◌∙◌, ℕ, zero, suc, Bool, true, false, ◌&&◌, List, [], ◌∷◌, Some, None, slice_get, refl, sym, ap, subst}
use Rattle.std.specs.Prelude.{if◌then◌else◌, cond}
use Rattle.std.proofs.lemmas.Option.{same_Some}
use Rattle.fst_base.proofs.Bools.{never_both}
use Rattle.fst_types.specs.declared.kind.Use.{Use}
use Rattle.fst_types.specs.declared.kind.Use.TheVariants.{Many, Once}
use Rattle.fst_context.specs.Vars.{Vars, no_vars, under, single}
use Rattle.fst_context.specs.Scope.{Scope, Variable, is_once, at_or_not, linear_at, is_inside, mark, entered, left, begun, ended, open_in, without, IsWithin, Takes}
use Rattle.fst_context.specs.View.{after_take}
use Rattle.fst_context.specs.declared.context.Taken.TheVariants.{Here, Gone, Outside}
use Rattle.fst_context.proofs.Laws.{takes_as, takes_inside, takes_body, same_used, within_entered, left_entered, ended_begun, linear_of, single_at}
use Rattle.fst_rules.specs.Walks.{Walk, next, closed, inside, in_body, same_marks, agreed, branches, further, taken_as, taking}
use Rattle.fst_rules.proofs.Deciding.{Decides, next_some}

-- ---- inside a variable

closed_some : (b : Bool) (s r : Scope) → (if b then None else Some s) ≡ Some r → (b ≡ false) × (s ≡ r)
closed_some true s r e = absurd (cc e)
closed_some false s r e = (refl, same_Some s r e)

pub decides_inside : (g : List Variable) (x : List ℕ) (v : Variable) (P : Vars → Type 0) (F : Walk) → Decides (v ∷ g) P F →
    Decides g (λ u. P (under (is_once v.uses) u)) (inside x v F)
decides_inside g x v P F d = record {
  sound = λ s r e h.
      let n = next_some (F (entered x v s)) closed r h in
      let c = closed_some (at_or_not n.0.there 0) (left n.0) r n.2 in
      let t = d.sound (entered x v s) n.0 (ap (λ z. v ∷ z) e) n.1 in
      subst (λ z. Takes (λ u. P (under (is_once v.uses) u)) s z) c.1 (takes_inside P x v s n.0 t c.0);
  complete = λ s u e q w.
      let o = is_once v.uses in
      let f = d.complete (entered x v s) (under o u) (ap (λ z. v ∷ z) e) q (within_entered x v s u w) in
      ap (λ z. next z closed) f
      ∙ ap (λ b. if b then None else Some (left (without (under o u) (entered x v s)))) (never_both o)
      ∙ ap Some (left_entered x v s u);
}

-- ---- in the body of a function

pub decides_body : (g : List Variable) (uses : Use) (P : Vars → Type 0) (F : Walk) → Decides g P F → Decides g
    (λ u. (uses ≡ Many → u ≡ no_vars) × P u) (in_body uses F)
decides_body g Many P F d = record {
  sound = λ s r e h.
      let n = next_some (F (begun s)) (λ z. Some (ended z)) r h in
      let t = d.sound (begun s) n.0 e n.1 in
      subst (λ z. Takes (λ u. (Many ≡ Many → u ≡ no_vars) × P u) s z) (same_Some (ended n.0) r n.2)
      (takes_as (λ u. (u ≡ no_vars) × P u) (λ u. (Many ≡ Many → u ≡ no_vars) × P u) s (ended n.0)
      (λ u z. ((λ _. z.0), z.1)) (takes_body P s n.0 t));
  complete = λ s u e q w.
      let none : u ≡ no_vars = q.0 refl in
      let f = d.complete (begun s) u e q.1 (λ k h. absurd (cc (h, ap (λ z. z k) none))) in
      ap (λ z. next z (λ r. Some (ended r))) f
      ∙ ap Some (ended_begun s u);
}
decides_body g Once P F d = record {
  sound = λ s r e h. takes_as P (λ u. (Once ≡ Many → u ≡ no_vars) × P u) s r (λ u z. ((λ f. absurd (cc f)), z)) (d.sound s r e h);
  complete = λ s u e q w. d.complete s u e q.1 w;
}

-- ---- two branches

pub marks_same : (bs cs : List Bool) → same_marks bs cs ≡ true → bs ≡ cs
marks_same [] [] h = refl
marks_same [] (c ∷ cs) h = absurd (cc h)
marks_same (b ∷ bs) [] h = absurd (cc h)
marks_same (true ∷ bs) (true ∷ cs) h = ap (λ z. true ∷ z) (marks_same bs cs h)
marks_same (true ∷ bs) (false ∷ cs) h = absurd (cc h)
marks_same (false ∷ bs) (true ∷ cs) h = absurd (cc h)
marks_same (false ∷ bs) (false ∷ cs) h = ap (λ z. false ∷ z) (marks_same bs cs h)

pub same_marks-itself : (bs : List Bool) → same_marks bs bs ≡ true
same_marks-itself [] = refl
same_marks-itself (true ∷ bs) = same_marks-itself bs
same_marks-itself (false ∷ bs) = same_marks-itself bs

pub agreed_some : (b : Bool) (s r : Scope) → (if b then Some s else None) ≡ Some r → (b ≡ true) × (s ≡ r)
agreed_some true s r e = (refl, same_Some s r e)
agreed_some false s r e = absurd (cc e)

-- sets within a scope that leave the same marks are the same
pub same_marked : (s : Scope) (u v : Vars) → IsWithin u s → IsWithin v s → mark u s.there ≡ mark v s.there → u ≡ v
same_marked s u v f h e = same_used u v s f h (λ i.
    record { names = s.names; variables = s.variables; there = e i; bodies = s.bodies })

pub decides_branches : (g : List Variable) (P Q : Vars → Type 0) (F G : Walk) → Decides g P F → Decides g Q G → Decides g
    (λ u. P u × Q u) (branches F G)
decides_branches g P Q F G x y = record {
  sound = λ s r e h.
      let n = next_some (F s) (λ r. next (G s) (agreed r.there)) r h in
      let o = next_some (G s) (agreed n.0.there) r n.2 in
      let c = agreed_some (same_marks o.0.there n.0.there) o.0 r o.2 in
      let a = x.sound s n.0 e n.1 in
      let b = y.sound s o.0 e o.1 in
      let there : mark b.used s.there ≡ mark a.used s.there = sym (ap (λ z. z.there) b.rest) ∙ marks_same o.0.there n.0.there c.0
      ∙ ap (λ z. z.there) a.rest in
      let same : a.used ≡ b.used = same_marked s a.used b.used a.within b.within (sym there) in
      record { used = b.used; fact = (subst P same a.fact, b.fact); within = b.within; rest = sym c.1 ∙ b.rest };
  complete = λ s u e q w.
      ap (λ z. next z (λ r. next (G s) (agreed r.there))) (x.complete s u e q.0 w)
      ∙ ap (λ z. next z (agreed (mark u s.there))) (y.complete s u e q.1 w)
      ∙ ap (λ b. if b then Some (without u s) else None) (same_marks-itself (mark u s.there));
}

-- further branches from a scope, where those before took a set
pub record Agrees (g : List Variable) (T : Vars → Type 0) (G : Scope → Walk) : Type 0 where
  pub sound : (s r : Scope) (u : Vars) → s.variables ≡ g → IsWithin u s → G s (without u s) ≡ Some r → T u × (r ≡ without u s)
  pub complete : (s : Scope) (u : Vars) → s.variables ≡ g → IsWithin u s → T u → G s (without u s) ≡ Some (without u s)

pub decides_agreed : (g : List Variable) (Q T : Vars → Type 0) (F : Walk) (G : Scope → Walk) → Decides g Q F → Agrees g T G →
    Decides g (λ u. Q u × T u) (λ s. next (F s) (G s))
decides_agreed g Q T F G x y = record {
  sound = λ s r e h.
      let n = next_some (F s) (G s) r h in
      let t = x.sound s n.0 e n.1 in
      let z = y.sound s r t.used e t.within (ap (G s) (sym t.rest) ∙ n.2) in
      record { used = t.used; fact = (t.fact, z.0); within = t.within; rest = z.1 };
  complete = λ s u e q w. ap (λ o. next o (G s)) (x.complete s u e q.0 w) ∙ y.complete s u e w q.1;
}

pub agrees_further : (g : List Variable) (P T : Vars → Type 0) (F : Walk) (G : Scope → Walk) → Decides g P F → Agrees g T G →
    Agrees g (λ u. P u × T u) (λ s r. next (further F s r) (G s))
agrees_further g P T F G x y = record {
  sound = λ s r u e w h.
      let n = next_some (further F s (without u s)) (G s) r h in
      let o = next_some (F s) (agreed (mark u s.there)) n.0 n.1 in
      let c = agreed_some (same_marks o.0.there (mark u s.there)) o.0 n.0 o.2 in
      let t = x.sound s o.0 e o.1 in
      let there : mark t.used s.there ≡ mark u s.there = sym (ap (λ z. z.there) t.rest)
      ∙ marks_same o.0.there (mark u s.there) c.0 in
      let same : t.used ≡ u = same_marked s t.used u t.within w there in
      let back : n.0 ≡ without u s = sym c.1 ∙ t.rest ∙ ap (λ v. without v s) same in
      let z = y.sound s r u e w (ap (G s) (sym back) ∙ n.2) in
      ((subst P same t.fact, z.0), z.1);
  complete = λ s u e w q.
      ap (λ o. next (next o (agreed (mark u s.there))) (G s)) (x.complete s u e q.0 w)
      ∙ ap (λ b. next (if b then Some (without u s) else None) (G s)) (same_marks-itself (mark u s.there))
      ∙ y.complete s u e w q.1;
}

-- ---- a variable

in_single : (b : Bool) (k j : ℕ) → single b k j ≡ true → (b ≡ true) × (k ≡ j)
in_single b zero zero h = (h, refl)
in_single b zero (suc j) h = absurd (cc h)
in_single b (suc k) zero h = absurd (cc h)
in_single b (suc k) (suc j) h = let r = in_single b k j h in (r.0, ap suc r.1)

taken_some : (l t i : Bool) (k : ℕ) (s r : Scope) → taken_as (cond l (cond t (cond i Here Outside) Gone) Here) k s ≡ Some r →
    (l ≡ true → (t && i) ≡ true) × (after_take Here k s ≡ r)
taken_some false t i k s r h = ((λ e. absurd (cc e)), same_Some (after_take Here k s) r h)
taken_some true false i k s r h = absurd (cc h)
taken_some true true false k s r h = absurd (cc h)
taken_some true true true k s r h = ((λ e. refl), same_Some (after_take Here k s) r h)

taken_here : (l t i : Bool) (k : ℕ) (s : Scope) →
    (l ≡ true → (t && i) ≡ true) → taken_as (cond l (cond t (cond i Here Outside) Gone) Here) k s ≡ Some (after_take Here k s)
taken_here false t i k s h = refl
taken_here true false i k s h = absurd (cc (h refl))
taken_here true true false k s h = absurd (cc (h refl))
taken_here true true true k s h = refl

pub decides_variable : (g : List Variable) (k : ℕ) (v : Variable) → slice_get g k ≡ Some v → Decides g
    (λ u. u ≡ single (is_once v.uses) k) (taking k)
decides_variable g k v is = record {
  sound = λ s r e h.
      let l = linear_at s.variables k in
      let t = taken_some l (at_or_not s.there k) (is_inside s.bodies k) k s r h in
      let linear : l ≡ is_once v.uses = linear_of s.variables k v (ap (λ z. slice_get z k) e ∙ is) in
      record {
        used = single l k;
        fact = ap (λ b. single b k) linear;
        within = λ j o. let i = in_single l k j o in subst (λ n. open_in s n ≡ true) i.1 (t.0 i.0);
        rest = sym t.1;
      };
  complete = λ s u e q w.
      let l = linear_at s.variables k in
      let linear : l ≡ is_once v.uses = linear_of s.variables k v (ap (λ z. slice_get z k) e ∙ is) in
      let set : u ≡ single l k = q ∙ ap (λ b. single b k) (sym linear) in
      taken_here l (at_or_not s.there k) (is_inside s.bodies k) k s
      (λ h. w k (ap (λ z. z k) set ∙ ap (λ b. single b k k) h ∙ single_at k))
      ∙ ap (λ z. Some (without z s)) (sym set);
}
