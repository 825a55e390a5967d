-- Walks that decide a property of sets of variables: they come to the scope after such a set was taken, exactly where there is one.
use Rattle.std.proofs.Common.{◌≡◌, ◌∙◌, Bool, true, false, List, Option, Some, None, refl, sym, ap, subst}
use Rattle.std.proofs.lemmas.Option.{same_Some}
use Rattle.fst_context.specs.Vars.{Vars, no_vars, Both}
use Rattle.fst_context.specs.Scope.{Scope, Variable, without, IsWithin, Takes}
use Rattle.fst_context.proofs.Laws.{takes_both, takes_none, takes_as, within_left, within_right, without_twice}
use Rattle.fst_rules.specs.Walks.{Walk, nowhere, next, only, given, after}

pub record Decides (g : List Variable) (P : Vars → Type 0) (F : Walk) : Type 0 where
  pub sound : (s r : Scope) → s.variables ≡ g → F s ≡ Some r → Takes P s r
  pub complete : (s : Scope) (u : Vars) → s.variables ≡ g → P u → IsWithin u s → F s ≡ Some (without u s)

-- what a walk came to before another one
pub next_some : {A B : Type 0} (o : Option A) (f : A → Option B) (r : B) → next o f ≡ Some r → (x : A) × (o ≡ Some x) ×
    (f x ≡ Some r)
next_some None f r e = absurd (cc e)
next_some (Some x) f r e = (x, refl, e)

pub decides_as : (g : List Variable) (P Q : Vars → Type 0) (F : Walk) → ((u : Vars) → P u → Q u) →
    ((u : Vars) → Q u → P u) → Decides g P F → Decides g Q F
decides_as g P Q F f h x = record {
  sound = λ s r v e. takes_as P Q s r f (x.sound s r v e);
  complete = λ s u v q w. x.complete s u v (h u q) w;
}

pub decides_none : (g : List Variable) → Decides g (λ u. u ≡ no_vars) Some
decides_none g = record {
  sound = λ s r v e. subst (λ z. Takes (λ u. u ≡ no_vars) s z) (same_Some s r e) (takes_none (λ u. u ≡ no_vars) s refl);
  complete = λ s u v q w.
      let x = takes_none (λ u. u ≡ no_vars) s refl in
      ap Some (x.rest ∙ ap (λ z. without z s) (x.fact ∙ sym q));
}

pub decides_never : (g : List Variable) (P : Vars → Type 0) → ((u : Vars) → P u → ⊥) → Decides g P nowhere
decides_never g P f = record { sound = λ s r v e. absurd (cc e); complete = λ s u v q w. absurd (f u q) }

-- a test that holds where the property does
pub decides_only : (g : List Variable) (P : Vars → Type 0) (b : Bool) (F : Walk) → ((u : Vars) → P u → b ≡ true) →
    (b ≡ true → Decides g P F) → Decides g P (only b F)
decides_only g P true F f h = let x = h refl in record { sound = x.sound; complete = x.complete }
decides_only g P false F f h = record { sound = λ s r v e. absurd (cc e); complete = λ s u v q w. absurd (cc (f u q)) }

-- something that is there where the property holds
pub decides_given : {A : Type 0} (g : List Variable) (P : Vars → Type 0) (o : Option A) (F : A → Walk) →
    ((u : Vars) → P u → o ≡ None → ⊥) → ((x : A) → o ≡ Some x → Decides g P (F x)) → Decides g P (given o F)
decides_given g P None F f h = record { sound = λ s r v e. absurd (cc e); complete = λ s u v q w. absurd (f u q refl) }
decides_given g P (Some x) F f h = let d = h x refl in record { sound = d.sound; complete = d.complete }

-- ---- one walk after the other

pub decides_both : (g : List Variable) (P Q : Vars → Type 0) (F G : Walk) → Decides g P F → Decides g Q G →
    Decides g (Both P Q) (after F G)
decides_both g P Q F G x y = record {
  sound = λ s r v e.
      let n = next_some (F s) G r e in
      let a = x.sound s n.0 v n.1 in
      takes_both P Q s n.0 r a (y.sound n.0 r (ap (λ z. z.variables) a.rest ∙ v) n.2);
  complete = λ s u v q w.
      let first = x.complete s q.left v q.first (within_left s u q.left q.right q.split w) in
      let second = y.complete (without q.left s) q.right v q.second (within_right s u q.left q.right q.split w) in
      ap (λ o. next o G) first ∙ second ∙ ap Some (without_twice q.left q.right s ∙ ap (λ z. without z s) (sym q.split.together));
}

-- a walk that is the same from each scope of these variables
pub decides_equal : (g : List Variable) (P : Vars → Type 0) (F G : Walk) →
    ((s : Scope) → s.variables ≡ g → G s ≡ F s) → Decides g P F → Decides g P G
decides_equal g P F G f x = record {
  sound = λ s r v e. x.sound s r v (sym (f s v) ∙ e);
  complete = λ s u v q w. f s v ∙ x.complete s u v q w;
}
