-- A term by its place and its parts, where these are known by other names.
use Rattle.std.proofs.Common.{◌≡◌, ◌∙◌, ℕ, sym, ap, subst}
use Rattle.std.specs.Prelude.{Result, IfErr, IfOk}
use Rattle.fst_terms.specs.CoreTree.{CoreTree}
use Rattle.fst_context.specs.Scope.{Scope}
use Rattle.fst_derivations.specs.Deriv.{Deriv}
use Rattle.fst_premises.specs.Shown.{place}
use Rattle.fst_typing.specs.Shown.{IsRefused}
use Rattle.fst_premises.specs.Checks.{Check}
use Rattle.fst_typing.specs.Typed.{IsTyped}
use Rattle.fst_premises.specs.declared.fault.CheckFault.{CheckFault}

pub whole_none : (f : ℕ → CoreTree) → ((n : ℕ) → place (f n) ≡ n) → {e : CoreTree} {at p : ℕ} → f at ≡ e → p ≡ place e → e ≡ f p
whole_none f g {e} {at} {p} w q = sym w ∙ ap f (sym (g at) ∙ ap place w ∙ sym q)

pub whole_one : (f : ℕ → CoreTree → CoreTree) →
    ((n : ℕ) (x : CoreTree) → place (f n x) ≡ n) → {e a A : CoreTree} {at p : ℕ} → f at a ≡ e → p ≡ place e → A ≡ a → e ≡ f p A
whole_one f g {e} {a} {A} {at} {p} w q x = sym w ∙ (λ i. f ((sym (g at a) ∙ ap place w ∙ sym q) i) (sym x i))

pub whole_two : (f : ℕ → CoreTree → CoreTree → CoreTree) →
    ((n : ℕ) (x y : CoreTree) → place (f n x y) ≡ n) → {e a b A B : CoreTree} {at p : ℕ} → f at a b ≡ e → p ≡ place e → A ≡ a →
    B ≡ b → e ≡ f p A B
whole_two f g {e} {a} {b} {A} {B} {at} {p} w q x y = sym w
    ∙ (λ i. f ((sym (g at a b) ∙ ap place w ∙ sym q) i) (sym x i) (sym y i))

pub whole_three : (f : ℕ → CoreTree → CoreTree → CoreTree → CoreTree) →
    ((n : ℕ) (x y z : CoreTree) → place (f n x y z) ≡ n) → {e a b o A B O : CoreTree} {at p : ℕ} → f at a b o ≡ e → p ≡ place e →
    A ≡ a → B ≡ b → O ≡ o → e ≡ f p A B O
whole_three f g {e} {a} {b} {o} {A} {B} {O} {at} {p} w q x y z = sym w
    ∙ (λ i. f ((sym (g at a b o) ∙ ap place w ∙ sym q) i) (sym x i) (sym y i) (sym z i))

-- what is found of a term is found of it by its other name
pub typed_as : {A F : Type 0} (c : Check) (s z : Scope) (r : Result A F) (g : A → Deriv) {e b : CoreTree} → e ≡ b → IfOk r
    (λ d. IsTyped c s z b (g d)) → IfOk r (λ d. IsTyped c s z e (g d))
typed_as c s z r g is = subst (λ o. IfOk r (λ d. IsTyped c s z o (g d))) (sym is)

-- and so is why it is refused
pub refused_as : {A : Type 0} (c : Check) (s : Scope) (r : Result A CheckFault) {e b : CoreTree} → e ≡ b → IfErr r
    (λ f. IsRefused c b s f) → IfErr r (λ f. IsRefused c e s f)
refused_as c s r is = subst (λ o. IfErr r (λ f. IsRefused c o s f)) (sym is)
