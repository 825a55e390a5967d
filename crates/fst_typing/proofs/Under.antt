-- What is taken under variables that are all used at their end.
use Rattle.std.proofs.Common.{◌≡◌, ◌∙◌, ◌<◌, ℕ, zero, suc, false, List, [], ◌∷◌, length, refl, sym, ap, subst, arith}
use Rattle.fst_types.specs.Tree.{Tree}
use Rattle.fst_types.specs.declared.kind.Use.{Use}
use Rattle.fst_types.specs.declared.kind.Use.TheVariants.{Many, Once}
use Rattle.fst_terms.specs.CoreTree.{CoreTree}
use Rattle.fst_terms.specs.declared.binder.Binder.{Binder}
use Rattle.fst_context.specs.Scope.{Scope, Variable, is_once, at_or_not, entered, fewer, left, more, Takes}
use Rattle.fst_context.specs.Vars.{Vars, under}
use Rattle.fst_context.proofs.Laws.{takes_inside}
use Rattle.fst_derivations.specs.Deriv.{Deriv}
use Rattle.fst_derivations.specs.Parts.{enter_all, under_all}
use Rattle.fst_premises.specs.Scopes.{inside, AreUsed, entered_all, left_all}
use Rattle.fst_premises.specs.Checks.{Check}
use Rattle.fst_premises.proofs.Laws.{at_left, left_commutes}
use Rattle.fst_typing.specs.Typed.{IsPlain, IsTypedUnder}

-- what is taken under variables that are used at their end is taken outside them
pub under_takes : (P : Vars → Type 0) (xs : List Binder) (vs : List Variable) (r z : Scope) → length xs ≡ length vs →
    Takes P (entered_all xs vs r) z → AreUsed (length xs) z →
    Takes (λ u. P (under_all vs u)) r (left_all (length xs) z)
under_takes P [] [] r z e t h = t
under_takes P [] (v ∷ vs) r z e t h = absurd (omega (arith, e))
under_takes P (x ∷ xs) [] r z e t h = absurd (omega (arith, e))
under_takes P (x ∷ xs) (v ∷ vs) r z e t h =
    let n : ℕ = length xs in
    let inner : Takes (λ u. P (under_all vs u)) (entered x.name v r) (left_all n z) =
    under_takes P xs vs (entered x.name v r) z (omega (arith, e)) t (λ k l. h k (omega (arith, l))) in
    let used : at_or_not (left_all n z).there 0 ≡ false = at_left n z ∙ h n (omega arith) in
    subst (λ s. Takes (λ u. P (under_all vs (under (is_once v.uses) u))) r s) (left_commutes n z)
    (takes_inside (λ u. P (under_all vs u)) x.name v r (left_all n z) inner used)

-- the variables of a scope in which more are entered
pub entered_variables : (xs : List Binder) (vs : List Variable) (r : Scope) → length xs ≡ length vs →
    (entered_all xs vs r).variables ≡ enter_all vs r.variables
entered_variables [] [] r e = refl
entered_variables [] (v ∷ vs) r e = absurd (omega (arith, e))
entered_variables (x ∷ xs) [] r e = absurd (omega (arith, e))
entered_variables (x ∷ xs) (v ∷ vs) r e = entered_variables xs vs (entered x.name v r) (omega (arith, e))

-- the term under variables takes what its derivation uses outside them
pub takes_under : (c : Check) (xs : List Binder) (ts : List Tree) (r s : Scope) (e : CoreTree) (d : Deriv)
    (y : IsTypedUnder c xs ts r s e d) →
    Takes (λ u. IsPlain c e (enter_all y.variables r.variables) d (under_all y.variables u)) r s
takes_under c xs ts r s e d y =
    let inside : Takes (IsPlain c e (enter_all y.variables r.variables) d) (entered_all xs y.variables r) y.inner =
    subst (λ g. Takes (IsPlain c e g d) (entered_all xs y.variables r) y.inner)
    (entered_variables xs y.variables r y.long) y.typed in
    subst (λ z. Takes (λ u. IsPlain c e (enter_all y.variables r.variables) d (under_all y.variables u)) r z) (sym y.left)
    (under_takes (IsPlain c e (enter_all y.variables r.variables) d) xs y.variables r y.inner y.long inside y.used)

more_length : (ns : List ℕ) → length (more ns) ≡ length ns
more_length [] = refl
more_length (n ∷ ns) = refl

fewer_length : (ns : List ℕ) → length (fewer ns) ≡ length ns
fewer_length [] = refl
fewer_length (zero ∷ ns) = ap suc (fewer_length ns)
fewer_length (suc n ∷ ns) = refl

-- entering variables keeps the bodies
pub bodies_entered : (xs : List Binder) (vs : List Variable) (s : Scope) → 0 < length s.bodies →
    0 < length (entered_all xs vs s).bodies
bodies_entered [] vs s h = h
bodies_entered (x ∷ xs) [] s h = h
bodies_entered (x ∷ xs) (v ∷ vs) s h = bodies_entered xs vs (entered x.name v s) (omega (arith, h, more_length s.bodies))

-- and so does leaving them
pub bodies_left : (n : ℕ) (s : Scope) → 0 < length s.bodies → 0 < length (left_all n s).bodies
bodies_left zero s h = h
bodies_left (suc n) s h = bodies_left n (left s) (omega (arith, h, fewer_length s.bodies))

-- beginning a body keeps the variables
pub inside_variables : (n : Use) (s : Scope) → (inside n s).variables ≡ s.variables
inside_variables Many s = refl
inside_variables Once s = refl
