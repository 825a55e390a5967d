-- Steps around a term, the innermost last.
use Rattle.std.proofs.Common.{◌≡◌, ◌∙◌, ◌≤◌, ◌<◌, ◌+◌, refl, ap, ℕ, List, [], ◌∷◌, ◌++◌, length, arith}
use Rattle.std.specs.Prelude.{Option, None, Some, MatchOption, IfSome, option_to_list}
use Rattle.fst_terms.specs.CoreTree.{CoreTree, core_height}
use Rattle.fst_terms.specs.Around.{second, wrap, around}
use Rattle.fst_terms.specs.declared.steps.Step.{Step}
use Rattle.fst_terms.specs.declared.steps.Step.TheVariants.{Operate, Apply}

-- one more step next to a term
pub around_last : (t : CoreTree) (xs : List Step) (x : Step) → around t (xs ++ x ∷ []) ≡ around (wrap x t) xs
around_last t [] x = refl
around_last t (y ∷ xs) x = ap (wrap y) (around_last t xs x)

-- the step next to a term is taken off
pub step_popped : (old new : List Step) (n m : ℕ) (r : Option Step) → n ≡ length old → old ≡ new ++ option_to_list r →
    MatchOption r ((n ≡ 0) × (m ≡ 0)) (λ _. m + 1 ≡ n) → MatchOption r ((t : CoreTree) → around t old ≡ t)
    (λ x. (t : CoreTree) → around t old ≡ around (wrap x t) new)
step_popped [] new n m None long is cases = λ t. refl
step_popped (y ∷ old) new n m None long is cases = absurd (omega (arith, long, cases.0))
step_popped old new n m (Some x) long is cases = λ t. ap (around t) is ∙ around_last t new x

wrap_low : (x : Step) (t : CoreTree) → (core_height t < core_height (wrap x t)) ×
    (core_height (second x) < core_height (wrap x t))
wrap_low (Operate at o s) t = (omega arith, omega arith)
wrap_low (Apply at s) t = (omega arith, omega arith)

-- a term is no higher than it is with steps around it
around_low : (t : CoreTree) (xs : List Step) → core_height t ≤ core_height (around t xs)
around_low t [] = omega arith
around_low t (x ∷ xs) = omega (arith, around_low t xs, (wrap_low x (around t xs)).0)

-- the second part of a step is lower than the whole
pub second_low : (old new : List Step) (r : Option Step) → old ≡ new ++ option_to_list r → IfSome r
    (λ x. (t : CoreTree) → core_height (second x) < core_height (around t old))
second_low old new None is = tt
second_low old new (Some x) is = λ t. omega (
  arith,
  (wrap_low x t).1,
  around_low (wrap x t) new,
  ap (λ xs. core_height (around t xs)) is,
  ap core_height (around_last t new x),
)
