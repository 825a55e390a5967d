-- Steps around a term as it was written, the innermost last.
use Rattle.std.proofs.Common.{◌≡◌, ◌∙◌, ◌≤◌, ◌<◌, ◌+◌, refl, ap, ℕ, List, [], ◌∷◌, ◌++◌, length, arith}
use Rattle.std.specs.Prelude.{Option, None, Some, MatchOption, IfSome, option_to_list}
use Rattle.fst_terms.specs.TermTree.{TermTree, term_height}
use Rattle.fst_terms.specs.SourceAround.{second, wrap, around}
use Rattle.fst_terms.specs.declared.source_steps.SourceStep.{SourceStep}
use Rattle.fst_terms.specs.declared.source_steps.SourceStep.TheVariants.{Operate, Apply}

-- one more step next to a term
pub around_last : (t : TermTree) (xs : List SourceStep) (x : SourceStep) → around t (xs ++ x ∷ []) ≡ around (wrap x t) xs
around_last t [] x = refl
around_last t (y ∷ xs) x = ap (wrap y) (around_last t xs x)

-- the step next to a term is taken off
pub step_popped : (old new : List SourceStep) (n m : ℕ) (r : Option SourceStep) → n ≡ length old → old ≡ new ++ option_to_list r →
    MatchOption r ((n ≡ 0) × (m ≡ 0)) (λ _. m + 1 ≡ n) → MatchOption r ((t : TermTree) → around t old ≡ t)
    (λ x. (t : TermTree) → around t old ≡ around (wrap x t) new)
step_popped [] new n m None long is cases = λ t. refl
step_popped (y ∷ old) new n m None long is cases = absurd (omega (arith, long, cases.0))
step_popped old new n m (Some x) long is cases = λ t. ap (around t) is ∙ around_last t new x

wrap_low : (x : SourceStep) (t : TermTree) → (term_height t < term_height (wrap x t)) ×
    (term_height (second x) < term_height (wrap x t))
wrap_low (Operate at o s) t = (omega arith, omega arith)
wrap_low (Apply at s) t = (omega arith, omega arith)

-- a term is no higher than it is with steps around it
around_low : (t : TermTree) (xs : List SourceStep) → term_height t ≤ term_height (around t xs)
around_low t [] = omega arith
around_low t (x ∷ xs) = omega (arith, around_low t xs, (wrap_low x (around t xs)).0)

-- the second part of a step is lower than the whole
pub second_low : (old new : List SourceStep) (r : Option SourceStep) → old ≡ new ++ option_to_list r → IfSome r
    (λ x. (t : TermTree) → term_height (second x) < term_height (around t old))
second_low old new None is = tt
second_low old new (Some x) is = λ t. omega (
  arith,
  (wrap_low x t).1,
  around_low (wrap x t) new,
  ap (λ xs. term_height (around t xs)) is,
  ap term_height (around_last t new x),
)
