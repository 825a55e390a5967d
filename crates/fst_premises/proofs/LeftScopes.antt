-- Scopes without their innermost variables.
use Rattle.std.proofs.Common.{◌≡◌, ◌∙◌, ◌+◌, ℕ, zero, suc, Bool, List, [], ◌∷◌, refl, ap, arith}
use Rattle.fst_context.specs.Scope.{Scope, at_or_not, left, tail}
use Rattle.fst_premises.specs.Scopes.{left_all}

-- leaving one variable after n others is leaving it before them
pub left_commutes : (n : ℕ) (z : Scope) → left (left_all n z) ≡ left_all n (left z)
left_commutes zero z = refl
left_commutes (suc n) z = left_commutes n (left z)

-- leaving one variable and then n is leaving n + 1
pub left_more : (n : ℕ) (z : Scope) → left_all n (left z) ≡ left_all (n + 1) z
left_more n z = let e : suc n ≡ n + 1 = omega arith in ap (λ m. left_all m z) e

at_tail : (bs : List Bool) (n : ℕ) → at_or_not (tail bs) n ≡ at_or_not bs (suc n)
at_tail [] n = refl
at_tail (b ∷ bs) n = refl

-- the innermost mark after n variables were left
pub at_left : (n : ℕ) (z : Scope) → at_or_not (left_all n z).there 0 ≡ at_or_not z.there n
at_left zero z = refl
at_left (suc n) z = at_left n (left z) ∙ at_tail z.there n
