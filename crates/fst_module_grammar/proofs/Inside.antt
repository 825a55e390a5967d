-- What may be opened within so many levels.
use Rattle.std.proofs.Common.{◌≡◌, ℕ, zero, suc, length, refl, ap}
use Rattle.fst_module_grammar.specs.TermReading.{inside}

pub length_inside : (n : ℕ) → length (inside n) ≡ n
unfolding inside
length_inside zero = refl
length_inside (suc n) = ap suc (length_inside n)
