-- The numbers of the constructors that a module declares.
use Rattle.std.specs.Prelude.{ℕ, suc, List, [], ◌∷◌, ◌++◌}
use Rattle.fst_terms.specs.ModuleTree.{Maker, Declared, family, alias, signature, equation}

-- the numbers of some constructors' data type and their own there, from one on
abbrev pub numbers_from : ℕ → ℕ → List Maker → List (ℕ × ℕ)
numbers_from k n [] = []
numbers_from k n (m ∷ ms) = (k, n) ∷ numbers_from k (suc n) ms

-- those of all constructors, where so many data types stand before
abbrev pub maker_numbers : ℕ → List Declared → List (ℕ × ℕ)
maker_numbers k [] = []
maker_numbers k (family x ms ∷ ds) = numbers_from k 0 ms ++ maker_numbers (suc k) ds
maker_numbers k (alias x w ∷ ds) = maker_numbers k ds
maker_numbers k (signature x bs w ∷ ds) = maker_numbers k ds
maker_numbers k (equation x ps t ∷ ds) = maker_numbers k ds
