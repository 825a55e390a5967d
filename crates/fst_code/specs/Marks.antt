-- Sets of variables in scope as lists of marks by level.
use Rattle.std.specs.Prelude.{ℕ, zero, suc, Bool, List, [], ◌∷◌}
use Rattle.fst_machine.specs.Code.{no_variables}

-- a set of variables with one more inside, which is in it or isn't
abbrev pub entered : Bool → (ℕ → Bool) → ℕ → Bool
entered b p zero = b
entered b p (suc k) = p k

-- these variables inside those of a set
abbrev pub marked_over : List Bool → (ℕ → Bool) → ℕ → Bool
marked_over [] p k = p k
marked_over (b ∷ bs) p k = marked_over bs (entered b p) k

-- the variables that are marked, of which the last is the innermost
abbrev pub marked : List Bool → ℕ → Bool
marked bs k = marked_over bs no_variables k
