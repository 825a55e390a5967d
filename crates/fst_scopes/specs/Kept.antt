-- Names of which each is kept once.
use Rattle.std.specs.Prelude.{ℕ, List, [], ◌∷◌, ◌++◌, if◌then◌else◌}
use Rattle.fst_scopes.specs.Faults.{is_among}

-- names, and behind them one that isn't among them
abbrev pub with_name : List (List ℕ) → List ℕ → List (List ℕ)
with_name xs x = if is_among xs x then xs else xs ++ x ∷ []
