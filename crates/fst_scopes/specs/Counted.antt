-- What is counted of the types that names stand for.
use Rattle.std.specs.Prelude.{◌≡◌, List, map, Option, option_map}
use Rattle.fst_types.specs.Tree.{Tree}
use Rattle.fst_scopes.specs.declared.measure.Measure.{Measure}
use Rattle.fst_scopes.specs.Measures.{measured}

-- of each tree as much is counted
abbrev pub AreMeasures : List (Option Tree) → List (Option Measure) → Type 0
AreMeasures trees measures = measures ≡ map (option_map measured) trees
