-- How many names of types something is known of.
use Rattle.std.proofs.Common.{◌≡◌, ◌∙◌, ℕ, List, [], ◌∷◌, Option, None, length, set, replicate, refl, ap}
use Rattle.std.specs.Prelude.{Bool, option_map}
use Rattle.std.proofs.lemmas.List.{length-map, length-replicate, length-set}
use Rattle.fst_types.specs.Tree.{Tree}
use Rattle.fst_scopes.specs.declared.measure.Measure.{Measure}
use Rattle.fst_scopes.specs.declared.types.TypeNames.{TypeNames}
use Rattle.fst_scopes.specs.Counted.{AreMeasures}
use Rattle.fst_scopes.specs.Graph.{final_trees, tree_after, trees_after}
use Rattle.fst_scopes.specs.Measures.{measured}

after_long : (types : TypeNames) (looped : List Bool) (trees : List (Option Tree)) (order : List ℕ) →
    length (trees_after types looped trees order) ≡ length trees
after_long types looped trees [] = refl
after_long types looped trees (x ∷ order) =
    after_long types looped (set trees x (tree_after types looped trees x)) order
    ∙ length-set trees x (tree_after types looped trees x)

abbrev none : Option Tree
none = None

-- as many names stand for something or for nothing as there are
pub trees_long : (types : TypeNames) (looped : List Bool) (order : List ℕ) →
    length (final_trees types looped order) ≡ length types.names
trees_long types looped order = after_long types looped (replicate (length types.names) none) order
    ∙ length-replicate (length types.names) none

-- and of as many something is counted
pub measures_long : (types : TypeNames) (looped : List Bool) (order : List ℕ) (measures : List (Option Measure)) →
    AreMeasures (final_trees types looped order) measures → length measures ≡ length types.names
measures_long types looped order measures are =
    ap (λ (ms : List (Option Measure)). length ms) are ∙ length-map (final_trees types looped order) (option_map measured)
    ∙ trees_long types looped order
