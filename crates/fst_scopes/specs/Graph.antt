-- The names of types as a graph: each leads to the declared names in its type.
use Rattle.std.specs.Prelude.{ℕ, List, [], ◌∷◌, ◌++◌, map, length, replicate, Option, Some, None, option_to_list, set, get_or, slice_get, unwrap_or, false, Bool, if◌then◌else◌}
use Rattle.fst_types.specs.Tree.{Tree}
use Rattle.fst_terms.specs.Naming.{Scope, place_of, type_of}
use Rattle.fst_scopes.specs.declared.types.TypeEntry.{TypeEntry}
use Rattle.fst_scopes.specs.declared.types.TypeEntry.TheVariants as entry
use Rattle.fst_scopes.specs.declared.types.TypeNames.{TypeNames}
use Rattle.fst_scopes.specs.Aliases.{Known, names_in}
use Rattle.fst_scopes.specs.Scopes.{declared_in, of_name, standing_in}
use Rattle.fst_scopes.specs.TypeNames.{scope_with}

-- the places of those of some names that stand in a list
abbrev pub places_in : List (List ℕ) → List (List ℕ) → List ℕ
places_in names [] = []
places_in names (x ∷ xs) = option_to_list (place_of names x) ++ places_in names xs

-- what an entry leads to
abbrev pub entry_edges : List (List ℕ) → TypeEntry → List ℕ
entry_edges names (entry.Family k) = []
entry_edges names (entry.Alias w) = places_in names (names_in [] w.now)

-- what each of the declared names leads to
abbrev pub graph_of : TypeNames → List (List ℕ)
graph_of types = map (entry_edges types.names) types.entries.items

-- what is in scope in the type of an alias
abbrev pub alias_scope : TypeNames → List (Option Tree) → Scope
alias_scope types trees = scope_with [] (declared_in types) (standing_in types trees)

-- what an entry stands for, where the names stand for these trees
abbrev pub entry_tree : TypeNames → List (Option Tree) → Option TypeEntry → Option Tree
entry_tree types trees None = None
entry_tree types trees (Some (entry.Family k)) = None
entry_tree types trees (Some (entry.Alias w)) = type_of (alias_scope types trees) w.now

-- what a name stands for; nothing if it lies on a loop
abbrev pub tree_after : TypeNames → List Bool → List (Option Tree) → ℕ → Option Tree
tree_after types looped trees x = if get_or looped x false then None else entry_tree types trees
    (slice_get types.entries.items x)

-- what the aliases stand for once those in some order are looked at, of which those on loops stand for nothing
abbrev pub trees_after : TypeNames → List Bool → List (Option Tree) → List ℕ → List (Option Tree)
trees_after types looped trees [] = trees
trees_after types looped trees (x ∷ order) =
    trees_after types looped (set trees x (tree_after types looped trees x)) order

-- what the aliases stand for once all in an order are looked at
abbrev pub final_trees : TypeNames → List Bool → List ℕ → List (Option Tree)
final_trees types looped order = trees_after types looped
    (replicate (length types.names) None) order

-- what is known of aliases by the trees and by which of them lie on loops
abbrev pub known_by : TypeNames → List (Option Tree) → List Bool → Known
known_by types trees looped = record {
  stands = standing_in types trees;
  loops =
      λ x. unwrap_or (of_name types.names looped x) false;
}
