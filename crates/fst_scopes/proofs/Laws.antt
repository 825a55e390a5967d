-- What other crates cite of faults, scopes and types in them.
use Rattle.std.proofs.Common.{◌≡◌, ◌<◌, ◌≤◌, ℕ, List, [], ◌++◌, length, Option, Some, None}
use Rattle.std.specs.Prelude.{Bool, IsSome, option_map, unwrap_or}
use Rattle.fst_types.specs.ModelWrittenHeight.{height}
use Rattle.fst_types.specs.Size.{nodes}
use Rattle.fst_types.specs.Tree.{Tree}
use Rattle.fst_types.specs.Variables.{HasVariablesBelow}
use Rattle.fst_types.specs.WrittenTree.{WrittenTree, HasBranches}
use Rattle.fst_terms.specs.Naming.{Scope, place_of, type_of}
use Rattle.fst_scopes.specs.declared.fault.NameFault.{NameFault}
use Rattle.fst_scopes.specs.declared.measure.Measure.{Measure}
use Rattle.fst_scopes.specs.declared.names.Names.{Names}
use Rattle.fst_scopes.specs.declared.types.TypeNames.{TypeNames}
use Rattle.fst_scopes.specs.Counted.{AreMeasures}
use Rattle.fst_scopes.specs.First.{first_from, first_fault}
use Rattle.fst_scopes.specs.Graph.{final_trees}
use Rattle.fst_scopes.specs.Measures.{measure, measured}
use Rattle.fst_scopes.specs.Scopes.{counted, recs_of, scope_around, types_of, vars_of}
use Rattle.fst_base.specs.Limits.{most_nodes}
use Rattle.fst_scopes.specs.Faults.{is_among, too_large, type_faults}
use Rattle.fst_scopes.specs.TypeNames.{TypeDecl, scope_with}
use Rattle.fst_scopes.specs.Plain.{IsPlain, AllPlain, DeclaresClosed}
use Rattle.fst_scopes.proofs.Bound as bound
use Rattle.fst_scopes.proofs.VariableLaws as variables
use Rattle.fst_scopes.proofs.FirstLaws as first
use Rattle.fst_scopes.proofs.MeasureLengths as lengths
use Rattle.fst_scopes.proofs.Plain as plain
use Rattle.fst_scopes.proofs.There as there
use Rattle.fst_scopes.proofs.TypeLaws as types
-- what is kept, and which names are there, once some binders are noted; a binder of which no fault is told is new
pub use Rattle.fst_scopes.proofs.TwiceLaws.{IsNoted, none_noted, one_noted, is_new}
-- types in which aliases stand for the same
pub use Rattle.fst_scopes.proofs.AliasLaws.{type_agrees}
-- where the name of an alias stands
pub use Rattle.fst_scopes.proofs.OrderLaws.{place_among, stands_at}

-- faults one after another
pub first_append : (kept : Option NameFault) (fs gs : List NameFault) →
    first_from kept (fs ++ gs) ≡ first_from (first_from kept fs) gs
first_append = first.first_append

-- there is no first fault where there is none
pub no_first : (fs : List NameFault) → first_fault fs ≡ None → fs ≡ []
no_first = first.no_first

-- two lists of faults are empty where both together are
pub none_named : (fs gs : List NameFault) → fs ++ gs ≡ [] → (fs ≡ []) × (gs ≡ [])
none_named = bound.none_named

-- where each name stands for something, each type does
pub type_there : (s : Scope) → ((x : List ℕ) → IsSome (unwrap_or (s.declared x) s.otherwise)) →
    (w : WrittenTree) → IsSome (type_of s w)
type_there s all w = there.type_there s all s.recs w

-- a written type is no higher than what it stands for has nodes
pub no_higher : (s : Scope) (w : WrittenTree) (t : Tree) → type_of s w ≡ Some t → height w ≤ nodes t
no_higher = there.no_higher

-- what is declared is plain, and so is each type with no `rec` around
pub closed_plain : (families : ℕ) (s : Scope) (w : WrittenTree) (t : Tree) → AllPlain families s → s.recs ≡ [] → HasBranches w →
    type_of s w ≡ Some t → IsPlain families 0 t
closed_plain = plain.closed_plain

-- where what is declared has no variables of a signature, those of a type are among the ones in scope
pub variables_below : (s : Scope) (w : WrittenTree) (t : Tree) → DeclaresClosed s → type_of s w ≡ Some t →
    HasVariablesBelow (length s.vars) t
variables_below = variables.variables_below

-- the faults of a type go by which names its variables have, and not by their numbers
pub same_faults : (xs ys : List (List ℕ)) (declared : List ℕ → Option TypeDecl) (aliases : List ℕ → Option Tree) →
    ((x : List ℕ) → is_among xs x ≡ is_among ys x) → (w : WrittenTree) →
    type_faults (scope_with xs declared aliases) w ≡ type_faults (scope_with ys declared aliases) w
same_faults = types.same_faults

-- and is as large
pub same_size : (xs ys : List (List ℕ)) (declared : List ℕ → Option TypeDecl) (aliases : List ℕ → Option Tree) →
    ((x : List ℕ) → is_among xs x ≡ is_among ys x) → (w : WrittenTree) →
    option_map measured (type_of (scope_with xs declared aliases) w) ≡ option_map measured
    (type_of (scope_with ys declared aliases) w)
same_size = types.same_size

-- what is counted of a type is what it stands for, measured
pub type_counted : (names : Names) (trees : List (Option Tree)) (measures : List (Option Measure)) (w : WrittenTree) →
    AreMeasures trees measures →
    measure (recs_of names) (counted (vars_of names) (types_of names) measures) w ≡ option_map measured
    (type_of (scope_around names trees) w)
type_counted = types.type_counted

-- as many names of types stand for something or for nothing as there are
pub trees_long : (types : TypeNames) (looped : List Bool) (order : List ℕ) →
    length (final_trees types looped order) ≡ length types.names
trees_long = lengths.trees_long

-- and of as many something is counted
pub measures_long : (types : TypeNames) (looped : List Bool) (order : List ℕ) (measures : List (Option Measure)) →
    AreMeasures (final_trees types looped order) measures → length measures ≡ length types.names
measures_long = lengths.measures_long

-- a type without faults is no larger than types may be
pub no_larger : (at : ℕ) (t : Tree) → too_large at (Some t) ≡ [] → nodes t ≤ most_nodes
no_larger = types.no_larger

-- a name that is found is one of those in the list
pub place_within : (names : List (List ℕ)) (x : List ℕ) (k : ℕ) → place_of names x ≡ Some k → k < length names
place_within = plain.place_within
