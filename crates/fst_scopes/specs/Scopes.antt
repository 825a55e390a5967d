-- The names in scope where a type is read.
use Rattle.std.specs.Prelude.{◌≡◌, ℕ, List, [], ◌∷◌, Option, Some, None, option_map, option_and_then, slice_get, unwrap_or, if◌then◌else◌}
use Rattle.fst_types.specs.Tree.{Tree}
use Rattle.fst_terms.specs.ModuleTree.{Declared}
use Rattle.fst_terms.specs.Naming.{Scope, place_of}
use Rattle.fst_scopes.specs.declared.names.Names.{Names}
use Rattle.fst_scopes.specs.declared.names.Names as names
use Rattle.fst_scopes.specs.declared.types.TypeEntry.{TypeEntry}
use Rattle.fst_scopes.specs.declared.types.TypeEntry.TheVariants as entry
use Rattle.fst_scopes.specs.declared.types.TypeNames.{TypeNames}
use Rattle.fst_scopes.specs.declared.measure.Measure.{Measure}
use Rattle.fst_scopes.specs.Faults.{is_among}
use Rattle.fst_scopes.specs.Measures.{leaf}
use Rattle.fst_scopes.specs.TypeNames.{TypeDecl, data_type, other_name, type_declared, scope_with}

-- the names of the `rec`s around, innermost first
abbrev pub recs_of : Names → List (List ℕ)
recs_of (names.Outermost vars types) = []
recs_of (names.Within' x p outer) = x.now ∷ recs_of outer

-- the names of the variables
abbrev pub vars_of : Names → List (List ℕ)
vars_of (names.Outermost vars types) = vars.now
vars_of (names.Within' x p outer) = vars_of outer

-- the declared types
abbrev pub types_of : Names → TypeNames
types_of (names.Outermost vars types) = types.now
types_of (names.Within' x p outer) = types_of outer

-- what the entry of a name says of it
abbrev pub entry_decl : TypeEntry → TypeDecl
entry_decl (entry.Family k) = data_type k
entry_decl (entry.Alias w) = other_name w.now

-- what belongs to a name, where things belong to names by their places
abbrev pub of_name : {A : Type 0} → List (List ℕ) → List A → List ℕ → Option A
of_name names things x = option_and_then (λ k. slice_get things k) (place_of names x)

-- what a table says that is declared under a name
abbrev pub declared_in : TypeNames → List ℕ → Option TypeDecl
declared_in types x = option_map entry_decl (of_name types.names types.entries.items x)

-- the table has the first declaration of each name of a type in a module
abbrev pub AreTypeNames : List Declared → TypeNames → Type 0
AreTypeNames ds types = (x : List ℕ) → declared_in types x ≡ type_declared ds x

-- what is there is given
abbrev pub flat : {A : Type 0} → Option (Option A) → Option A
flat o = unwrap_or o None

-- what a name stands for by a list of what the names of a table stand for
abbrev pub standing_in : TypeNames → List (Option Tree) → List ℕ → Option Tree
standing_in types trees x = flat (of_name types.names trees x)

-- what is in scope within these `rec`s, where the names of types stand for these trees
abbrev pub scope_within : List (List ℕ) → Names → List (Option Tree) → Scope
scope_within recs names trees =
    let outer = scope_with (vars_of names) (declared_in (types_of names))
    (standing_in (types_of names) trees) in
    record {
      recs = recs;
      vars = outer.vars;
      declared = outer.declared;
      otherwise =
          outer.otherwise;
    }

-- what is in scope, where the names of types stand for these trees
abbrev pub scope_around : Names → List (Option Tree) → Scope
scope_around names trees = scope_within (recs_of names) names trees

-- what is counted of a declared name
abbrev pub counted_of : Option Measure → Option TypeDecl → Option Measure
counted_of m None = Some leaf
counted_of m (Some (data_type k)) = Some leaf
counted_of m (Some (other_name w)) = m

-- what is counted of a name that no `rec` binds
abbrev pub counted : List (List ℕ) → TypeNames → List (Option Measure) → List ℕ → Option Measure
counted vars types measures x = if is_among vars x then Some leaf else counted_of
    (flat (of_name types.names measures x)) (declared_in types x)
