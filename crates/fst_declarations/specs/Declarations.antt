-- What a module declares, as the code keeps it.
use Rattle.std.specs.Prelude.{◌≡◌, ℕ, List, Option, Some, None, ⊤}
use Rattle.fst_loops.specs.Graphs.{IsOrder}
use Rattle.fst_types.specs.Tree.{Tree}
use Rattle.fst_terms.specs.ModuleTree.{Declared}
use Rattle.fst_scopes.specs.Aliases.{Known, IsKnown}
use Rattle.fst_scopes.specs.Faults.{is_among}
use Rattle.fst_scopes.specs.Graph.{final_trees, graph_of, known_by}
use Rattle.fst_scopes.specs.Scopes.{AreTypeNames, declared_in}
use Rattle.fst_scopes.specs.Twice.{AreNames}
use Rattle.fst_declarations.specs.ModuleFaults.{Signed, globals}
use Rattle.fst_declarations.specs.ModuleNames.{equation_names, type_names}
use Rattle.fst_declarations.specs.SignatureScopes.{AreScopes, IsScopeOf}
use Rattle.fst_declarations.specs.Tables.{AreMakers, AreSignatures, signed_of}
use Rattle.fst_declarations.specs.declared.declarations.Declarations.{Declarations}
use Rattle.fst_declarations.specs.declared.scopes.SignatureScope.{SignatureScope}
use Rattle.fst_declarations.specs.declared.entries.SignatureEntry.{SignatureEntry}

-- what the names of types stand for
abbrev pub trees_in : Declarations → List (Option Tree)
trees_in d = final_trees d.types d.aliases.looped.items d.aliases.order.items

-- what is known of aliases
abbrev pub known_in : Declarations → Known
known_in d = known_by d.types (trees_in d) d.aliases.looped.items

-- this is what a module declares
pub record AreDeclarations (ds : List Declared) (d : Declarations) : Type 0 where
  pub types : AreTypeNames ds d.types
  pub type_names_are : AreNames (type_names ds) d.types.names
  pub makers : AreMakers ds d.makers
  pub signatures : AreSignatures ds d.signatures
  pub equations : AreNames (equation_names ds) d.equations
  pub global_names : (x : List ℕ) → is_among d.globals x ≡ is_among (globals ds) x
  pub scopes : AreScopes d.types (trees_in d) d.signatures.entries.items d.scopes.items
  pub known : IsKnown (declared_in d.types) (known_in d)
  pub order : IsOrder (graph_of d.types) d.aliases.order.items d.aliases.looped.items

-- what is kept of the signature of a name, if it has one
abbrev pub IsScopeFor : Declarations → Option Signed → Option SignatureScope → Type 0
IsScopeFor d None None = ⊤
IsScopeFor d None (Some s) = ⊥
IsScopeFor d (Some g) None = ⊥
IsScopeFor d (Some g) (Some s) = (e : SignatureEntry) ×
    (signed_of e ≡ g) × IsScopeOf d.types (trees_in d) e s
