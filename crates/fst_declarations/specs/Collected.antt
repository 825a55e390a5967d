-- What a module declares, as it is collected: types, and what terms can name.
use Rattle.std.specs.Prelude.{◌≡◌, ◌++◌, ℕ, List, map}
use Rattle.fst_loops.specs.Graphs.{IsOrder}
use Rattle.fst_terms.specs.ModuleTree.{Declared}
use Rattle.fst_scopes.specs.Aliases.{IsKnown}
use Rattle.fst_scopes.specs.Counted.{AreMeasures}
use Rattle.fst_scopes.specs.Faults.{is_among}
use Rattle.fst_scopes.specs.Graph.{final_trees, graph_of, known_by}
use Rattle.fst_scopes.specs.Scopes.{AreTypeNames, declared_in}
use Rattle.fst_scopes.specs.Twice.{AreNames, twice}
use Rattle.fst_scopes.specs.declared.aliases.Aliases.{Aliases}
use Rattle.fst_scopes.specs.declared.fault.NameFault.{NameFault}
use Rattle.fst_scopes.specs.declared.types.TypeNames.{TypeNames}
use Rattle.fst_declarations.specs.ModuleFaults.{globals}
use Rattle.fst_declarations.specs.ModuleNames.{equation_names, makers, signature_names, type_names}
use Rattle.fst_declarations.specs.Tables.{AreMakers, AreSignatures}
use Rattle.fst_declarations.specs.declared.entries.TermTables.{TermTables}

-- the types that a module declares, and what is known of the aliases among them
pub record AreTypeTables (ds : List Declared) (types : TypeNames) (a : Aliases) : Type 0 where
  pub types_are : AreTypeNames ds types
  pub names_are : AreNames (type_names ds) types.names
  pub measured : AreMeasures (final_trees types a.looped.items a.order.items) a.measures.items
  pub known : IsKnown (declared_in types)
      (known_by types (final_trees types a.looped.items a.order.items) a.looped.items)
  pub order : IsOrder (graph_of types) a.order.items a.looped.items

-- what a module declares for terms
pub record AreTermTables (ds : List Declared) (t : TermTables) : Type 0 where
  pub makers_are : AreMakers ds t.makers
  pub signatures_are : AreSignatures ds t.signatures
  pub equations_are : AreNames (equation_names ds) t.equations
  pub globals_are : (x : List ℕ) → is_among t.globals x ≡ is_among (globals ds) x

-- the constructors, signatures and equations that are declared a second time
abbrev pub twice_for_terms : List Declared → List NameFault
twice_for_terms ds = twice (map (λ m. m.name) (makers ds))
    ++ (twice (signature_names ds) ++ twice (equation_names ds))
