-- What is in scope in an equation, by what the code keeps of it.
use Rattle.std.specs.Prelude.{ℕ, List, Option, option_map}
use Rattle.fst_types.specs.Tree.{Tree}
use Rattle.fst_terms.specs.Naming.{Scope}
use Rattle.fst_scopes.specs.Graph.{final_trees}
use Rattle.fst_scopes.specs.Scopes.{declared_in, of_name, standing_in}
use Rattle.fst_scopes.specs.TypeNames.{scope_with}
use Rattle.fst_term_faults.specs.TermFaults.{Surroundings}
use Rattle.fst_term_faults.specs.declared.surroundings.MakerEntry.{MakerEntry}
use Rattle.fst_term_faults.specs.declared.surroundings.Makers.{Makers}
use Rattle.fst_term_faults.specs.declared.surroundings.Surroundings as code

-- the first constructor of a name
abbrev pub entry_of : Makers → List ℕ → Option MakerEntry
entry_of ms x = of_name ms.names ms.entries.items x

-- what the names of types stand for
abbrev pub trees_of : code.Surroundings → List (Option Tree)
trees_of a = final_trees a.types.now a.aliases.now.looped.items a.aliases.now.order.items

-- what is in scope in types with these variables
abbrev pub scope_of : code.Surroundings → List (List ℕ) → Scope
scope_of a vars = scope_with vars (declared_in a.types.now) (standing_in a.types.now (trees_of a))

-- what is in scope
unfoldable pub surroundings_of : code.Surroundings → Surroundings
surroundings_of a = record {
  globals = a.globals.now;
  makers = λ x. option_map (λ (e : MakerEntry). e.fields) (entry_of a.makers.now x);
  types = scope_of a a.vars.now;
  closed = scope_of a a.no_vars.now;
}
