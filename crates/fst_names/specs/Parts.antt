-- What stands in the declarations of a module, as the code keeps it.
use Rattle.std.specs.Prelude.{◌≡◌, ℕ, List, [], ◌++◌, length, map, unwrap_or, Option, Some}
use Rattle.fst_types.specs.Tree.{Tree}
use Rattle.fst_types.specs.WrittenTree.{WrittenTree}
use Rattle.fst_types.specs.declared.family.Maker as code
use Rattle.fst_terms.specs.CoreTree.{CoreTree}
use Rattle.fst_terms.specs.ModuleTree.{Declared}
use Rattle.fst_terms.specs.declared.binder.Binder.{Binder}
use Rattle.fst_terms.specs.Naming.{type_of, place}
use Rattle.fst_scopes.specs.Aliases.{Known}
use Rattle.fst_scopes.specs.Scopes.{of_name}
use Rattle.fst_scopes.specs.Twice.{names}
use Rattle.fst_term_faults.specs.TermFaults.{within}
use Rattle.fst_term_names.specs.CoreTerms.{core_term}
use Rattle.fst_term_names.specs.declared.meanings.TypeList.{TypeList}
use Rattle.fst_declarations.specs.ModuleFaults.{alone, module_scope, more_parameters, signed, signed_type}
use Rattle.fst_declarations.specs.ModuleNames.{signature_names}
use Rattle.fst_names.specs.Modules.{TypeAt, Equation, Global, decls_types, equations_from, families_from, family_parts, functions, kinds_of, numbers, parameter_types, place_of_type, signature_numbers}
use Rattle.fst_names.specs.declared.parts.EquationPart.{EquationPart}
use Rattle.fst_names.specs.declared.parts.Parts.{Parts}

-- a type with these variables
abbrev pub open_type : List Declared → Known → List (List ℕ) → WrittenTree → TypeAt
open_type ds known vars w = record { at = place w; stands = type_of (module_scope ds known vars) w }

-- a constructor by its name and the numbers of its fields' types
abbrev pub maker_parts : code.Maker → List ℕ × List ℕ
maker_parts m = (m.name, m.fields.items)

-- an equation: its name, its parameters and its body with numbers in place of names
pub record Numbered : Type 0 where
  pub name : Binder
  pub parameters : List Binder
  pub body : CoreTree

-- what stands in an equation
abbrev pub numbered : List Declared → Equation → Numbered
numbered ds e = record {
  name = e.name;
  parameters = e.parameters;
  body =
      core_term (numbers ds) (within e.parameters []) e.first e.body;
}

-- the same of one that the code keeps
abbrev pub equation_part : EquationPart → Numbered
equation_part e = record { name = e.binder.now; parameters = e.parameters.now; body = e.body.value }

-- the list has these types behind those that it had
pub record IsLonger (old : TypeList) (ts : List TypeAt) (new : TypeList) : Type 0 where
  pub types : map Some new.types.items ≡ map Some old.types.items ++ map
      (λ (t : TypeAt). t.stands) ts
  pub places : new.places.items ≡ old.places.items ++ map (λ (t : TypeAt). t.at) ts

-- these are the parts of some declarations in front of a module
pub record AreParts (ds : List Declared) (known : Known) (es : List Declared)
    (p : Parts) : Type 0 where
  -- the types that stand in them
  pub types : map Some p.list.types.items ≡ map (λ (t : TypeAt). t.stands) (decls_types ds known es)
  -- the bytes at which these begin
  pub places : p.list.places.items ≡ map (λ (t : TypeAt). t.at) (decls_types ds known es)
  -- the data types
  pub families : map family_parts p.families.items ≡ families_from 0 es
  -- the numbers of the signatures' types
  pub signatures : p.signatures.items ≡ signature_numbers 0 es
  -- the equations
  pub equations : map equation_part p.equations.items ≡ map (numbered ds) (equations_from 0 es)

-- the list begins with the types that stand in a module's declarations
pub record HasTypes (ds : List Declared) (known : Known) (list : TypeList) : Type 0 where
  pub others : List (Option Tree)
  pub begins : map Some list.types.items ≡ map
      (λ (t : TypeAt). t.stands) (decls_types ds known ds) ++ others

-- an equation has a signature, and no more parameters than arrows stand in its type
pub record IsSoundEquation (ds : List Declared) (known : Known) (e : Numbered) : Type 0 where
  pub has_signature : alone (signature_names ds) e.name ≡ []
  pub few : more_parameters e.name.at (length e.parameters)
      (signed_type ds known (signed ds e.name.name)) ≡ []

-- the types of its parameters
abbrev pub types_of_parameters : List Declared → Known → Numbered → List TypeAt
types_of_parameters ds known e = parameter_types
    (place_of_type (signed ds e.name.name)) e.parameters
    (signed_type ds known (signed ds e.name.name))

-- the global that it is, where its parameters' types have the numbers from n on
abbrev pub global_from : List Declared → Known → ℕ → Numbered → Global
global_from ds known n e = record {
  name = e.name.name;
  at = e.name.at;
  its_kinds = kinds_of (signed ds e.name.name);
  signature = unwrap_or (of_name (names (signature_names ds)) (signature_numbers 0 ds) e.name.name)
      0;
  signature_at = place_of_type (signed ds e.name.name);
  body = functions n e.parameters (signed_type ds known (signed ds e.name.name)) e.body;
}
