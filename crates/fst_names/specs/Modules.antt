-- The module that names give: its data types, globals and types.
use Rattle.std.specs.Prelude.{ℕ, suc, ◌+◌, List, [], ◌∷◌, ◌++◌, length, map, unwrap_or, Option, Some, None}
use Rattle.fst_types.specs.Tree.{Tree, arrow}
use Rattle.fst_types.specs.WrittenTree.{WrittenTree}
use Rattle.fst_types.specs.declared.kind.Kind.{Kind}
use Rattle.fst_types.specs.declared.family.Family.{Family}
use Rattle.fst_types.specs.declared.family.Maker as code
use Rattle.fst_terms.specs.CoreTree as core
use Rattle.fst_terms.specs.CoreTree.{CoreTree}
use Rattle.fst_terms.specs.declared.binder.Binder.{Binder}
use Rattle.fst_terms.specs.declared.global.GlobalEntry.{GlobalEntry}
use Rattle.fst_terms.specs.ModuleTree.{Maker, Declared, family, alias, signature, equation}
use Rattle.fst_terms.specs.Naming.{type_of, place}
use Rattle.fst_terms.specs.TermTree.{TermTree}
use Rattle.fst_scopes.specs.Aliases.{Known}
use Rattle.fst_scopes.specs.Scopes.{of_name}
use Rattle.fst_scopes.specs.Twice.{names, variables}
use Rattle.fst_term_faults.specs.TermFaults.{within}
use Rattle.fst_term_names.specs.CoreTerms.{Numbers, core_term, from}
use Rattle.fst_term_names.specs.TermTypes.{written_in, tree_of, begins_at}
use Rattle.fst_declarations.specs.MakerNumbers.{maker_numbers}
use Rattle.fst_declarations.specs.ModuleFaults.{Signed, module_scope, signed, signed_type, surroundings}
use Rattle.fst_declarations.specs.ModuleNames.{makers, signature_names, equation_names}
use Rattle.fst_names.specs.Resolved.{kinds}

-- a type of a module: at which byte it begins, and what it stands for
pub record TypeAt : Type 0 where
  pub at : ℕ
  pub stands : Option Tree

-- ---- types

-- the types of some fields
abbrev pub field_types : List Maker → List WrittenTree
field_types [] = []
field_types (m ∷ ms) = m.fields ++ field_types ms

-- how many types stand in a declaration
abbrev pub types_in : Declared → ℕ
types_in (family x ms) = length (field_types ms)
types_in (alias x w) = 1
types_in (signature x bs w) = 1
types_in (equation x ps t) = length (written_in t)

-- a type without variables
abbrev pub closed_type : List Declared → Known → WrittenTree → TypeAt
closed_type ds known w = record { at = place w; stands = type_of (module_scope ds known []) w }

-- the types of a declaration, in order of text
abbrev pub decl_types : List Declared → Known → Declared → List TypeAt
decl_types ds known (family x ms) = map (closed_type ds known) (field_types ms)
decl_types ds known (alias x w) = closed_type ds known w ∷ []
decl_types ds known (signature x bs w) =
    record { at = place w; stands = type_of (module_scope ds known (names (variables bs))) w } ∷ []
decl_types ds known (equation x ps t) = map
    (λ u. record { at = begins_at u; stands = tree_of (surroundings ds known x.name) u })
    (written_in t)

-- the types of some declarations of a module, in order of text
abbrev pub decls_types : List Declared → Known → List Declared → List TypeAt
decls_types ds known [] = []
decls_types ds known (e ∷ es) = decl_types ds known e ++ decls_types ds known es

-- the types of parameters, which are in front of the arrows of a signature's type
abbrev pub parameter_types : ℕ → List Binder → Option Tree → List TypeAt
parameter_types at [] o = []
parameter_types at (p ∷ ps) (Some (arrow u s t)) =
    record { at = at; stands = Some s } ∷ parameter_types at ps (Some t)
parameter_types at (p ∷ ps) o = record { at = at; stands = None } ∷ parameter_types at ps None

-- ---- data types

-- constructors with the numbers of their fields' types, from one on
abbrev pub makers_from : ℕ → List Maker → List (List ℕ × List ℕ)
makers_from n [] = []
makers_from n (m ∷ ms) = (m.name.name, from n m.fields) ∷ makers_from (n + length m.fields) ms

-- the data types, by their names and constructors, where so many types stand before
abbrev pub families_from : ℕ → List Declared → List (List ℕ × List (List ℕ × List ℕ))
families_from n [] = []
families_from n (family x ms ∷ ds) =
    (x.name, makers_from n ms) ∷ families_from (n + length (field_types ms)) ds
families_from n (alias x w ∷ ds) = families_from (suc n) ds
families_from n (signature x bs w ∷ ds) = families_from (suc n) ds
families_from n (equation x ps t ∷ ds) = families_from (n + length (written_in t)) ds

-- the same of a data type that the code keeps
abbrev pub family_parts : Family → List ℕ × List (List ℕ × List ℕ)
family_parts f = (f.name, map (λ (m : code.Maker). (m.name, m.fields.items)) f.makers.items)

-- ---- globals

-- the numbers of the signatures' types, where so many types stand before
abbrev pub signature_numbers : ℕ → List Declared → List ℕ
signature_numbers n [] = []
signature_numbers n (family x ms ∷ ds) = signature_numbers (n + length (field_types ms)) ds
signature_numbers n (alias x w ∷ ds) = signature_numbers (suc n) ds
signature_numbers n (signature x bs w ∷ ds) = n ∷ signature_numbers (suc n) ds
signature_numbers n (equation x ps t ∷ ds) = signature_numbers (n + length (written_in t)) ds

-- an equation, and the number of its first type
pub record Equation : Type 0 where
  pub name : Binder
  pub parameters : List Binder
  pub body : TermTree
  pub first : ℕ

-- the equations, where so many types stand before
abbrev pub equations_from : ℕ → List Declared → List Equation
equations_from n [] = []
equations_from n (family x ms ∷ ds) = equations_from (n + length (field_types ms)) ds
equations_from n (alias x w ∷ ds) = equations_from (suc n) ds
equations_from n (signature x bs w ∷ ds) = equations_from (suc n) ds
equations_from n (equation x ps t ∷ ds) =
    record { name = x; parameters = ps; body = t; first = n } ∷ equations_from
    (n + length (written_in t)) ds

-- a global: its name, where its equation begins, the kinds of its variables, the number of its type and where that begins,
-- and its body
pub record Global : Type 0 where
  pub name : List ℕ
  pub at : ℕ
  pub its_kinds : List Kind
  pub signature : ℕ
  pub signature_at : ℕ
  pub body : CoreTree

-- the same of a global that the code keeps
abbrev pub global_parts : GlobalEntry → Global
global_parts g = record {
  name = g.name;
  at = g.at;
  its_kinds = g.kinds.items;
  signature =
      g.signature;
  signature_at = g.signature_at;
  body = g.body;
}

-- what names stand for in terms
abbrev pub numbers : List Declared → Numbers
numbers ds = record {
  globals = names (equation_names ds);
  makers =
      of_name (names (map (λ m. m.name) (makers ds))) (maker_numbers 0 ds);
}

-- functions around a body, one for each parameter, with the uses of the arrows and with the numbers from n on for the types
-- in front of them
abbrev pub functions : ℕ → List Binder → Option Tree → CoreTree → CoreTree
functions n [] o b = b
functions n (p ∷ ps) (Some (arrow u s t)) b =
    core.lambda p.at u n p (functions (suc n) ps (Some t) b)
functions n (p ∷ ps) o b = b

-- the kinds of a signature's variables
abbrev pub kinds_of : Option Signed → List Kind
kinds_of (Some s) = kinds s.vars
kinds_of None = []

-- the byte at which its type begins
abbrev pub place_of_type : Option Signed → ℕ
place_of_type (Some s) = place s.its_type
place_of_type None = 0

-- a global, where its parameters' types have the numbers from n on
abbrev pub global_of : List Declared → Known → ℕ → Equation → Global
global_of ds known n e = record {
  name = e.name.name;
  at = e.name.at;
  its_kinds = kinds_of (signed ds e.name.name);
  signature = unwrap_or (of_name (names (signature_names ds)) (signature_numbers 0 ds) e.name.name)
      0;
  signature_at = place_of_type (signed ds e.name.name);
  body = functions n e.parameters (signed_type ds known (signed ds e.name.name))
      (core_term (numbers ds) (within e.parameters []) e.first e.body);
}

-- the globals of some equations
abbrev pub globals_from : List Declared → Known → ℕ → List Equation → List Global
globals_from ds known n [] = []
globals_from ds known n (e ∷ es) = global_of ds known n e ∷ globals_from ds known
    (n + length e.parameters) es

-- the types of their parameters
abbrev pub parameters_types : List Declared → Known → List Equation → List TypeAt
parameters_types ds known [] = []
parameters_types ds known (e ∷ es) =
    parameter_types (place_of_type (signed ds e.name.name)) e.parameters
    (signed_type ds known (signed ds e.name.name)) ++ parameters_types ds known es

-- all types of a module: those that are written, in order of text, and behind them those of parameters, in order of text
abbrev pub module_types : List Declared → Known → List TypeAt
module_types ds known = decls_types ds known ds ++ parameters_types ds known (equations_from 0 ds)

-- all globals of a module
abbrev pub module_globals : List Declared → Known → List Global
module_globals ds known = globals_from ds known (length (decls_types ds known ds))
    (equations_from 0 ds)
