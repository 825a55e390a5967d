-- The faults of names and sizes that a module has.
use Rattle.std.specs.Prelude.{ℕ, List, [], ◌∷◌, ◌++◌, length, map, nat_lt, codes, Option, Some, None, if◌then◌else◌}
use Rattle.std.specs.Str.{bytes_eq}
use Rattle.fst_types.specs.Tree.{Tree}
use Rattle.fst_types.specs.WrittenTree.{WrittenTree}
use Rattle.fst_types.specs.declared.kind.Kind.{Kind}
use Rattle.fst_terms.specs.declared.binder.Binder.{Binder}
use Rattle.fst_terms.specs.ModuleTree.{Maker, Declared, family, alias, signature, equation}
use Rattle.fst_terms.specs.Naming.{Scope, type_of}
use Rattle.fst_scopes.specs.declared.fault.NameFault.{NameFault}
use Rattle.fst_scopes.specs.declared.fault.NameFault.TheVariants.{Unbound, Arity, AliasLoop, NoMain}
use Rattle.fst_scopes.specs.Aliases.{Known}
use Rattle.fst_scopes.specs.Faults.{is_among, type_faults}
use Rattle.fst_scopes.specs.Measures.{arrows}
use Rattle.fst_scopes.specs.Twice.{names, twice, variables}
use Rattle.fst_scopes.specs.TypeNames.{scope_with, type_declared}
use Rattle.fst_term_faults.specs.TermFaults.{Surroundings, types_faults, within, term_faults}
use Rattle.fst_declarations.specs.ModuleNames.{type_names, makers, signature_names, equation_names, fields_of}

-- what is in scope in a module's types, with these variables
abbrev pub module_scope : List Declared → Known → List (List ℕ) → Scope
module_scope ds known vars = scope_with vars (type_declared ds) known.stands

-- a signature: its variables and its type
pub record Signed : Type 0 where
  pub vars : List (Binder × Kind)
  pub its_type : WrittenTree

-- the first signature of a name
abbrev pub signed : List Declared → List ℕ → Option Signed
signed [] x = None
signed (family y ms ∷ ds) x = signed ds x
signed (alias y w ∷ ds) x = signed ds x
signed (signature y bs w ∷ ds) x = if bytes_eq x y.name then Some
    (record { vars = bs; its_type = w }) else signed ds x
signed (equation y ps t ∷ ds) x = signed ds x

-- the names of a signature's variables
abbrev pub vars_of : Option Signed → List (List ℕ)
vars_of (Some s) = names (variables s.vars)
vars_of None = []

-- the names that stand for globals
abbrev pub globals : List Declared → List (List ℕ)
globals ds = names (signature_names ds) ++ names (equation_names ds)

-- what is in scope in the equation of a name
abbrev pub surroundings : List Declared → Known → List ℕ → Surroundings
surroundings ds known x = record {
  globals = globals ds;
  makers = fields_of (makers ds);
  types = module_scope ds known (vars_of (signed ds x));
  closed = module_scope ds known [];
}

-- a name that is declared in one way, but not in the other
abbrev pub alone : List Binder → Binder → List NameFault
alone others x = if is_among (names others) x.name then [] else Unbound x.at x.name ∷ []

-- an equation has more parameters than its signature's type has arrows
abbrev pub more_parameters : ℕ → ℕ → Option Tree → List NameFault
more_parameters at got None = []
more_parameters at got (Some t) = if nat_lt (arrows t) got then Arity at got (arrows t) ∷ [] else []

-- the type of a signature, if there is one
abbrev pub signed_type : List Declared → Known → Option Signed → Option Tree
signed_type ds known (Some s) = type_of (module_scope ds known (vars_of (Some s))) s.its_type
signed_type ds known None = None

-- an alias that leads back to itself
abbrev pub looped : Known → Binder → List NameFault
looped known x = if known.loops x.name then AliasLoop x.at x.name ∷ [] else []

-- the faults of the fields of constructors
abbrev pub fields_faults : Scope → List Maker → List NameFault
fields_faults s [] = []
fields_faults s (m ∷ ms) = types_faults s m.fields ++ fields_faults s ms

-- the faults of one declaration of a module, but for a name that is declared a second time
abbrev pub decl_faults : List Declared → Known → Declared → List NameFault
decl_faults ds known (family x ms) = fields_faults (module_scope ds known []) ms
decl_faults ds known (alias x w) = looped known x ++ type_faults (module_scope ds known []) w
decl_faults ds known (signature x bs w) =
    alone (equation_names ds) x ++ (twice (variables bs) ++ type_faults
    (module_scope ds known (names (variables bs))) w)
decl_faults ds known (equation x ps t) =
    alone (signature_names ds) x ++ (more_parameters x.at (length ps)
    (signed_type ds known (signed ds x.name)) ++ term_faults (surroundings ds known x.name)
    (within ps []) t)

-- the faults of some declarations of a module
abbrev pub decls_faults : List Declared → Known → List Declared → List NameFault
decls_faults ds known [] = []
decls_faults ds known (e ∷ es) = decl_faults ds known e ++ decls_faults ds known es

-- the names that are declared a second time
abbrev pub twice_declared : List Declared → List NameFault
twice_declared ds = twice (type_names ds)
    ++ (twice (map (λ m. m.name) (makers ds))
    ++ (twice (signature_names ds) ++ twice (equation_names ds)))

-- all faults of a module but that it has no main
abbrev pub faults_but_main : List Declared → Known → List NameFault
faults_but_main ds known = twice_declared ds ++ decls_faults ds known ds

-- that nothing is named main, where there is no other fault
abbrev pub no_main : List Declared → List NameFault → List NameFault
no_main ds [] = if is_among (globals ds) (codes "main") then [] else NoMain ∷ []
no_main ds (f ∷ fs) = f ∷ fs

-- all faults of a module
abbrev pub module_faults : List Declared → Known → List NameFault
module_faults ds known = no_main ds (faults_but_main ds known)
