-- The names that a module declares.
use Rattle.std.specs.Prelude.{ℕ, List, [], ◌∷◌, ◌++◌, length, Option, Some, None, if◌then◌else◌}
use Rattle.std.specs.Str.{bytes_eq}
use Rattle.fst_terms.specs.declared.binder.Binder.{Binder}
use Rattle.fst_terms.specs.ModuleTree.{Maker, Declared, family, alias, signature, equation}

-- the names of the data types and aliases
abbrev pub type_names : List Declared → List Binder
type_names [] = []
type_names (family x ms ∷ ds) = x ∷ type_names ds
type_names (alias x w ∷ ds) = x ∷ type_names ds
type_names (signature x bs w ∷ ds) = type_names ds
type_names (equation x ps t ∷ ds) = type_names ds

-- the constructors
abbrev pub makers : List Declared → List Maker
makers [] = []
makers (family x ms ∷ ds) = ms ++ makers ds
makers (alias x w ∷ ds) = makers ds
makers (signature x bs w ∷ ds) = makers ds
makers (equation x ps t ∷ ds) = makers ds

-- the names that have a signature
abbrev pub signature_names : List Declared → List Binder
signature_names [] = []
signature_names (family x ms ∷ ds) = signature_names ds
signature_names (alias x w ∷ ds) = signature_names ds
signature_names (signature x bs w ∷ ds) = x ∷ signature_names ds
signature_names (equation x ps t ∷ ds) = signature_names ds

-- the names that have an equation
abbrev pub equation_names : List Declared → List Binder
equation_names [] = []
equation_names (family x ms ∷ ds) = equation_names ds
equation_names (alias x w ∷ ds) = equation_names ds
equation_names (signature x bs w ∷ ds) = equation_names ds
equation_names (equation x ps t ∷ ds) = x ∷ equation_names ds

-- how many fields the first constructor with a name has
abbrev pub fields_of : List Maker → List ℕ → Option ℕ
fields_of [] x = None
fields_of (m ∷ ms) x = if bytes_eq x m.name.name then Some (length m.fields) else fields_of ms x
