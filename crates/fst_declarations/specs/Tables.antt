-- The tables of the names that a module declares: each name once, with the first thing under it.
use Rattle.std.specs.Prelude.{◌≡◌, ℕ, suc, List, [], ◌∷◌, ◌++◌, length, map, Option, Some, None, option_map, if◌then◌else◌}
use Rattle.std.specs.Str.{bytes_eq}
use Rattle.fst_terms.specs.declared.binder.Binder.{Binder}
use Rattle.fst_terms.specs.ModuleTree.{Maker, Declared, family, alias, signature, equation}
use Rattle.fst_scopes.specs.declared.fault.NameFault.{NameFault}
use Rattle.fst_scopes.specs.Faults.{is_among}
use Rattle.fst_scopes.specs.First.{first_from}
use Rattle.fst_scopes.specs.Scopes.{of_name}
use Rattle.fst_scopes.specs.Twice.{AreNames, names, twice}
use Rattle.fst_scopes.specs.TypeNames.{TypeDecl, data_type, other_name}
use Rattle.fst_term_faults.specs.CodeSurroundings.{entry_of}
use Rattle.fst_term_faults.specs.declared.surroundings.MakerEntry.{MakerEntry}
use Rattle.fst_term_faults.specs.declared.surroundings.Makers.{Makers}
use Rattle.fst_declarations.specs.declared.entries.SignatureEntry.{SignatureEntry}
use Rattle.fst_declarations.specs.declared.entries.Signatures.{Signatures}
use Rattle.fst_declarations.specs.ModuleFaults.{Signed, signed}
use Rattle.fst_declarations.specs.ModuleNames.{makers, signature_names, fields_of}
use Rattle.fst_declarations.specs.MakerNumbers.{maker_numbers}

-- ---- things under names

-- the names of some things
abbrev pub binders_of : {A : Type 0} → List (Binder × A) → List Binder
binders_of {A = A} things = map (λ (t : Binder × A). t.0) things

-- the things themselves
abbrev pub values_of : {A : Type 0} → List (Binder × A) → List A
values_of {A = A} things = map (λ (t : Binder × A). t.1) things

-- the first thing under a name
abbrev pub first_under : {A : Type 0} → List (Binder × A) → List ℕ → Option A
first_under [] x = None
first_under (t ∷ things) x = if bytes_eq x t.0.name then Some t.1 else first_under things x

-- entries, and behind them one more where its name isn't among these
abbrev pub with_entry : {E : Type 0} → List (List ℕ) → List ℕ → List E → E → List E
with_entry known x entries e = if is_among known x then entries else entries ++ e ∷ []

-- these names and entries have the first thing under each name, and where no name stands twice all things in order
pub record IsTable {E A : Type 0} (f : E → A) (things : List (Binder × A)) (known : List (List ℕ))
    (entries : List E) : Type 0 where
  pub paired : length entries ≡ length known
  pub found : (x : List ℕ) → option_map f (of_name known entries x) ≡ first_under things x
  pub own : twice (binders_of things) ≡ [] → map f entries ≡ values_of things

-- a table of some things, and the first fault once it is noted which of their names stand twice
pub record IsKept {E A : Type 0} (f : E → A) (old : Option NameFault) (things : List (Binder × A))
    (known : List (List ℕ)) (entries : List E) (kept : Option NameFault) : Type 0 where
  pub names_are : AreNames (binders_of things) known
  pub noted : kept ≡ first_from old (twice (binders_of things))
  pub table : IsTable f things known entries

-- ---- what a module declares

-- the types, where so many data types stand before
abbrev pub types_from : ℕ → List Declared → List (Binder × TypeDecl)
types_from k [] = []
types_from k (family x ms ∷ ds) = (x, data_type k) ∷ types_from (suc k) ds
types_from k (alias x w ∷ ds) = (x, other_name w) ∷ types_from k ds
types_from k (signature x bs w ∷ ds) = types_from k ds
types_from k (equation x ps t ∷ ds) = types_from k ds

-- the constructors of a data type, from one on
abbrev pub entries_from : ℕ → ℕ → List Maker → List (Binder × MakerEntry)
entries_from k n [] = []
entries_from k n (m ∷ ms) = (m.name, record { family = k; number = n; fields = length m.fields })
    ∷ entries_from k (suc n) ms

-- the constructors, where so many data types stand before
abbrev pub maker_entries : ℕ → List Declared → List (Binder × MakerEntry)
maker_entries k [] = []
maker_entries k (family x ms ∷ ds) = entries_from k 0 ms ++ maker_entries (suc k) ds
maker_entries k (alias x w ∷ ds) = maker_entries k ds
maker_entries k (signature x bs w ∷ ds) = maker_entries k ds
maker_entries k (equation x ps t ∷ ds) = maker_entries k ds

-- the signatures with their names
abbrev pub named_signatures : List Declared → List (Binder × Signed)
named_signatures [] = []
named_signatures (family x ms ∷ ds) = named_signatures ds
named_signatures (alias x w ∷ ds) = named_signatures ds
named_signatures (signature x bs w ∷ ds) =
    (x, record { vars = bs; its_type = w }) ∷ named_signatures ds
named_signatures (equation x ps t ∷ ds) = named_signatures ds

-- the signatures
abbrev pub signatures : List Declared → List Signed
signatures [] = []
signatures (family x ms ∷ ds) = signatures ds
signatures (alias x w ∷ ds) = signatures ds
signatures (signature x bs w ∷ ds) = record { vars = bs; its_type = w } ∷ signatures ds
signatures (equation x ps t ∷ ds) = signatures ds

-- ---- the tables

-- an entry of a constructor as it is
abbrev pub itself : MakerEntry → MakerEntry
itself e = e

-- the table has the first constructor of each name: how many fields it has, and its numbers
pub record AreMakers (ds : List Declared) (ms : Makers) : Type 0 where
  pub fields : (x : List ℕ) → option_map
      (λ (e : MakerEntry). e.fields) (entry_of ms x) ≡ fields_of (makers ds) x
  pub numbers : (x : List ℕ) → option_map
      (λ (e : MakerEntry). (e.family, e.number)) (entry_of ms x) ≡ of_name
      (names (map (λ m. m.name) (makers ds))) (maker_numbers 0 ds) x

-- the signature of an entry
abbrev pub signed_of : SignatureEntry → Signed
signed_of e = record { vars = e.binders.now; its_type = e.its_type.now }

-- the table has the first signature of each name, and where no name has two of them all signatures in order
pub record AreSignatures (ds : List Declared) (s : Signatures) : Type 0 where
  pub found : (x : List ℕ) → option_map signed_of (of_name s.names s.entries.items x) ≡ signed ds x
  pub names_are : AreNames (signature_names ds) s.names
  pub own : twice (signature_names ds) ≡ [] → map signed_of s.entries.items ≡ signatures ds
