-- What a module declares, one declaration after another, and that the tables have it.
use Rattle.std.proofs.Common.{Global, Vec, ◌≡◌, ◌∙◌, ℕ, suc, ◌+◌, ◌<◌, ◌≤◌, get_or, take, Bool, true, false, ◌||◌, List, [], ◌∷◌, ◌++◌, append_assoc, length, map, Option, Some, None, refl, sym, ap, subst, arith}
use Rattle.std.specs.Prelude.{option_map, if◌then◌else◌}
use Rattle.std.specs.Str.{bytes_eq}
use Rattle.std.proofs.lemmas.List.{map-append, append-nil, take_more, take_all, length-map, length-take-le}
use Rattle.fst_types.specs.WrittenTree.{WrittenTree}
use Rattle.fst_types.specs.declared.kind.Kind.{Kind}
use Rattle.fst_terms.specs.declared.binder.Binder.{Binder}
use Rattle.fst_terms.specs.declared.module.Decl.{Decl}
use Rattle.fst_terms.specs.declared.module.Decl.TheVariants as decl
use Rattle.fst_terms.specs.declared.module.SourceMaker.{SourceMaker}
use Rattle.fst_terms.specs.ModuleTree.{Maker, Declared, family, alias, signature, equation, decl_tree, maker}
use Rattle.fst_terms.specs.Naming.{place_of, is_there}
use Rattle.fst_terms.specs.TermTree.{TermTree}
use Rattle.fst_scopes.specs.declared.fault.NameFault.{NameFault}
use Rattle.fst_scopes.specs.Faults.{is_among}
use Rattle.fst_scopes.specs.Scopes.{of_name}
use Rattle.fst_scopes.specs.Twice.{AreNames, names, twice}
use Rattle.fst_scopes.specs.TypeNames.{data_type, other_name, declared_from}
use Rattle.fst_term_faults.specs.declared.surroundings.MakerEntry.{MakerEntry}
use Rattle.fst_term_faults.specs.declared.surroundings.Makers.{Makers}
use Rattle.fst_declarations.specs.declared.entries.Signatures.{Signatures}
use Rattle.fst_declarations.specs.ModuleFaults.{signed, globals}
use Rattle.fst_declarations.specs.ModuleNames.{type_names, makers, signature_names, equation_names, fields_of}
use Rattle.fst_declarations.specs.MakerNumbers.{numbers_from, maker_numbers}
use Rattle.fst_declarations.specs.Tables.{AreMakers, AreSignatures, IsKept, IsTable, itself, signed_of, binders_of, values_of, first_under, types_from, entries_from, maker_entries, named_signatures, signatures}
use Rattle.fst_declarations.proofs.FirstTables.{named_first, under_named}

-- ---- declarations

-- the declarations that a loop has looked at, with one more
pub more_decls : (xs : List Decl) (i : ℕ) (d : Decl) → i < length xs → d ≡ get_or xs i d →
    map decl_tree (take (i + 1) xs) ≡ map decl_tree (take i xs) ++ decl_tree d ∷ []
more_decls xs i d low is = ap (map decl_tree) (take_more xs i d low ∙ ap (λ z. take i xs ++ z ∷ []) (sym is))
    ∙ map-append decl_tree (take i xs) (d ∷ [])

-- and all of them
pub all_decls : (xs : List Decl) (i : ℕ) → length xs ≤ i → map decl_tree (take i xs) ≡ map decl_tree xs
all_decls xs i h = ap (map decl_tree) (take_all i xs h)

-- the constructors that a loop has looked at, with one more
pub more_makers : (xs : List SourceMaker) (i : ℕ) (m : SourceMaker) → i < length xs → m ≡ get_or xs i m →
    map maker (take (i + 1) xs) ≡ map maker (take i xs) ++ maker m ∷ []
more_makers xs i m low is = ap (map maker) (take_more xs i m low ∙ ap (λ z. take i xs ++ z ∷ []) (sym is))
    ∙ map-append maker (take i xs) (m ∷ [])

-- how many data types are declared
abbrev pub families_in : List Declared → ℕ
families_in [] = 0
families_in (family x ms ∷ ds) = suc (families_in ds)
families_in (alias x w ∷ ds) = families_in ds
families_in (signature x bs w ∷ ds) = families_in ds
families_in (equation x ps t ∷ ds) = families_in ds

-- with one more declaration
pub families_push : (ds : List Declared) (d : Declared) → families_in (ds ++ d ∷ []) ≡ families_in ds + families_in (d ∷ [])
families_push [] d = omega arith
families_push (family x ms ∷ ds) d = let e = families_push ds d in omega (arith, e)
families_push (alias x w ∷ ds) d = families_push ds d
families_push (signature x bs w ∷ ds) d = families_push ds d
families_push (equation x ps t ∷ ds) d = families_push ds d

-- ---- types

-- the types, with one more declaration
pub types_push : (k : ℕ) (ds : List Declared) (d : Declared) →
    types_from k (ds ++ d ∷ []) ≡ types_from k ds ++ types_from (k + families_in ds) (d ∷ [])
types_push k [] d = ap (λ n. types_from n (d ∷ [])) (omega arith)
types_push k (family x ms ∷ ds) d = ap (λ z. (x, data_type k) ∷ z)
    (types_push (suc k) ds d ∙ ap (λ n. types_from (suc k) ds ++ types_from n (d ∷ [])) (omega arith))
types_push k (alias x w ∷ ds) d = ap (λ z. (x, other_name w) ∷ z) (types_push k ds d)
types_push k (signature x bs w ∷ ds) d = types_push k ds d
types_push k (equation x ps t ∷ ds) d = types_push k ds d

-- their names
pub types_named : (k : ℕ) (ds : List Declared) → binders_of (types_from k ds) ≡ type_names ds
types_named k [] = refl
types_named k (family x ms ∷ ds) = ap (λ z. x ∷ z) (types_named (suc k) ds)
types_named k (alias x w ∷ ds) = ap (λ z. x ∷ z) (types_named k ds)
types_named k (signature x bs w ∷ ds) = types_named k ds
types_named k (equation x ps t ∷ ds) = types_named k ds

-- the first type under a name
pub types_under : (k : ℕ) (ds : List Declared) (x : List ℕ) → first_under (types_from k ds) x ≡ declared_from k ds x
types_under k [] x = refl
types_under k (family y ms ∷ ds) x = ap (λ o. if bytes_eq x y.name then Some (data_type k) else o) (types_under (suc k) ds x)
types_under k (alias y w ∷ ds) x = ap (λ o. if bytes_eq x y.name then Some (other_name w) else o) (types_under k ds x)
types_under k (signature y bs w ∷ ds) x = types_under k ds x
types_under k (equation y ps t ∷ ds) x = types_under k ds x

-- ---- constructors

-- the constructors of a data type, with one more
pub entries_push : (k n : ℕ) (ms : List Maker) (m : Maker) →
    entries_from k n (ms ++ m ∷ []) ≡ entries_from k n ms
    ++ (m.name, record { family = k; number = n + length ms; fields = length m.fields }) ∷ []
entries_push k n [] m = ap (λ i. (m.name, record { family = k; number = i; fields = length m.fields }) ∷ []) (omega arith)
entries_push k n (l ∷ ms) m =
    ap (λ z. (l.name, record { family = k; number = n; fields = length l.fields }) ∷ z) (entries_push k (suc n) ms m ∙
    ap (λ i. entries_from k (suc n) ms ++ (m.name, record { family = k; number = i; fields = length m.fields }) ∷ [])
    (omega arith))

-- those that a loop has kept behind others, with one more
pub entries_more : (k : ℕ) (before : List (Binder × MakerEntry)) (xs : List SourceMaker) (i : ℕ) (m : SourceMaker)
    (number fields : ℕ) → i < length xs → m ≡ get_or xs i m → number ≡ i → fields ≡ length m.fields.items →
    before ++ entries_from k 0 (map maker (take (i + 1) xs)) ≡ (before ++ entries_from k 0 (map maker (take i xs)))
    ++ (m.name, record { family = k; number = number; fields = fields }) ∷ []
entries_more k before xs i m number fields low is own count =
    let ms = map maker (take i xs) in
    let length_is = length-map (take i xs) maker in
    let taken = length-take-le i xs (omega arith) in
    let place : 0 + length ms ≡ number = omega (arith, length_is, taken, own) in
    ap (λ z. before ++ entries_from k 0 z) (more_makers xs i m low is) ∙ ap (λ z. before ++ z) (entries_push k 0 ms (maker m)) ∙
    sym (append_assoc before (entries_from k 0 ms)
    ((m.name, record { family = k; number = 0 + length ms; fields = length m.fields.items }) ∷ [])) ∙
    ap (λ n. (before ++ entries_from k 0 ms) ++ (m.name, record { family = k; number = n; fields = length m.fields.items }) ∷ [])
    place ∙
    ap (λ n. (before ++ entries_from k 0 ms) ++ (m.name, record { family = k; number = number; fields = n }) ∷ []) (sym count)

-- the constructors, with one more declaration
pub makers_push : (k : ℕ) (ds : List Declared) (d : Declared) →
    maker_entries k (ds ++ d ∷ []) ≡ maker_entries k ds ++ maker_entries (k + families_in ds) (d ∷ [])
makers_push k [] d = ap (λ n. maker_entries n (d ∷ [])) (omega arith)
makers_push k (family x ms ∷ ds) d =
    ap (λ z. entries_from k 0 ms ++ z) (makers_push (suc k) ds d ∙ ap
    (λ n. maker_entries (suc k) ds ++ maker_entries n (d ∷ [])) (omega arith)) ∙
    sym (append_assoc (entries_from k 0 ms) (maker_entries (suc k) ds) (maker_entries (k + suc (families_in ds)) (d ∷ [])))
makers_push k (alias x w ∷ ds) d = makers_push k ds d
makers_push k (signature x bs w ∷ ds) d = makers_push k ds d
makers_push k (equation x ps t ∷ ds) d = makers_push k ds d

-- with one more data type
pub makers_family : (ds : List Declared) (x : Binder) (ms : List Maker) (k : ℕ) → k ≡ families_in ds →
    maker_entries 0 (ds ++ family x ms ∷ []) ≡ maker_entries 0 ds ++ entries_from k 0 ms
makers_family ds x ms k is =
    makers_push 0 ds (family x ms) ∙ ap (λ z. maker_entries 0 ds ++ z) (append-nil (entries_from (0 + families_in ds) 0 ms)) ∙
    ap (λ n. maker_entries 0 ds ++ entries_from n 0 ms) (let e : 0 + families_in ds ≡ k = omega (arith, is) in e)

-- a declaration of another kind has none
pub no_makers : (d : Decl) → ((x : Binder) (ms : Vec SourceMaker Global) → d ≡ decl.Family x ms → ⊥) → (k : ℕ) →
    (maker_entries k (decl_tree d ∷ []) ≡ []) × (families_in (decl_tree d ∷ []) ≡ 0)
no_makers (decl.Family x ms) other k = absurd (other x ms refl)
no_makers (decl.Alias x w) other k = (refl, refl)
no_makers (decl.Signature x bs w) other k = (refl, refl)
no_makers (decl.Equation x ps t) other k = (refl, refl)

-- the names of a data type's constructors
entries_named : (k n : ℕ) (ms : List Maker) → binders_of (entries_from k n ms) ≡ map (λ m. m.name) ms
entries_named k n [] = refl
entries_named k n (m ∷ ms) = ap (λ z. m.name ∷ z) (entries_named k (suc n) ms)

-- the names of all constructors
pub makers_named : (k : ℕ) (ds : List Declared) → binders_of (maker_entries k ds) ≡ map (λ m. m.name) (makers ds)
makers_named k [] = refl
makers_named k (family x ms ∷ ds) =
    map-append (λ (t : Binder × MakerEntry). t.0) (entries_from k 0 ms) (maker_entries (suc k) ds) ∙ ap
    (λ z. z ++ binders_of (maker_entries (suc k) ds)) (entries_named k 0 ms) ∙
    ap (λ z. map (λ m. m.name) ms ++ z) (makers_named (suc k) ds) ∙ sym (map-append (λ (m : Maker). m.name) ms (makers ds))
makers_named k (alias x w ∷ ds) = makers_named k ds
makers_named k (signature x bs w ∷ ds) = makers_named k ds
makers_named k (equation x ps t ∷ ds) = makers_named k ds

-- how many fields they have
abbrev entry_fields : Binder × MakerEntry → ℕ
entry_fields t = t.1.fields

entries_fields : (k n : ℕ) (ms : List Maker) → map entry_fields (entries_from k n ms) ≡ map (λ m. length m.fields) ms
entries_fields k n [] = refl
entries_fields k n (m ∷ ms) = ap (λ z. length m.fields ∷ z) (entries_fields k (suc n) ms)

makers_fields : (k : ℕ) (ds : List Declared) → map entry_fields (maker_entries k ds) ≡ map (λ m. length m.fields) (makers ds)
makers_fields k [] = refl
makers_fields k (family x ms ∷ ds) =
    map-append entry_fields (entries_from k 0 ms) (maker_entries (suc k) ds) ∙ ap
    (λ z. z ++ map entry_fields (maker_entries (suc k) ds)) (entries_fields k 0 ms) ∙
    ap (λ z. map (λ m. length m.fields) ms ++ z) (makers_fields (suc k) ds)
    ∙ sym (map-append (λ (m : Maker). length m.fields) ms (makers ds))
makers_fields k (alias x w ∷ ds) = makers_fields k ds
makers_fields k (signature x bs w ∷ ds) = makers_fields k ds
makers_fields k (equation x ps t ∷ ds) = makers_fields k ds

fields_named : (ms : List Maker) (x : List ℕ) →
    of_name (names (map (λ m. m.name) ms)) (map (λ m. length m.fields) ms) x ≡ fields_of ms x
fields_named [] x = refl
fields_named (m ∷ ms) x =
    named_first (names (map (λ m. m.name) ms)) (map (λ m. length m.fields) ms) m.name.name (length m.fields) x ∙ ap
    (λ o. if bytes_eq x m.name.name then Some (length m.fields) else o) (fields_named ms x)

-- how many fields the first constructor of a name has
pub makers_fields_of : (k : ℕ) (ds : List Declared) (x : List ℕ) → option_map
    (λ (e : MakerEntry). e.fields) (first_under (maker_entries k ds) x) ≡ fields_of (makers ds) x
makers_fields_of k ds x =
    under_named (λ (e : MakerEntry). e.fields) (maker_entries k ds) x ∙ ap
    (λ bs. of_name (names bs) (map entry_fields (maker_entries k ds)) x) (makers_named k ds) ∙
    ap (λ fs. of_name (names (map (λ m. m.name) (makers ds))) fs x) (makers_fields k ds) ∙ fields_named (makers ds) x

-- their numbers
abbrev entry_numbers : Binder × MakerEntry → ℕ × ℕ
entry_numbers t = (t.1.family, t.1.number)

entries_numbers : (k n : ℕ) (ms : List Maker) → map entry_numbers (entries_from k n ms) ≡ numbers_from k n ms
entries_numbers k n [] = refl
entries_numbers k n (m ∷ ms) = ap (λ z. (k, n) ∷ z) (entries_numbers k (suc n) ms)

makers_numbers : (k : ℕ) (ds : List Declared) → map entry_numbers (maker_entries k ds) ≡ maker_numbers k ds
makers_numbers k [] = refl
makers_numbers k (family x ms ∷ ds) =
    map-append entry_numbers (entries_from k 0 ms) (maker_entries (suc k) ds) ∙ ap
    (λ z. z ++ map entry_numbers (maker_entries (suc k) ds)) (entries_numbers k 0 ms) ∙
    ap (λ z. numbers_from k 0 ms ++ z) (makers_numbers (suc k) ds)
makers_numbers k (alias x w ∷ ds) = makers_numbers k ds
makers_numbers k (signature x bs w ∷ ds) = makers_numbers k ds
makers_numbers k (equation x ps t ∷ ds) = makers_numbers k ds

-- the numbers of the first constructor of a name
pub makers_numbers_of : (k : ℕ) (ds : List Declared) (x : List ℕ) →
    option_map (λ (e : MakerEntry). (e.family, e.number)) (first_under (maker_entries k ds) x) ≡ of_name
    (names (map (λ m. m.name) (makers ds))) (maker_numbers k ds) x
makers_numbers_of k ds x =
    under_named (λ (e : MakerEntry). (e.family, e.number)) (maker_entries k ds) x ∙ ap
    (λ bs. of_name (names bs) (map entry_numbers (maker_entries k ds)) x) (makers_named k ds) ∙
    ap (λ ns. of_name (names (map (λ m. m.name) (makers ds))) ns x) (makers_numbers k ds)

-- a table of the constructors has what is said of them
pub makers_are : (ds : List Declared) (ms : Makers) → IsTable itself (maker_entries 0 ds) ms.names ms.entries.items →
    AreMakers ds ms
makers_are ds ms t = record {
  fields = λ x. ap (option_map (λ (e : MakerEntry). e.fields)) (first x) ∙ makers_fields_of 0 ds x;
  numbers = λ x. ap (option_map (λ (e : MakerEntry). (e.family, e.number))) (first x) ∙ makers_numbers_of 0 ds x;
}
  where
    same : (o : Option MakerEntry) → o ≡ option_map itself o
    same (Some e) = refl
    same None = refl

    first : (x : List ℕ) → of_name ms.names ms.entries.items x ≡ first_under (maker_entries 0 ds) x
    first x = same (of_name ms.names ms.entries.items x) ∙ t.found x

-- ---- signatures

-- the signatures, with one more declaration
pub signatures_push : (ds : List Declared) (d : Declared) →
    named_signatures (ds ++ d ∷ []) ≡ named_signatures ds ++ named_signatures (d ∷ [])
signatures_push [] d = refl
signatures_push (family x ms ∷ ds) d = signatures_push ds d
signatures_push (alias x w ∷ ds) d = signatures_push ds d
signatures_push (signature x bs w ∷ ds) d = ap (λ z. (x, record { vars = bs; its_type = w }) ∷ z) (signatures_push ds d)
signatures_push (equation x ps t ∷ ds) d = signatures_push ds d

-- their names
pub signatures_named : (ds : List Declared) → binders_of (named_signatures ds) ≡ signature_names ds
signatures_named [] = refl
signatures_named (family x ms ∷ ds) = signatures_named ds
signatures_named (alias x w ∷ ds) = signatures_named ds
signatures_named (signature x bs w ∷ ds) = ap (λ z. x ∷ z) (signatures_named ds)
signatures_named (equation x ps t ∷ ds) = signatures_named ds

-- the first signature of a name
pub signatures_under : (ds : List Declared) (x : List ℕ) → first_under (named_signatures ds) x ≡ signed ds x
signatures_under [] x = refl
signatures_under (family y ms ∷ ds) x = signatures_under ds x
signatures_under (alias y w ∷ ds) x = signatures_under ds x
signatures_under (signature y bs w ∷ ds) x = ap
    (λ o. if bytes_eq x y.name then Some (record { vars = bs; its_type = w }) else o) (signatures_under ds x)
signatures_under (equation y ps t ∷ ds) x = signatures_under ds x

-- the signatures without their names
pub signatures_valued : (ds : List Declared) → values_of (named_signatures ds) ≡ signatures ds
signatures_valued [] = refl
signatures_valued (family x ms ∷ ds) = signatures_valued ds
signatures_valued (alias x w ∷ ds) = signatures_valued ds
signatures_valued (signature x bs w ∷ ds) = ap (λ z. record { vars = bs; its_type = w } ∷ z) (signatures_valued ds)
signatures_valued (equation x ps t ∷ ds) = signatures_valued ds

-- a table of the signatures has what is said of them
pub signatures_are : (ds : List Declared) (s : Signatures) (old kept : Option NameFault) →
    IsKept signed_of old (named_signatures ds) s.names s.entries.items kept → AreSignatures ds s
signatures_are ds s old kept k = record {
  found = λ x. k.table.found x ∙ signatures_under ds x;
  names_are = subst (λ bs. AreNames bs s.names) (signatures_named ds) k.names_are;
  own = λ once. k.table.own (ap twice (signatures_named ds) ∙ once) ∙ signatures_valued ds;
}

-- a declaration of another kind has none
pub no_signature : (d : Decl) → ((x : Binder) (bs : Vec (Binder × Kind) Global) (w : WrittenTree) → d ≡ decl.Signature x bs w → ⊥)
    → named_signatures (decl_tree d ∷ []) ≡ []
no_signature (decl.Family x ms) other = refl
no_signature (decl.Alias x w) other = refl
no_signature (decl.Signature x bs w) other = absurd (other x bs w refl)
no_signature (decl.Equation x ps t) other = refl

-- ---- equations

-- the names that have an equation, with one more declaration
pub equations_push : (ds : List Declared) (d : Declared) →
    equation_names (ds ++ d ∷ []) ≡ equation_names ds ++ equation_names (d ∷ [])
equations_push [] d = refl
equations_push (family x ms ∷ ds) d = equations_push ds d
equations_push (alias x w ∷ ds) d = equations_push ds d
equations_push (signature x bs w ∷ ds) d = equations_push ds d
equations_push (equation x ps t ∷ ds) d = ap (λ z. x ∷ z) (equations_push ds d)

-- a declaration of another kind has none
pub no_equation : (d : Decl) → ((x : Binder) (ps : Vec Binder Global) (t : TermTree) → d ≡ decl.Equation x ps t → ⊥) →
    equation_names (decl_tree d ∷ []) ≡ []
no_equation (decl.Family x ms) other = refl
no_equation (decl.Alias x w) other = refl
no_equation (decl.Signature x bs w) other = refl
no_equation (decl.Equation x ps t) other = absurd (other x ps t refl)

-- ---- globals

-- the names that have a signature or an equation, in order of text
abbrev pub global_names : List Declared → List Binder
global_names [] = []
global_names (family x ms ∷ ds) = global_names ds
global_names (alias x w ∷ ds) = global_names ds
global_names (signature x bs w ∷ ds) = x ∷ global_names ds
global_names (equation x ps t ∷ ds) = x ∷ global_names ds

-- with one more declaration
pub globals_push : (ds : List Declared) (d : Declared) → global_names (ds ++ d ∷ []) ≡ global_names ds ++ global_names (d ∷ [])
globals_push [] d = refl
globals_push (family x ms ∷ ds) d = globals_push ds d
globals_push (alias x w ∷ ds) d = globals_push ds d
globals_push (signature x bs w ∷ ds) d = ap (λ z. x ∷ z) (globals_push ds d)
globals_push (equation x ps t ∷ ds) d = ap (λ z. x ∷ z) (globals_push ds d)

among_first : (known : List (List ℕ)) (y x : List ℕ) → is_among (y ∷ known) x ≡ (bytes_eq x y || is_among known x)
among_first known y x = pick (bytes_eq x y) (place_of known x)
  where
    pick : (c : Bool) (o : Option ℕ) → is_there (if c then Some 0 else option_map suc o) ≡ (c || is_there o)
    pick true o = refl
    pick false (Some k) = refl
    pick false None = refl

-- one name behind some and in front of others
among_middle : (known : List (List ℕ)) (y : List ℕ) (others : List (List ℕ)) (x : List ℕ) →
    is_among (known ++ y ∷ others) x ≡ (bytes_eq x y || is_among (known ++ others) x)
among_middle [] y others x = among_first others y x
among_middle (z ∷ known) y others x =
    among_first (known ++ y ∷ others) z x ∙ pick (bytes_eq x z) (bytes_eq x y) (is_among (known ++ others) x)
    (among_middle known y others x) ∙
    sym (ap (λ c. bytes_eq x y || c) (among_first (known ++ others) z x))
  where
    pick : (b c d : Bool) → is_among (known ++ y ∷ others) x ≡ (c || d) →
        (b || is_among (known ++ y ∷ others) x) ≡ (c || (b || d))
    pick true true d e = refl
    pick true false d e = refl
    pick false c d e = e

-- the names of globals are these
pub globals_named : (ds : List Declared) (x : List ℕ) → is_among (names (global_names ds)) x ≡ is_among (globals ds) x
globals_named [] x = refl
globals_named (family y ms ∷ ds) x = globals_named ds x
globals_named (alias y w ∷ ds) x = globals_named ds x
globals_named (signature y bs w ∷ ds) x = among_first (names (global_names ds)) y.name x ∙ ap
    (λ c. bytes_eq x y.name || c) (globals_named ds x) ∙ sym (among_first (globals ds) y.name x)
globals_named (equation y ps t ∷ ds) x =
    among_first (names (global_names ds)) y.name x ∙ ap (λ c. bytes_eq x y.name || c) (globals_named ds x) ∙
    sym (among_middle (names (signature_names ds)) y.name (names (equation_names ds)) x)
