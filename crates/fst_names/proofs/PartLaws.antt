-- The parts of declarations, one declaration after another.
use Rattle.std.proofs.Common.{◌≡◌, ◌∙◌, ℕ, suc, ◌+◌, ◌<◌, List, [], ◌∷◌, ◌++◌, length, map, get_or, take, drop, add-one, Option, Some, refl, sym, ap, subst, append_assoc, arith}
use Rattle.std.proofs.Math.Seq.{drop-cons}
use Rattle.std.proofs.lemmas.List.{append-nil, length-append, length-map, map-append, take_more}
use Rattle.fst_types.specs.Tree.{Tree}
use Rattle.fst_types.specs.WrittenTree.{WrittenTree}
use Rattle.fst_types.specs.declared.family.Family.{Family}
use Rattle.fst_types.specs.declared.family.Maker as code
use Rattle.fst_types.specs.declared.kind.Kind.{Kind}
use Rattle.fst_terms.specs.ModuleTree.{Maker, Declared, alias, decl_tree, equation, family, maker, signature}
use Rattle.fst_terms.specs.declared.module.Decl.{Decl}
use Rattle.fst_terms.specs.declared.module.SourceMaker.{SourceMaker}
use Rattle.fst_terms.specs.TermTree.{TermTree}
use Rattle.fst_terms.specs.declared.binder.Binder.{Binder}
use Rattle.fst_scopes.specs.Aliases.{Known}
use Rattle.fst_scopes.specs.Faults.{type_faults}
use Rattle.fst_scopes.specs.Twice.{names, variables}
use Rattle.fst_scopes.proofs.Laws.{none_named}
use Rattle.fst_term_faults.specs.TermFaults.{types_faults, within}
use Rattle.fst_term_names.specs.CoreTerms.{core_term, from}
use Rattle.fst_term_names.specs.TermTypes.{TypeUse, begins_at, tree_of, written_in}
use Rattle.fst_term_names.specs.declared.meanings.TypeList.{TypeList}
use Rattle.fst_declarations.specs.ModuleFaults.{decl_faults, decls_faults, fields_faults, module_scope, surroundings}
use Rattle.fst_names.specs.Modules.{TypeAt, types_in, closed_type, decl_types, decls_types, equations_from, families_from, family_parts, field_types, makers_from, numbers, signature_numbers}
use Rattle.fst_names.specs.Parts.{AreParts, IsLonger, equation_part, maker_parts, numbered, open_type}
use Rattle.fst_names.specs.declared.parts.EquationPart.{EquationPart}
use Rattle.fst_names.specs.declared.parts.Parts.{Parts}

-- ---- lists of types

-- one more type
pub one_longer : (old new : TypeList) (a : TypeAt) (t : Tree) → a.stands ≡ Some t → new.types.items ≡ old.types.items ++ t ∷ [] →
    new.places.items ≡ old.places.items ++ a.at ∷ [] → IsLonger old (a ∷ []) new
one_longer old new a t is types places = record {
  types = ap (map Some) types ∙ map-append Some old.types.items (t ∷ []) ∙ ap (λ o. map Some old.types.items ++ o ∷ []) (sym is);
  places = places;
}

-- no more types
pub no_longer : (list : TypeList) → IsLonger list [] list
no_longer list = record { types = sym (append-nil (map Some list.types.items)); places = sym (append-nil list.places.items) }

-- some types and more behind them
pub longer_twice : (old kept new : TypeList) (ts us : List TypeAt) → IsLonger old ts kept → IsLonger kept us new →
    IsLonger old (ts ++ us) new
longer_twice old kept new ts us one two = record {
  types =
      two.types ∙ ap (λ xs. xs ++ map (λ (t : TypeAt). t.stands) us) one.types ∙
      append_assoc (map Some old.types.items) (map (λ (t : TypeAt). t.stands) ts) (map (λ (t : TypeAt). t.stands) us) ∙
      ap (λ xs. map Some old.types.items ++ xs) (sym (map-append (λ (t : TypeAt). t.stands) ts us));
  places =
      two.places ∙ ap (λ xs. xs ++ map (λ (t : TypeAt). t.at) us) one.places
      ∙ append_assoc old.places.items (map (λ (t : TypeAt). t.at) ts) (map (λ (t : TypeAt). t.at) us) ∙
      ap (λ xs. old.places.items ++ xs) (sym (map-append (λ (t : TypeAt). t.at) ts us));
}

abbrev some : Tree → Option Tree
some t = Some t

-- how many types there are then
pub longer_length : (old new : TypeList) (ts : List TypeAt) → IsLonger old ts new →
    length new.types.items ≡ length old.types.items + length ts
longer_length old new ts longer =
    sym (length-map new.types.items some) ∙ ap (λ (xs : List (Option Tree)). length xs) longer.types ∙
    length-append (map Some old.types.items) (map (λ (t : TypeAt). t.stands) ts) ∙
    λ i. length-map old.types.items some i + length-map ts (λ (t : TypeAt). t.stands) i

-- ---- the types of fields

-- the first fields of a constructor have their numbers, and their types stand in the list
pub record AreNumbered (ds : List Declared) (known : Known) (fields : List WrittenTree) (i : ℕ) (start : TypeList)
    (numbers : List ℕ) (list : TypeList) : Type 0 where
  pub numbered : numbers ++ from (length list.types.items) (drop i fields) ≡ from (length start.types.items) fields
  pub longer : IsLonger start (map (closed_type ds known) (take i fields)) list
  pub sound : types_faults (module_scope ds known []) (drop i fields) ≡ []

-- what is left of a list begins with its next item
next_item : {A : Type 0} (xs : List A) (i : ℕ) (x : A) → i < length xs → x ≡ get_or xs i x → drop i xs ≡ x ∷ drop (i + 1) xs
next_item xs i x low is = drop-cons xs i x low ∙ ap (λ z. z ∷ drop (suc i) xs) (sym is) ∙ ap
    (λ n. x ∷ drop n xs) (sym (add-one i))

-- and what came before it ends with it then
last_item : {A : Type 0} (xs : List A) (i : ℕ) (x : A) → i < length xs → x ≡ get_or xs i x → take (i + 1) xs ≡ take i xs ++ x ∷ []
last_item xs i x low is = take_more xs i x low ∙ ap (λ z. take i xs ++ z ∷ []) (sym is)

module _ (ds : List Declared) (known : Known) (fields : List WrittenTree) (i : ℕ) (w : WrittenTree) (start : TypeList)
    (numbers : List ℕ) (list : TypeList) (low : i < length fields) (is : w ≡ get_or fields i w)
    (before : AreNumbered ds known fields i start numbers list) where
  -- the next field's type has no fault
  pub field_sound : type_faults (module_scope ds known []) w ≡ []
  field_sound = (none_named (type_faults (module_scope ds known []) w)
      (types_faults (module_scope ds known []) (drop (i + 1) fields))
      (sym (ap (types_faults (module_scope ds known [])) (next_item fields i w low is)) ∙ before.sound)).0

  -- one more field
  pub field_numbered : (n : ℕ) (after : List ℕ) (new : TypeList) (vars : List (List ℕ)) → vars ≡ [] →
      n ≡ length list.types.items → after ≡ numbers ++ n ∷ [] → IsLonger list (open_type ds known vars w ∷ []) new →
      AreNumbered ds known fields (i + 1) start after new
  field_numbered n after new vars none one put longer = record {
    numbered =
        ap (λ xs. xs ++ from (length new.types.items) (drop (i + 1) fields)) put
        ∙ append_assoc numbers (n ∷ []) (from (length new.types.items) (drop (i + 1) fields)) ∙
        ap (λ m. numbers ++ n ∷ from m (drop (i + 1) fields))
        (let long = longer_length list new (open_type ds known vars w ∷ []) longer in omega (arith, long, one)) ∙
        ap (λ m. numbers ++ m ∷ from (suc m) (drop (i + 1) fields)) one ∙ ap
        (λ ws. numbers ++ from (length list.types.items) ws) (sym (next_item fields i w low is)) ∙ before.numbered;
    longer =
        subst (λ ts. IsLonger start ts new) (sym (map-append (closed_type ds known) (take i fields) (w ∷ []))
        ∙ ap (map (closed_type ds known)) (sym (last_item fields i w low is)))
        (longer_twice start list new (map (closed_type ds known) (take i fields)) (closed_type ds known w ∷ []) before.longer
        (subst (λ xs. IsLonger list (open_type ds known xs w ∷ []) new) none longer));
    sound =
        (none_named (type_faults (module_scope ds known []) w) (types_faults (module_scope ds known []) (drop (i + 1) fields))
        (sym (ap (types_faults (module_scope ds known [])) (next_item fields i w low is)) ∙ before.sound)).1;
  }

-- ---- the types of constructors' fields

-- those of some constructors and of more behind them
pub field_types_append : (ms ns : List Maker) → field_types (ms ++ ns) ≡ field_types ms ++ field_types ns
field_types_append [] ns = refl
field_types_append (m ∷ ms) ns = ap (λ ws. m.fields ++ ws) (field_types_append ms ns)
    ∙ sym (append_assoc m.fields (field_types ms) (field_types ns))

-- the first constructors of a data type are kept, and the types of their fields stand in the list
pub record AreMade (ds : List Declared) (known : Known) (makers : List SourceMaker) (i : ℕ) (start : TypeList)
    (kept : List code.Maker) (list : TypeList) : Type 0 where
  pub made : map maker_parts kept ++ makers_from (length list.types.items) (map maker (drop i makers)) ≡ makers_from
      (length start.types.items) (map maker makers)
  pub longer : IsLonger start (map (closed_type ds known) (field_types (map maker (take i makers)))) list
  pub sound : fields_faults (module_scope ds known []) (map maker (drop i makers)) ≡ []

module _ (ds : List Declared) (known : Known) (makers : List SourceMaker) (i : ℕ) (m : SourceMaker) (start : TypeList)
    (kept : List code.Maker) (list : TypeList) (low : i < length makers) (is : m ≡ get_or makers i m)
    (before : AreMade ds known makers i start kept list) where
  maker_faults : types_faults (module_scope ds known []) m.fields.items ++ fields_faults (module_scope ds known [])
      (map maker (drop (i + 1) makers)) ≡ []
  maker_faults = sym (ap (λ (ms : List SourceMaker). fields_faults (module_scope ds known []) (map maker ms))
      (next_item makers i m low is)) ∙ before.sound

  -- the types of the next constructor's fields have no fault
  pub maker_sound : types_faults (module_scope ds known []) m.fields.items ≡ []
  maker_sound = (none_named (types_faults (module_scope ds known []) m.fields.items)
      (fields_faults (module_scope ds known []) (map maker (drop (i + 1) makers))) maker_faults).0

  -- one more constructor
  pub maker_made : (own : code.Maker) (after : List code.Maker) (new : TypeList) → own.name ≡ m.name.name →
      own.fields.items ≡ from (length list.types.items) m.fields.items → after ≡ kept ++ own ∷ [] →
      IsLonger list (map (closed_type ds known) m.fields.items) new → AreMade ds known makers (i + 1) start after new
  maker_made own after new named numbered put longer = record {
    made =
        ap (λ ms. map maker_parts ms ++ makers_from (length new.types.items) (map maker (drop (i + 1) makers))) put ∙
        ap (λ ps. ps ++ makers_from (length new.types.items) (map maker (drop (i + 1) makers)))
        (map-append maker_parts kept (own ∷ [])) ∙
        append_assoc (map maker_parts kept) (maker_parts own ∷ [])
        (makers_from (length new.types.items) (map maker (drop (i + 1) makers))) ∙
        ap (λ n. map maker_parts kept ++ maker_parts own ∷ makers_from n (map maker (drop (i + 1) makers))) long ∙
        ap (λ p. map maker_parts kept ++ p ∷ makers_from (length list.types.items + length m.fields.items)
        (map maker (drop (i + 1) makers))) (λ j. (named j, numbered j)) ∙
        ap (λ (ms : List SourceMaker). map maker_parts kept ++ makers_from (length list.types.items) (map maker ms))
        (sym (next_item makers i m low is)) ∙ before.made;
    longer =
        subst (λ ts. IsLonger start ts new) types
        (longer_twice start list new (map (closed_type ds known) (field_types (map maker (take i makers))))
        (map (closed_type ds known) m.fields.items) before.longer longer);
    sound = (none_named (types_faults (module_scope ds known []) m.fields.items)
        (fields_faults (module_scope ds known []) (map maker (drop (i + 1) makers))) maker_faults).1;
  }
    where
      long : length new.types.items ≡ length list.types.items + length m.fields.items
      long = longer_length list new (map (closed_type ds known) m.fields.items) longer ∙ ap
          (λ n. length list.types.items + n) (length-map m.fields.items (closed_type ds known))

      types : map (closed_type ds known) (field_types (map maker (take i makers))) ++ map
          (closed_type ds known) m.fields.items ≡ map (closed_type ds known) (field_types (map maker (take (i + 1) makers)))
      types =
          sym (map-append (closed_type ds known) (field_types (map maker (take i makers))) m.fields.items) ∙
          ap (λ ws. map (closed_type ds known) (field_types (map maker (take i makers)) ++ ws)) (sym (append-nil m.fields.items))
          ∙
          ap (map (closed_type ds known)) (sym (field_types_append (map maker (take i makers)) (maker m ∷ []))) ∙
          ap (λ ms. map (closed_type ds known) (field_types ms)) (sym (map-append maker (take i makers) (m ∷ []))) ∙
          ap (λ (ms : List SourceMaker). map (closed_type ds known) (field_types (map maker ms)))
          (sym (last_item makers i m low is))

-- ---- declarations, and one more

module _ (ds : List Declared) (known : Known) where
  -- how many types stand in some declarations
  abbrev pub types_there : List Declared → ℕ
  types_there es = length (decls_types ds known es)

  types_append : (es fs : List Declared) → decls_types ds known (es ++ fs) ≡ decls_types ds known es ++ decls_types ds known fs
  types_append [] fs = refl
  types_append (e ∷ es) fs = ap (λ ts. decl_types ds known e ++ ts) (types_append es fs)
      ∙ sym (append_assoc (decl_types ds known e) (decls_types ds known es) (decls_types ds known fs))

  decl_long : (e : Declared) → length (decl_types ds known e) ≡ types_in e
  decl_long (family x ms) = length-map (field_types ms) (closed_type ds known)
  decl_long (alias x w) = refl
  decl_long (signature x bs w) = refl
  decl_long (equation x ps t) = length-map (written_in t) _

  -- those of one declaration and of others
  next_there : (n : ℕ) (e : Declared) (es : List Declared) → n + types_in e + types_there es ≡ n + types_there (e ∷ es)
  next_there n e es = let long = length-append (decl_types ds known e) (decls_types ds known es) in let own = decl_long e in
      omega (arith, long, own)

  families_append : (n : ℕ) (es fs : List Declared) →
      families_from n (es ++ fs) ≡ families_from n es ++ families_from (n + types_there es) fs
  families_append n [] fs = ap (λ m. families_from m fs) (omega arith)
  families_append n (family x ms ∷ es) fs =
      ap (λ gs. (x.name, makers_from n ms) ∷ gs)
      (families_append (n + length (field_types ms)) es fs ∙ ap
      (λ m. families_from (n + length (field_types ms)) es ++ families_from m fs) (next_there n (family x ms) es))
  families_append n (alias x w ∷ es) fs = families_append (suc n) es fs ∙ ap
      (λ m. families_from (suc n) es ++ families_from m fs) (omega (arith, next_there n (alias x w) es))
  families_append n (signature x bs w ∷ es) fs = families_append (suc n) es fs ∙ ap
      (λ m. families_from (suc n) es ++ families_from m fs) (omega (arith, next_there n (signature x bs w) es))
  families_append n (equation x ps t ∷ es) fs =
      families_append (n + length (written_in t)) es fs ∙ ap
      (λ m. families_from (n + length (written_in t)) es ++ families_from m fs) (next_there n (equation x ps t) es)

  signatures_append : (n : ℕ) (es fs : List Declared) →
      signature_numbers n (es ++ fs) ≡ signature_numbers n es ++ signature_numbers (n + types_there es) fs
  signatures_append n [] fs = ap (λ m. signature_numbers m fs) (omega arith)
  signatures_append n (family x ms ∷ es) fs =
      signatures_append (n + length (field_types ms)) es fs ∙ ap
      (λ m. signature_numbers (n + length (field_types ms)) es ++ signature_numbers m fs) (next_there n (family x ms) es)
  signatures_append n (alias x w ∷ es) fs = signatures_append (suc n) es fs ∙ ap
      (λ m. signature_numbers (suc n) es ++ signature_numbers m fs) (omega (arith, next_there n (alias x w) es))
  signatures_append n (signature x bs w ∷ es) fs =
      ap (λ ks. n ∷ ks) (signatures_append (suc n) es fs ∙ ap
      (λ m. signature_numbers (suc n) es ++ signature_numbers m fs) (omega (arith, next_there n (signature x bs w) es)))
  signatures_append n (equation x ps t ∷ es) fs =
      signatures_append (n + length (written_in t)) es fs ∙ ap
      (λ m. signature_numbers (n + length (written_in t)) es ++ signature_numbers m fs) (next_there n (equation x ps t) es)

  equations_append : (n : ℕ) (es fs : List Declared) →
      equations_from n (es ++ fs) ≡ equations_from n es ++ equations_from (n + types_there es) fs
  equations_append n [] fs = ap (λ m. equations_from m fs) (omega arith)
  equations_append n (family x ms ∷ es) fs =
      equations_append (n + length (field_types ms)) es fs ∙ ap
      (λ m. equations_from (n + length (field_types ms)) es ++ equations_from m fs) (next_there n (family x ms) es)
  equations_append n (alias x w ∷ es) fs = equations_append (suc n) es fs ∙ ap
      (λ m. equations_from (suc n) es ++ equations_from m fs) (omega (arith, next_there n (alias x w) es))
  equations_append n (signature x bs w ∷ es) fs = equations_append (suc n) es fs ∙ ap
      (λ m. equations_from (suc n) es ++ equations_from m fs) (omega (arith, next_there n (signature x bs w) es))
  equations_append n (equation x ps t ∷ es) fs =
      ap (λ qs. record { name = x; parameters = ps; body = t; first = n } ∷ qs)
      (equations_append (n + length (written_in t)) es fs ∙ ap
      (λ m. equations_from (n + length (written_in t)) es ++ equations_from m fs) (next_there n (equation x ps t) es))

  -- no declarations
  pub no_parts : (p : Parts) → p.list.types.items ≡ [] → p.list.places.items ≡ [] → p.families.items ≡ [] →
      p.signatures.items ≡ [] → p.equations.items ≡ [] → AreParts ds known [] p
  no_parts p types places families signatures equations =
      record {
        types = ap (map Some) types;
        places = places;
        families = ap (map family_parts) families;
        signatures = signatures;
        equations = ap (map equation_part) equations;
      }

  -- as many types are in the list
  parts_long : (es : List Declared) (p : Parts) → AreParts ds known es p → length p.list.types.items ≡ types_there es
  parts_long es p are =
      sym (length-map p.list.types.items some) ∙ ap (λ (xs : List (Option Tree)). length xs) are.types
      ∙ length-map (decls_types ds known es) (λ (t : TypeAt). t.stands)

  -- one more declaration
  pub record IsAdded (e : Declared) (old new : Parts) : Type 0 where
    pub longer : IsLonger old.list (decl_types ds known e) new.list
    pub families : map family_parts new.families.items ≡ map family_parts old.families.items ++ families_from
        (length old.list.types.items) (e ∷ [])
    pub signatures : new.signatures.items ≡ old.signatures.items ++ signature_numbers (length old.list.types.items) (e ∷ [])
    pub equations : map equation_part new.equations.items ≡ map equation_part old.equations.items ++ map (numbered ds)
        (equations_from (length old.list.types.items) (e ∷ []))

  pub parts_added : (es : List Declared) (e : Declared) (old new : Parts) → AreParts ds known es old → IsAdded e old new →
      AreParts ds known (es ++ e ∷ []) new
  parts_added es e old new are added = record {
    types =
        added.longer.types ∙ ap (λ xs. xs ++ map (λ (t : TypeAt). t.stands) (decl_types ds known e)) are.types
        ∙ sym (map-append (λ (t : TypeAt). t.stands) (decls_types ds known es) (decl_types ds known e)) ∙
        ap (map (λ (t : TypeAt). t.stands)) types;
    places =
        added.longer.places ∙ ap (λ xs. xs ++ map (λ (t : TypeAt). t.at) (decl_types ds known e)) are.places
        ∙ sym (map-append (λ (t : TypeAt). t.at) (decls_types ds known es) (decl_types ds known e)) ∙
        ap (map (λ (t : TypeAt). t.at)) types;
    families = added.families ∙ (λ i. are.families i ++ families_from (long i) (e ∷ [])) ∙ sym (families_append 0 es (e ∷ []));
    signatures = added.signatures ∙ (λ i. are.signatures i ++ signature_numbers (long i) (e ∷ []))
        ∙ sym (signatures_append 0 es (e ∷ []));
    equations =
        added.equations ∙ (λ i. are.equations i ++ map (numbered ds) (equations_from (long i) (e ∷ [])))
        ∙ sym (map-append (numbered ds) (equations_from 0 es) (equations_from (0 + types_there es) (e ∷ []))) ∙
        ap (map (numbered ds)) (sym (equations_append 0 es (e ∷ [])));
  }
    where
      types : decls_types ds known es ++ decl_types ds known e ≡ decls_types ds known (es ++ e ∷ [])
      types = ap (λ ts. decls_types ds known es ++ ts) (sym (append-nil (decl_types ds known e))) ∙ sym (types_append es (e ∷ []))

      long : length old.list.types.items ≡ 0 + types_there es
      long = let same = parts_long es old are in omega (arith, same)

  -- a data type
  pub family_added : (x : Binder) (ms : List Maker) (own : Family) (old new : Parts) →
      IsLonger old.list (map (closed_type ds known) (field_types ms)) new.list → own.name ≡ x.name →
      map maker_parts own.makers.items ≡ makers_from (length old.list.types.items) ms →
      new.families.items ≡ old.families.items ++ own ∷ [] → new.signatures.items ≡ old.signatures.items →
      new.equations.items ≡ old.equations.items → IsAdded (family x ms) old new
  family_added x ms own old new longer named makers families signatures equations = record {
    longer = longer;
    families = ap (map family_parts) families ∙ map-append family_parts old.families.items (own ∷ []) ∙ ap
        (λ p. map family_parts old.families.items ++ p ∷ []) (λ i. (named i, makers i));
    signatures = signatures ∙ sym (append-nil old.signatures.items);
    equations = ap (map equation_part) equations ∙ sym (append-nil (map equation_part old.equations.items));
  }

  -- an alias
  pub alias_added : (x : Binder) (w : WrittenTree) (vars : List (List ℕ)) (old new : Parts) → vars ≡ [] →
      IsLonger old.list (open_type ds known vars w ∷ []) new.list → new.families.items ≡ old.families.items →
      new.signatures.items ≡ old.signatures.items → new.equations.items ≡ old.equations.items → IsAdded (alias x w) old new
  alias_added x w vars old new none longer families signatures equations = record {
    longer = subst (λ xs. IsLonger old.list (open_type ds known xs w ∷ []) new.list) none longer;
    families = ap (map family_parts) families ∙ sym (append-nil (map family_parts old.families.items));
    signatures = signatures ∙ sym (append-nil old.signatures.items);
    equations = ap (map equation_part) equations ∙ sym (append-nil (map equation_part old.equations.items));
  }

  -- a signature
  pub signature_added : (x : Binder) (bs : List (Binder × Kind)) (w : WrittenTree) (vars : List (List ℕ)) (n : ℕ)
      (old new : Parts) → vars ≡ names (variables bs) →
      IsLonger old.list (open_type ds known vars w ∷ []) new.list → n ≡ length old.list.types.items →
      new.families.items ≡ old.families.items → new.signatures.items ≡ old.signatures.items ++ n ∷ [] →
      new.equations.items ≡ old.equations.items → IsAdded (signature x bs w) old new
  signature_added x bs w vars n old new are longer is families signatures equations = record {
    longer = subst (λ xs. IsLonger old.list (open_type ds known xs w ∷ []) new.list) are longer;
    families = ap (map family_parts) families ∙ sym (append-nil (map family_parts old.families.items));
    signatures = signatures ∙ ap (λ k. old.signatures.items ++ k ∷ []) is;
    equations = ap (map equation_part) equations ∙ sym (append-nil (map equation_part old.equations.items));
  }

  -- an equation
  pub equation_added : (x : Binder) (ps : List Binder) (t : TermTree) (own : EquationPart) (old new : Parts) →
      IsLonger old.list (map (λ (u : TypeUse). record { at = begins_at u; stands = tree_of (surroundings ds known x.name) u })
      (written_in t)) new.list → own.binder.now ≡ x → own.parameters.now ≡ ps →
      own.body.value ≡ core_term (numbers ds) (within ps []) (length old.list.types.items) t →
      new.families.items ≡ old.families.items → new.signatures.items ≡ old.signatures.items →
      new.equations.items ≡ old.equations.items ++ own ∷ [] → IsAdded (equation x ps t) old new
  equation_added x ps t own old new longer named bound is families signatures equations = record {
    longer = longer;
    families = ap (map family_parts) families ∙ sym (append-nil (map family_parts old.families.items));
    signatures = signatures ∙ sym (append-nil old.signatures.items);
    equations =
        ap (map equation_part) equations ∙ map-append equation_part old.equations.items (own ∷ []) ∙
        ap (λ p. map equation_part old.equations.items ++ p ∷ [])
        (λ i. record { name = named i; parameters = bound i; body = is i });
  }

  -- ---- declarations that the code keeps

  -- the next declaration has no fault, nor have those behind it
  pub next_sound : (decls : List Decl) (i : ℕ) (e : Decl) → i < length decls → e ≡ get_or decls i e →
      decls_faults ds known (map decl_tree (drop i decls)) ≡ [] →
      (decl_faults ds known (decl_tree e) ≡ []) × (decls_faults ds known (map decl_tree (drop (i + 1) decls)) ≡ [])
  next_sound decls i e low is none =
      none_named (decl_faults ds known (decl_tree e)) (decls_faults ds known (map decl_tree (drop (i + 1) decls)))
      (sym (ap (λ (zs : List Decl). decls_faults ds known (map decl_tree zs)) (next_item decls i e low is)) ∙ none)

  -- its parts are put behind those of the declarations before it
  pub next_added : (decls : List Decl) (i : ℕ) (e : Decl) (new : Parts) → i < length decls → e ≡ get_or decls i e →
      AreParts ds known (map decl_tree (take i decls) ++ decl_tree e ∷ []) new →
      AreParts ds known (map decl_tree (take (i + 1) decls)) new
  next_added decls i e new low is are =
      subst (λ zs. AreParts ds known zs new) (sym (map-append decl_tree (take i decls) (e ∷ [])) ∙ ap
      (λ (zs : List Decl). map decl_tree zs) (sym (last_item decls i e low is))) are
