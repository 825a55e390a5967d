-- The types of globals have only the variables of their signatures, and those of fields none.
use Rattle.std.proofs.Common.{◌≡◌, ◌∙◌, ℕ, suc, ◌+◌, true, List, [], ◌∷◌, ◌++◌, length, map, Option, Some, None, refl, sym, ap, subst, append_assoc, arith}
use Rattle.std.specs.Prelude.{option_map, option_and_then, slice_get, unwrap_or}
use Rattle.std.proofs.lemmas.List.{length-map, map-append}
use Rattle.std.proofs.lemmas.Option.{same_Some, slice_get-map}
use Rattle.fst_types.specs.Tree.{Tree}
use Rattle.fst_types.specs.WrittenTree.{WrittenTree}
use Rattle.fst_types.specs.declared.family.Family.{Family}
use Rattle.fst_types.specs.declared.family.Maker as code
use Rattle.fst_terms.specs.InRange as core
use Rattle.fst_terms.specs.ModuleTree.{Maker, Declared, family, alias, signature, equation}
use Rattle.fst_terms.specs.Naming.{place_of, is_there}
use Rattle.fst_terms.specs.TermTree.{TermTree}
use Rattle.fst_terms.specs.Variables.{IsTypeOver, AreTypesOver, HasTypesOver, AreGlobalsOver, field_numbers}
use Rattle.fst_terms.specs.declared.binder.Binder.{Binder}
use Rattle.fst_terms.specs.declared.global.GlobalEntry.{GlobalEntry}
use Rattle.fst_scopes.specs.Aliases.{Known, IsKnown}
use Rattle.fst_scopes.specs.Faults.{is_among}
use Rattle.fst_scopes.specs.Scopes.{of_name}
use Rattle.fst_scopes.specs.Twice.{names}
use Rattle.fst_scopes.specs.TypeNames.{type_declared}
use Rattle.fst_term_faults.specs.TermFaults.{within}
use Rattle.fst_term_names.specs.CoreTerms.{from, core_term}
use Rattle.fst_term_names.specs.TermTypes.{written_in, tree_of, begins_at}
use Rattle.fst_declarations.specs.ModuleFaults.{signed, signed_type, surroundings, vars_of, decl_faults, decls_faults}
use Rattle.fst_declarations.specs.ModuleNames.{signature_names}
use Rattle.fst_names.specs.Modules.{TypeAt, Global, closed_type, decl_types, decls_types, equations_from, families_from, family_parts, field_types, functions, global_of, global_parts, globals_from, makers_from, module_types, numbers, parameter_types, parameters_types, place_of_type, signature_numbers}
use Rattle.fst_names.specs.Parts.{maker_parts}
use Rattle.fst_names.proofs.CountLaws.{parameters_long}
use Rattle.fst_names.proofs.FamilyLaws.{heads, tails}
use Rattle.fst_names.proofs.FaultlessLaws.{equation_sound, first_sound, has_other, others_sound}
use Rattle.fst_names.proofs.GlobalLaws.{in_front, signature_there}
use Rattle.fst_names.proofs.VariableLaws.{EachAt, IsAt, IsUseOver, each_from, each_left, each_right, functions_over, kinds_long, over_at, own_variables, signed_variables, term_over, use_over}

-- ---- types by their numbers

-- what is said of each item and the number behind its own
each_behind : {A : Type 0} (P : ℕ → A → Type 0) (n : ℕ) (xs : List A) → EachAt (λ k. P (suc k)) n xs → EachAt P (suc n) xs
each_behind P n [] h = tt
each_behind P n (x ∷ xs) h = (h.0, each_behind P (suc n) xs h.1)

-- each type of a module has its place for a number
pub all_at : (types : List Tree) (us : List TypeAt) → map Some types ≡ map (λ (t : TypeAt). t.stands) us →
    EachAt (IsAt types) 0 us
all_at [] [] e = tt
all_at [] (u ∷ us) e = absurd (cc e)
all_at (t ∷ types) [] e = absurd (cc e)
all_at (t ∷ types) (u ∷ us) e = (
  record { stands = t; there = refl; is = sym (heads (Some t) u.stands (map Some types) (map (λ (t : TypeAt). t.stands) us) e) },
  each_behind (IsAt (t ∷ types)) 0 us (all_behind 0 us
      (all_at types us (tails (Some t) u.stands (map Some types) (map (λ (t : TypeAt). t.stands) us) e))),
)
  where
    all_behind : (n : ℕ) (us : List TypeAt) → EachAt (IsAt types) n us → EachAt (λ k. IsAt (t ∷ types) (suc k)) n us
    all_behind n [] h = tt
    all_behind n (u ∷ us) h = (record { stands = h.0.stands; there = h.0.there; is = h.0.is }, all_behind (suc n) us h.1)

-- ---- fields

over_append : (types : List Tree) (js ks : List ℕ) → AreTypesOver types 0 js → AreTypesOver types 0 ks →
    AreTypesOver types 0 (js ++ ks)
over_append types [] ks a b = b
over_append types (j ∷ js) ks a b = (a.0, over_append types js ks a.1 b)

fields_append : (cs ds : List code.Maker) → field_numbers (cs ++ ds) ≡ field_numbers cs ++ field_numbers ds
fields_append [] ds = refl
fields_append (c ∷ cs) ds = ap (λ ks. c.fields.items ++ ks) (fields_append cs ds)
    ∙ sym (append_assoc c.fields.items (field_numbers cs) (field_numbers ds))

-- the type with a number has no variables
abbrev IsClosedAt : List Tree → ℕ → WrittenTree → Type 0
IsClosedAt types k w = IsTypeOver 0 (slice_get types k)

numbers_closed : (types : List Tree) (n : ℕ) (ws : List WrittenTree) → EachAt (IsClosedAt types) n ws →
    AreTypesOver types 0 (from n ws)
numbers_closed types n [] h = tt
numbers_closed types n (w ∷ ws) h = (h.0, numbers_closed types (suc n) ws h.1)

makers_closed : (types : List Tree) (n : ℕ) (ms : List Maker) (cs : List code.Maker) → map maker_parts cs ≡ makers_from n ms →
    EachAt (IsClosedAt types) n (field_types ms) → AreTypesOver types 0 (field_numbers cs)
makers_closed types n ms [] e h = tt
makers_closed types n [] (a ∷ cs) e h = absurd (cc e)
makers_closed types n (m ∷ ms) (a ∷ cs) e h =
    let first = ap (λ p. p.1) (heads (maker_parts a) (m.name.name, from n m.fields) (map maker_parts cs)
    (makers_from (n + length m.fields) ms) e) in
    let rest = tails (maker_parts a) (m.name.name, from n m.fields) (map maker_parts cs)
    (makers_from (n + length m.fields) ms) e in
    over_append types a.fields.items (field_numbers cs)
    (subst (AreTypesOver types 0) (sym first) (numbers_closed types n m.fields
    (each_left (IsClosedAt types) n m.fields (field_types ms) h)))
    (makers_closed types (n + length m.fields) ms cs rest (each_right (IsClosedAt types) n m.fields (field_types ms) h))

-- the number of the type of a name's signature
abbrev pub number_of : List Declared → List ℕ → ℕ
number_of ds x = unwrap_or (of_name (names (signature_names ds)) (signature_numbers 0 ds) x) 0

module _ (ds : List Declared) (known : Known) (is_known : IsKnown (type_declared ds) known) (types : List Tree) where
  -- the types of some declarations have the numbers from n on
  abbrev DeclsAt : ℕ → List Declared → Type 0
  DeclsAt n es = EachAt (IsAt types) n (decls_types ds known es)

  -- the first of them, and those behind it
  own_at : (n : ℕ) (e : Declared) (es : List Declared) → DeclsAt n (e ∷ es) → EachAt (IsAt types) n (decl_types ds known e)
  own_at n e es h = each_left (IsAt types) n (decl_types ds known e) (decls_types ds known es) h

  rest_at : (n : ℕ) (e : Declared) (es : List Declared) → DeclsAt n (e ∷ es) →
      EachAt (IsAt types) (n + length (decl_types ds known e)) (decls_types ds known es)
  rest_at n e es h = each_right (IsAt types) n (decl_types ds known e) (decls_types ds known es) h

  field_closed : (k : ℕ) (w : WrittenTree) → IsAt types k (closed_type ds known w) → IsClosedAt types k w
  field_closed k w h = over_at types 0 k h.stands h.there (own_variables ds known is_known [] w h.stands h.is)

  -- the types of fields have no variables
  pub fields_closed : (n : ℕ) (es : List Declared) (fs : List Family) → map family_parts fs ≡ families_from n es → DeclsAt n es →
      AreTypesOver types 0 (field_numbers (core.makers fs))
  fields_closed n [] [] e h = tt
  fields_closed n [] (f ∷ fs) e h = absurd (cc e)
  fields_closed n (family x ms ∷ es) [] e h = absurd (cc e)
  fields_closed n (family x ms ∷ es) (f ∷ fs) e h =
      let first = ap (λ p. p.1) (heads (family_parts f) (x.name, makers_from n ms) (map family_parts fs)
      (families_from (n + length (field_types ms)) es) e) in
      let rest = tails (family_parts f) (x.name, makers_from n ms) (map family_parts fs)
      (families_from (n + length (field_types ms)) es) e in
      let long = length-map (field_types ms) (closed_type ds known) in
      subst (AreTypesOver types 0) (sym (fields_append f.makers.items (core.makers fs)))
      (over_append types (field_numbers f.makers.items) (field_numbers (core.makers fs))
      (makers_closed types n ms f.makers.items first
      (each_from (IsClosedAt types) (IsAt types) (closed_type ds known) field_closed n (field_types ms)
      (own_at n (family x ms) es h)))
      (fields_closed (n + length (field_types ms)) es fs rest
      (subst (λ k. DeclsAt (n + k) es) long (rest_at n (family x ms) es h))))
  fields_closed n (alias x w ∷ es) fs e h = fields_closed (suc n) es fs e h.1
  fields_closed n (signature x bs w ∷ es) fs e h = fields_closed (suc n) es fs e h.1
  fields_closed n (equation x ps t ∷ es) fs e h =
      fields_closed (n + length (written_in t)) es fs e
      (subst (λ k. DeclsAt (n + k) es) (length-map (written_in t) _) (rest_at n (equation x ps t) es h))

  -- ---- globals

  -- the type of a name's signature is there
  signature_at : map Some types ≡ map (λ (t : TypeAt). t.stands) (module_types ds known) →
      (x : List ℕ) → is_among (names (signature_names ds)) x ≡ true →
      (t : Tree) × (slice_get types (number_of ds x) ≡ Some t) × (signed_type ds known (signed ds x) ≡ Some t)
  signature_at are x among = pick (place_of (names (signature_names ds)) x) refl among
    where
      there : (at : ℕ) → slice_get (map (λ (t : TypeAt). t.stands) (decls_types ds known ds)) at ≡ Some
          (signed_type ds known (signed ds x)) →
          option_map (λ (t : Tree). Some t) (slice_get types at) ≡ Some (signed_type ds known (signed ds x))
      there at is =
          sym (slice_get-map (λ (t : Tree). Some t) types at) ∙
          ap (λ ts. slice_get ts at) (are ∙ map-append
          (λ (t : TypeAt). t.stands) (decls_types ds known ds) (parameters_types ds known (equations_from 0 ds))) ∙
          in_front (map (λ (t : TypeAt). t.stands) (decls_types ds known ds))
          (map (λ (t : TypeAt). t.stands) (parameters_types ds known (equations_from 0 ds)))
          at (signed_type ds known (signed ds x)) is

      stands : (at : ℕ) → number_of ds x ≡ at → (o : Option Tree) → slice_get types at ≡ o → option_map
          (λ (t : Tree). Some t) o ≡ Some (signed_type ds known (signed ds x)) →
          (t : Tree) × (slice_get types (number_of ds x) ≡ Some t) × (signed_type ds known (signed ds x) ≡ Some t)
      stands at own None is e = absurd (cc e)
      stands at own (Some t) is e = (
        t,
        ap (slice_get types) own ∙ is,
        sym (same_Some (Some t) (signed_type ds known (signed ds x)) e),
      )

      pick : (o : Option ℕ) → place_of (names (signature_names ds)) x ≡ o → is_there o ≡ true →
          (t : Tree) × (slice_get types (number_of ds x) ≡ Some t) × (signed_type ds known (signed ds x) ≡ Some t)
      pick None is h = absurd (cc h)
      pick (Some k) is h =
          let found = signature_there ds known 0 ds x k is in
          let numbered : slice_get (signature_numbers 0 ds) k ≡ Some found.at = found.numbered ∙ ap Some (omega arith) in
          stands found.at (ap (λ o. unwrap_or (option_and_then (λ k. slice_get (signature_numbers 0 ds) k) o) 0) is ∙ ap
          (λ o. unwrap_or o 0) numbered) (slice_get types found.at) refl (there found.at found.stands)

  module _ (are : map Some types ≡ map (λ (t : TypeAt). t.stands) (module_types ds known)) where
    -- the types of an equation's global have only the variables of its signature
    equation_over : (x : Binder) (ps : List Binder) (t : TermTree) (n m : ℕ) → decl_faults ds known (equation x ps t) ≡ [] →
        EachAt (IsAt types) n (decl_types ds known (equation x ps t)) →
        EachAt (IsAt types) m (parameter_types (place_of_type (signed ds x.name)) ps (signed_type ds known (signed ds x.name))) →
        IsTypeOver (length (vars_of (signed ds x.name))) (slice_get types (number_of ds x.name)) ×
        HasTypesOver types (length (vars_of (signed ds x.name)))
        (functions m ps (signed_type ds known (signed ds x.name)) (core_term (numbers ds) (within ps []) n t))
    equation_over x ps t n m e written params =
        let own = signature_at are x.name (has_other (signature_names ds) x (equation_sound ds known x ps t e).has_signature) in (
          over_at types (length (vars_of (signed ds x.name))) (number_of ds x.name) own.0 own.1
              (signed_variables ds known is_known (signed ds x.name) own.0 own.2),
          functions_over types (length (vars_of (signed ds x.name))) m (place_of_type (signed ds x.name)) ps
              (signed_type ds known (signed ds x.name)) (core_term (numbers ds) (within ps []) n t) params
              (signed_variables ds known is_known (signed ds x.name))
              (term_over types (length (vars_of (signed ds x.name))) (numbers ds) (within ps []) n t
              (each_from (IsUseOver types (length (vars_of (signed ds x.name)))) (IsAt types)
              (λ u. record { at = begins_at u; stands = tree_of (surroundings ds known x.name) u })
              (use_over ds known is_known types x.name) n
              (written_in t) written)),
        )

    -- so have those of all globals
    pub globals_over : (n m : ℕ) (es : List Declared) (gs : List GlobalEntry) →
        map global_parts gs ≡ globals_from ds known m (equations_from n es) → decls_faults ds known es ≡ [] → DeclsAt n es →
        EachAt (IsAt types) m (parameters_types ds known (equations_from n es)) → AreGlobalsOver types gs
    globals_over n m [] [] e faultless written params = tt
    globals_over n m [] (g ∷ gs) e faultless written params = absurd (cc e)
    globals_over n m (family x ms ∷ es) gs e faultless written params =
        globals_over (n + length (field_types ms)) m es gs e (others_sound ds known (family x ms) es faultless)
        (subst (λ k. DeclsAt (n + k) es) (length-map (field_types ms) (closed_type ds known))
        (rest_at n (family x ms) es written)) params
    globals_over n m (alias x w ∷ es) gs e faultless written params =
        globals_over (suc n) m es gs e (others_sound ds known (alias x w) es faultless) written.1 params
    globals_over n m (signature x bs w ∷ es) gs e faultless written params =
        globals_over (suc n) m es gs e (others_sound ds known (signature x bs w) es faultless) written.1 params
    globals_over n m (equation x ps t ∷ es) [] e faultless written params = absurd (cc e)
    globals_over n m (equation x ps t ∷ es) (g ∷ gs) e faultless written params =
        let further = parameters_types ds known (equations_from (n + length (written_in t)) es) in
        let own_types = parameter_types (place_of_type (signed ds x.name)) ps (signed_type ds known (signed ds x.name)) in
        let head = heads (global_parts g) (global_of ds known m (record { name = x; parameters = ps; body = t; first = n }))
        (map global_parts gs)
        (globals_from ds known (m + length ps) (equations_from (n + length (written_in t)) es)) e in
        let rest = tails (global_parts g) (global_of ds known m (record { name = x; parameters = ps; body = t; first = n }))
        (map global_parts gs)
        (globals_from ds known (m + length ps) (equations_from (n + length (written_in t)) es)) e in
        let own = equation_over x ps t n m (first_sound ds known (equation x ps t) es faultless)
        (own_at n (equation x ps t) es written) (each_left (IsAt types) m own_types further params) in
        let vars = sym (ap (λ (p : Global). length p.its_kinds) head ∙ kinds_long (signed ds x.name)) in (
          subst (λ k. IsTypeOver (length g.kinds.items) (slice_get types k)) (sym (ap (λ (p : Global). p.signature) head))
              (subst (λ v. IsTypeOver v (slice_get types (number_of ds x.name))) vars own.0),
          subst (HasTypesOver types (length g.kinds.items)) (sym (ap (λ (p : Global). p.body) head))
              (subst (λ v. HasTypesOver types v (functions m ps (signed_type ds known (signed ds x.name))
              (core_term (numbers ds) (within ps []) n t))) vars own.1),
          globals_over (n + length (written_in t)) (m + length ps) es gs rest
              (others_sound ds known (equation x ps t) es faultless)
              (subst (λ k. DeclsAt (n + k) es) (length-map (written_in t) _) (rest_at n (equation x ps t) es written))
              (subst (λ k. EachAt (IsAt types) (m + k) further)
              (parameters_long (place_of_type (signed ds x.name)) ps (signed_type ds known (signed ds x.name)))
              (each_right (IsAt types) m own_types further params)),
        )
