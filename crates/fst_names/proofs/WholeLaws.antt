-- The module that a text without faults stands for fits together.
use Rattle.std.proofs.Common.{◌≡◌, ◌∙◌, ℕ, suc, ◌+◌, ◌≤◌, ◌<◌, Bool, true, false, All, List, [], ◌∷◌, ◌++◌, length, map, count_by, codes, Option, Some, refl, sym, ap, subst, arith}
use Rattle.std.specs.Prelude.{Contains, unwrap_or}
use Rattle.std.specs.List.{AllByRecursion, IsDistinct}
use Rattle.std.specs.Str.{bytes_eq}
use Rattle.std.proofs.lemmas.List.{length-append, length-map}
use Rattle.std.proofs.lemmas.List.Elements.{All-from_recursion, Contains-append_right}
use Rattle.fst_base.specs.Limits.{most_nodes}
use Rattle.fst_types.specs.Size.{nodes}
use Rattle.fst_types.specs.Tree as tree
use Rattle.fst_types.specs.Tree.{Tree}
use Rattle.fst_types.specs.declared.family.Family.{Family}
use Rattle.fst_terms.specs.CoreCount.{core_limit, globals_count}
use Rattle.fst_terms.specs.CoreTree.{CoreTree}
use Rattle.fst_terms.specs.Count.{part_limit, module_count}
use Rattle.fst_terms.specs.Filled.{IsFilled, IsModuleFilled}
use Rattle.fst_terms.specs.InRange as core
use Rattle.fst_terms.specs.InRange.{Bounds, IsInRange, AreGlobals, AreTypes, IsModule}
use Rattle.fst_terms.specs.ModuleTree.{Maker, Declared, family, alias, signature, equation}
use Rattle.fst_terms.specs.TermTree.{TermTree}
use Rattle.fst_terms.specs.Variables.{AreOthersClosed, field_numbers, global_numbers}
use Rattle.fst_terms.specs.declared.binder.Binder.{Binder}
use Rattle.fst_terms.specs.declared.global.GlobalEntry.{GlobalEntry}
use Rattle.fst_scopes.specs.Aliases.{Known, IsKnown}
use Rattle.fst_scopes.specs.Faults.{is_among}
use Rattle.fst_scopes.specs.Scopes.{of_name}
use Rattle.fst_scopes.specs.Twice.{names}
use Rattle.fst_scopes.specs.TypeNames.{type_declared}
use Rattle.fst_term_faults.specs.TermFaults.{within}
use Rattle.fst_term_names.specs.CoreTerms.{core_term}
use Rattle.fst_term_names.specs.TermTypes.{written_in}
use Rattle.fst_declarations.specs.ModuleFaults.{signed, surroundings, signed_type, decl_faults, decls_faults, module_faults}
use Rattle.fst_declarations.specs.ModuleNames.{makers, signature_names, equation_names}
use Rattle.fst_names.specs.Modules.{TypeAt, field_types, decls_types, parameter_types, families_from, family_parts, signature_numbers, Equation, equations_from, Global, global_parts, numbers, functions, place_of_type, global_of, globals_from, parameters_types, module_types, module_globals}
use Rattle.fst_names.proofs.CountLaws.{types_there, decls_long, parameters_long, equations_named, few_parts}
use Rattle.fst_names.proofs.FaultlessLaws.{AreSound, are_sound, equation_sound, first_sound, has_other, is_global, others_sound}
use Rattle.fst_names.proofs.FamilyLaws.{families_there, families_long, families_in_range, all_makers_named, numbered, heads, tails}
use Rattle.fst_names.proofs.NumberLaws.{IsPlaced, all_placed, others_closed, signatures_stand}
use Rattle.fst_names.proofs.OnceLaws.{among_next, own_here, own_next, once, counted_named, just_once}
use Rattle.fst_names.proofs.OverLaws.{all_at, fields_closed, globals_over}
use Rattle.fst_names.proofs.RangeLaws.{Fits, bounds_of, long_within, in_range}
use Rattle.fst_names.proofs.SoundTypes.{IsFine, StandsFine, types_fine}
use Rattle.fst_names.proofs.VariableLaws.{EachAt, IsAt, each_append, each_left, each_right}

-- ---- types

-- each type stands for something
abbrev AllThere : List TypeAt → Type 0
AllThere types = AllByRecursion (λ a. (t : Tree) × (a.stands ≡ Some t)) types

there_left : (us vs : List TypeAt) → AllThere (us ++ vs) → AllThere us
there_left [] vs h = tt
there_left (u ∷ us) vs h = (h.0, there_left us vs h.1)

there_right : (us vs : List TypeAt) → AllThere (us ++ vs) → AllThere vs
there_right [] vs h = h
there_right (u ∷ us) vs h = there_right us vs h.1

-- so it is where types are what they stand for
all_there : (types : List Tree) (us : List TypeAt) → map Some types ≡ map (λ (t : TypeAt). t.stands) us → AllThere us
all_there [] [] e = tt
all_there [] (u ∷ us) e = absurd (cc e)
all_there (t ∷ types) [] e = absurd (cc e)
all_there (t ∷ types) (u ∷ us) e = (
  (t, sym (heads (Some t) u.stands (map Some types) (map (λ (t : TypeAt). t.stands) us) e)),
  all_there types us (tails (Some t) u.stands (map Some types) (map (λ (t : TypeAt). t.stands) us) e),
)

-- and each is fine where what they stand for is
all_fine : (families : ℕ) (types : List Tree) (us : List TypeAt) → map Some types ≡ map (λ (t : TypeAt). t.stands) us →
    AllByRecursion (StandsFine families) us → AllByRecursion (IsFine families) types
all_fine families [] us e fine = tt
all_fine families (t ∷ types) [] e fine = absurd (cc e)
all_fine families (t ∷ types) (u ∷ us) e fine = (
  fine.0 t (sym (heads (Some t) u.stands (map Some types) (map (λ (t : TypeAt). t.stands) us) e)),
  all_fine families types us (tails (Some t) u.stands (map Some types) (map (λ (t : TypeAt). t.stands) us) e) fine.1,
)

are_types : (families : ℕ) (types : List Tree) → AllByRecursion (IsFine families) types → AreTypes families types
are_types families [] fine = tt
are_types families (t ∷ types) fine = (
  fine.0.plain.scoped,
  fine.0.plain.named,
  fine.0.plain.sorted,
  are_types families types fine.1,
)

are_small : (families : ℕ) (types : List Tree) → AllByRecursion (IsFine families) types → AllByRecursion
    (λ t. nodes t ≤ most_nodes) types
are_small families [] fine = tt
are_small families (t ∷ types) fine = (fine.0.small, are_small families types fine.1)

-- ---- signatures

-- a name with a signature has the number of its type, which is there
record HasNumber (top n : ℕ) (ds : List Declared) (x : List ℕ) : Type 0 where
  number : ℕ
  its_own : of_name (names (signature_names ds)) (signature_numbers n ds) x ≡ Some number
  low : number < top

signature_number : (top n : ℕ) (ds : List Declared) (x : List ℕ) → is_among (names (signature_names ds)) x ≡ true →
    n + types_there ds ≤ top → HasNumber top n ds x
signature_number top n [] x e low = absurd (cc e)
signature_number top n (family y ms ∷ ds) x e low =
    again (signature_number top (n + length (field_types ms)) ds x e (omega (arith, low)))
  where
    again : HasNumber top (n + length (field_types ms)) ds x → HasNumber top n (family y ms ∷ ds) x
    again h = record { number = h.number; its_own = h.its_own; low = h.low }
signature_number top n (alias y w ∷ ds) x e low = again (signature_number top (suc n) ds x e (omega (arith, low)))
  where
    again : HasNumber top (suc n) ds x → HasNumber top n (alias y w ∷ ds) x
    again h = record { number = h.number; its_own = h.its_own; low = h.low }
signature_number top n (signature y bs w ∷ ds) x e low = pick (bytes_eq x y.name) refl
    (λ h. signature_number top (suc n) ds x h (omega (arith, low)))
  where
    pick : (c : Bool) → bytes_eq x y.name ≡ c → (is_among (names (signature_names ds)) x ≡ true → HasNumber top (suc n) ds x) →
        HasNumber top n (signature y bs w ∷ ds) x
    pick true is rest = record {
      number = n;
      its_own =
          own_here y.name (names (signature_names ds)) n (signature_numbers (suc n) ds) x is;
      low = omega (arith, low);
    }
    pick false is rest =
        let h = rest (sym (among_next y.name (names (signature_names ds)) x is) ∙ e) in
        record {
          number = h.number;
          its_own = own_next y.name (names (signature_names ds)) n (signature_numbers (suc n) ds) x is
              ∙ h.its_own;
          low = h.low;
        }
signature_number top n (equation y ps t ∷ ds) x e low =
    again (signature_number top (n + length (written_in t)) ds x e (omega (arith, low)))
  where
    again : HasNumber top (n + length (written_in t)) ds x → HasNumber top n (equation y ps t ∷ ds) x
    again h = record { number = h.number; its_own = h.its_own; low = h.low }

-- ---- globals

-- functions around a body, whose parameters' types are there
functions_in_range : (b : Bounds) (d n at : ℕ) (ps : List Binder) (o : Option Tree) (body : CoreTree) →
    AllThere (parameter_types at ps o) → n + length ps ≤ b.types → IsInRange b (length ps + d) body →
    IsInRange b d (functions n ps o body)
functions_in_range b d n at [] o body there low h = subst (λ m. IsInRange b m body) (omega arith) h
functions_in_range b d n at (p ∷ ps) (Some (tree.arrow u s t)) body there low h = (
  omega (arith, low),
  functions_in_range b (suc d) (suc n) at ps (Some t) body there.1 (omega (arith, low))
      (subst (λ m. IsInRange b m body) (omega arith) h),
)
functions_in_range b d n at (p ∷ ps) o body there low h = absurd (cc (there.0.1))

-- how many globals some equations give
globals_named : (ds : List Declared) (known : Known) (n : ℕ) (es : List Equation) → map
    (λ (g : Global). g.name) (globals_from ds known n es) ≡ map (λ (e : Equation). e.name.name) es
globals_named ds known n [] = refl
globals_named ds known n (e ∷ es) = ap (λ zs. e.name.name ∷ zs) (globals_named ds known (n + length e.parameters) es)

parts_named : (gs : List GlobalEntry) → map (λ (g : Global). g.name) (map global_parts gs) ≡ map (λ (g : GlobalEntry). g.name) gs
parts_named [] = refl
parts_named (g ∷ gs) = ap (λ zs. g.name ∷ zs) (parts_named gs)

-- ---- modules

-- these are the parts of the module that a text without faults stands for
pub record IsBuilt (ds : List Declared) (known : Known) (families : List Family) (entries : List GlobalEntry) (types : List Tree)
    (places : List ℕ) : Type 0 where
  pub filled : IsModuleFilled ds
  pub is_known : IsKnown (type_declared ds) known
  pub faultless : module_faults ds known ≡ []
  pub types_are : map Some types ≡ map (λ (t : TypeAt). t.stands) (module_types ds known)
  pub places_are : places ≡ map (λ (t : TypeAt). t.at) (module_types ds known)
  pub families_are : map family_parts families ≡ families_from 0 ds
  pub globals_are : map global_parts entries ≡ module_globals ds known

module _ (ds : List Declared) (known : Known) (families : List Family) (entries : List GlobalEntry) (types : List Tree)
    (places : List ℕ) (parts : IsBuilt ds known families entries types places) where
  sound : AreSound ds known
  sound = are_sound ds known parts.faultless

  -- as many types as stand in the text and as there are parameters
  types_long : length types ≡ length (module_types ds known)
  types_long = sym (length-map types Some) ∙ ap (λ (zs : List (Option Tree)). length zs) parts.types_are
      ∙ length-map (module_types ds known) (λ (t : TypeAt). t.stands)

  types_count : length types ≡ types_there ds + length (parameters_types ds known (equations_from 0 ds))
  types_count =
      types_long ∙ length-append (decls_types ds known ds) (parameters_types ds known (equations_from 0 ds)) ∙ ap
      (λ n. n + length (parameters_types ds known (equations_from 0 ds))) (decls_long ds known ds)

  families_count : length families ≡ families_there ds
  families_count = sym (length-map families family_parts) ∙ ap
      (λ (zs : List (List ℕ × List (List ℕ × List ℕ))). length zs) parts.families_are ∙ families_long 0 ds

  names_are : map (λ (g : GlobalEntry). g.name) entries ≡ names (equation_names ds)
  names_are =
      sym (parts_named entries) ∙ ap (map (λ (g : Global). g.name)) parts.globals_are
      ∙ globals_named ds known (length (decls_types ds known ds)) (equations_from 0 ds) ∙ equations_named 0 ds

  entries_count : length (names (equation_names ds)) ≡ length entries
  entries_count = sym (sym (length-map entries (λ (g : GlobalEntry). g.name)) ∙ ap (λ (zs : List (List ℕ)). length zs) names_are)

  -- what is in scope in an equation has numbers
  fits : (x : List ℕ) → Fits (surroundings ds known x) (numbers ds) families
  fits x = record {
    globals = is_global ds known sound.decls;
    makers = λ y n e. let h = numbered 0 0 ds families parts.families_are y n e in
        (h.its_family, h.number, h.numbered ∙ ap (λ i. Some (i, h.number)) (omega arith), h.fields, h.first);
  }

  -- the number of the type of an equation's signature
  number_low : (x : Binder) (ps : List Binder) (t : TermTree) → decl_faults ds known (equation x ps t) ≡ [] →
      unwrap_or (of_name (names (signature_names ds)) (signature_numbers 0 ds) x.name) 0 < length types
  number_low x ps t e =
      let there = has_other (signature_names ds) x (equation_sound ds known x ps t e).has_signature in
      let h = signature_number (length types) 0 ds x.name there (omega (arith, types_count)) in
      subst (λ o. unwrap_or o 0 < length types) (sym h.its_own) h.low

  -- the body of an equation
  body_in_range : (x : Binder) (ps : List Binder) (t : TermTree) (n m : ℕ) → decl_faults ds known (equation x ps t) ≡ [] →
      IsFilled t →
      AllThere (parameter_types (place_of_type (signed ds x.name)) ps (signed_type ds known (signed ds x.name))) →
      n + length (written_in t) ≤ length types → m + length ps ≤ length types →
      IsInRange (bounds_of (numbers ds) families (length types)) 0
      (functions m ps (signed_type ds known (signed ds x.name)) (core_term (numbers ds) (within ps []) n t))
  body_in_range x ps t n m e filled there low top =
      let faultless = (equation_sound ds known x ps t e).body in
      functions_in_range (bounds_of (numbers ds) families (length types)) 0 m (place_of_type (signed ds x.name)) ps
      (signed_type ds known (signed ds x.name))
      (core_term (numbers ds) (within ps []) n t) there top
      (subst (λ k. IsInRange (bounds_of (numbers ds) families (length types)) k (core_term (numbers ds) (within ps []) n t))
      (long_within ps [])
      (in_range (surroundings ds known x.name) (numbers ds) families (fits x.name) (length types)
      (within ps []) n t faultless filled low))

  -- the types of the parameters of an equation and of those behind it
  abbrev own_types : Binder → List Binder → List TypeAt
  own_types x ps = parameter_types (place_of_type (signed ds x.name)) ps (signed_type ds known (signed ds x.name))

  -- the globals of some declarations are in range
  entries_in_range : (n m : ℕ) (es : List Declared) (gs : List GlobalEntry) →
      map global_parts gs ≡ globals_from ds known m (equations_from n es) → decls_faults ds known es ≡ [] → IsModuleFilled es →
      AllThere (parameters_types ds known (equations_from n es)) → n + types_there es ≤ length types →
      m + length (parameters_types ds known (equations_from n es)) ≤ length types →
      AreGlobals (bounds_of (numbers ds) families (length types)) gs
  entries_in_range n m [] [] e faultless filled there low top = tt
  entries_in_range n m [] (g ∷ gs) e faultless filled there low top = absurd (cc e)
  entries_in_range n m (family x ms ∷ es) gs e faultless filled there low top =
      entries_in_range (n + length (field_types ms)) m es gs e (others_sound ds known (family x ms) es faultless) filled.1 there
      (omega (arith, low)) top
  entries_in_range n m (alias x w ∷ es) gs e faultless filled there low top =
      entries_in_range (suc n) m es gs e (others_sound ds known (alias x w) es faultless) filled.1 there (omega (arith, low)) top
  entries_in_range n m (signature x bs w ∷ es) gs e faultless filled there low top =
      entries_in_range (suc n) m es gs e (others_sound ds known (signature x bs w) es faultless) filled.1 there
      (omega (arith, low)) top
  entries_in_range n m (equation x ps t ∷ es) [] e faultless filled there low top = absurd (cc e)
  entries_in_range n m (equation x ps t ∷ es) (g ∷ gs) e faultless filled there low top =
      let own = first_sound ds known (equation x ps t) es faultless in
      let further = parameters_types ds known (equations_from (n + length (written_in t)) es) in
      let head = heads (global_parts g) (global_of ds known m (record { name = x; parameters = ps; body = t; first = n }))
      (map global_parts gs)
      (globals_from ds known (m + length ps) (equations_from (n + length (written_in t)) es)) e in
      let rest = tails (global_parts g) (global_of ds known m (record { name = x; parameters = ps; body = t; first = n }))
      (map global_parts gs)
      (globals_from ds known (m + length ps) (equations_from (n + length (written_in t)) es)) e in
      let long = length-append (own_types x ps) further in
      let params = parameters_long (place_of_type (signed ds x.name)) ps (signed_type ds known (signed ds x.name)) in (
        subst (λ k. k < length types) (sym (ap (λ (p : Global). p.signature) head)) (number_low x ps t own),
        subst (IsInRange (bounds_of (numbers ds) families (length types)) 0) (sym (ap (λ (p : Global). p.body) head))
            (body_in_range x ps t n m own filled.0 (there_left (own_types x ps) further there) (omega (arith, low))
            (omega (arith, top, long, params))),
        entries_in_range (n + length (written_in t)) (m + length ps) es gs rest
            (others_sound ds known (equation x ps t) es faultless) filled.1 (there_right (own_types x ps) further there)
            (omega (arith, low)) (omega (arith, top, long, params)),
      )

  all_are_fine : AllByRecursion (IsFine (families_there ds)) types
  all_are_fine = all_fine (families_there ds) types (module_types ds known) parts.types_are
      (types_fine ds parts.filled known parts.is_known sound.decls)

  -- each parameter's type is there
  parameters_there : AllThere (parameters_types ds known (equations_from 0 ds))
  parameters_there = there_right (decls_types ds known ds) (parameters_types ds known (equations_from 0 ds))
      (all_there types (module_types ds known) parts.types_are)

  -- each type has its place for a number
  written_at : EachAt (IsAt types) 0 (decls_types ds known ds)
  written_at = each_left (IsAt types) 0 (decls_types ds known ds) (parameters_types ds known (equations_from 0 ds))
      (all_at types (module_types ds known) parts.types_are)

  parameters_at : EachAt (IsAt types) (length (decls_types ds known ds)) (parameters_types ds known (equations_from 0 ds))
  parameters_at =
      subst (λ n. EachAt (IsAt types) n (parameters_types ds known (equations_from 0 ds))) (omega arith)
      (each_right (IsAt types) 0 (decls_types ds known ds) (parameters_types ds known (equations_from 0 ds))
      (all_at types (module_types ds known) parts.types_are))

  -- the numbers of types that stand in fields and globals
  abbrev standing : List ℕ
  standing = field_numbers (core.makers families) ++ global_numbers entries

  -- a type without any of them has no variables
  others : AreOthersClosed standing types
  others =
      let behind : (k : ℕ) → Contains (global_numbers entries) k → Contains standing k =
      λ k c. Contains-append_right (field_numbers (core.makers families)) (global_numbers entries) k c in
      let placed = all_placed ds known parts.is_known types standing 0
      (length (decls_types ds known ds)) ds entries parts.globals_are parameters_at
      (λ k c. behind k (signatures_stand ds known entries sound names_are parts.globals_are k c)) behind in
      others_closed standing types (module_types ds known) parts.types_are
      (each_append (IsPlaced standing) 0 (decls_types ds known ds) (parameters_types ds known (equations_from 0 ds)) placed.0
      (subst (λ n. EachAt (IsPlaced standing) n (parameters_types ds known (equations_from 0 ds))) (omega arith) placed.1))

  -- the parts of a module fit together
  pub whole : IsModule families entries types places
  whole = record {
    family_parts = families_in_range (length types) 0 ds families parts.families_are parts.filled (omega (arith, types_count));
    global_parts = subst (λ n. AreGlobals (record { families = families; globals = n; types = length types }) entries)
        entries_count
        (entries_in_range 0 (length (decls_types ds known ds)) ds entries parts.globals_are sound.decls parts.filled
        parameters_there (omega (arith, types_count))
        (omega (arith, types_count, decls_long ds known ds)));
    type_parts = subst (λ n. AreTypes n types) (sym families_count) (are_types (families_there ds) types all_are_fine);
    places_there = ap (λ (zs : List ℕ). length zs) parts.places_are ∙ length-map (module_types ds known) (λ (t : TypeAt). t.at)
        ∙ sym types_long;
    makers_differ = subst (IsDistinct bytes_eq) (sym (all_makers_named 0 ds families parts.families_are))
        (once (map (λ (m : Maker). m.name) (makers ds)) sound.makers_once);
    one_main =
        counted_named (λ (g : GlobalEntry). g.name) (codes "main") entries
        ∙ ap (count_by (λ y. bytes_eq y (codes "main"))) names_are ∙
        just_once (codes "main") (names (equation_names ds)) (once (equation_names ds) sound.equations_once)
        (is_global ds known sound.decls (codes "main") sound.main_there);
    field_variables = fields_closed ds known parts.is_known types 0 ds families parts.families_are written_at;
    global_variables = globals_over ds known parts.is_known types parts.types_are 0
        (length (decls_types ds known ds)) ds entries parts.globals_are sound.decls written_at parameters_at;
    other_variables = others;
  }

  -- where its text has few parts it has few
  pub few : module_count ds < part_limit → globals_count entries + length types < core_limit
  few small = few_parts ds known entries types (once (equation_names ds) sound.equations_once) parts.globals_are types_long small

  -- none of its types is too large
  pub sized : All (λ t. nodes t ≤ most_nodes) types
  sized = All-from_recursion (λ t. nodes t ≤ most_nodes) types (are_small (families_there ds) types all_are_fine)
