-- The globals of a module without faults.
use Rattle.std.proofs.Common.{◌≡◌, ◌∙◌, ℕ, zero, suc, ◌+◌, ◌<◌, ◌≤◌, Bool, true, false, List, [], ◌∷◌, ◌++◌, length, map, take, get_or, Option, Some, refl, sym, ap, subst, append_assoc, arith}
use Rattle.std.specs.Prelude.{nat_lt, option_map, option_and_then, slice_get, slice_index_or, unwrap_or, if◌then◌else◌}
use Rattle.std.specs.Str.{bytes_eq}
use Rattle.std.proofs.Math.Seq.{take-length}
use Rattle.std.proofs.lemmas.List.{append-nil, length-append, length-map, map-append, take_more}
use Rattle.std.proofs.lemmas.Option.{get_or_from_slice_get, same_Some, slice_get-get_or, slice_get-map}
use Rattle.fst_base.proofs.Bools.{not_less}
use Rattle.fst_base.proofs.Options.{mapped_some}
use Rattle.fst_types.specs.Tree.{Tree}
use Rattle.fst_terms.specs.ModuleTree.{Declared, family, alias, signature, equation}
use Rattle.fst_terms.specs.Naming.{place, place_of}
use Rattle.fst_terms.specs.declared.global.GlobalEntry.{GlobalEntry}
use Rattle.fst_scopes.specs.Aliases.{Known}
use Rattle.fst_scopes.specs.Twice.{names}
use Rattle.fst_scopes.specs.declared.fault.NameFault.TheVariants.{Arity}
use Rattle.fst_scopes.specs.Measures.{arrows}
use Rattle.fst_term_names.specs.TermTypes.{written_in}
use Rattle.fst_term_names.specs.declared.meanings.TypeList.{TypeList}
use Rattle.fst_declarations.specs.Declarations.{known_in}
use Rattle.fst_declarations.specs.ModuleFaults.{decls_faults, more_parameters, signed, signed_type}
use Rattle.fst_declarations.specs.ModuleNames.{signature_names}
use Rattle.fst_declarations.specs.Tables.{signed_of}
use Rattle.fst_declarations.specs.declared.declarations.Declarations.{Declarations}
use Rattle.fst_declarations.specs.declared.entries.SignatureEntry.{SignatureEntry}
use Rattle.fst_names.specs.Faultless.{IsFaultless}
use Rattle.fst_names.specs.Modules.{TypeAt, Equation, decls_types, decl_types, equations_from, functions, global_of, global_parts, globals_from, kinds_of, parameter_types, parameters_types, place_of_type, signature_numbers, types_in}
use Rattle.fst_names.specs.Parts.{HasTypes, IsLonger, IsSoundEquation, Numbered, equation_part, global_from, numbered, types_of_parameters}
use Rattle.fst_names.specs.Resolved.{kinds}
use Rattle.fst_names.specs.declared.parts.EquationPart.{EquationPart}
use Rattle.fst_names.proofs.CountLaws.{parameters_long}
use Rattle.fst_names.proofs.FamilyLaws.{heads, tails}
use Rattle.fst_names.proofs.PartLaws.{longer_length, longer_twice}
use Rattle.fst_names.proofs.FaultlessLaws.{AreSound, are_sound, equation_sound, first_sound, others_sound}

-- what the types of some declarations stand for
abbrev stand : List Declared → Known → List Declared → List (Option Tree)
stand ds known es = map (λ (t : TypeAt). t.stands) (decls_types ds known es)

-- what stands behind other things
behind_all : {A : Type 0} (xs ys : List A) (n : ℕ) → slice_get (xs ++ ys) (length xs + n) ≡ slice_get ys n
behind_all [] ys n = ap (slice_get ys) (omega arith)
behind_all (x ∷ xs) ys n = let next : suc (length xs) + n ≡ suc (length xs + n) = omega arith in
    ap (slice_get (x ∷ xs ++ ys)) next ∙ behind_all xs ys n

-- and in front of them
pub in_front : {A : Type 0} (xs ys : List A) (n : ℕ) (x : A) → slice_get xs n ≡ Some x → slice_get (xs ++ ys) n ≡ Some x
in_front [] ys n x e = absurd (cc e)
in_front (y ∷ xs) ys zero x e = e
in_front (y ∷ xs) ys (suc n) x e = in_front xs ys n x e

-- as many types stand in a declaration as are counted
decl_long : (ds : List Declared) (known : Known) (e : Declared) → length (decl_types ds known e) ≡ types_in e
decl_long ds known (family x ms) = length-map _ _
decl_long ds known (alias x w) = refl
decl_long ds known (signature x bs w) = refl
decl_long ds known (equation x ps t) = length-map _ _

module _ (ds : List Declared) (known : Known) where
  -- the number of a signature's type is where this stands among the types
  pub record IsSigned (m : ℕ) (es : List Declared) (x : List ℕ) (k : ℕ) : Type 0 where
    pub at : ℕ
    pub numbered : slice_get (signature_numbers m es) k ≡ Some (m + at)
    pub stands : slice_get (stand ds known es) at ≡ Some (signed_type ds known (signed es x))

  -- with one more declaration in front
  step : (m : ℕ) (e : Declared) (es : List Declared) (x : List ℕ) (k : ℕ) → IsSigned (m + types_in e) es x k →
      signature_numbers m (e ∷ es) ≡ signature_numbers (m + types_in e) es → signed (e ∷ es) x ≡ signed es x →
      IsSigned m (e ∷ es) x k
  step m e es x k is numbers same = record {
    at = types_in e + is.at;
    numbered = ap (λ ns. slice_get ns k) numbers ∙ is.numbered ∙ ap Some (omega arith);
    stands =
        ap (λ ts. slice_get ts (types_in e + is.at))
        (map-append (λ (t : TypeAt). t.stands) (decl_types ds known e) (decls_types ds known es)) ∙
        ap (λ n. slice_get (map (λ (t : TypeAt). t.stands) (decl_types ds known e) ++ stand ds known es) (n + is.at))
        (sym (length-map (decl_types ds known e) (λ (t : TypeAt). t.stands) ∙ decl_long ds known e)) ∙
        behind_all (map (λ (t : TypeAt). t.stands) (decl_types ds known e)) (stand ds known es) is.at ∙ is.stands ∙ ap
        (λ o. Some (signed_type ds known o)) (sym same);
  }

  -- each signature's type is where its number says
  pub signature_there : (m : ℕ) (es : List Declared) (x : List ℕ) (k : ℕ) → place_of (names (signature_names es)) x ≡ Some k →
      IsSigned m es x k
  signature_there m [] x k e = absurd (cc e)
  signature_there m (family y ms ∷ es) x k e = step m (family y ms) es x k
      (signature_there (m + types_in (family y ms)) es x k e) refl refl
  signature_there m (alias y w ∷ es) x k e = step m (alias y w) es x k (signature_there (m + 1) es x k e)
      (ap (λ n. signature_numbers n es) (omega arith)) refl
  signature_there m (signature y bs w ∷ es) x k e = pick (bytes_eq x y.name) refl (signature_there (m + 1) es x) e
    where
      pick : (c : Bool) → bytes_eq x y.name ≡ c → ((k : ℕ) → place_of (names (signature_names es)) x ≡ Some k →
          IsSigned (m + 1) es x k) →
          (if c then Some 0 else option_map suc (place_of (names (signature_names es)) x)) ≡ Some k →
          IsSigned m (signature y bs w ∷ es) x k
      pick true is rest e =
          let zero_is = same_Some 0 k e in
          record {
            at = 0;
            numbered = ap (slice_get (m ∷ signature_numbers (suc m) es)) (sym zero_is) ∙ ap Some (omega arith);
            stands = ap (λ c. Some (signed_type ds known (if c then Some (record { vars = bs; its_type = w }) else signed es x)))
                (sym is);
          }
      pick false is rest e =
          let found = mapped_some suc (place_of (names (signature_names es)) x) k e in
          let next = rest found.0 found.1 in
          record {
            at = suc next.at;
            numbered = ap (slice_get (m ∷ signature_numbers (suc m) es)) (sym found.2) ∙ ap
                (λ n. slice_get (signature_numbers n es) found.0) (omega arith) ∙ next.numbered ∙ ap Some (omega arith);
            stands = next.stands ∙ ap (λ c. Some (signed_type ds known
                (if c then Some (record { vars = bs; its_type = w }) else signed es x))) (sym is);
          }
  signature_there m (equation y ps t ∷ es) x k e =
      step m (equation y ps t) es x k (signature_there (m + types_in (equation y ps t)) es x k e) refl refl

-- ---- the signature of an equation

-- what is there has a place below the length
some_low : {A : Type 0} (xs : List A) (n : ℕ) (x : A) → slice_get xs n ≡ Some x → n < length xs
some_low [] n x e = absurd (cc e)
some_low (y ∷ xs) zero x e = omega arith
some_low (y ∷ xs) (suc n) x e = let low = some_low xs n x e in omega (arith, low)

-- no more parameters than arrows
few_parameters : (at got : ℕ) (t : Tree) → more_parameters at got (Some t) ≡ [] → got ≤ arrows t
few_parameters at got t e = pick (nat_lt (arrows t) got) refl e
  where
    pick : (c : Bool) → nat_lt (arrows t) got ≡ c → (if c then Arity at got (arrows t) ∷ [] else []) ≡ [] → got ≤ arrows t
    pick true is h = absurd (cc h)
    pick false is h = not_less (arrows t) got is

module _ (ds : List Declared) (d : Declarations) (whole : IsFaultless ds d) (e : Numbered)
    (sound : IsSoundEquation ds (known_in d) e) (list : TypeList) (has : HasTypes ds (known_in d) list)
    (k : ℕ) (at : place_of d.signatures.names e.name.name ≡ Some k) (low : k < length d.signatures.names) where
  abbrev pub all : AreSound ds (known_in d)
  all = are_sound ds (known_in d) whole.faultless

  abbrev pub own_names : d.signatures.names ≡ names (signature_names ds)
  own_names = whole.declared.signatures.names_are.own all.signatures_once

  abbrev pub is_signed : IsSigned ds (known_in d) 0 ds e.name.name k
  is_signed = signature_there ds (known_in d) 0 ds e.name.name k (ap (λ ns. place_of ns e.name.name) (sym own_names) ∙ at)

  named_at : place_of (names (signature_names ds)) e.name.name ≡ Some k
  named_at = ap (λ ns. place_of ns e.name.name) (sym own_names) ∙ at

  -- its number is there
  pub number_low : (numbers : List ℕ) → numbers ≡ signature_numbers 0 ds → k < length numbers
  number_low numbers is = subst (λ ns. k < length ns) (sym is)
      (some_low (signature_numbers 0 ds) k (0 + is_signed.at) is_signed.numbered)

  number_is : (numbers : List ℕ) → numbers ≡ signature_numbers 0 ds → slice_index_or numbers k 0 ≡ 0 + is_signed.at
  number_is numbers is = ap (λ ns. slice_index_or ns k 0) is
      ∙ get_or_from_slice_get (signature_numbers 0 ds) k (0 + is_signed.at) 0 is_signed.numbered

  -- its type is there
  type_there : slice_get (map Some list.types.items) is_signed.at ≡ Some (signed_type ds (known_in d) (signed ds e.name.name))
  type_there =
      ap (λ ts. slice_get ts is_signed.at) has.begins
      ∙ in_front (map (λ (t : TypeAt). t.stands) (decls_types ds (known_in d) ds)) has.others is_signed.at
      (signed_type ds (known_in d) (signed ds e.name.name)) is_signed.stands

  pub type_low : (numbers : List ℕ) → numbers ≡ signature_numbers 0 ds → slice_index_or numbers k 0 < length list.types.items
  type_low numbers is =
      let low = some_low (map Some list.types.items) is_signed.at
      (signed_type ds (known_in d) (signed ds e.name.name)) type_there in
      let long = length-map list.types.items (λ (t : Tree). Some t) in
      let number = number_is numbers is in
      omega (arith, low, long, number)

  -- the signature is that of the entry
  signed_is : (g : SignatureEntry) → g ≡ get_or d.signatures.entries.items k g → signed ds e.name.name ≡ Some (signed_of g)
  signed_is g is =
      let long = d.signatures.paired in
      sym (whole.declared.signatures.found e.name.name) ∙ ap
      (λ o. option_map signed_of (option_and_then (λ k. slice_get d.signatures.entries.items k) o)) at ∙
      ap (option_map signed_of) (slice_get-get_or d.signatures.entries.items k g (omega (arith, low, long))) ∙ ap
      (λ g. Some (signed_of g)) (sym is)

  -- what stands at its number is its type
  pub its_type : (numbers : List ℕ) (t : Tree) → numbers ≡ signature_numbers 0 ds →
      t ≡ get_or list.types.items (slice_index_or numbers k 0) t → signed_type ds (known_in d) (signed ds e.name.name) ≡ Some t
  its_type numbers t is there =
      let number = number_is numbers is in
      let low = type_low numbers is in
      same_Some (signed_type ds (known_in d) (signed ds e.name.name)) (Some t)
      (sym type_there ∙ slice_get-map (λ (t : Tree). Some t) list.types.items is_signed.at ∙
      ap (option_map (λ (t : Tree). Some t)) (slice_get-get_or list.types.items is_signed.at t (omega (arith, low, number))) ∙
      ap (λ n. Some (Some (get_or list.types.items n t))) (omega (arith, number)) ∙ ap (λ t. Some (Some t)) (sym there))

  -- it has as many arrows as there are parameters
  pub its_arrows : (t : Tree) → signed_type ds (known_in d) (signed ds e.name.name) ≡ Some t → length e.parameters ≤ arrows t
  its_arrows t is = few_parameters e.name.at (length e.parameters) t
      (ap (more_parameters e.name.at (length e.parameters)) (sym is) ∙ sound.few)

  -- the global is the one of the equation
  pub global_is : (numbers : List ℕ) (g : SignatureEntry) (t : Tree) (entry : GlobalEntry) → numbers ≡ signature_numbers 0 ds →
      g ≡ get_or d.signatures.entries.items k g → signed_type ds (known_in d) (signed ds e.name.name) ≡ Some t →
      entry.name ≡ e.name.name → entry.at ≡ e.name.at → entry.kinds.items ≡ kinds g.binders.now →
      entry.signature ≡ slice_index_or numbers k 0 → entry.signature_at ≡ place g.its_type.now →
      entry.body ≡ functions (length list.types.items) e.parameters (Some t) e.body →
      global_parts entry ≡ global_from ds (known_in d) (length list.types.items) e
  global_is numbers g t entry are is type_is name_is at_is kinds_are number_told place_is body_is = λ i. record {
    name = name_is i;
    at = at_is i;
    its_kinds = (kinds_are ∙ ap kinds_of (sym (signed_is g is))) i;
    signature = (number_told ∙ number_is numbers are
        ∙ sym (ap (λ o. unwrap_or (option_and_then (λ k. slice_get (signature_numbers 0 ds) k) o) 0) named_at ∙ ap
        (λ o. unwrap_or o 0) is_signed.numbered)) i;
    signature_at = (place_is ∙ ap place_of_type (sym (signed_is g is))) i;
    body = (body_is ∙ ap (λ o. functions (length list.types.items) e.parameters o e.body) (sym type_is)) i;
  }

  -- and the types of its parameters are these
  pub parameters_are : (g : SignatureEntry) (t : Tree) (n : ℕ) (new : TypeList) → g ≡ get_or d.signatures.entries.items k g →
      signed_type ds (known_in d) (signed ds e.name.name) ≡ Some t → n ≡ place g.its_type.now →
      IsLonger list (parameter_types n e.parameters (Some t)) new → IsLonger list (types_of_parameters ds (known_in d) e) new
  parameters_are g t n new is type_is place_is longer =
      subst (λ ts. IsLonger list ts new) (λ i. parameter_types
      ((place_is ∙ ap place_of_type (sym (signed_is g is))) i) e.parameters (sym type_is i)) longer

-- ---- one global after another

module _ (ds : List Declared) (known : Known) where
  -- the globals of some equations and one more
  globals_push : (n : ℕ) (es : List Equation) (e : Equation) →
      globals_from ds known n (es ++ e ∷ []) ≡ globals_from ds known n es ++ global_of ds known
      (n + length (parameters_types ds known es)) e ∷ []
  globals_push n [] e = ap (λ m. global_of ds known m e ∷ []) (omega arith)
  globals_push n (f ∷ es) e =
      let long = parameters_long (place_of_type (signed ds f.name.name)) f.parameters
      (signed_type ds known (signed ds f.name.name)) in
      let both = length-append (parameter_types (place_of_type (signed ds f.name.name)) f.parameters
      (signed_type ds known (signed ds f.name.name))) (parameters_types ds known es) in
      ap (λ gs. global_of ds known n f ∷ gs)
      (globals_push (n + length f.parameters) es e ∙ ap
      (λ m. globals_from ds known (n + length f.parameters) es ++ global_of ds known m e ∷ []) (omega (arith, long, both)))

  -- and the types of their parameters
  parameters_push : (es : List Equation) (e : Equation) →
      parameters_types ds known (es ++ e ∷ []) ≡ parameters_types ds known es ++ types_of_parameters ds known (numbered ds e)
  parameters_push [] e = append-nil (types_of_parameters ds known (numbered ds e))
  parameters_push (f ∷ es) e =
      ap (λ ts. types_of_parameters ds known (numbered ds f) ++ ts) (parameters_push es e) ∙
      sym (append_assoc (types_of_parameters ds known (numbered ds f)) (parameters_types ds known es)
      (types_of_parameters ds known (numbered ds e)))

  -- the equations of declarations without faults are sound
  pub equations_sound : (n : ℕ) (es : List Declared) → decls_faults ds known es ≡ [] →
      (i : ℕ) (e : Equation) → i < length (equations_from n es) →
      IsSoundEquation ds known (numbered ds (get_or (equations_from n es) i e))
  equations_sound n [] none i e low = absurd (omega (arith, low))
  equations_sound n (family x ms ∷ es) none i e low = equations_sound _ es (others_sound ds known (family x ms) es none) i e low
  equations_sound n (alias x w ∷ es) none i e low = equations_sound _ es (others_sound ds known (alias x w) es none) i e low
  equations_sound n (signature x bs w ∷ es) none i e low =
      equations_sound _ es (others_sound ds known (signature x bs w) es none) i e low
  equations_sound n (equation x ps t ∷ es) none zero e low =
      let own = equation_sound ds known x ps t (first_sound ds known (equation x ps t) es none) in
      record { has_signature = own.has_signature; few = own.few }
  equations_sound n (equation x ps t ∷ es) none (suc i) e low =
      let low' : i < length (equations_from (n + length (written_in t)) es) = omega (arith, low) in
      equations_sound (n + length (written_in t)) es (others_sound ds known (equation x ps t) es none) i e low'

  -- what is there once some equations are looked at
  pub record AreAdded (es : List Equation) (start : TypeList) (globals : List GlobalEntry) (list : TypeList) : Type 0 where
    pub made : map global_parts globals ≡ globals_from ds known (length start.types.items) es
    pub longer : IsLonger start (parameters_types ds known es) list

  -- one more
  pub one_added : (es : List Equation) (e : Equation) (start list next : TypeList) (globals after : List GlobalEntry)
      (g : GlobalEntry) → AreAdded es start globals list →
      global_parts g ≡ global_from ds known (length list.types.items) (numbered ds e) →
      IsLonger list (types_of_parameters ds known (numbered ds e)) next → after ≡ globals ++ g ∷ [] →
      AreAdded (es ++ e ∷ []) start after next
  one_added es e start list next globals after g are is more whole = record {
    made =
        ap (map global_parts) whole ∙ map-append global_parts globals (g ∷ []) ∙ ap (λ gs. gs ++ global_parts g ∷ []) are.made ∙
        ap (λ p. globals_from ds known (length start.types.items) es ++ p ∷ [])
        (is ∙ ap (λ n. global_from ds known n (numbered ds e)) long) ∙ sym (globals_push (length start.types.items) es e);
    longer = subst (λ ts. IsLonger start ts next) (sym (parameters_push es e))
        (longer_twice start list next (parameters_types ds known es)
        (types_of_parameters ds known (numbered ds e)) are.longer more);
  }
    where
      long : length list.types.items ≡ length start.types.items + length (parameters_types ds known es)
      long = longer_length start list (parameters_types ds known es) are.longer

  -- the equation of a part
  pub record IsAt (es : List Equation) (i : ℕ) (p : EquationPart) : Type 0 where
    pub its : Equation
    pub within : i < length es
    pub there : its ≡ get_or es i its
    pub same : equation_part p ≡ numbered ds its

  pub equation_at : (parts : List EquationPart) (es : List Equation) → map equation_part parts ≡ map (numbered ds) es →
      (i : ℕ) (p : EquationPart) → (i < length parts) × (p ≡ get_or parts i p) → IsAt es i p
  equation_at [] es e i p (low, is) = absurd (omega (arith, low))
  equation_at (q ∷ parts) [] e i p (low, is) = absurd (cc e)
  equation_at (q ∷ parts) (f ∷ es) e zero p (low, is) =
      record {
        its = f;
        within = omega arith;
        there = refl;
        same = ap equation_part is
            ∙ heads (equation_part q) (numbered ds f) (map equation_part parts) (map (numbered ds) es) e;
      }
  equation_at (q ∷ parts) (f ∷ es) e (suc i) p (low, is) =
      let low' : i < length parts = omega (arith, low) in
      let rest = equation_at parts es (tails (equation_part q) (numbered ds f) (map equation_part parts) (map (numbered ds) es) e)
      i p (low', is) in
      let within = rest.within in
      record { its = rest.its; within = omega (arith, within); there = rest.there; same = rest.same }

  -- the part of an equation is sound
  pub part_sound : decls_faults ds known ds ≡ [] →
      (i : ℕ) (p : EquationPart) → IsAt (equations_from 0 ds) i p → IsSoundEquation ds known (equation_part p)
  part_sound none i p at = subst (IsSoundEquation ds known) (ap (numbered ds) (sym at.there) ∙ sym at.same)
      (equations_sound 0 ds none i at.its at.within)

  -- and it is added
  pub part_added : (es : List Equation) (i : ℕ) (p : EquationPart) (start list next : TypeList) (globals after : List GlobalEntry)
      (g : GlobalEntry) → IsAt es i p → AreAdded (take i es) start globals list →
      global_parts g ≡ global_from ds known (length list.types.items) (equation_part p) →
      IsLonger list (types_of_parameters ds known (equation_part p)) next → after ≡ globals ++ g ∷ [] →
      AreAdded (take (i + 1) es) start after next
  part_added es i p start list next globals after g at are is more whole =
      subst (λ zs. AreAdded zs start after next) (sym
      (take_more es i at.its at.within ∙ ap (λ z. take i es ++ z ∷ []) (sym at.there)))
      (one_added (take i es) at.its start list next globals after g are
      (is ∙ ap (global_from ds known (length list.types.items)) at.same)
      (subst (λ z. IsLonger list (types_of_parameters ds known z) next) at.same more) whole)

  -- all of them
  pub all_added : (es : List Equation) (i : ℕ) (parts : List EquationPart) (start : TypeList) (globals : List GlobalEntry)
      (list : TypeList) → map equation_part parts ≡ map (numbered ds) es → i ≡ length parts →
      AreAdded (take i es) start globals list → AreAdded es start globals list
  all_added es i parts start globals list same all are =
      let long = ap (λ (zs : List Numbered). length zs) same in
      let one = length-map parts equation_part in
      let two = length-map es (numbered ds) in
      subst (λ zs. AreAdded zs start globals list) (ap (λ n. take n es) (omega (arith, all, long, one, two)) ∙ take-length es) are

-- the list begins with these types
pub has_types : (ds : List Declared) (known : Known) (start list : TypeList) (ts : List TypeAt) → map Some start.types.items ≡ map
    (λ (t : TypeAt). t.stands) (decls_types ds known ds) → IsLonger start ts list → HasTypes ds known list
has_types ds known start list ts is longer = record {
  others = map (λ (t : TypeAt). t.stands) ts;
  begins = longer.types ∙ ap
      (λ z. z ++ map (λ (t : TypeAt). t.stands) ts) is;
}

-- as many as stand in the declarations
pub types_counted : (ds : List Declared) (known : Known) (start : TypeList) → map Some start.types.items ≡ map
    (λ (t : TypeAt). t.stands) (decls_types ds known ds) → length start.types.items ≡ length (decls_types ds known ds)
types_counted ds known start is =
    sym (length-map start.types.items (λ (t : Tree). Some t)) ∙ ap (λ (ts : List (Option Tree)). length ts) is
    ∙ length-map (decls_types ds known ds) (λ (t : TypeAt). t.stands)
