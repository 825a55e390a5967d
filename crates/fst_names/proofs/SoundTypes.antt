-- What the types of a module without faults are: in order, without free variables, of its data types, and not too large.
use Rattle.std.proofs.Common.{◌≡◌, ◌∙◌, ℕ, suc, ◌≤◌, Bool, true, false, List, [], ◌∷◌, ◌++◌, length, map, Option, Some, None, refl, sym, ap, subst, arith}
use Rattle.std.specs.Prelude.{if◌then◌else◌}
use Rattle.std.specs.List.{AllByRecursion}
use Rattle.std.specs.Str.{bytes_eq}
use Rattle.std.proofs.lemmas.Option.{same_Some}
use Rattle.fst_base.specs.Limits.{most_nodes}
use Rattle.fst_types.specs.Size.{nodes}
use Rattle.fst_types.specs.Tree as tree
use Rattle.fst_types.specs.Tree.{Tree}
use Rattle.fst_types.specs.WrittenTree.{WrittenTree, HasBranches}
use Rattle.fst_types.specs.declared.kind.Kind.{Kind}
use Rattle.fst_terms.specs.Filled.{HaveTypesFilled, IsFilled, AreFilled, HaveArmsFilled, HaveFieldsFilled, IsModuleFilled}
use Rattle.fst_terms.specs.ModuleTree.{Maker, Declared, family, alias, signature, equation}
use Rattle.fst_terms.specs.Naming.{Scope, place, type_of}
use Rattle.fst_terms.specs.TermTree.{TermTree, named, int, bool, char, unit, pair, make, lambda, apply, let_in, split, if_else, case_of, operate, negate, new, send, receive, close, wait, select, match_with, fork, seq, TermList, no_terms, term, TermArms, no_arms, arm}
use Rattle.fst_terms.specs.declared.binder.Binder.{Binder}
use Rattle.fst_scopes.specs.Aliases.{StandsFor, alias as stands_alias, Known, IsKnown}
use Rattle.fst_scopes.specs.Faults.{unbound, too_large, type_faults}
use Rattle.fst_scopes.specs.Plain.{IsPlain, AllPlain}
use Rattle.fst_scopes.specs.Twice.{names, variables}
use Rattle.fst_scopes.specs.TypeNames.{TypeDecl, data_type, other_name, declared_from, type_declared, standing_for, scope_with}
use Rattle.fst_scopes.proofs.Laws.{none_named, closed_plain, no_larger}
use Rattle.fst_term_faults.specs.TermFaults.{Surroundings, types_faults, name_faults, maker_faults, terms_length, within, term_faults, terms_faults, cases_faults, matches_faults}
use Rattle.fst_term_names.specs.TermTypes.{TypeUse, with_variables, without, written_in, written_in_all, written_in_arms, tree_of, begins_at}
use Rattle.fst_declarations.specs.ModuleFaults.{module_scope, signed, vars_of, surroundings, signed_type, fields_faults, decl_faults, decls_faults}
use Rattle.fst_names.specs.Modules.{TypeAt, field_types, closed_type, decl_types, decls_types, parameter_types, Equation, equations_from, place_of_type, parameters_types, module_types}
use Rattle.fst_names.proofs.FaultlessLaws.{alias_type_sound, equation_sound, first_sound, others_sound, signature_sound}
use Rattle.fst_names.proofs.FamilyLaws.{families_there, family_below}

-- ---- lists of which something is said of each item

all_append : {A : Type 0} (P : A → Type 0) (xs ys : List A) → AllByRecursion P xs → AllByRecursion P ys →
    AllByRecursion P (xs ++ ys)
all_append P [] ys a b = b
all_append P (x ∷ xs) ys a b = (a.0, all_append P xs ys a.1 b)

all_map : {A B : Type 0} (P : A → Type 0) (Q : B → Type 0) (f : A → B) → ((x : A) → P x → Q (f x)) →
    (xs : List A) → AllByRecursion P xs → AllByRecursion Q (map f xs)
all_map P Q f h [] a = tt
all_map P Q f h (x ∷ xs) a = (h x a.0, all_map P Q f h xs a.1)

-- ---- types that were written

-- a written type without faults, whose choices have branches
record IsSound (s : Scope) (w : WrittenTree) : Type 0 where
  filled : HasBranches w
  faultless : type_faults s w ≡ []

-- the same of a type in a term
abbrev IsUseSound : Surroundings → TypeUse → Type 0
IsUseSound s (with_variables w) = IsSound s.types w
IsUseSound s (without w) = IsSound s.closed w

-- the types behind a name
arguments_sound : (s : Surroundings) (ts : List WrittenTree) → types_faults s.types ts ≡ [] → HaveTypesFilled ts →
    AllByRecursion (IsUseSound s) (map with_variables ts)
arguments_sound s [] e filled = tt
arguments_sound s (t ∷ ts) e filled =
    let two = none_named (type_faults s.types t) (types_faults s.types ts) e in
    (record { filled = filled.0; faultless = two.0 }, arguments_sound s ts two.1 filled.1)

module _ (s : Surroundings) where
  abbrev both_sound : (us vs : List TypeUse) → AllByRecursion (IsUseSound s) us → AllByRecursion (IsUseSound s) vs →
      AllByRecursion (IsUseSound s) (us ++ vs)
  both_sound us vs a b = all_append (IsUseSound s) us vs a b

  mutual
    -- each type in a term without faults is sound
    uses_sound : (xs : List (List ℕ)) (t : TermTree) → term_faults s xs t ≡ [] → IsFilled t →
        AllByRecursion (IsUseSound s) (written_in t)
    uses_sound xs (named at x ts) e filled = arguments_sound s ts
        (none_named (name_faults xs s.globals at x ts) (types_faults s.types ts) e).1 filled
    uses_sound xs (int at i) e filled = tt
    uses_sound xs (bool at b) e filled = tt
    uses_sound xs (char at c) e filled = tt
    uses_sound xs (unit at) e filled = tt
    uses_sound xs (pair at t u) e filled =
        let two = none_named (term_faults s xs t) (term_faults s xs u) e in
        both_sound (written_in t) (written_in u) (uses_sound xs t two.0 filled.0) (uses_sound xs u two.1 filled.1)
    uses_sound xs (make at x ts) e filled = all_uses_sound xs ts
        (none_named (maker_faults at x (terms_length ts) (s.makers x)) (terms_faults s xs ts) e).1 filled
    uses_sound xs (lambda at u a x t) e filled =
        let two = none_named (type_faults s.types a) (term_faults s (x.name ∷ xs) t) e in
        (record { filled = filled.0; faultless = two.0 }, uses_sound (x.name ∷ xs) t two.1 filled.1)
    uses_sound xs (apply at t u) e filled =
        let two = none_named (term_faults s xs t) (term_faults s xs u) e in
        both_sound (written_in t) (written_in u) (uses_sound xs t two.0 filled.0) (uses_sound xs u two.1 filled.1)
    uses_sound xs (let_in at x t u) e filled =
        let two = none_named (term_faults s xs t) (term_faults s (x.name ∷ xs) u) e in
        both_sound (written_in t) (written_in u) (uses_sound xs t two.0 filled.0) (uses_sound (x.name ∷ xs) u two.1 filled.1)
    uses_sound xs (split at x y t u) e filled =
        let two = none_named (term_faults s xs t) (term_faults s (y.name ∷ x.name ∷ xs) u) e in
        both_sound (written_in t) (written_in u) (uses_sound xs t two.0 filled.0)
        (uses_sound (y.name ∷ x.name ∷ xs) u two.1 filled.1)
    uses_sound xs (if_else at t u v) e filled =
        let one = none_named (term_faults s xs t) (term_faults s xs u ++ term_faults s xs v) e in
        let two = none_named (term_faults s xs u) (term_faults s xs v) one.1 in
        both_sound (written_in t) (written_in u ++ written_in v) (uses_sound xs t one.0 filled.0)
        (both_sound (written_in u) (written_in v) (uses_sound xs u two.0 filled.1) (uses_sound xs v two.1 filled.2))
    uses_sound xs (case_of at t bs) e filled =
        let two = none_named (term_faults s xs t) (cases_faults s xs bs) e in
        both_sound (written_in t) (written_in_arms bs) (uses_sound xs t two.0 filled.1) (cases_sound xs bs two.1 filled.2)
    uses_sound xs (operate at o t u) e filled =
        let two = none_named (term_faults s xs t) (term_faults s xs u) e in
        both_sound (written_in t) (written_in u) (uses_sound xs t two.0 filled.0) (uses_sound xs u two.1 filled.1)
    uses_sound xs (negate at t) e filled = uses_sound xs t e filled
    uses_sound xs (new at a) e filled = (record { filled = filled; faultless = e }, tt)
    uses_sound xs (send at t u) e filled =
        let two = none_named (term_faults s xs t) (term_faults s xs u) e in
        both_sound (written_in t) (written_in u) (uses_sound xs t two.0 filled.0) (uses_sound xs u two.1 filled.1)
    uses_sound xs (receive at t) e filled = uses_sound xs t e filled
    uses_sound xs (close at t) e filled = uses_sound xs t e filled
    uses_sound xs (wait at t) e filled = uses_sound xs t e filled
    uses_sound xs (select at l t) e filled = uses_sound xs t e filled
    uses_sound xs (match_with at t bs) e filled =
        let two = none_named (term_faults s xs t) (matches_faults s xs bs) e in
        both_sound (written_in t) (written_in_arms bs) (uses_sound xs t two.0 filled.2) (matches_sound xs bs two.1 filled.3)
    uses_sound xs (fork at t) e filled = uses_sound xs t e filled
    uses_sound xs (seq at t u) e filled =
        let two = none_named (term_faults s xs t) (term_faults s xs u) e in
        both_sound (written_in t) (written_in u) (uses_sound xs t two.0 filled.0) (uses_sound xs u two.1 filled.1)

    all_uses_sound : (xs : List (List ℕ)) (ts : TermList) → terms_faults s xs ts ≡ [] → AreFilled ts →
        AllByRecursion (IsUseSound s) (written_in_all ts)
    all_uses_sound xs no_terms e filled = tt
    all_uses_sound xs (term t ts) e filled =
        let two = none_named (term_faults s xs t) (terms_faults s xs ts) e in
        both_sound (written_in t) (written_in_all ts) (uses_sound xs t two.0 filled.0) (all_uses_sound xs ts two.1 filled.1)

    cases_sound : (xs : List (List ℕ)) (bs : TermArms) → cases_faults s xs bs ≡ [] → HaveArmsFilled bs →
        AllByRecursion (IsUseSound s) (written_in_arms bs)
    cases_sound xs no_arms e filled = tt
    cases_sound xs (arm l bs t arms) e filled =
        let one = none_named (maker_faults l.at l.name (length bs) (s.makers l.name))
        (term_faults s (within bs xs) t ++ cases_faults s xs arms) e in
        let two = none_named (term_faults s (within bs xs) t) (cases_faults s xs arms) one.1 in
        both_sound (written_in t) (written_in_arms arms) (uses_sound (within bs xs) t two.0 filled.0)
        (cases_sound xs arms two.1 filled.1)

    matches_sound : (xs : List (List ℕ)) (bs : TermArms) → matches_faults s xs bs ≡ [] → HaveArmsFilled bs →
        AllByRecursion (IsUseSound s) (written_in_arms bs)
    matches_sound xs no_arms e filled = tt
    matches_sound xs (arm l bs t arms) e filled =
        let two = none_named (term_faults s (within bs xs) t) (matches_faults s xs arms) e in
        both_sound (written_in t) (written_in_arms arms) (uses_sound (within bs xs) t two.0 filled.0)
        (matches_sound xs arms two.1 filled.1)

-- the types of fields
fields_sound : (s : Scope) (ms : List Maker) → fields_faults s ms ≡ [] → HaveFieldsFilled ms →
    AllByRecursion (IsSound s) (field_types ms)
fields_sound s [] e filled = tt
fields_sound s (m ∷ ms) e filled =
    let two = none_named (types_faults s m.fields) (fields_faults s ms) e in
    all_append (IsSound s) m.fields (field_types ms) (own m.fields two.0 filled.0) (fields_sound s ms two.1 filled.1)
  where
    own : (ws : List WrittenTree) → types_faults s ws ≡ [] → HaveTypesFilled ws → AllByRecursion (IsSound s) ws
    own [] e filled = tt
    own (w ∷ ws) e filled =
        let two = none_named (type_faults s w) (types_faults s ws) e in
        (record { filled = filled.0; faultless = two.0 }, own ws two.1 filled.1)

-- ---- what aliases stand for

-- each choice in the type of an alias has a branch
alias_filled : (k : ℕ) (ds : List Declared) (x : List ℕ) (w : WrittenTree) → IsModuleFilled ds →
    declared_from k ds x ≡ Some (other_name w) → HasBranches w
alias_filled k [] x w filled e = absurd (cc e)
alias_filled k (family y ms ∷ ds) x w filled e = pick (bytes_eq x y.name) (alias_filled (suc k) ds x w filled.1) e
  where
    pick : (c : Bool) → (declared_from (suc k) ds x ≡ Some (other_name w) → HasBranches w) →
        (if c then Some (data_type k) else declared_from (suc k) ds x) ≡ Some (other_name w) → HasBranches w
    pick true rest h = absurd (cc h)
    pick false rest h = rest h
alias_filled k (alias y v ∷ ds) x w filled e = pick (bytes_eq x y.name) (alias_filled k ds x w filled.1) e
  where
    pick : (c : Bool) → (declared_from k ds x ≡ Some (other_name w) → HasBranches w) →
        (if c then Some (other_name v) else declared_from k ds x) ≡ Some (other_name w) → HasBranches w
    pick true rest h = let same : v ≡ w = cc in subst HasBranches same filled.0
    pick false rest h = rest h
alias_filled k (signature y bs v ∷ ds) x w filled e = alias_filled k ds x w filled.1 e
alias_filled k (equation y ps t ∷ ds) x w filled e = alias_filled k ds x w filled.1 e

skip_plain : (n : ℕ) (t : Tree) → Some tree.skip ≡ Some t → IsPlain n 0 t
skip_plain n t e = subst (IsPlain n 0) (same_Some tree.skip t e) (record { scoped = tt; sorted = tt; named = tt })

module _ (ds : List Declared) (filled : IsModuleFilled ds) where
  -- what is declared is plain where what aliases stand for is
  declared_plain : (aliases : List ℕ → Option Tree) →
      ((x : List ℕ) (t : Tree) → aliases x ≡ Some t → IsPlain (families_there ds) 0 t) → (x : List ℕ) (t : Tree) →
      standing_for aliases x (type_declared ds x) ≡ Some (Some t) → IsPlain (families_there ds) 0 t
  declared_plain aliases all x t e = pick (type_declared ds x) refl e
    where
      pick : (o : Option TypeDecl) → type_declared ds x ≡ o → standing_for aliases x o ≡ Some (Some t) →
          IsPlain (families_there ds) 0 t
      pick None is h = absurd (cc h)
      pick (Some (data_type k)) is h =
          subst (IsPlain (families_there ds) 0) (same_Some (tree.named k) t (same_Some (Some (tree.named k)) (Some t) h))
          (record { scoped = tt; sorted = tt; named = let low = family_below 0 ds x k is in omega (arith, low) })
      pick (Some (other_name w)) is h = all x t (same_Some (aliases x) (Some t) h)

  -- what an alias stands for is plain
  stands_plain : (x : List ℕ) (t : Tree) → StandsFor (type_declared ds) x t → IsPlain (families_there ds) 0 t
  stands_plain x t (stands_alias others _ w _ is stand e) =
      whole (λ y u p. stands_plain y u (stand y u p))
    where
      whole : ((y : List ℕ) (u : Tree) → others y ≡ Some u → IsPlain (families_there ds) 0 u) → IsPlain (families_there ds) 0 t
      whole all = closed_plain (families_there ds) (scope_with [] (type_declared ds) others) w t
          (record { declared = declared_plain others all; otherwise = skip_plain (families_there ds) }) refl
          (alias_filled 0 ds x w filled is) e

  -- so is all that is in scope in a module
  all_plain : (known : Known) → IsKnown (type_declared ds) known →
      (vars : List (List ℕ)) → AllPlain (families_there ds) (module_scope ds known vars)
  all_plain known is vars = record {
    declared = declared_plain known.stands (λ x t e. stands_plain x t ((is.stands_for x t).0 e));
    otherwise = skip_plain (families_there ds);
  }

-- ---- the types of a module

-- a type with so many data types, that is no larger than types may be
pub record IsFine (families : ℕ) (t : Tree) : Type 0 where
  pub plain : IsPlain families 0 t
  pub small : nodes t ≤ most_nodes

-- what a type stands for is fine, if it stands for something
abbrev pub StandsFine : ℕ → TypeAt → Type 0
StandsFine families a = (t : Tree) → a.stands ≡ Some t → IsFine families t

-- the types in front of the arrows of a type that is fine are fine
parameters_fine : (families at : ℕ) (ps : List Binder) (o : Option Tree) →
    ((t : Tree) → o ≡ Some t → IsFine families t) → AllByRecursion (StandsFine families) (parameter_types at ps o)
parameters_fine families at [] o fine = tt
parameters_fine families at (p ∷ ps) (Some (tree.arrow u s t)) fine =
    parts (fine (tree.arrow u s t) refl) (parameters_fine families at ps (Some t))
  where
    small : nodes (tree.arrow u s t) ≤ most_nodes → (nodes s ≤ most_nodes) × (nodes t ≤ most_nodes)
    small h = (omega (arith, h), omega (arith, h))

    parts : IsFine families (tree.arrow u s t) → (((r : Tree) → Some t ≡ Some r → IsFine families r) →
        AllByRecursion (StandsFine families) (parameter_types at ps (Some t))) →
        ((r : Tree) → Some s ≡ Some r → IsFine families r) × AllByRecursion (StandsFine families) (parameter_types at ps (Some t))
    parts h rest =
        let few = small h.small in
        let first : IsFine families s = record {
          plain =
              record { scoped = h.plain.scoped.0; sorted = h.plain.sorted.0; named = h.plain.named.0 };
          small = few.0;
        } in
        let second : IsFine families t = record {
          plain =
              record { scoped = h.plain.scoped.1; sorted = h.plain.sorted.1; named = h.plain.named.1 };
          small = few.1;
        } in
        (λ r e. subst (IsFine families) (same_Some s r e) first, rest (λ r e. subst (IsFine families) (same_Some t r e) second))
parameters_fine families at (p ∷ ps) o fine = (λ t e. absurd (cc e), parameters_fine families at ps None (λ t e. absurd (cc e)))

module _ (ds : List Declared) (filled : IsModuleFilled ds) (known : Known) (is_known : IsKnown (type_declared ds) known) where
  -- a sound type
  fine : (vars : List (List ℕ)) (w : WrittenTree) → IsSound (module_scope ds known vars) w →
      (t : Tree) → type_of (module_scope ds known vars) w ≡ Some t → IsFine (families_there ds) t
  fine vars w sound t e = record {
    plain = closed_plain (families_there ds) (module_scope ds known vars) w t
        (all_plain ds filled known is_known vars) refl sound.filled e;
    small = no_larger (place w) t (ap (too_large (place w)) (sym e)
        ∙ (none_named (unbound (module_scope ds known vars) w)
        (too_large (place w) (type_of (module_scope ds known vars) w)) sound.faultless).1);
  }

  -- one in a term
  use_fine : (x : List ℕ) (u : TypeUse) → IsUseSound (surroundings ds known x) u →
      (t : Tree) → tree_of (surroundings ds known x) u ≡ Some t → IsFine (families_there ds) t
  use_fine x (with_variables w) sound t e = fine (vars_of (signed ds x)) w sound t e
  use_fine x (without w) sound t e = fine [] w sound t e

  -- the type of a signature is sound
  signed_sound : (x : Binder) (bs : List (Binder × Kind)) (w : WrittenTree) → decl_faults ds known (signature x bs w) ≡ [] →
      HasBranches w → IsSound (module_scope ds known (names (variables bs))) w
  signed_sound x bs w e filled = record { filled = filled; faultless = (signature_sound ds known x bs w e).faultless }

  -- the types of a declaration
  decl_fine : (d : Declared) → decl_faults ds known d ≡ [] → IsModuleFilled (d ∷ []) →
      AllByRecursion (StandsFine (families_there ds)) (decl_types ds known d)
  decl_fine (family x ms) e filled =
      all_map (IsSound (module_scope ds known [])) (StandsFine (families_there ds)) (closed_type ds known)
      (λ w sound. fine [] w sound) (field_types ms) (fields_sound (module_scope ds known []) ms e filled.0.1)
  decl_fine (alias x w) e filled =
      (fine [] w (record { filled = filled.0; faultless = alias_type_sound ds known x w e }), tt)
  decl_fine (signature x bs w) e filled = (fine (names (variables bs)) w (signed_sound x bs w e filled.0), tt)
  decl_fine (equation x ps t) e filled =
      all_map (IsUseSound (surroundings ds known x.name)) (StandsFine (families_there ds))
      (λ u. record { at = begins_at u; stands = tree_of (surroundings ds known x.name) u }) (use_fine x.name) (written_in t)
      (uses_sound (surroundings ds known x.name) (within ps []) t (equation_sound ds known x ps t e).body filled.0)

  decls_fine : (es : List Declared) → decls_faults ds known es ≡ [] → IsModuleFilled es →
      AllByRecursion (StandsFine (families_there ds)) (decls_types ds known es)
  decls_fine [] e filled = tt
  decls_fine (d ∷ es) e filled =
      all_append (StandsFine (families_there ds)) (decl_types ds known d) (decls_types ds known es)
      (decl_fine d (first_sound ds known d es e) (filled.0, tt)) (decls_fine es (others_sound ds known d es e) filled.1)

  -- the type of a name's signature
  signed_fine : (es : List Declared) → decls_faults ds known es ≡ [] → IsModuleFilled es →
      (x : List ℕ) (t : Tree) → signed_type ds known (signed es x) ≡ Some t → IsFine (families_there ds) t
  signed_fine [] e filled x t h = absurd (cc h)
  signed_fine (family y ms ∷ es) e filled x t h = signed_fine es (others_sound ds known (family y ms) es e) filled.1 x t h
  signed_fine (alias y w ∷ es) e filled x t h = signed_fine es (others_sound ds known (alias y w) es e) filled.1 x t h
  signed_fine (signature y bs w ∷ es) e filled x t h =
      pick (bytes_eq x y.name) (signed_sound y bs w (first_sound ds known (signature y bs w) es e) filled.0)
      (signed_fine es (others_sound ds known (signature y bs w) es e) filled.1 x t) h
    where
      pick : (c : Bool) → IsSound (module_scope ds known (names (variables bs))) w →
          (signed_type ds known (signed es x) ≡ Some t → IsFine (families_there ds) t) →
          signed_type ds known (if c then Some (record { vars = bs; its_type = w }) else signed es x) ≡ Some t →
          IsFine (families_there ds) t
      pick true sound rest h = fine (names (variables bs)) w sound t h
      pick false sound rest h = rest h
  signed_fine (equation y ps u ∷ es) e filled x t h = signed_fine es (others_sound ds known (equation y ps u) es e) filled.1 x t h

  -- the types of parameters
  all_parameters_fine : decls_faults ds known ds ≡ [] →
      (es : List Equation) → AllByRecursion (StandsFine (families_there ds)) (parameters_types ds known es)
  all_parameters_fine faultless [] = tt
  all_parameters_fine faultless (e ∷ es) =
      all_append (StandsFine (families_there ds))
      (parameter_types (place_of_type (signed ds e.name.name)) e.parameters (signed_type ds known (signed ds e.name.name)))
      (parameters_types ds known es)
      (parameters_fine (families_there ds) (place_of_type (signed ds e.name.name)) e.parameters
      (signed_type ds known (signed ds e.name.name)) (signed_fine ds faultless filled e.name.name))
      (all_parameters_fine faultless es)

  -- all types of a module
  pub types_fine : decls_faults ds known ds ≡ [] → AllByRecursion (StandsFine (families_there ds)) (module_types ds known)
  types_fine faultless =
      all_append (StandsFine (families_there ds)) (decls_types ds known ds) (parameters_types ds known (equations_from 0 ds))
      (decls_fine ds faultless filled) (all_parameters_fine faultless (equations_from 0 ds))
