-- Each type of a module without faults stands in a global, or it has no variables.
use Rattle.std.proofs.Common.{◌≡◌, ◌∙◌, ◌⊎◌, inl, inr, ℕ, zero, suc, ◌+◌, ◌<◌, Bool, true, false, List, [], ◌∷◌, ◌++◌, length, map, get_or, Option, Some, None, refl, sym, ap, subst, arith}
use Rattle.std.specs.Prelude.{Contains, option_and_then, slice_get, unwrap_or}
use Rattle.std.specs.List.{AllByRecursion}
use Rattle.std.specs.Str.{bytes_eq}
use Rattle.std.proofs.lemmas.List.{length-map}
use Rattle.std.proofs.lemmas.List.Elements.{All-from_recursion, Contains-append_left, Contains-append_right}
use Rattle.std.proofs.lemmas.Option.{slice_get-get_or}
use Rattle.fst_base.proofs.Bools.{same_text}
use Rattle.fst_types.specs.Tree as tree
use Rattle.fst_types.specs.Tree.{Tree}
use Rattle.fst_types.specs.Variables.{HasVariablesBelow}
use Rattle.fst_types.specs.WrittenTree.{WrittenTree}
use Rattle.fst_terms.specs.CoreTree.{CoreTree, CoreList}
use Rattle.fst_terms.specs.ModuleTree.{Declared, family, alias, signature, equation}
use Rattle.fst_terms.specs.Naming.{place_of}
use Rattle.fst_terms.specs.TermTree.{TermTree, named, int, bool, char, unit, pair, make, lambda, apply, let_in, split, if_else, case_of, operate, negate, new, send, receive, close, wait, select, match_with, fork, seq, TermList, no_terms, term, TermArms, no_arms, arm}
use Rattle.fst_terms.specs.Variables.{AreOthersClosed, type_numbers, all_type_numbers, arm_type_numbers, global_numbers}
use Rattle.fst_terms.specs.declared.binder.Binder.{Binder}
use Rattle.fst_terms.specs.declared.global.GlobalEntry.{GlobalEntry}
use Rattle.fst_scopes.specs.Aliases.{Known, IsKnown}
use Rattle.fst_scopes.specs.Faults.{is_among, type_faults}
use Rattle.fst_scopes.specs.Twice.{names, twice, variables}
use Rattle.fst_scopes.specs.TypeNames.{type_declared}
use Rattle.fst_scopes.proofs.Laws.{none_named}
use Rattle.fst_term_faults.specs.TermFaults.{within}
use Rattle.fst_term_names.specs.CoreTerms.{Numbers, from, name_term, maker_term, core_term, core_terms, core_arms}
use Rattle.fst_term_names.specs.TermTypes.{TypeUse, with_variables, written_in, written_in_all, written_in_arms, tree_of, begins_at}
use Rattle.fst_declarations.specs.ModuleFaults.{module_scope, signed, signed_type, surroundings, alone, decls_faults}
use Rattle.fst_declarations.specs.ModuleNames.{signature_names, equation_names}
use Rattle.fst_names.specs.Modules.{TypeAt, Equation, Global, closed_type, decls_types, equations_from, field_types, functions, global_of, global_parts, globals_from, numbers, parameter_types, parameters_types, place_of_type, signature_numbers}
use Rattle.fst_names.proofs.CountLaws.{parameters_long}
use Rattle.fst_names.proofs.FamilyLaws.{heads, tails}
use Rattle.fst_names.proofs.FaultlessLaws.{AreSound, first_sound, has_other, others_sound}
use Rattle.fst_names.proofs.OnceLaws.{among_next, once}
use Rattle.fst_names.proofs.OverLaws.{number_of}
use Rattle.fst_names.proofs.TreeLaws.{place_once}
use Rattle.fst_names.proofs.VariableLaws.{EachAt, IsAt, each_append, each_left, each_right, own_variables}

-- ---- numbers of items

-- the first item is in a list, and what is behind it
here : (x : ℕ) (xs : List ℕ) → Contains (x ∷ xs) x
here x xs = Contains-append_left (x ∷ []) xs x (0, omega arith, refl)

later : (x : ℕ) (xs : List ℕ) (k : ℕ) → Contains xs k → Contains (x ∷ xs) k
later x xs k c = Contains-append_right (x ∷ []) xs k c

-- as many numbers as items, from one on
abbrev along : {A : Type 0} → ℕ → List A → List ℕ
along n [] = []
along n (x ∷ xs) = n ∷ along (suc n) xs

along_append : {A : Type 0} (n : ℕ) (xs ys : List A) → along n (xs ++ ys) ≡ along n xs ++ along (n + length xs) ys
along_append n [] ys = ap (λ m. along m ys) (omega arith)
along_append n (x ∷ xs) ys = ap (λ ks. n ∷ ks)
    (along_append (suc n) xs ys ∙ ap (λ m. along (suc n) xs ++ along m ys) (omega arith))

-- ---- the numbers of the types in a term

module _ (ns : Numbers) where
  -- those of two parts
  two_numbers : (n : ℕ) (us vs : List TypeUse) (js ks : List ℕ) → js ≡ along n us → ks ≡ along (n + length us) vs →
      js ++ ks ≡ along n (us ++ vs)
  two_numbers n us vs js ks a b = (λ i. a i ++ b i) ∙ sym (along_append n us vs)

  argument_numbers : (n : ℕ) (ts : List WrittenTree) → from n ts ≡ along n (map with_variables ts)
  argument_numbers n [] = refl
  argument_numbers n (t ∷ ts) = ap (λ ks. n ∷ ks) (argument_numbers (suc n) ts)

  name_numbers : (n at : ℕ) (x : List ℕ) (ts : List WrittenTree) (o : Option ℕ) →
      type_numbers (name_term ns n at x ts o) ≡ along n (map with_variables ts)
  name_numbers n at x [] (Some k) = refl
  name_numbers n at x [] None = refl
  name_numbers n at x (t ∷ ts) o = argument_numbers n (t ∷ ts)

  maker_numbers : (at : ℕ) (ts : CoreList) (o : Option (ℕ × ℕ)) → type_numbers (maker_term at ts o) ≡ all_type_numbers ts
  maker_numbers at ts (Some k) = refl
  maker_numbers at ts None = refl

  mutual
    -- a term's types have the numbers from the first on
    numbers_are : (xs : List (List ℕ)) (n : ℕ) (t : TermTree) → type_numbers (core_term ns xs n t) ≡ along n (written_in t)
    numbers_are xs n (named at x ts) = name_numbers n at x ts (place_of xs x)
    numbers_are xs n (int at i) = refl
    numbers_are xs n (bool at b) = refl
    numbers_are xs n (char at c) = refl
    numbers_are xs n (unit at) = refl
    numbers_are xs n (pair at t u) = two_numbers n (written_in t) (written_in u) _ _ (numbers_are xs n t)
        (numbers_are xs (n + length (written_in t)) u)
    numbers_are xs n (make at x ts) = maker_numbers at (core_terms ns xs n ts) (ns.makers x) ∙ all_numbers_are xs n ts
    numbers_are xs n (lambda at u a x t) = ap (λ ks. n ∷ ks) (numbers_are (x.name ∷ xs) (suc n) t)
    numbers_are xs n (apply at t u) = two_numbers n (written_in t) (written_in u) _ _ (numbers_are xs n t)
        (numbers_are xs (n + length (written_in t)) u)
    numbers_are xs n (let_in at x t u) = two_numbers n (written_in t) (written_in u) _ _ (numbers_are xs n t)
        (numbers_are (x.name ∷ xs) (n + length (written_in t)) u)
    numbers_are xs n (split at x y t u) = two_numbers n (written_in t) (written_in u) _ _ (numbers_are xs n t)
        (numbers_are (y.name ∷ x.name ∷ xs) (n + length (written_in t)) u)
    numbers_are xs n (if_else at t u v) =
        two_numbers n (written_in t) (written_in u ++ written_in v) _ _ (numbers_are xs n t)
        (two_numbers (n + length (written_in t)) (written_in u) (written_in v) _ _ (numbers_are xs (n + length (written_in t)) u)
        (numbers_are xs (n + length (written_in t) + length (written_in u)) v))
    numbers_are xs n (case_of at t bs) = two_numbers n (written_in t) (written_in_arms bs) _ _ (numbers_are xs n t)
        (arm_numbers_are xs (n + length (written_in t)) bs)
    numbers_are xs n (operate at o t u) = two_numbers n (written_in t) (written_in u) _ _ (numbers_are xs n t)
        (numbers_are xs (n + length (written_in t)) u)
    numbers_are xs n (negate at t) = numbers_are xs n t
    numbers_are xs n (new at a) = refl
    numbers_are xs n (send at t u) = two_numbers n (written_in t) (written_in u) _ _ (numbers_are xs n t)
        (numbers_are xs (n + length (written_in t)) u)
    numbers_are xs n (receive at t) = numbers_are xs n t
    numbers_are xs n (close at t) = numbers_are xs n t
    numbers_are xs n (wait at t) = numbers_are xs n t
    numbers_are xs n (select at l t) = numbers_are xs n t
    numbers_are xs n (match_with at t bs) = two_numbers n (written_in t) (written_in_arms bs) _ _ (numbers_are xs n t)
        (arm_numbers_are xs (n + length (written_in t)) bs)
    numbers_are xs n (fork at t) = numbers_are xs n t
    numbers_are xs n (seq at t u) = two_numbers n (written_in t) (written_in u) _ _ (numbers_are xs n t)
        (numbers_are xs (n + length (written_in t)) u)

    all_numbers_are : (xs : List (List ℕ)) (n : ℕ) (ts : TermList) →
        all_type_numbers (core_terms ns xs n ts) ≡ along n (written_in_all ts)
    all_numbers_are xs n no_terms = refl
    all_numbers_are xs n (term t ts) = two_numbers n (written_in t) (written_in_all ts) _ _ (numbers_are xs n t)
        (all_numbers_are xs (n + length (written_in t)) ts)

    arm_numbers_are : (xs : List (List ℕ)) (n : ℕ) (bs : TermArms) →
        arm_type_numbers (core_arms ns xs n bs) ≡ along n (written_in_arms bs)
    arm_numbers_are xs n no_arms = refl
    arm_numbers_are xs n (arm l bs t arms) = two_numbers n (written_in t) (written_in_arms arms) _ _
        (numbers_are (within bs xs) n t) (arm_numbers_are xs (n + length (written_in t)) arms)

-- ---- types that stand somewhere

-- the type of a number has no variables, or it is among some
abbrev pub IsPlaced : List ℕ → ℕ → TypeAt → Type 0
IsPlaced standing k a = ((t : Tree) → a.stands ≡ Some t → HasVariablesBelow 0 t) ⊎ Contains standing k

-- the types of parameters are those of functions
parameters_placed : (types : List Tree) (standing : List ℕ) (m at : ℕ) (ps : List Binder) (o : Option Tree) (body : CoreTree) →
    EachAt (IsAt types) m (parameter_types at ps o) →
    ((k : ℕ) → Contains (type_numbers (functions m ps o body)) k → Contains standing k) →
    EachAt (IsPlaced standing) m (parameter_types at ps o) × ((k : ℕ) → Contains (type_numbers body) k → Contains standing k)
parameters_placed types standing m at [] o body there all = (tt, all)
parameters_placed types standing m at (p ∷ ps) (Some (tree.arrow u s t)) body there all =
    let inner = type_numbers (functions (suc m) ps (Some t) body) in
    let rest = parameters_placed types standing (suc m) at ps (Some t) body there.1 (λ k c. all k (later m inner k c)) in
    ((inr (all m (here m inner)), rest.0), rest.1)
parameters_placed types standing m at (p ∷ ps) o body there all = absurd (cc (there.0.is))

module _ (ds : List Declared) (known : Known) where
  -- ---- signatures

  -- a global has the number of its own signature's type
  abbrev IsSignedBy : GlobalEntry → Type 0
  IsSignedBy g = g.signature ≡ number_of ds g.name

  globals_signed : (m : ℕ) (es : List Equation) (gs : List GlobalEntry) → map global_parts gs ≡ globals_from ds known m es →
      AllByRecursion IsSignedBy gs
  globals_signed m [] [] e = tt
  globals_signed m [] (g ∷ gs) e = absurd (cc e)
  globals_signed m (q ∷ es) [] e = absurd (cc e)
  globals_signed m (q ∷ es) (g ∷ gs) e =
      let head = heads (global_parts g) (global_of ds known m q) (map global_parts gs)
      (globals_from ds known (m + length q.parameters) es) e in
      let rest = tails (global_parts g) (global_of ds known m q) (map global_parts gs)
      (globals_from ds known (m + length q.parameters) es) e in (
        ap (λ (p : Global). p.signature) head ∙ ap (number_of ds) (sym (ap (λ (p : Global). p.name) head)),
        globals_signed (m + length q.parameters) es gs rest,
      )

  -- the number of a global's signature stands
  signature_stands : (gs : List GlobalEntry) → AllByRecursion IsSignedBy gs →
      (x : List ℕ) → is_among (map (λ (g : GlobalEntry). g.name) gs) x ≡ true → Contains (global_numbers gs) (number_of ds x)
  signature_stands [] all x e = absurd (cc e)
  signature_stands (g ∷ gs) all x e = pick (bytes_eq x g.name) refl (signature_stands gs all.1 x)
    where
      pick : (c : Bool) → bytes_eq x g.name ≡ c → (is_among (map (λ (g : GlobalEntry). g.name) gs) x ≡ true →
          Contains (global_numbers gs) (number_of ds x)) →
          Contains (g.signature ∷ (type_numbers g.body ++ global_numbers gs)) (number_of ds x)
      pick true is rest =
          subst (Contains (g.signature ∷ (type_numbers g.body ++ global_numbers gs)))
          (all.0 ∙ ap (number_of ds) (sym (same_text x g.name is)))
          (here g.signature (type_numbers g.body ++ global_numbers gs))
      pick false is rest =
          later g.signature (type_numbers g.body ++ global_numbers gs) (number_of ds x)
          (Contains-append_right (type_numbers g.body) (global_numbers gs) (number_of ds x)
          (rest (sym (among_next g.name (map (λ (g : GlobalEntry). g.name) gs) x is) ∙ e)))

  -- each name with a signature has an equation
  signatures_used : (es : List Declared) → decls_faults ds known es ≡ [] → AllByRecursion
      (λ y. is_among (names (equation_names ds)) y ≡ true) (names (signature_names es))
  signatures_used [] e = tt
  signatures_used (family x ms ∷ es) e = signatures_used es (others_sound ds known (family x ms) es e)
  signatures_used (alias x w ∷ es) e = signatures_used es (others_sound ds known (alias x w) es e)
  signatures_used (signature x bs w ∷ es) e =
      let own = first_sound ds known (signature x bs w) es e in (
        has_other (equation_names ds) x (none_named (alone (equation_names ds) x)
            (twice (variables bs) ++ type_faults (module_scope ds known (names (variables bs))) w) own).0,
        signatures_used es (others_sound ds known (signature x bs w) es e),
      )
  signatures_used (equation x ps t ∷ es) e = signatures_used es (others_sound ds known (equation x ps t) es e)

  -- as many names as numbers
  signatures_long : (n : ℕ) (es : List Declared) → length (signature_numbers n es) ≡ length (names (signature_names es))
  signatures_long n [] = refl
  signatures_long n (family x ms ∷ es) = signatures_long (n + length (field_types ms)) es
  signatures_long n (alias x w ∷ es) = signatures_long (suc n) es
  signatures_long n (signature x bs w ∷ es) = ap suc (signatures_long (suc n) es)
  signatures_long n (equation x ps t ∷ es) = signatures_long (n + length (written_in t)) es

  -- so the number of each signature's type stands
  pub signatures_stand : (gs : List GlobalEntry) → AreSound ds known → map
      (λ (g : GlobalEntry). g.name) gs ≡ names (equation_names ds) →
      map global_parts gs ≡ globals_from ds known (length (decls_types ds known ds)) (equations_from 0 ds) →
      (k : ℕ) → Contains (signature_numbers 0 ds) k → Contains (global_numbers gs) k
  signatures_stand gs sound same are k (i, low, is) =
      let long = signatures_long 0 ds in
      let within : i < length (names (signature_names ds)) = omega (arith, low, long) in
      let x = get_or (names (signature_names ds)) i [] in
      let placed = place_once (names (signature_names ds)) (once (signature_names ds) sound.signatures_once) i within in
      let used = All-from_recursion (λ y. is_among (names (equation_names ds)) y ≡ true) (names (signature_names ds))
      (signatures_used ds sound.decls) i [] within in
      let number : number_of ds x ≡ k =
      ap (λ o. unwrap_or (option_and_then (λ j. slice_get (signature_numbers 0 ds) j) o) 0) placed ∙ ap
      (λ o. unwrap_or o 0) (slice_get-get_or (signature_numbers 0 ds) i k low) ∙ is in
      subst (Contains (global_numbers gs)) number
      (signature_stands gs (globals_signed (length (decls_types ds known ds)) (equations_from 0 ds) gs are) x
      (ap (λ ys. is_among ys x) same ∙ used))

  -- ---- all types

  module _ (is_known : IsKnown (type_declared ds) known) (types : List Tree) (standing : List ℕ) where
    -- a type without variables is placed
    closed_placed : (k : ℕ) (w : WrittenTree) → IsPlaced standing k (closed_type ds known w)
    closed_placed k w = inl (λ t e. own_variables ds known is_known [] w t e)

    fields_placed : (n : ℕ) (ws : List WrittenTree) → EachAt (IsPlaced standing) n (map (closed_type ds known) ws)
    fields_placed n [] = tt
    fields_placed n (w ∷ ws) = (closed_placed n w, fields_placed (suc n) ws)

    uses_placed : (x : List ℕ) (n : ℕ) (us : List TypeUse) → ((k : ℕ) → Contains (along n us) k → Contains standing k) →
        EachAt (IsPlaced standing) n (map (λ u. record { at = begins_at u; stands = tree_of (surroundings ds known x) u }) us)
    uses_placed x n [] all = tt
    uses_placed x n (u ∷ us) all = (
      inr (all n (here n (along (suc n) us))),
      uses_placed x (suc n) us
          (λ k c. all k (later n (along (suc n) us) k c)),
    )

    -- the types of some declarations and those of the parameters of their equations
    abbrev ArePlaced : ℕ → ℕ → List Declared → Type 0
    ArePlaced n m es = EachAt (IsPlaced standing) n (decls_types ds known es) ×
        EachAt (IsPlaced standing) m (parameters_types ds known (equations_from n es))

    -- are placed where the numbers of signatures and of globals stand
    pub all_placed : (n m : ℕ) (es : List Declared) (gs : List GlobalEntry) →
        map global_parts gs ≡ globals_from ds known m (equations_from n es) →
        EachAt (IsAt types) m (parameters_types ds known (equations_from n es)) →
        ((k : ℕ) → Contains (signature_numbers n es) k → Contains standing k) →
        ((k : ℕ) → Contains (global_numbers gs) k → Contains standing k) → ArePlaced n m es
    all_placed n m [] gs e there signatures globals = (tt, tt)
    all_placed n m (family x ms ∷ es) gs e there signatures globals =
        let rest = all_placed (n + length (field_types ms)) m es gs e there signatures globals in (
          each_append (IsPlaced standing) n (map (closed_type ds known) (field_types ms)) (decls_types ds known es)
              (fields_placed n (field_types ms))
              (subst (λ k. EachAt (IsPlaced standing) (n + k) (decls_types ds known es))
              (sym (length-map (field_types ms) (closed_type ds known))) rest.0),
          rest.1,
        )
    all_placed n m (alias x w ∷ es) gs e there signatures globals =
        let rest = all_placed (suc n) m es gs e there signatures globals in
        ((closed_placed n w, rest.0), rest.1)
    all_placed n m (signature x bs w ∷ es) gs e there signatures globals =
        let rest = all_placed (suc n) m es gs e there
        (λ k c. signatures k (later n (signature_numbers (suc n) es) k c)) globals in
        ((inr (signatures n (here n (signature_numbers (suc n) es))), rest.0), rest.1)
    all_placed n m (equation x ps t ∷ es) [] e there signatures globals = absurd (cc e)
    all_placed n m (equation x ps t ∷ es) (g ∷ gs) e there signatures globals =
        let further = parameters_types ds known (equations_from (n + length (written_in t)) es) in
        let own_types = parameter_types (place_of_type (signed ds x.name)) ps (signed_type ds known (signed ds x.name)) in
        let uses : List TypeAt = map (λ u. record { at = begins_at u; stands = tree_of (surroundings ds known x.name) u })
        (written_in t) in
        let body = core_term (numbers ds) (within ps []) n t in
        let head = heads (global_parts g) (global_of ds known m (record { name = x; parameters = ps; body = t; first = n }))
        (map global_parts gs)
        (globals_from ds known (m + length ps) (equations_from (n + length (written_in t)) es)) e in
        let tail = tails (global_parts g) (global_of ds known m (record { name = x; parameters = ps; body = t; first = n }))
        (map global_parts gs)
        (globals_from ds known (m + length ps) (equations_from (n + length (written_in t)) es)) e in
        let rest = all_placed (n + length (written_in t)) (m + length ps) es gs tail
        (subst (λ k. EachAt (IsAt types) (m + k) further)
        (parameters_long (place_of_type (signed ds x.name)) ps (signed_type ds known (signed ds x.name)))
        (each_right (IsAt types) m own_types further there)) signatures
        (λ k c. globals k (later g.signature (type_numbers g.body ++ global_numbers gs) k
        (Contains-append_right (type_numbers g.body) (global_numbers gs) k c))) in
        let own = parameters_placed types standing m (place_of_type (signed ds x.name)) ps
        (signed_type ds known (signed ds x.name)) body (each_left (IsAt types) m own_types further there)
        (λ k c. globals k
        (later g.signature (type_numbers g.body ++ global_numbers gs) k
        (Contains-append_left (type_numbers g.body) (global_numbers gs) k
        (subst (λ b. Contains (type_numbers b) k) (sym (ap (λ (p : Global). p.body) head)) c)))) in
        let written = uses_placed x.name n (written_in t)
        (λ k c. own.1 k (subst (λ ks. Contains ks k) (sym (numbers_are (numbers ds) (within ps []) n t)) c)) in (
          each_append (IsPlaced standing) n uses (decls_types ds known es) written
              (subst (λ k. EachAt (IsPlaced standing) (n + k) (decls_types ds known es))
              (sym (length-map (written_in t) _)) rest.0),
          each_append (IsPlaced standing) m own_types further own.0
              (subst (λ k. EachAt (IsPlaced standing) (m + k) further)
              (sym (parameters_long (place_of_type (signed ds x.name)) ps (signed_type ds known (signed ds x.name)))) rest.1),
        )

-- the type of a number is placed
placed_at : (standing : List ℕ) (types : List Tree) (us : List TypeAt) (n k : ℕ) (t : Tree) → map Some types ≡ map
    (λ (t : TypeAt). t.stands) us → EachAt (IsPlaced standing) n us → slice_get types k ≡ Some t →
    HasVariablesBelow 0 t ⊎ Contains standing (n + k)
placed_at standing [] us n k t e all is = absurd (cc is)
placed_at standing (r ∷ types) [] n k t e all is = absurd (cc e)
placed_at standing (r ∷ types) (u ∷ us) n zero t e all is = pick all.0
  where
    pick : IsPlaced standing n u → HasVariablesBelow 0 t ⊎ Contains standing (n + 0)
    pick (inl closed) = inl (closed t (sym (heads (Some r) u.stands (map Some types) (map (λ (t : TypeAt). t.stands) us) e) ∙ is))
    pick (inr c) = inr (subst (Contains standing) (omega arith) c)
placed_at standing (r ∷ types) (u ∷ us) n (suc k) t e all is =
    pick (placed_at standing types us (suc n) k t
    (tails (Some r) u.stands (map Some types) (map (λ (t : TypeAt). t.stands) us) e) all.1 is)
  where
    pick : HasVariablesBelow 0 t ⊎ Contains standing (suc n + k) → HasVariablesBelow 0 t ⊎ Contains standing (n + suc k)
    pick (inl closed) = inl closed
    pick (inr c) = inr (subst (Contains standing) (omega arith) c)

-- so a type that stands nowhere has no variables
pub others_closed : (standing : List ℕ) (types : List Tree) (us : List TypeAt) → map Some types ≡ map
    (λ (t : TypeAt). t.stands) us → EachAt (IsPlaced standing) 0 us → AreOthersClosed standing types
others_closed standing types us e all k t is nowhere = pick (placed_at standing types us 0 k t e all is)
  where
    pick : HasVariablesBelow 0 t ⊎ Contains standing (0 + k) → HasVariablesBelow 0 t
    pick (inl closed) = closed
    pick (inr c) = absurd (nowhere (subst (Contains standing) (omega arith) c))
