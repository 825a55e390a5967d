-- A module with numbers in place of names has few terms, bound names and types where its text has few.
use Rattle.std.proofs.Common.{◌≡◌, ◌∙◌, ℕ, suc, ◌+◌, ◌*◌, ◌≤◌, ◌<◌, Bool, true, false, List, [], ◌∷◌, ◌++◌, length, map, Option, Some, None, refl, ap, subst, arith}
use Rattle.std.specs.Prelude.{if◌then◌else◌}
use Rattle.std.specs.List.{AllByRecursion, IsDistinct}
use Rattle.std.specs.Str.{bytes_eq}
use Rattle.std.proofs.lemmas.List.{length-append, length-map}
use Rattle.std.proofs.lemmas.Map.Keys.{IsDistinct-head, IsDistinct-tail}
use Rattle.fst_base.proofs.Bools.{same_text}
use Rattle.fst_types.specs.Tree as tree
use Rattle.fst_types.specs.Tree.{Tree}
use Rattle.fst_types.specs.WrittenTree as written
use Rattle.fst_types.specs.WrittenTree.{WrittenTree}
use Rattle.fst_types.specs.declared.kind.Kind.{Kind}
use Rattle.fst_terms.specs.CoreCount.{core_limit, core_count, cores_count, core_arms_count, globals_count}
use Rattle.fst_terms.specs.CoreTree.{CoreTree}
use Rattle.fst_terms.specs.Count.{part_limit, type_count, types_count, term_count, terms_count, arms_count, makers_count, module_count}
use Rattle.fst_terms.specs.ModuleTree.{Maker, Declared, family, alias, signature, equation}
use Rattle.fst_terms.specs.Naming.{place_of}
use Rattle.fst_terms.specs.TermTree.{TermTree, named, int, bool, char, unit, pair, make, lambda, apply, let_in, split, if_else, case_of, operate, negate, new, send, receive, close, wait, select, match_with, fork, seq, TermList, no_terms, term, TermArms, no_arms, arm}
use Rattle.fst_terms.specs.declared.binder.Binder.{Binder}
use Rattle.fst_terms.specs.declared.global.GlobalEntry.{GlobalEntry}
use Rattle.fst_scopes.specs.Aliases.{Known}
use Rattle.fst_scopes.specs.Twice.{names}
use Rattle.fst_term_faults.specs.TermFaults.{within}
use Rattle.fst_term_names.specs.CoreTerms.{Numbers, name_term, maker_term, core_term, core_terms, core_arms}
use Rattle.fst_term_names.specs.TermTypes.{with_variables, written_in, written_in_all, written_in_arms}
use Rattle.fst_declarations.specs.ModuleFaults.{Signed, signed, signed_type}
use Rattle.fst_declarations.specs.ModuleNames.{equation_names}
use Rattle.fst_names.specs.Modules.{field_types, types_in, closed_type, decl_types, decls_types, parameter_types, Equation, equations_from, Global, global_parts, numbers, functions, kinds_of, place_of_type, globals_from, parameters_types, module_types, module_globals}
use Rattle.fst_names.proofs.RangeLaws.{from_long}

-- ---- terms

-- a type has itself
some_type : (w : WrittenTree) → 1 ≤ type_count w
some_type (written.skip at) = omega arith
some_type (written.send at b) = omega arith
some_type (written.receive at b) = omega arith
some_type (written.close at) = omega arith
some_type (written.wait at) = omega arith
some_type (written.select at bs) = omega arith
some_type (written.offer at bs) = omega arith
some_type (written.seq at s t) = omega arith
some_type (written.rec at x t) = omega arith
some_type (written.named at x) = omega arith
some_type (written.plain at b) = omega arith
some_type (written.arrow at u s t) = omega arith
some_type (written.pair at s t) = omega arith

some_types : (ws : List WrittenTree) → length ws ≤ types_count ws
some_types [] = omega arith
some_types (w ∷ ws) = let one = some_type w in let rest = some_types ws in omega (arith, one, rest)

-- a name with its type arguments
name_count : (ns : Numbers) (n at : ℕ) (x : List ℕ) (ts : List WrittenTree) (o : Option ℕ) →
    core_count (name_term ns n at x ts o) ≤ suc (length ts)
name_count ns n at x [] (Some k) = omega arith
name_count ns n at x [] None = omega arith
name_count ns n at x (t ∷ ts) o = let long = from_long (suc n) ts in omega (arith, long)

maker_count : (at : ℕ) (ns : Numbers) (xs : List (List ℕ)) (n : ℕ) (ts : TermList) (o : Option (ℕ × ℕ)) →
    core_count (maker_term at (core_terms ns xs n ts) o) ≡ suc (cores_count (core_terms ns xs n ts))
maker_count at ns xs n ts (Some k) = refl
maker_count at ns xs n ts None = refl

mutual
  -- a term with numbers and its types have at most twice as many parts as the term with names
  pub count_most : (ns : Numbers) (xs : List (List ℕ)) (n : ℕ) (t : TermTree) →
      core_count (core_term ns xs n t) + length (written_in t) ≤ 2 * term_count t
  count_most ns xs n (named at x ts) =
      let few = name_count ns n at x ts (place_of xs x) in
      let long = length-map ts with_variables in
      let all = some_types ts in
      omega (arith, few, long, all)
  count_most ns xs n (int at i) = omega arith
  count_most ns xs n (bool at b) = omega arith
  count_most ns xs n (char at c) = omega arith
  count_most ns xs n (unit at) = omega arith
  count_most ns xs n (pair at t u) =
      let one = count_most ns xs n t in
      let two = count_most ns xs (n + length (written_in t)) u in
      let long = length-append (written_in t) (written_in u) in
      omega (arith, one, two, long)
  count_most ns xs n (make at x ts) =
      let same = maker_count at ns xs n ts (ns.makers x) in
      let all = counts_most ns xs n ts in
      omega (arith, same, all)
  count_most ns xs n (lambda at u a x t) =
      let rest = count_most ns (x.name ∷ xs) (suc n) t in
      let one = some_type a in
      omega (arith, rest, one)
  count_most ns xs n (apply at t u) =
      let one = count_most ns xs n t in
      let two = count_most ns xs (n + length (written_in t)) u in
      let long = length-append (written_in t) (written_in u) in
      omega (arith, one, two, long)
  count_most ns xs n (let_in at x t u) =
      let one = count_most ns xs n t in
      let two = count_most ns (x.name ∷ xs) (n + length (written_in t)) u in
      let long = length-append (written_in t) (written_in u) in
      omega (arith, one, two, long)
  count_most ns xs n (split at x y t u) =
      let one = count_most ns xs n t in
      let two = count_most ns (y.name ∷ x.name ∷ xs) (n + length (written_in t)) u in
      let long = length-append (written_in t) (written_in u) in
      omega (arith, one, two, long)
  count_most ns xs n (if_else at t u v) =
      let one = count_most ns xs n t in
      let two = count_most ns xs (n + length (written_in t)) u in
      let three = count_most ns xs (n + length (written_in t) + length (written_in u)) v in
      let long = length-append (written_in t) (written_in u ++ written_in v) in
      let rest = length-append (written_in u) (written_in v) in
      omega (arith, one, two, three, long, rest)
  count_most ns xs n (case_of at t bs) =
      let one = count_most ns xs n t in
      let two = arms_most ns xs (n + length (written_in t)) bs in
      let long = length-append (written_in t) (written_in_arms bs) in
      omega (arith, one, two, long)
  count_most ns xs n (operate at o t u) =
      let one = count_most ns xs n t in
      let two = count_most ns xs (n + length (written_in t)) u in
      let long = length-append (written_in t) (written_in u) in
      omega (arith, one, two, long)
  count_most ns xs n (negate at t) = let one = count_most ns xs n t in omega (arith, one)
  count_most ns xs n (new at a) = let one = some_type a in omega (arith, one)
  count_most ns xs n (send at t u) =
      let one = count_most ns xs n t in
      let two = count_most ns xs (n + length (written_in t)) u in
      let long = length-append (written_in t) (written_in u) in
      omega (arith, one, two, long)
  count_most ns xs n (receive at t) = let one = count_most ns xs n t in omega (arith, one)
  count_most ns xs n (close at t) = let one = count_most ns xs n t in omega (arith, one)
  count_most ns xs n (wait at t) = let one = count_most ns xs n t in omega (arith, one)
  count_most ns xs n (select at l t) = let one = count_most ns xs n t in omega (arith, one)
  count_most ns xs n (match_with at t bs) =
      let one = count_most ns xs n t in
      let two = arms_most ns xs (n + length (written_in t)) bs in
      let long = length-append (written_in t) (written_in_arms bs) in
      omega (arith, one, two, long)
  count_most ns xs n (fork at t) = let one = count_most ns xs n t in omega (arith, one)
  count_most ns xs n (seq at t u) =
      let one = count_most ns xs n t in
      let two = count_most ns xs (n + length (written_in t)) u in
      let long = length-append (written_in t) (written_in u) in
      omega (arith, one, two, long)

  counts_most : (ns : Numbers) (xs : List (List ℕ)) (n : ℕ) (ts : TermList) →
      cores_count (core_terms ns xs n ts) + length (written_in_all ts) ≤ 2 * terms_count ts
  counts_most ns xs n no_terms = omega arith
  counts_most ns xs n (term t ts) =
      let one = count_most ns xs n t in
      let two = counts_most ns xs (n + length (written_in t)) ts in
      let long = length-append (written_in t) (written_in_all ts) in
      omega (arith, one, two, long)

  arms_most : (ns : Numbers) (xs : List (List ℕ)) (n : ℕ) (bs : TermArms) →
      core_arms_count (core_arms ns xs n bs) + length (written_in_arms bs) ≤ 2 * arms_count bs
  arms_most ns xs n no_arms = omega arith
  arms_most ns xs n (arm l bs t arms) =
      let one = count_most ns (within bs xs) n t in
      let two = arms_most ns xs (n + length (written_in t)) arms in
      let long = length-append (written_in t) (written_in_arms arms) in
      omega (arith, one, two, long)

-- ---- types

-- how many types stand in some declarations
abbrev pub types_there : List Declared → ℕ
types_there [] = 0
types_there (e ∷ es) = types_in e + types_there es

-- each type of a declaration is counted
decl_long : (ds : List Declared) (known : Known) (e : Declared) → length (decl_types ds known e) ≡ types_in e
decl_long ds known (family x ms) = length-map (field_types ms) (closed_type ds known)
decl_long ds known (alias x w) = refl
decl_long ds known (signature x bs w) = refl
decl_long ds known (equation x ps t) = length-map (written_in t) _

-- so is each of some declarations
pub decls_long : (ds : List Declared) (known : Known) (es : List Declared) → length (decls_types ds known es) ≡ types_there es
decls_long ds known [] = refl
decls_long ds known (e ∷ es) = length-append (decl_types ds known e) (decls_types ds known es) ∙ ap
    (λ n. n + length (decls_types ds known es)) (decl_long ds known e) ∙ ap (λ n. types_in e + n) (decls_long ds known es)

fields_count : (ms : List Maker) → length (field_types ms) ≤ makers_count ms
fields_count [] = omega arith
fields_count (m ∷ ms) =
    let one = some_types m.fields in
    let two = fields_count ms in
    let long = length-append m.fields (field_types ms) in
    omega (arith, one, two, long)

-- one type for each parameter
pub parameters_long : (at : ℕ) (ps : List Binder) (o : Option Tree) → length (parameter_types at ps o) ≡ length ps
parameters_long at [] o = refl
parameters_long at (p ∷ ps) (Some (tree.arrow u s t)) = ap suc (parameters_long at ps (Some t))
parameters_long at (p ∷ ps) o = ap suc (parameters_long at ps None)

-- ---- globals

-- how many parts some globals have
abbrev parts_count : List Global → ℕ
parts_count [] = 0
parts_count (g ∷ gs) = suc (length g.its_kinds + (core_count g.body + parts_count gs))

same_count : (gs : List GlobalEntry) → globals_count gs ≡ parts_count (map global_parts gs)
same_count [] = refl
same_count (g ∷ gs) = ap (λ n. suc (length g.kinds.items + (core_count g.body + n))) (same_count gs)

-- each function around a body has itself and its parameter
functions_count : (n : ℕ) (ps : List Binder) (o : Option Tree) (b : CoreTree) →
    core_count (functions n ps o b) ≤ 2 * length ps + core_count b
functions_count n [] o b = omega arith
functions_count n (p ∷ ps) (Some (tree.arrow u s t)) b = let rest = functions_count (suc n) ps (Some t) b in omega (arith, rest)
functions_count n (p ∷ ps) o b = omega arith

-- how many type variables the signatures of some names have together
abbrev kinds_in : (List ℕ → Option Signed) → List (List ℕ) → ℕ
kinds_in f [] = 0
kinds_in f (x ∷ xs) = length (kinds_of (f x)) + kinds_in f xs

-- and all signatures
abbrev variables_in : List Declared → ℕ
variables_in [] = 0
variables_in (family x ms ∷ ds) = variables_in ds
variables_in (alias x w ∷ ds) = variables_in ds
variables_in (signature x bs w ∷ ds) = length bs + variables_in ds
variables_in (equation x ps t ∷ ds) = variables_in ds

no_kinds : (xs : List (List ℕ)) → kinds_in (signed []) xs ≡ 0
no_kinds [] = refl
no_kinds (x ∷ xs) = let rest = no_kinds xs in omega (arith, rest)

module _ (y : Binder) (bs : List (Binder × Kind)) (w : WrittenTree) (ds : List Declared) where
  -- a signature of another name has no say
  others_kinds : (xs : List (List ℕ)) → AllByRecursion (λ x. bytes_eq y.name x ≡ false) xs →
      kinds_in (signed (signature y bs w ∷ ds)) xs ≤ kinds_in (signed ds) xs
  others_kinds [] apart = omega arith
  others_kinds (x ∷ xs) apart = pick (bytes_eq x y.name) refl (others_kinds xs apart.1)
    where
      pick : (c : Bool) → bytes_eq x y.name ≡ c → kinds_in (signed (signature y bs w ∷ ds)) xs ≤ kinds_in (signed ds) xs →
          length (kinds_of (if c then Some (record { vars = bs; its_type = w }) else signed ds x)) + kinds_in
          (signed (signature y bs w ∷ ds)) xs ≤
          length (kinds_of (signed ds x)) + kinds_in (signed ds) xs
      pick true is rest = absurd (cc (apart.0, is, same_text x y.name is))
      pick false is rest = omega (arith, rest)

  -- one more signature is that of one name at most
  one_kinds : (xs : List (List ℕ)) → IsDistinct bytes_eq xs →
      kinds_in (signed (signature y bs w ∷ ds)) xs ≤ length bs + kinds_in (signed ds) xs
  one_kinds [] once = omega arith
  one_kinds (x ∷ xs) once = pick (bytes_eq x y.name) refl (one_kinds xs (IsDistinct-tail bytes_eq x xs once))
    where
      pick : (c : Bool) → bytes_eq x y.name ≡ c → kinds_in (signed (signature y bs w ∷ ds)) xs ≤ length bs + kinds_in
          (signed ds) xs →
          length (kinds_of (if c then Some (record { vars = bs; its_type = w }) else signed ds x)) + kinds_in
          (signed (signature y bs w ∷ ds)) xs ≤
          length bs + (length (kinds_of (signed ds x)) + kinds_in (signed ds) xs)
      pick true is rest =
          let apart = subst (λ z. AllByRecursion (λ x. bytes_eq z x ≡ false) xs) (same_text x y.name is)
          (IsDistinct-head bytes_eq x xs once) in
          let few = others_kinds xs apart in
          let long = length-map bs (λ (b : Binder × Kind). b.1) in
          omega (arith, few, long)
      pick false is rest = omega (arith, rest)

-- names that stand once have no more type variables than there are
kinds_most : (ds : List Declared) (xs : List (List ℕ)) → IsDistinct bytes_eq xs → kinds_in (signed ds) xs ≤ variables_in ds
kinds_most [] xs once = let none = no_kinds xs in omega (arith, none)
kinds_most (family x ms ∷ ds) xs once = kinds_most ds xs once
kinds_most (alias x w ∷ ds) xs once = kinds_most ds xs once
kinds_most (signature x bs w ∷ ds) xs once =
    let one = one_kinds x bs w ds xs once in
    let rest = kinds_most ds xs once in
    omega (arith, one, rest)
kinds_most (equation x ps t ∷ ds) xs once = kinds_most ds xs once

module _ (ds : List Declared) (known : Known) where
  -- how many parts some equations have, with their parameters and the types of these, but for type variables
  abbrev bodies_count : List Equation → ℕ
  bodies_count [] = 0
  bodies_count (e ∷ es) = suc (3 * length e.parameters + core_count
      (core_term (numbers ds) (within e.parameters []) e.first e.body)) + bodies_count es

  -- globals and the types of parameters
  globals_most : (n : ℕ) (es : List Equation) →
      parts_count (globals_from ds known n es) + length (parameters_types ds known es) ≤ kinds_in (signed ds)
      (map (λ (e : Equation). e.name.name) es) + bodies_count es
  globals_most n [] = omega arith
  globals_most n (e ∷ es) =
      let rest = globals_most (n + length e.parameters) es in
      let own = functions_count n e.parameters (signed_type ds known (signed ds e.name.name))
      (core_term (numbers ds) (within e.parameters []) e.first e.body) in
      let types = parameters_long (place_of_type (signed ds e.name.name)) e.parameters
      (signed_type ds known (signed ds e.name.name)) in
      let long = length-append (parameter_types (place_of_type (signed ds e.name.name)) e.parameters
      (signed_type ds known (signed ds e.name.name))) (parameters_types ds known es) in
      omega (arith, rest, own, types, long)

  -- the equations of some declarations, with the types that stand in these and their variables
  decls_most : (n : ℕ) (es : List Declared) → bodies_count
      (equations_from n es) + types_there es + variables_in es ≤ 3 * module_count es
  decls_most n [] = omega arith
  decls_most n (family x ms ∷ es) =
      let rest = decls_most (n + length (field_types ms)) es in
      let few = fields_count ms in
      omega (arith, rest, few)
  decls_most n (alias x w ∷ es) = let rest = decls_most (suc n) es in omega (arith, rest)
  decls_most n (signature x bs w ∷ es) = let rest = decls_most (suc n) es in let one = some_type w in omega (arith, rest, one)
  decls_most n (equation x ps t ∷ es) =
      let rest = decls_most (n + length (written_in t)) es in
      let own = count_most (numbers ds) (within ps []) n t in
      omega (arith, rest, own)

-- the names of equations
pub equations_named : (n : ℕ) (es : List Declared) → map
    (λ (e : Equation). e.name.name) (equations_from n es) ≡ names (equation_names es)
equations_named n [] = refl
equations_named n (family x ms ∷ es) = equations_named (n + length (field_types ms)) es
equations_named n (alias x w ∷ es) = equations_named (suc n) es
equations_named n (signature x bs w ∷ es) = equations_named (suc n) es
equations_named n (equation x ps t ∷ es) = ap (λ zs. x.name ∷ zs) (equations_named (n + length (written_in t)) es)

-- a module whose text has few parts, and where each name has one equation, has few parts with numbers
pub few_parts : (ds : List Declared) (known : Known) (gs : List GlobalEntry) (types : List Tree) →
    IsDistinct bytes_eq (names (equation_names ds)) → map global_parts gs ≡ module_globals ds known →
    length types ≡ length (module_types ds known) → module_count ds < part_limit → globals_count gs + length types < core_limit
few_parts ds known gs types once are long few =
    let same = same_count gs ∙ ap parts_count are in
    let own = globals_most ds known (length (decls_types ds known ds)) (equations_from 0 ds) in
    let vars = ap (kinds_in (signed ds)) (equations_named 0 ds) in
    let most = kinds_most ds (names (equation_names ds)) once in
    let all = decls_most ds known 0 ds in
    let written = decls_long ds known ds in
    let whole = length-append (decls_types ds known ds) (parameters_types ds known (equations_from 0 ds)) in
    omega (arith, same, own, vars, most, all, written, whole, long, few)
