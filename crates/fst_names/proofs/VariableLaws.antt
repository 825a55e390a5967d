-- The types of a module without faults have no variables but those of the signature of the global that they stand in.
use Rattle.std.proofs.Common.{◌≡◌, ◌∙◌, ℕ, suc, ◌+◌, List, [], ◌∷◌, ◌++◌, length, map, Option, Some, None, refl, sym, subst, arith}
use Rattle.std.specs.Prelude.{slice_get, ⊤}
use Rattle.std.proofs.lemmas.List.{length-map}
use Rattle.std.proofs.lemmas.Option.{same_Some}
use Rattle.fst_types.specs.Tree as tree
use Rattle.fst_types.specs.Tree.{Tree}
use Rattle.fst_types.specs.Variables.{HasVariablesBelow}
use Rattle.fst_types.specs.WrittenTree.{WrittenTree}
use Rattle.fst_types.specs.declared.kind.Kind.{Kind}
use Rattle.fst_terms.specs.CoreTree.{CoreTree, CoreList}
use Rattle.fst_terms.specs.ModuleTree.{Declared}
use Rattle.fst_terms.specs.Naming.{place_of, type_of}
use Rattle.fst_terms.specs.TermTree.{TermTree, named, int, bool, char, unit, pair, make, lambda, apply, let_in, split, if_else, case_of, operate, negate, new, send, receive, close, wait, select, match_with, fork, seq, TermList, no_terms, term, TermArms, no_arms, arm}
use Rattle.fst_terms.specs.Variables.{IsTypeOver, AreTypesOver, HasTypesOver, HaveTypesOver, HaveArmTypesOver}
use Rattle.fst_terms.specs.declared.binder.Binder.{Binder}
use Rattle.fst_scopes.specs.Aliases.{StandsFor, alias as stands_alias, Known, IsKnown}
use Rattle.fst_scopes.specs.Plain.{DeclaresClosed}
use Rattle.fst_scopes.specs.Twice.{variables}
use Rattle.fst_scopes.specs.TypeNames.{TypeDecl, data_type, other_name, type_declared, standing_for, scope_with}
use Rattle.fst_scopes.proofs.Laws.{variables_below}
use Rattle.fst_term_faults.specs.TermFaults.{within}
use Rattle.fst_term_names.specs.CoreTerms.{Numbers, from, name_term, maker_term, core_term, core_terms, core_arms}
use Rattle.fst_term_names.specs.TermTypes.{TypeUse, with_variables, without, written_in, written_in_all, written_in_arms, tree_of, begins_at}
use Rattle.fst_declarations.specs.ModuleFaults.{Signed, module_scope, signed, signed_type, surroundings, vars_of}
use Rattle.fst_names.specs.Modules.{TypeAt, functions, kinds_of, parameter_types}

-- ---- lists of which something is said of each item and its number

-- what is said of each item, where the first one has this number
abbrev pub EachAt : {A : Type 0} → (ℕ → A → Type 0) → ℕ → List A → Type 0
EachAt P n [] = ⊤
EachAt P n (x ∷ xs) = P n x × EachAt P (suc n) xs

module _ {A : Type 0} (P : ℕ → A → Type 0) where
  -- of the first items
  pub each_left : (n : ℕ) (xs ys : List A) → EachAt P n (xs ++ ys) → EachAt P n xs
  each_left n [] ys h = tt
  each_left n (x ∷ xs) ys h = (h.0, each_left (suc n) xs ys h.1)

  -- of those behind them
  pub each_right : (n : ℕ) (xs ys : List A) → EachAt P n (xs ++ ys) → EachAt P (n + length xs) ys
  each_right n [] ys h = subst (λ m. EachAt P m ys) (omega arith) h
  each_right n (x ∷ xs) ys h = subst (λ m. EachAt P m ys) (omega arith) (each_right (suc n) xs ys h.1)

  -- and of both
  pub each_append : (n : ℕ) (xs ys : List A) → EachAt P n xs → EachAt P (n + length xs) ys → EachAt P n (xs ++ ys)
  each_append n [] ys a b = subst (λ m. EachAt P m ys) (omega arith) b
  each_append n (x ∷ xs) ys a b = (a.0, each_append (suc n) xs ys a.1 (subst (λ m. EachAt P m ys) (omega arith) b))

-- of what the items are made from
pub each_from : {A B : Type 0} (P : ℕ → A → Type 0) (Q : ℕ → B → Type 0) (f : A → B) → ((k : ℕ) (x : A) → Q k (f x) → P k x) →
    (n : ℕ) (xs : List A) → EachAt Q n (map f xs) → EachAt P n xs
each_from P Q f h n [] a = tt
each_from P Q f h n (x ∷ xs) a = (h n x a.0, each_from P Q f h (suc n) xs a.1)

-- ---- what the types of a module stand for

module _ (ds : List Declared) where
  -- what is declared has no variables where what aliases stand for has none
  declared_closed : (aliases : List ℕ → Option Tree) → ((x : List ℕ) (t : Tree) → aliases x ≡ Some t → HasVariablesBelow 0 t) →
      (x : List ℕ) (t : Tree) →
      standing_for aliases x (type_declared ds x) ≡ Some (Some t) → HasVariablesBelow 0 t
  declared_closed aliases all x t e = pick (type_declared ds x) e
    where
      pick : (o : Option TypeDecl) → standing_for aliases x o ≡ Some (Some t) → HasVariablesBelow 0 t
      pick None h = absurd (cc h)
      pick (Some (data_type k)) h = subst (HasVariablesBelow 0)
          (same_Some (tree.named k) t (same_Some (Some (tree.named k)) (Some t) h)) tt
      pick (Some (other_name w)) h = all x t (same_Some (aliases x) (Some t) h)

  skip_closed : (t : Tree) → Some tree.skip ≡ Some t → HasVariablesBelow 0 t
  skip_closed t e = subst (HasVariablesBelow 0) (same_Some tree.skip t e) tt

  -- nor has what an alias stands for
  stands_closed : (x : List ℕ) (t : Tree) → StandsFor (type_declared ds) x t → HasVariablesBelow 0 t
  stands_closed x t (stands_alias others _ w _ is stand e) =
      whole (λ y u p. stands_closed y u (stand y u p))
    where
      whole : ((y : List ℕ) (u : Tree) → others y ≡ Some u → HasVariablesBelow 0 u) → HasVariablesBelow 0 t
      whole all = variables_below (scope_with [] (type_declared ds) others) w t
          (record { declared = declared_closed others all; otherwise = skip_closed }) e

module _ (ds : List Declared) (known : Known) (is_known : IsKnown (type_declared ds) known) where
  -- nor has all that is in scope in a module
  all_closed : (vars : List (List ℕ)) → DeclaresClosed (module_scope ds known vars)
  all_closed vars = record {
    declared = declared_closed ds known.stands (λ x t e. stands_closed ds x t ((is_known.stands_for x t).0 e));
    otherwise = skip_closed ds;
  }

  -- so a type has only the variables that are in scope
  pub own_variables : (vars : List (List ℕ)) (w : WrittenTree) (t : Tree) → type_of (module_scope ds known vars) w ≡ Some t →
      HasVariablesBelow (length vars) t
  own_variables vars w t e = variables_below (module_scope ds known vars) w t (all_closed vars) e

  -- that of a signature has only the signature's
  pub signed_variables : (o : Option Signed) (t : Tree) → signed_type ds known o ≡ Some t →
      HasVariablesBelow (length (vars_of o)) t
  signed_variables (Some s) t e = own_variables (vars_of (Some s)) s.its_type t e
  signed_variables None t e = absurd (cc e)

-- as many kinds as variables
pub kinds_long : (o : Option Signed) → length (kinds_of o) ≡ length (vars_of o)
kinds_long (Some s) =
    length-map s.vars (λ (b : Binder × Kind). b.1)
    ∙ sym (length-map (variables s.vars) (λ (b : Binder). b.name) ∙ length-map s.vars (λ (b : Binder × Kind). b.0))
kinds_long None = refl

-- ---- types by their numbers

-- what a type stands for has the number
pub record IsAt (types : List Tree) (k : ℕ) (a : TypeAt) : Type 0 where
  pub stands : Tree
  pub there : slice_get types k ≡ Some stands
  pub is : a.stands ≡ Some stands

-- a type with a number has only so many variables where what stands there has
pub over_at : (types : List Tree) (n k : ℕ) (t : Tree) → slice_get types k ≡ Some t → HasVariablesBelow n t →
    IsTypeOver n (slice_get types k)
over_at types n k t e h = subst (IsTypeOver n) (sym e) h

-- a type in a term has a number, with so many variables, or with none where a channel is made
abbrev pub IsUseOver : List Tree → ℕ → ℕ → TypeUse → Type 0
IsUseOver types n k (with_variables w) = IsTypeOver n (slice_get types k)
IsUseOver types n k (without w) = IsTypeOver 0 (slice_get types k)

-- so it is in an equation
pub use_over : (ds : List Declared) (known : Known) → IsKnown (type_declared ds) known →
    (types : List Tree) (x : List ℕ) (k : ℕ) (u : TypeUse) →
    IsAt types k (record { at = begins_at u; stands = tree_of (surroundings ds known x) u }) →
    IsUseOver types (length (vars_of (signed ds x))) k u
use_over ds known is_known types x k (with_variables w) h =
    over_at types (length (vars_of (signed ds x))) k h.stands h.there
    (own_variables ds known is_known (vars_of (signed ds x)) w h.stands h.is)
use_over ds known is_known types x k (without w) h =
    over_at types 0 k h.stands h.there (own_variables ds known is_known [] w h.stands h.is)

module _ (types : List Tree) (v : ℕ) (ns : Numbers) where
  -- the types in a term have the numbers from n on
  abbrev AreAt : ℕ → List TypeUse → Type 0
  AreAt n us = EachAt (IsUseOver types v) n us

  first_at : (n : ℕ) (us vs : List TypeUse) → AreAt n (us ++ vs) → AreAt n us
  first_at n us vs h = each_left (IsUseOver types v) n us vs h

  later_at : (n : ℕ) (us vs : List TypeUse) → AreAt n (us ++ vs) → AreAt (n + length us) vs
  later_at n us vs h = each_right (IsUseOver types v) n us vs h

  -- what follows from two parts
  of_two : {X Y : Type 0} (n : ℕ) (us vs : List TypeUse) → (AreAt n us → X) →
      (AreAt (n + length us) vs → Y) → AreAt n (us ++ vs) → X × Y
  of_two n us vs f g h = (f (first_at n us vs h), g (later_at n us vs h))

  arguments_over : (n : ℕ) (ts : List WrittenTree) → AreAt n (map with_variables ts) → AreTypesOver types v (from n ts)
  arguments_over n [] h = tt
  arguments_over n (t ∷ ts) h = (h.0, arguments_over (suc n) ts h.1)

  name_over : (n at : ℕ) (x : List ℕ) (ts : List WrittenTree) (o : Option ℕ) → AreAt n (map with_variables ts) →
      HasTypesOver types v (name_term ns n at x ts o)
  name_over n at x [] (Some k) h = tt
  name_over n at x [] None h = tt
  name_over n at x (t ∷ ts) o h = arguments_over n (t ∷ ts) h

  maker_over : (at : ℕ) (ts : CoreList) (o : Option (ℕ × ℕ)) → HaveTypesOver types v ts →
      HasTypesOver types v (maker_term at ts o)
  maker_over at ts (Some k) h = h
  maker_over at ts None h = h

  mutual
    -- so a term has only types with so many variables
    pub term_over : (xs : List (List ℕ)) (n : ℕ) (t : TermTree) → AreAt n (written_in t) →
        HasTypesOver types v (core_term ns xs n t)
    term_over xs n (named at x ts) h = name_over n at x ts (place_of xs x) h
    term_over xs n (int at i) h = tt
    term_over xs n (bool at b) h = tt
    term_over xs n (char at c) h = tt
    term_over xs n (unit at) h = tt
    term_over xs n (pair at t u) h = of_two n (written_in t) (written_in u) (term_over xs n t)
        (term_over xs (n + length (written_in t)) u) h
    term_over xs n (make at x ts) h = maker_over at (core_terms ns xs n ts) (ns.makers x) (terms_over xs n ts h)
    term_over xs n (lambda at u a x t) h = (h.0, term_over (x.name ∷ xs) (suc n) t h.1)
    term_over xs n (apply at t u) h = of_two n (written_in t) (written_in u) (term_over xs n t)
        (term_over xs (n + length (written_in t)) u) h
    term_over xs n (let_in at x t u) h = of_two n (written_in t) (written_in u) (term_over xs n t)
        (term_over (x.name ∷ xs) (n + length (written_in t)) u) h
    term_over xs n (split at x y t u) h = of_two n (written_in t) (written_in u) (term_over xs n t)
        (term_over (y.name ∷ x.name ∷ xs) (n + length (written_in t)) u) h
    term_over xs n (if_else at t u v) h =
        let rest = later_at n (written_in t) (written_in u ++ written_in v) h in (
          term_over xs n t (first_at n (written_in t) (written_in u ++ written_in v) h),
          term_over xs (n + length (written_in t)) u (first_at (n + length (written_in t)) (written_in u) (written_in v) rest),
          term_over xs (n + length (written_in t) + length (written_in u)) v
              (later_at (n + length (written_in t)) (written_in u) (written_in v) rest),
        )
    term_over xs n (case_of at t bs) h = of_two n (written_in t) (written_in_arms bs) (term_over xs n t)
        (arms_over xs (n + length (written_in t)) bs) h
    term_over xs n (operate at o t u) h = of_two n (written_in t) (written_in u) (term_over xs n t)
        (term_over xs (n + length (written_in t)) u) h
    term_over xs n (negate at t) h = term_over xs n t h
    term_over xs n (new at a) h = h.0
    term_over xs n (send at t u) h = of_two n (written_in t) (written_in u) (term_over xs n t)
        (term_over xs (n + length (written_in t)) u) h
    term_over xs n (receive at t) h = term_over xs n t h
    term_over xs n (close at t) h = term_over xs n t h
    term_over xs n (wait at t) h = term_over xs n t h
    term_over xs n (select at l t) h = term_over xs n t h
    term_over xs n (match_with at t bs) h = of_two n (written_in t) (written_in_arms bs) (term_over xs n t)
        (arms_over xs (n + length (written_in t)) bs) h
    term_over xs n (fork at t) h = term_over xs n t h
    term_over xs n (seq at t u) h = of_two n (written_in t) (written_in u) (term_over xs n t)
        (term_over xs (n + length (written_in t)) u) h

    terms_over : (xs : List (List ℕ)) (n : ℕ) (ts : TermList) → AreAt n (written_in_all ts) →
        HaveTypesOver types v (core_terms ns xs n ts)
    terms_over xs n no_terms h = tt
    terms_over xs n (term t ts) h = of_two n (written_in t) (written_in_all ts) (term_over xs n t)
        (terms_over xs (n + length (written_in t)) ts) h

    arms_over : (xs : List (List ℕ)) (n : ℕ) (bs : TermArms) → AreAt n (written_in_arms bs) →
        HaveArmTypesOver types v (core_arms ns xs n bs)
    arms_over xs n no_arms h = tt
    arms_over xs n (arm l bs t arms) h = of_two n (written_in t) (written_in_arms arms) (term_over (within bs xs) n t)
        (arms_over xs (n + length (written_in t)) arms) h

-- functions around a body, whose parameters' types are in front of the arrows of a type
pub functions_over : (types : List Tree) (v m at : ℕ) (ps : List Binder) (o : Option Tree) (body : CoreTree) →
    EachAt (IsAt types) m (parameter_types at ps o) →
    ((t : Tree) → o ≡ Some t → HasVariablesBelow v t) → HasTypesOver types v body → HasTypesOver types v (functions m ps o body)
functions_over types v m at [] o body here below h = h
functions_over types v m at (p ∷ ps) (Some (tree.arrow u s t)) body here below h =
    let own = below (tree.arrow u s t) refl in (
      over_at types v m here.0.stands here.0.there (subst (HasVariablesBelow v) (same_Some s here.0.stands here.0.is) own.0),
      functions_over types v (suc m) at ps (Some t) body here.1 (λ r e. subst (HasVariablesBelow v) (same_Some t r e) own.1) h,
    )
functions_over types v m at (p ∷ ps) o body here below h = absurd (cc (here.0.is))
