-- What is in scope in the equations of a module without faults.
use Rattle.std.proofs.Common.{◌≡◌, ◌∙◌, ℕ, List, [], ◌∷◌, ◌++◌, map, Option, Some, None, refl, ap}
use Rattle.std.specs.Prelude.{option_map}
use Rattle.fst_base.proofs.Bools.{same_bool}
use Rattle.fst_terms.specs.CoreTree.{CoreTree}
use Rattle.fst_terms.specs.ModuleTree.{Declared, equation}
use Rattle.fst_terms.specs.Naming.{type_of}
use Rattle.fst_terms.specs.TermTree.{TermTree}
use Rattle.fst_terms.specs.declared.binder.Binder.{Binder}
use Rattle.fst_scopes.specs.Faults.{is_among, type_faults}
use Rattle.fst_scopes.specs.Graph.{final_trees}
use Rattle.fst_scopes.specs.Scopes.{declared_in, standing_in}
use Rattle.fst_scopes.specs.Twice.{names, twice, variables}
use Rattle.fst_scopes.specs.TypeNames.{scope_with}
use Rattle.fst_term_faults.specs.CodeSurroundings.{entry_of, scope_of, surroundings_of}
use Rattle.fst_term_faults.specs.TermFaults.{term_faults, within}
use Rattle.fst_term_faults.specs.declared.surroundings.Surroundings as code
use Rattle.fst_term_faults.proofs.Laws.{AreAlike, same_term_faults}
use Rattle.fst_term_names.specs.CodeNumbers.{numbers_of}
use Rattle.fst_term_names.specs.CoreTerms.{core_term}
use Rattle.fst_term_names.specs.TermTypes.{TypeUse, with_variables, without, begins_at, tree_of}
use Rattle.fst_term_names.specs.declared.meanings.TypeList.{TypeList}
use Rattle.fst_declarations.specs.Declarations.{IsScopeFor, known_in}
use Rattle.fst_declarations.specs.ModuleFaults.{Signed, decl_faults, globals, module_scope, signed, surroundings, vars_of}
use Rattle.fst_declarations.specs.ModuleNames.{equation_names, signature_names}
use Rattle.fst_declarations.specs.declared.declarations.Declarations.{Declarations}
use Rattle.fst_declarations.specs.declared.scopes.SignatureScope.{SignatureScope}
use Rattle.fst_names.specs.Faultless.{IsFaultless}
use Rattle.fst_names.specs.Modules.{TypeAt, numbers}
use Rattle.fst_names.specs.Parts.{IsLonger}
use Rattle.fst_names.proofs.FaultlessLaws.{equation_sound, is_global, signed_once}
use Rattle.fst_names.proofs.FaultlessTrees.{same_scope, sound}
use Rattle.fst_names.proofs.OnceLaws.{among_right}

module _ (ds : List Declared) (d : Declarations) (h : IsFaultless ds d) where
  -- ---- the variables of a name's signature

  -- what is kept of a signature has its variables
  pub variables_kept : (x : List ℕ) (s : SignatureScope) → IsScopeFor d (signed ds x) (Some s) → s.vars ≡ vars_of (signed ds x)
  variables_kept x s kept = pick (signed ds x) refl kept
    where
      pick : (o : Option Signed) → signed ds x ≡ o → IsScopeFor d o (Some s) → s.vars ≡ vars_of o
      pick None is k = absurd k
      pick (Some g) is (e, own, scope) =
          let same : variables e.binders.now ≡ variables g.vars = ap (λ (z : Signed). variables z.vars) own in
          scope.vars.own (ap twice same ∙ signed_once ds (known_in d) ds x g (sound ds d h).decls is) ∙ ap names same

  -- and a name of which nothing is kept has none
  pub no_variables : (x : List ℕ) → IsScopeFor d (signed ds x) None → [] ≡ vars_of (signed ds x)
  no_variables x kept = pick (signed ds x) kept
    where
      pick : (o : Option Signed) → IsScopeFor d o None → [] ≡ vars_of o
      pick None k = refl
      pick (Some g) k = absurd k

  -- ---- what is in scope

  -- this is in scope in the equation of a name
  pub record IsAround (x : List ℕ) (a : code.Surroundings) : Type 0 where
    pub globals : a.globals.now ≡ d.equations
    pub makers : a.makers.now ≡ d.makers
    pub vars : a.vars.now ≡ vars_of (signed ds x)
    pub types : a.types.now ≡ d.types
    pub aliases : a.aliases.now ≡ d.aliases

  module _ (x : List ℕ) (a : code.Surroundings) (is : IsAround x a) where
    scope_is : (vars others : List (List ℕ)) → vars ≡ others → scope_of a vars ≡ module_scope ds (known_in d) others
    scope_is vars others same =
        (λ i. scope_with (same i) (declared_in (is.types i))
        (standing_in (is.types i) (final_trees (is.types i) (is.aliases i).looped.items (is.aliases i).order.items)))
        ∙ same_scope ds d h others

    -- each name is meant that is meant in the module
    alike : AreAlike (surroundings_of a) (surroundings ds (known_in d) x)
    unfolding surroundings_of
    alike = record {
      globals = λ y. ap (λ zs. is_among zs y) is.globals ∙ h.declared.equations.among y
          ∙ same_bool (is_among (names (equation_names ds)) y) (is_among (globals ds) y)
          (among_right (names (signature_names ds)) (names (equation_names ds)) y)
          (is_global ds (known_in d) (sound ds d h).decls y);
      makers = λ y. ap (λ ms. option_map (λ e. e.fields) (entry_of ms y)) is.makers ∙ h.declared.makers.fields y;
      types = λ w. ap (λ s. type_faults s w) (scope_is a.vars.now (vars_of (signed ds x)) is.vars);
      closed = λ w. ap (λ s. type_faults s w) (scope_is a.no_vars.now [] a.none);
    }

    -- names have the numbers that they have in the module
    numbers_are : numbers_of a ≡ numbers ds
    unfolding numbers_of
    numbers_are = λ i. record { globals = own i; makers = λ y. made y i }
      where
        own : a.globals.now ≡ names (equation_names ds)
        own = is.globals ∙ h.declared.equations.own (sound ds d h).equations_once

        made : (y : List ℕ) → option_map (λ e. (e.family, e.number)) (entry_of a.makers.now y) ≡ (numbers ds).makers y
        made y = ap (λ ms. option_map (λ e. (e.family, e.number)) (entry_of ms y)) is.makers ∙ h.declared.makers.numbers y

    -- a type in the body stands for what it stands for in the module
    use_stands : (u : TypeUse) → tree_of (surroundings_of a) u ≡ tree_of (surroundings ds (known_in d) x) u
    unfolding surroundings_of
    use_stands (with_variables w) = ap (λ s. type_of s w) (scope_is a.vars.now (vars_of (signed ds x)) is.vars)
    use_stands (without w) = ap (λ s. type_of s w) (scope_is a.no_vars.now [] a.none)

  -- a body has no more faults there than in the module
  pub body_sound : (x : Binder) (ps : List Binder) (t : TermTree) (a : code.Surroundings) → IsAround x.name a →
      decl_faults ds (known_in d) (equation x ps t) ≡ [] → term_faults (surroundings_of a) (within ps []) t ≡ []
  body_sound x ps t a is e = same_term_faults (surroundings_of a) (surroundings ds (known_in d) x.name) (alike x.name a is)
      (within ps []) t ∙ (equation_sound ds (known_in d) x ps t e).body

  -- its term is that of the module
  pub body_term : (x : List ℕ) (xs : List (List ℕ)) (n : ℕ) (t : TermTree) (a : code.Surroundings) (own : CoreTree) →
      own ≡ core_term (numbers_of a) xs n t → IsAround x a → own ≡ core_term (numbers ds) xs n t
  body_term x xs n t a own e is = e ∙ ap (λ ns. core_term ns xs n t) (numbers_are x a is)

  -- and its types are put behind others
  pub body_longer : (x : List ℕ) (us : List TypeUse) (old new : TypeList) (a : code.Surroundings) →
      map Some new.types.items ≡ map Some old.types.items ++ map (tree_of (surroundings_of a)) us →
      new.places.items ≡ old.places.items ++ map begins_at us → IsAround x a →
      IsLonger old (map (λ (u : TypeUse). record { at = begins_at u; stands = tree_of (surroundings ds (known_in d) x) u })
      us) new
  body_longer x us old new a types places is = record {
    types = types ∙ ap (λ ts. map Some old.types.items ++ ts) (stand us);
    places = places ∙ ap (λ ns. old.places.items ++ ns) (begin us);
  }
    where
      use_at : TypeUse → TypeAt
      use_at u = record { at = begins_at u; stands = tree_of (surroundings ds (known_in d) x) u }

      stand : (vs : List TypeUse) → map (tree_of (surroundings_of a)) vs ≡ map (λ (t : TypeAt). t.stands) (map use_at vs)
      stand [] = refl
      stand (v ∷ vs) = λ i. use_stands x a is v i ∷ stand vs i

      begin : (vs : List TypeUse) → map begins_at vs ≡ map (λ (t : TypeAt). t.at) (map use_at vs)
      begin [] = refl
      begin (v ∷ vs) = ap (λ ns. begins_at v ∷ ns) (begin vs)
