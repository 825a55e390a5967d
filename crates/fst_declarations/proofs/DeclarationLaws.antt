-- What is kept of a module's declarations, and their faults.
use Rattle.std.proofs.Common.{◌≡◌, ◌∙◌, ℕ, zero, suc, ◌<◌, Bool, true, false, List, [], ◌∷◌, ◌++◌, length, get_or, Option, Some, None, Bor, refl, sym, ap, subst, arith}
use Rattle.std.specs.Prelude.{min, option_map, option_and_then, slice_get, unwrap_or, if◌then◌else◌}
use Rattle.std.proofs.lemmas.List.{length-map}
use Rattle.std.proofs.lemmas.Option.{get_or_from_slice_get, slice_get-get_or}
use Rattle.fst_base.proofs.Lists.{get_there}
use Rattle.fst_loops.specs.Graphs.{IsOrder}
use Rattle.fst_types.specs.Tree.{Tree}
use Rattle.fst_types.specs.WrittenTree.{WrittenTree}
use Rattle.fst_types.specs.declared.kind.Kind.{Kind}
use Rattle.fst_terms.specs.ModuleTree.{Declared, signature, equation}
use Rattle.fst_terms.specs.Naming.{place_of, type_of}
use Rattle.fst_terms.specs.TermTree.{TermTree}
use Rattle.fst_terms.specs.declared.binder.Binder.{Binder}
use Rattle.fst_scopes.specs.declared.fault.NameFault.{NameFault}
use Rattle.fst_scopes.specs.declared.fault.NameFault.TheVariants.{AliasLoop}
use Rattle.fst_scopes.specs.declared.measure.Measure.{Measure}
use Rattle.fst_scopes.specs.declared.names.Names as scope
use Rattle.fst_scopes.specs.declared.types.TypeNames.{TypeNames}
use Rattle.fst_scopes.specs.Counted.{AreMeasures}
use Rattle.fst_scopes.specs.Graph.{entry_edges, graph_of}
use Rattle.fst_scopes.specs.Faults.{is_among, type_faults}
use Rattle.fst_scopes.specs.First.{earlier, first_from}
use Rattle.fst_scopes.specs.Measures.{arrows, ceiling, measure, measured}
use Rattle.fst_scopes.specs.Scopes.{AreTypeNames, counted, declared_in, standing_in}
use Rattle.fst_scopes.specs.Twice.{AreNames, names, twice, variables}
use Rattle.fst_scopes.specs.TypeNames.{scope_with, type_declared}
use Rattle.fst_scopes.proofs.Laws.{measures_long, same_faults, same_size, type_counted}
use Rattle.fst_term_faults.specs.CodeSurroundings.{entry_of}
use Rattle.fst_term_faults.specs.TermFaults.{Surroundings, term_faults, within}
use Rattle.fst_term_faults.specs.declared.surroundings.MakerEntry.{MakerEntry}
use Rattle.fst_term_faults.proofs.Laws.{AreAlike, same_term_faults}
use Rattle.fst_term_faults.proofs.Laws.{both_noted}
use Rattle.fst_declarations.specs.Declarations.{AreDeclarations, IsScopeFor, known_in, trees_in}
use Rattle.fst_declarations.specs.ModuleFaults.{Signed, alone, decl_faults, looped, more_parameters, module_scope, signed, signed_type, surroundings, vars_of}
use Rattle.fst_declarations.specs.ModuleNames.{equation_names, signature_names}
use Rattle.fst_declarations.specs.declared.declarations.Declarations.{Declarations}
use Rattle.fst_declarations.specs.SignatureScopes.{IsScopeOf, AreScopes}
use Rattle.fst_declarations.specs.Tables.{signed_of}
use Rattle.fst_declarations.specs.declared.scopes.SignatureScope.{SignatureScope}
use Rattle.fst_declarations.specs.declared.entries.SignatureEntry.{SignatureEntry}

-- ---- equations with more parameters than arrows

-- ---- what is kept of signatures

module _ (types : TypeNames) (trees : List (Option Tree)) where
  -- one more signature
  pub scopes_push : (es : List SignatureEntry) (ss : List SignatureScope) (e : SignatureEntry) (s : SignatureScope) →
      AreScopes types trees es ss → IsScopeOf types trees e s →
      AreScopes types trees (es ++ e ∷ []) (ss ++ s ∷ [])
  scopes_push [] [] e s are is = (is, tt)
  scopes_push [] (r ∷ ss) e s are is = absurd are
  scopes_push (d ∷ es) [] e s are is = absurd are
  scopes_push (d ∷ es) (r ∷ ss) e s are is = (are.0, scopes_push es ss e s are.1 is)

  -- what is kept of as many as there are
  pub scopes_long : (es : List SignatureEntry) (ss : List SignatureScope) → AreScopes types trees es ss → length ss ≡ length es
  scopes_long [] [] are = refl
  scopes_long [] (r ∷ ss) are = absurd are
  scopes_long (d ∷ es) [] are = absurd are
  scopes_long (d ∷ es) (r ∷ ss) are = ap suc (scopes_long es ss are.1)

  -- what is kept of one
  pub scope_at : (es : List SignatureEntry) (ss : List SignatureScope) (k : ℕ) (e : SignatureEntry) (s : SignatureScope) →
      AreScopes types trees es ss → k < length es → IsScopeOf types trees (get_or es k e) (get_or ss k s)
  scope_at [] ss k e s are low = absurd (omega (arith, low))
  scope_at (d ∷ es) [] k e s are low = absurd are
  scope_at (d ∷ es) (r ∷ ss) zero e s are low = are.0
  scope_at (d ∷ es) (r ∷ ss) (suc k) e s are low = let low' : k < length es = omega (arith, low) in
      scope_at es ss k e s are.1 low'

-- ---- types

-- the types that a table has are those that are declared
pub same_declared : (ds : List Declared) (types : TypeNames) → AreTypeNames ds types → declared_in types ≡ type_declared ds
same_declared ds types are = λ i x. are x i

-- a type has the faults that it has in the module
pub type_noted : (ds : List Declared) (d : Declarations) → AreDeclarations ds d → (xs ys : List (List ℕ)) →
    ((x : List ℕ) → is_among xs x ≡ is_among ys x) → (w : WrittenTree) →
    type_faults (scope_with xs (declared_in d.types) (standing_in d.types (trees_in d))) w ≡ type_faults
    (module_scope ds (known_in d) ys) w
type_noted ds d are xs ys same w =
    same_faults xs ys (declared_in d.types) (standing_in d.types (trees_in d)) same w ∙
    ap (λ declared. type_faults (scope_with ys declared (standing_in d.types (trees_in d))) w)
    (same_declared ds d.types are.types)

-- so has one without variables
pub closed_noted : (ds : List Declared) (d : Declarations) → AreDeclarations ds d → (w : WrittenTree) →
    type_faults (scope_with d.no_vars (declared_in d.types) (standing_in d.types (trees_in d))) w ≡ type_faults
    (module_scope ds (known_in d) []) w
closed_noted ds d are w = type_noted ds d are d.no_vars [] (λ x. ap (λ xs. is_among xs x) d.none) w

-- as much is counted of names of types as there are
pub counted_long : (d : Declarations) → length d.aliases.measures.items ≡ length d.types.names
counted_long d = measures_long d.types d.aliases.looped.items d.aliases.order.items d.aliases.measures.items d.measured

-- ---- signatures

-- the faults of a signature
pub signature_noted : (ds : List Declared) (d : Declarations) (x : Binder) (bs : List (Binder × Kind)) (w : WrittenTree)
    (vars : List (List ℕ)) (old one two new : Option NameFault) → AreDeclarations ds d → AreNames (variables bs) vars →
    one ≡ first_from old (alone (equation_names ds) x) → two ≡ first_from one (twice (variables bs)) →
    new ≡ first_from two (type_faults (scope_with vars (declared_in d.types) (standing_in d.types (trees_in d))) w) →
    new ≡ first_from old (decl_faults ds (known_in d) (signature x bs w))
signature_noted ds d x bs w vars old one two new are named first second third =
    both_noted (alone (equation_names ds) x) (twice (variables bs) ++ type_faults
    (module_scope ds (known_in d) (names (variables bs))) w) old one new first
    (both_noted (twice (variables bs)) (type_faults (module_scope ds (known_in d) (names (variables bs))) w) one two new second
    (third ∙ ap (first_from two) (type_noted ds d are vars (names (variables bs)) named.among w)))

-- ---- aliases that lead back to themselves

-- of as many names it is told whether they lie on a loop as there are
pub looped_long : (types : TypeNames) (looped : List Bool) (order : List ℕ) → IsOrder (graph_of types) order looped →
    length looped ≡ length types.names
looped_long types looped order is = is.told ∙ length-map types.entries.items (entry_edges types.names) ∙ types.paired

-- what is told of a name
told_of : (d : Declarations) (x : List ℕ) (k : ℕ) (b : Bool) → place_of d.types.names x ≡ Some k → k < length d.types.names →
    b ≡ get_or d.aliases.looped.items k b → (known_in d).loops x ≡ b
told_of d x k b at low is =
    let long = d.told in
    ap (λ o. unwrap_or (option_and_then (λ k. slice_get d.aliases.looped.items k) o) false) at ∙
    ap (λ o. unwrap_or o false) (slice_get-get_or d.aliases.looped.items k b (omega (arith, low, long))) ∙ sym is

-- a loop is noted
pub loop_noted : (d : Declarations) (x : Binder) (old new : Option NameFault) (k : ℕ) (b : Bool) →
    place_of d.types.names x.name ≡ Some k → k < length d.types.names → b ≡ get_or d.aliases.looped.items k b → b ≡ true →
    new ≡ earlier old (AliasLoop x.at x.name) → new ≡ first_from old (looped (known_in d) x)
loop_noted d x old new k b at low is back noted = noted ∙ ap
    (λ c. first_from old (if c then AliasLoop x.at x.name ∷ [] else [])) (sym (told_of d x.name k b at low is ∙ back))

-- and where there is none, nothing
pub no_loop_noted : (d : Declarations) (x : Binder) (old : Option NameFault) (k : ℕ) (b : Bool) →
    place_of d.types.names x.name ≡ Some k → k < length d.types.names → b ≡ get_or d.aliases.looped.items k b → b ≡ false →
    old ≡ first_from old (looped (known_in d) x)
no_loop_noted d x old k b at low is none = ap (λ c. first_from old (if c then AliasLoop x.at x.name ∷ [] else []))
    (sym (told_of d x.name k b at low is ∙ none))

-- ---- the signature of an equation

-- how many arrows are counted
arrows_counted : (o : Option Tree) → option_map (λ (m : Measure). m.arrows) (option_map measured o) ≡ option_map
    (λ t. min (arrows t) ceiling) o
arrows_counted None = refl
arrows_counted (Some t) = refl

-- so many are counted of a type
pub arrows_are : (vars : Bor (List (List ℕ))) (types : Bor TypeNames) (trees : List (Option Tree))
    (measures : List (Option Measure)) (w : WrittenTree) (o : Option Measure) → AreMeasures trees measures →
    o ≡ measure [] (counted vars.now types.now measures) w →
    option_map (λ (m : Measure). m.arrows) o ≡ option_map
    (λ t. min (arrows t) ceiling) (type_of (scope_with vars.now (declared_in types.now) (standing_in types.now trees)) w)
arrows_are vars types trees measures w o are is =
    ap (option_map (λ (m : Measure). m.arrows)) (is ∙ type_counted (scope.Outermost vars types) trees measures w are) ∙
    arrows_counted (type_of (scope_with vars.now (declared_in types.now) (standing_in types.now trees)) w)

-- what is kept of the signature of a name with one
pub scope_found : (ds : List Declared) (d : Declarations) → AreDeclarations ds d →
    (x : List ℕ) (k : ℕ) (s : SignatureScope) → place_of d.signatures.names x ≡ Some k → k < length d.signatures.names →
    s ≡ get_or d.scopes.items k s →
    IsScopeFor d (signed ds x) (Some s)
scope_found ds d are x k s at low is =
    let long = d.signatures.paired in
    let got = get_there d.signatures.entries.items k (omega (arith, low, long)) in
    let entry = sym (are.signatures.found x) ∙ ap
    (λ o. option_map signed_of (option_and_then (λ k. slice_get d.signatures.entries.items k) o)) at ∙ ap
    (option_map signed_of) got.1 in
    let e = get_or_from_slice_get d.signatures.entries.items k got.0 got.0 got.1 in
    subst (λ o. IsScopeFor d o (Some s)) (sym entry) (
      got.0,
      refl,
      subst (IsScopeOf d.types (trees_in d) got.0) (sym is)
          (subst (λ e. IsScopeOf d.types (trees_in d) e (get_or d.scopes.items k s)) e
          (scope_at d.types (trees_in d) d.signatures.entries.items d.scopes.items k got.0 s are.scopes
          (omega (arith, low, long)))),
    )

-- what an equation's signature gives: what is kept of its faults, and which variables there are
pub record IsScoped (ds : List Declared) (d : Declarations) (x : Binder) (ps : List Binder) (old new : Option NameFault)
    (vars : List (List ℕ)) : Type 0 where
  pub noted : new ≡ first_from old (more_parameters x.at (length ps) (signed_type ds (known_in d) (signed ds x.name)))
  pub same : (y : List ℕ) → is_among vars y ≡ is_among (vars_of (signed ds x.name)) y

module _ (ds : List Declared) (d : Declarations) (are : AreDeclarations ds d) (x : Binder) (ps : List Binder)
    (old new : Option NameFault) where
  -- as many arrows are counted as the type has in the module
  same_arrows : (g : Signed) (e : SignatureEntry) (s : SignatureScope) → signed_of e ≡ g → IsScopeOf d.types (trees_in d) e s →
      s.arrows ≡ option_map (λ t. min (arrows t) ceiling) (signed_type ds (known_in d) (Some g))
  same_arrows g e s is kept =
      kept.arrows_are ∙ sym (arrows_counted (type_of
      (scope_with s.vars (declared_in d.types) (standing_in d.types (trees_in d))) e.its_type.now)) ∙
      ap (option_map (λ (m : Measure). m.arrows)) (same_size s.vars (names (variables e.binders.now)) (declared_in d.types)
      (standing_in d.types (trees_in d)) kept.vars.among e.its_type.now) ∙
      arrows_counted (type_of (scope_with (names (variables e.binders.now)) (declared_in d.types)
      (standing_in d.types (trees_in d))) e.its_type.now) ∙
      ap (λ declared. option_map (λ t. min (arrows t) ceiling)
      (type_of (scope_with (names (variables e.binders.now)) declared (standing_in d.types (trees_in d))) e.its_type.now))
      (same_declared ds d.types are.types) ∙
      ap (λ g. option_map (λ t. min (arrows t) ceiling) (signed_type ds (known_in d) (Some g))) is

  -- with a signature
  pub found_scope : (s : SignatureScope) (vars : List (List ℕ)) → IsScopeFor d (signed ds x.name) (Some s) →
      ((t : Option Tree) → s.arrows ≡ option_map (λ t. min (arrows t) ceiling) t →
      new ≡ first_from old (more_parameters x.at (length ps) t)) → vars ≡ s.vars → IsScoped ds d x ps old new vars
  found_scope s vars kept noted is = pick (signed ds x.name) refl kept
    where
      pick : (o : Option Signed) → signed ds x.name ≡ o → IsScopeFor d o (Some s) → IsScoped ds d x ps old new vars
      pick None at k = absurd k
      pick (Some g) at (e, same, k) = record {
        noted = noted (signed_type ds (known_in d) (signed ds x.name))
            (same_arrows g e s same k ∙ ap (λ o. option_map (λ t. min (arrows t) ceiling) (signed_type ds (known_in d) o))
            (sym at));
        same = λ y. ap (λ zs. is_among zs y) is ∙ k.vars.among y ∙ ap (λ g. is_among (vars_of (Some g)) y) same ∙ ap
            (λ o. is_among (vars_of o) y) (sym at);
      }

  -- and without one
  pub missing_scope : (vars : List (List ℕ)) → IsScopeFor d (signed ds x.name) None → new ≡ old → vars ≡ d.no_vars →
      IsScoped ds d x ps old new vars
  missing_scope vars kept noted is = pick (signed ds x.name) refl kept
    where
      pick : (o : Option Signed) → signed ds x.name ≡ o → IsScopeFor d o None → IsScoped ds d x ps old new vars
      pick None at k = record {
        noted = noted ∙ ap (λ o. first_from old (more_parameters x.at (length ps) (signed_type ds (known_in d) o))) (sym at);
        same = λ y. ap (λ zs. is_among zs y) (is ∙ d.none) ∙ ap (λ o. is_among (vars_of o) y) (sym at);
      }
      pick (Some g) at k = absurd k

-- what is in scope in an equation with these variables
abbrev pub code_surroundings : Declarations → List (List ℕ) → Surroundings
code_surroundings d vars = record {
  globals = d.globals;
  makers = λ x. option_map (λ (e : MakerEntry). e.fields) (entry_of d.makers x);
  types = scope_with vars (declared_in d.types) (standing_in d.types (trees_in d));
  closed = scope_with d.no_vars (declared_in d.types) (standing_in d.types (trees_in d));
}

-- the faults of an equation
pub equation_noted : (ds : List Declared) (d : Declarations) (x : Binder) (ps : List Binder) (t : TermTree)
    (old one two new : Option NameFault) (vars : List (List ℕ)) → AreDeclarations ds d →
    one ≡ first_from old (alone (signature_names ds) x) → IsScoped ds d x ps one two vars →
    new ≡ first_from two (term_faults (code_surroundings d vars) (within ps []) t) →
    new ≡ first_from old (decl_faults ds (known_in d) (equation x ps t))
equation_noted ds d x ps t old one two new vars are first scoped last =
    let known = known_in d in
    let parameters = more_parameters x.at (length ps) (signed_type ds known (signed ds x.name)) in
    let body = term_faults (surroundings ds known x.name) (within ps []) t in
    both_noted (alone (signature_names ds) x) (parameters ++ body) old one new first
    (both_noted parameters body one two new scoped.noted
    (last ∙ ap (first_from two) (same_term_faults (code_surroundings d vars) (surroundings ds known x.name) alike
    (within ps []) t)))
  where
    alike : AreAlike (code_surroundings d vars) (surroundings ds (known_in d) x.name)
    alike = record {
      globals = are.global_names;
      makers = are.makers.fields;
      types = type_noted ds d are vars (vars_of (signed ds x.name)) scoped.same;
      closed = closed_noted ds d are;
    }
