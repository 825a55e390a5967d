-- The faults of a type, from what is counted of it.
use Rattle.std.proofs.Common.{◌≡◌, ◌∙◌, ℕ, ◌<◌, ◌≤◌, min, List, [], ◌∷◌, ◌++◌, Bool, true, false, Option, Some, None, refl, sym, ap, arith}
use Rattle.std.specs.Prelude.{option_map, option_and_then, unwrap_or, map, slice_get, nat_lt, if◌then◌else◌}
use Rattle.std.proofs.lemmas.Bool.{ltb-true, lt-ltb}
use Rattle.std.proofs.lemmas.Option.{slice_get-map}
use Rattle.fst_base.proofs.Bools.{not_less}
use Rattle.fst_base.specs.Limits.{most_nodes}
use Rattle.fst_types.specs.Size.{nodes}
use Rattle.fst_types.specs.Tree as tree
use Rattle.fst_types.specs.Tree.{Tree}
use Rattle.fst_types.specs.WrittenTree.{WrittenTree}
use Rattle.fst_terms.specs.Naming.{place_of, or_else, is_there, type_of, place}
use Rattle.fst_scopes.specs.declared.fault.NameFault.{NameFault}
use Rattle.fst_scopes.specs.declared.fault.NameFault.TheVariants.{TooLarge}
use Rattle.fst_scopes.specs.declared.measure.Measure.{Measure}
use Rattle.fst_scopes.specs.declared.names.Names.{Names}
use Rattle.fst_scopes.specs.Counted.{AreMeasures}
use Rattle.fst_scopes.specs.Faults.{is_among, unbound, too_large, type_faults}
use Rattle.fst_scopes.specs.First.{earlier, first_from}
use Rattle.fst_scopes.specs.Measures.{measured, measure, leaf, ceiling}
use Rattle.fst_scopes.specs.Scopes.{recs_of, vars_of, types_of, of_name, flat, declared_in, standing_in, scope_around, counted_of, counted}
use Rattle.fst_scopes.specs.TypeNames.{TypeDecl, data_type, other_name, standing_for, scope_with}
use Rattle.fst_scopes.proofs.FirstLaws.{first_append}
use Rattle.fst_scopes.proofs.MeasureLaws.{measured_is}
use Rattle.fst_scopes.proofs.ScopeLaws.{standing_outside, same_unbound}

-- what is counted of a name's type, where as much is counted of each
flat_counted : (names : List (List ℕ)) (trees : List (Option Tree)) (x : List ℕ) →
    flat (of_name names (map (option_map measured) trees) x) ≡ option_map measured (flat (of_name names trees x))
flat_counted names trees x = at (place_of names x)
  where
    got : (o : Option (Option Tree)) → flat (option_map (option_map measured) o) ≡ option_map measured (flat o)
    got (Some o) = refl
    got None = refl

    at : (o : Option ℕ) → flat (option_and_then (λ k. slice_get (map (option_map measured) trees) k) o) ≡ option_map measured
        (flat (option_and_then (λ k. slice_get trees k) o))
    at (Some k) = ap flat (slice_get-map (option_map measured) trees k) ∙ got (slice_get trees k)
    at None = refl

-- what is counted of a name that no `rec` binds is counted of what it stands for
counted_is : (names : Names) (trees : List (Option Tree)) (measures : List (Option Measure)) → AreMeasures trees measures →
    (x : List ℕ) →
    counted (vars_of names) (types_of names) measures x ≡ option_map measured
    (unwrap_or (standing_outside (scope_around names trees) x) (Some tree.skip))
counted_is names trees measures are x = pick (place_of (vars_of names) x)
  where
    counted_here : (o : Option Measure) → o ≡ option_map measured (standing_in (types_of names) trees x) → (d : Option TypeDecl) →
        counted_of o d ≡ option_map measured (unwrap_or (standing_for (standing_in (types_of names) trees) x d) (Some tree.skip))
    counted_here o e None = refl
    counted_here o e (Some (data_type k)) = refl
    counted_here o e (Some (other_name w)) = e

    pick : (o : Option ℕ) → (if is_there o then Some leaf else counted_of (flat (of_name (types_of names).names measures x))
        (declared_in (types_of names) x)) ≡
        option_map measured (unwrap_or (or_else (option_map (λ k. Some (tree.var k)) o)
        (standing_for (standing_in (types_of names) trees) x (declared_in (types_of names) x))) (Some tree.skip))
    pick (Some k) = refl
    pick None = counted_here (flat (of_name (types_of names).names measures x))
        (ap (λ ms. flat (of_name (types_of names).names ms x)) are ∙ flat_counted (types_of names).names trees x)
        (declared_in (types_of names) x)

-- what is counted of a type
pub type_counted : (names : Names) (trees : List (Option Tree)) (measures : List (Option Measure)) (w : WrittenTree) →
    AreMeasures trees measures →
    measure (recs_of names) (counted (vars_of names) (types_of names) measures) w ≡ option_map measured
    (type_of (scope_around names trees) w)
type_counted names trees measures w are = measured_is (scope_around names trees)
    (counted (vars_of names) (types_of names) measures) (counted_is names trees measures are) (recs_of names) w

-- the names that aren't in scope, whatever the aliases stand for
pub same_names : (names : Names) (trees : List (Option Tree)) (w : WrittenTree) →
    unbound (scope_around names []) w ≡ unbound (scope_around names trees) w
same_names names trees w = same_unbound (scope_around names []) (scope_around names trees) same (recs_of names) w
  where
    declared_same : (x : List ℕ) (d : Option TypeDecl) →
        is_there (standing_for (standing_in (types_of names) []) x d) ≡ is_there
        (standing_for (standing_in (types_of names) trees) x d)
    declared_same x None = refl
    declared_same x (Some (data_type k)) = refl
    declared_same x (Some (other_name w)) = refl

    same : (x : List ℕ) → is_there (standing_outside (scope_around names []) x) ≡ is_there
        (standing_outside (scope_around names trees) x)
    same x = pick (place_of (vars_of names) x)
      where
        pick : (o : Option ℕ) → is_there (or_else (option_map (λ k. Some (tree.var k)) o)
            (standing_for (standing_in (types_of names) []) x (declared_in (types_of names) x))) ≡
            is_there (or_else (option_map (λ k. Some (tree.var k)) o)
            (standing_for (standing_in (types_of names) trees) x (declared_in (types_of names) x)))
        pick (Some k) = refl
        pick None = declared_same x (declared_in (types_of names) x)

-- that a type is too large, from what is counted of it
abbrev large_if : ℕ → Option Measure → List NameFault
large_if at (Some m) = if nat_lt most_nodes m.nodes then TooLarge at ∷ [] else []
large_if at None = []

capped : (n : ℕ) → nat_lt most_nodes (min n ceiling) ≡ nat_lt most_nodes n
capped n = pick (nat_lt most_nodes (min n ceiling)) refl (nat_lt most_nodes n) refl
  where
    pick : (b : Bool) → nat_lt most_nodes (min n ceiling) ≡ b → (c : Bool) → nat_lt most_nodes n ≡ c → b ≡ c
    pick true e true f = refl
    pick false e false f = refl
    pick true e false f = let lt = ltb-true most_nodes (min n ceiling) e in sym (lt-ltb most_nodes n (omega (arith, lt))) ∙ f
    pick false e true f = let lt = ltb-true most_nodes n f in sym e ∙ lt-ltb most_nodes (min n ceiling) (omega (arith, lt))

large_same : (at : ℕ) (o : Option Tree) → large_if at (option_map measured o) ≡ too_large at o
large_same at (Some t) = ap (λ b. if b then TooLarge at ∷ [] else []) (capped (nodes t))
large_same at None = refl

-- what is kept of a type's faults
module _ (names : Names) (trees : List (Option Tree)) (measures : List (Option Measure)) (w : WrittenTree)
    (are : AreMeasures trees measures) (old kept : Option NameFault) (o : Option Measure)
    (noted : kept ≡ first_from old (unbound (scope_around names []) w))
    (counts : o ≡ measure (recs_of names) (counted (vars_of names) (types_of names) measures) w) where
  whole : first_from kept (large_if (place w) o) ≡ first_from old (type_faults (scope_around names trees) w)
  whole =
      ap (λ k. first_from k (large_if (place w) o)) (noted ∙ ap (first_from old) (same_names names trees w)) ∙
      ap (λ fs. first_from (first_from old (unbound (scope_around names trees) w)) fs)
      (ap (large_if (place w)) (counts ∙ type_counted names trees measures w are)
      ∙ large_same (place w) (type_of (scope_around names trees) w)) ∙
      sym (first_append old (unbound (scope_around names trees) w) (too_large (place w) (type_of (scope_around names trees) w)))

  pub large_noted : (m : Measure) (new : Option NameFault) → o ≡ Some m → most_nodes < m.nodes →
      new ≡ earlier kept (TooLarge (place w)) → new ≡ first_from old (type_faults (scope_around names trees) w)
  large_noted m new is large e =
      e ∙ sym (ap (λ b. first_from kept (if b then TooLarge (place w) ∷ [] else [])) (lt-ltb most_nodes m.nodes large)) ∙ ap
      (λ z. first_from kept (large_if (place w) z)) (sym is) ∙ whole

  pub small_noted : (m : Measure) (new : Option NameFault) → o ≡ Some m → m.nodes ≤ most_nodes → new ≡ kept →
      new ≡ first_from old (type_faults (scope_around names trees) w)
  small_noted m new is small e = e ∙ sym (pick (nat_lt most_nodes m.nodes) refl) ∙ ap
      (λ z. first_from kept (large_if (place w) z)) (sym is) ∙ whole
    where
      pick : (b : Bool) → nat_lt most_nodes m.nodes ≡ b → first_from kept (if b then TooLarge (place w) ∷ [] else []) ≡ kept
      pick true is = let lt = ltb-true most_nodes m.nodes is in absurd (omega (arith, lt, small))
      pick false is = refl

  pub nothing_noted : (new : Option NameFault) → o ≡ None → new ≡ kept →
      new ≡ first_from old (type_faults (scope_around names trees) w)
  nothing_noted new is e = e ∙ ap (λ z. first_from kept (large_if (place w) z)) (sym is) ∙ whole

-- ---- variables of which the same names are among others

module _ (xs ys : List (List ℕ)) (declared : List ℕ → Option TypeDecl) (aliases : List ℕ → Option Tree)
    (same : (x : List ℕ) → is_among xs x ≡ is_among ys x) where
  both_there : (x : List ℕ) (v w : Option ℕ) → is_there v ≡ is_there w →
      is_there (or_else (option_map (λ k. Some (tree.var k)) v) (standing_for aliases x (declared x))) ≡ is_there
      (or_else (option_map (λ k. Some (tree.var k)) w) (standing_for aliases x (declared x)))
  both_there x (Some k) (Some j) e = refl
  both_there x (Some k) None e = absurd (cc e)
  both_there x None (Some j) e = absurd (cc e)
  both_there x None None e = refl

  both_counted : (x : List ℕ) (v w : Option ℕ) → is_there v ≡ is_there w →
      option_map measured (unwrap_or (or_else (option_map (λ k. Some (tree.var k)) v) (standing_for aliases x (declared x)))
      (Some tree.skip)) ≡
      option_map measured (unwrap_or (or_else (option_map (λ k. Some (tree.var k)) w) (standing_for aliases x (declared x)))
      (Some tree.skip))
  both_counted x (Some k) (Some j) e = refl
  both_counted x (Some k) None e = absurd (cc e)
  both_counted x None (Some j) e = absurd (cc e)
  both_counted x None None e = refl

  -- what is counted of a name outside
  outside : List (List ℕ) → List ℕ → Option Measure
  outside vars x = option_map measured (unwrap_or (standing_outside (scope_with vars declared aliases) x) (Some tree.skip))

  same_outside : outside xs ≡ outside ys
  unfolding outside
  same_outside = λ i x. both_counted x (place_of xs x) (place_of ys x) (same x) i

  -- a type is as large
  pub same_size : (w : WrittenTree) → option_map measured (type_of (scope_with xs declared aliases) w) ≡ option_map measured
      (type_of (scope_with ys declared aliases) w)
  unfolding outside
  same_size w =
      sym (measured_is (scope_with xs declared aliases) (outside xs) (λ x. refl) [] w) ∙ ap (λ m. measure [] m w) same_outside
      ∙ measured_is (scope_with ys declared aliases) (outside ys) (λ x. refl) [] w

  -- a type has the same faults
  pub same_faults : (w : WrittenTree) → type_faults (scope_with xs declared aliases) w ≡ type_faults
      (scope_with ys declared aliases) w
  same_faults w = λ i.
      same_unbound (scope_with xs declared aliases) (scope_with ys declared aliases)
      (λ x. both_there x (place_of xs x) (place_of ys x) (same x)) [] w i ++
      (sym (large_same (place w) (type_of (scope_with xs declared aliases) w)) ∙ ap (large_if (place w)) (same_size w)
      ∙ large_same (place w) (type_of (scope_with ys declared aliases) w)) i

-- ---- types without faults

pub no_larger : (at : ℕ) (t : Tree) → too_large at (Some t) ≡ [] → nodes t ≤ most_nodes
no_larger at t e = pick (nat_lt most_nodes (nodes t)) refl e
  where
    pick : (c : Bool) → nat_lt most_nodes (nodes t) ≡ c → (if c then TooLarge at ∷ [] else []) ≡ [] → nodes t ≤ most_nodes
    pick true is e = absurd (cc e)
    pick false is e = not_less most_nodes (nodes t) is
