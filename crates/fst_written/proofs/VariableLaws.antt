-- Each type that stands in a module has only the variables in scope there.
use Rattle.std.proofs.Common.{◌≡◌, refl, inl, inr, subst, sym, ℕ, zero, suc, ◌<◌, List, [], ◌∷◌, ◌++◌, length, Some, arith}
use Rattle.std.specs.Prelude.{slice_get, Contains}
use Rattle.std.specs.List.{AllByRecursion}
use Rattle.std.proofs.lemmas.List.Elements.{Contains-append_left, Contains-append_right, Contains-append_cases}
use Rattle.fst_base.proofs.Alls.{all_append, all_right}
use Rattle.fst_types.specs.Tree.{Tree}
use Rattle.fst_types.specs.Variables.{HasVariablesBelow}
use Rattle.fst_types.specs.declared.kind.Kind.{Kind}
use Rattle.fst_terms.specs.CoreTree.{CoreTree, local, global, int, bool, char, unit, pair, make, lambda, apply, let_in, split, if_else, case_of, operate, negate, new, send, receive, close, wait, select, match_with, fork, seq, CoreList, no_terms, term, CoreArms, no_arms, arm}
use Rattle.fst_terms.specs.Variables.{IsTypeOver, AreTypesOver, HasTypesOver, HaveTypesOver, HaveArmTypesOver, AreGlobalsOver, AreOthersClosed}
use Rattle.fst_terms.specs.declared.core_module.Module.{Module}
use Rattle.fst_terms.specs.declared.global.GlobalEntry.{GlobalEntry}
use Rattle.fst_derivations.specs.Modules.{Standing, all_open, types_in, types_in_all, types_in_arms, global_types, family_types}
use Rattle.fst_written.specs.Readings.{Reading, standing_readings, global_readings, closed_readings, others, readings}
use Rattle.fst_written.proofs.NumberLaws.{global_types_are, family_types_are}
use Rattle.fst_written.proofs.OtherLaws.{have_others}

module _ (types : List Tree) where
  -- the type is there, and has only the variables in scope
  abbrev IsOver : Reading → Type 0
  IsOver r = IsTypeOver (length r.vars) (slice_get types r.number)

  abbrev AllOver : List Reading → Type 0
  AllOver rs = AllByRecursion IsOver rs

  module _ (vars : List Kind) where
    -- so it is with each type that stands in an equation over these variables
    abbrev Over : List Standing → Type 0
    Over ps = AllOver (standing_readings vars ps)

    -- of those that stand behind one another
    over_append : (ps qs : List Standing) → Over ps → Over qs → Over (ps ++ qs)
    over_append [] qs h g = g
    over_append (p ∷ ps) qs h g = (h.0, over_append ps qs h.1 g)

    -- of those where the variables are in scope
    over_open : (ks : List ℕ) → AreTypesOver types (length vars) ks → Over (all_open ks)
    over_open [] h = tt
    over_open (k ∷ ks) h = (h.0, over_open ks h.1)

    mutual
      -- of those in a term
      term_over : (t : CoreTree) → HasTypesOver types (length vars) t → Over (types_in t)
      term_over (local at k) h = tt
      term_over (global at k ks) h = over_open ks h
      term_over (int at i) h = tt
      term_over (bool at v) h = tt
      term_over (char at c) h = tt
      term_over (unit at) h = tt
      term_over (pair at s t) h = over_append (types_in s) (types_in t) (term_over s h.0) (term_over t h.1)
      term_over (make at f k ts) h = all_over ts h
      term_over (lambda at u a x t) h = (h.0, term_over t h.1)
      term_over (apply at s t) h = over_append (types_in s) (types_in t) (term_over s h.0) (term_over t h.1)
      term_over (let_in at x s t) h = over_append (types_in s) (types_in t) (term_over s h.0) (term_over t h.1)
      term_over (split at x y s t) h = over_append (types_in s) (types_in t) (term_over s h.0) (term_over t h.1)
      term_over (if_else at s t u) h = over_append (types_in s) (types_in t ++ types_in u) (term_over s h.0)
          (over_append (types_in t) (types_in u) (term_over t h.1) (term_over u h.2))
      term_over (case_of at t bs) h = over_append (types_in t) (types_in_arms bs) (term_over t h.0) (arms_over bs h.1)
      term_over (operate at o s t) h = over_append (types_in s) (types_in t) (term_over s h.0) (term_over t h.1)
      term_over (negate at t) h = term_over t h
      term_over (new at a) h = (h, tt)
      term_over (send at s t) h = over_append (types_in s) (types_in t) (term_over s h.0) (term_over t h.1)
      term_over (receive at t) h = term_over t h
      term_over (close at t) h = term_over t h
      term_over (wait at t) h = term_over t h
      term_over (select at l t) h = term_over t h
      term_over (match_with at t bs) h = over_append (types_in t) (types_in_arms bs) (term_over t h.0) (arms_over bs h.1)
      term_over (fork at t) h = term_over t h
      term_over (seq at s t) h = over_append (types_in s) (types_in t) (term_over s h.0) (term_over t h.1)

      -- in some terms
      all_over : (ts : CoreList) → HaveTypesOver types (length vars) ts → Over (types_in_all ts)
      all_over no_terms h = tt
      all_over (term t ts) h = over_append (types_in t) (types_in_all ts) (term_over t h.0) (all_over ts h.1)

      -- and in arms
      arms_over : (bs : CoreArms) → HaveArmTypesOver types (length vars) bs → Over (types_in_arms bs)
      arms_over no_arms h = tt
      arms_over (arm l xs t bs) h = over_append (types_in t) (types_in_arms bs) (term_over t h.0) (arms_over bs h.1)

  -- of the types that stand in globals
  globals_over : (gs : List GlobalEntry) → AreGlobalsOver types gs → AllOver (global_readings gs)
  globals_over [] h = tt
  globals_over (g ∷ gs) h =
      let vars = g.kinds.items in (
        h.0,
        all_append IsOver (standing_readings vars (types_in g.body)) (global_readings gs) (term_over vars g.body h.1)
            (globals_over gs h.2),
      )

  -- and of types over no variables
  closed_over : (ks : List ℕ) → AreTypesOver types 0 ks → AllOver (closed_readings ks)
  closed_over [] h = tt
  closed_over (k ∷ ks) h = (h.0, closed_over ks h.1)

  -- the same of each of these numbers
  none_over : (ks : List ℕ) → AllByRecursion (λ k. IsTypeOver 0 (slice_get types k)) ks → AllOver (closed_readings ks)
  none_over [] h = tt
  none_over (k ∷ ks) h = (h.0, none_over ks h.1)

-- what holds of the k-th type, where there is one
there : (ts : List Tree) (k : ℕ) → k < length ts →
    ((t : Tree) → slice_get ts k ≡ Some t → HasVariablesBelow 0 t) → IsTypeOver 0 (slice_get ts k)
there [] k lt h = absurd (omega arith)
there (t ∷ ts) zero lt h = h t refl
there (t ∷ ts) (suc k) lt h = there ts k (omega arith) h

-- what is among some and others is among the others and these
contains_either : (ks js : List ℕ) (k : ℕ) → Contains (ks ++ js) k → Contains (js ++ ks) k
contains_either ks js k h =
    elim (Contains-append_cases ks js k h) [
      | inl at ↦ Contains-append_right js ks k at
      | inr at ↦ Contains-append_left js ks k at
    ]

module _ (m : Module) where
  -- each type that stands in the module has only the variables in scope there
  readings_over : AllByRecursion (IsOver m.types.items) (readings m)
  readings_over =
      let types = m.types.items in
      let globals = m.globals.items in
      let families = m.families.items in
      let standing = global_types globals ++ family_types families in
      let left = others standing (length types) in
      let fields = subst (AreTypesOver types 0) (sym (family_types_are families)) m.whole.field_variables in
      let whole : AreOthersClosed (family_types families ++ global_types globals) types =
      subst (λ ks. AreOthersClosed ks types) (λ i. sym (family_types_are families) i ++ sym (global_types_are globals) i)
      m.whole.other_variables in
      let closed : (k : ℕ) → k < length types → (Contains standing k → ⊥) → IsTypeOver 0 (slice_get types k) =
      λ k lt none. there types k lt (λ t is. whole k t is
      (λ at. none (contains_either (family_types families) (global_types globals) k at))) in
      all_append (IsOver types) (global_readings globals) (closed_readings (family_types families) ++ closed_readings left)
      (globals_over types globals m.whole.global_variables)
      (all_append (IsOver types) (closed_readings (family_types families)) (closed_readings left)
      (closed_over types (family_types families) fields)
      (none_over types left (have_others (λ k. IsTypeOver 0 (slice_get types k)) standing (length types) closed)))

  -- so has the one that stands between others
  pub reading_over : (r : Reading) (t : Tree) (before after : List Reading) → readings m ≡ before ++ r ∷ after →
      slice_get m.types.items r.number ≡ Some t → HasVariablesBelow (length r.vars) t
  reading_over r t before after stands is =
      let all = subst (AllByRecursion (IsOver m.types.items)) stands readings_over in
      subst (IsTypeOver (length r.vars)) is (all_right (IsOver m.types.items) before (r ∷ after) all).0
