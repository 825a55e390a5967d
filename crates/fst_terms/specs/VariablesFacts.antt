-- That types in a module stand over so many variables has one proof at most, so a module can keep it.
use Rattle.std.specs.Prelude.{ℕ, ⊤, List, [], ◌∷◌, length, slice_get, Option, Some, None}
use Rattle.std.proofs.Math.Bridge.{le_prop}
use Rattle.fst_types.specs.Tree as tree
use Rattle.fst_types.specs.Tree.{Tree, Branches, none, branch}
use Rattle.fst_types.specs.Variables.{HasVariablesBelow, HaveVariablesBelow}
use Rattle.fst_terms.specs.declared.global.GlobalEntry.{GlobalEntry}
use Rattle.fst_terms.specs.CoreTree.{CoreTree, local, global, int, bool, char, unit, pair, make, lambda, apply, let_in, split, if_else, case_of, operate, negate, new, send, receive, close, wait, select, match_with, fork, seq, CoreList, no_terms, term, CoreArms, no_arms, arm}
use Rattle.fst_terms.specs.FilledFacts.{both, all_three}
use Rattle.fst_terms.specs.Variables.{IsTypeOver, AreTypesOver, HasTypesOver, HaveTypesOver, HaveArmTypesOver, AreGlobalsOver, AreOthersClosed}

-- what always holds has one proof
pub always : IsProp ⊤
always x y i = tt

-- and what never holds has none
pub never : IsProp ⊥
never x = absurd x

mutual
  variables_prop : (n : ℕ) (t : Tree) → IsProp (HasVariablesBelow n t)
  variables_prop n tree.skip = always
  variables_prop n (tree.send b) = always
  variables_prop n (tree.receive b) = always
  variables_prop n tree.close = always
  variables_prop n tree.wait = always
  variables_prop n (tree.select bs) = all_variables_prop n bs
  variables_prop n (tree.offer bs) = all_variables_prop n bs
  variables_prop n (tree.seq s t) = both (variables_prop n s) (variables_prop n t)
  variables_prop n (tree.rec t) = variables_prop n t
  variables_prop n (tree.back k) = always
  variables_prop n (tree.var k) = le_prop
  variables_prop n (tree.plain b) = always
  variables_prop n (tree.arrow u s t) = both (variables_prop n s) (variables_prop n t)
  variables_prop n (tree.pair s t) = both (variables_prop n s) (variables_prop n t)
  variables_prop n (tree.named k) = always

  all_variables_prop : (n : ℕ) (bs : Branches) → IsProp (HaveVariablesBelow n bs)
  all_variables_prop n none = always
  all_variables_prop n (branch l t bs) = both (variables_prop n t) (all_variables_prop n bs)

type_over_prop : (n : ℕ) (o : Option Tree) → IsProp (IsTypeOver n o)
type_over_prop n None = never
type_over_prop n (Some t) = variables_prop n t

module _ (types : List Tree) where
  -- of some numbers
  pub types_over_prop : (n : ℕ) (ks : List ℕ) → IsProp (AreTypesOver types n ks)
  types_over_prop n [] = always
  types_over_prop n (k ∷ ks) = both (type_over_prop n (slice_get types k)) (types_over_prop n ks)

  mutual
    term_over_prop : (n : ℕ) (t : CoreTree) → IsProp (HasTypesOver types n t)
    term_over_prop n (local at k) = always
    term_over_prop n (global at k ts) = types_over_prop n ts
    term_over_prop n (int at i) = always
    term_over_prop n (bool at v) = always
    term_over_prop n (char at c) = always
    term_over_prop n (unit at) = always
    term_over_prop n (pair at s t) = both (term_over_prop n s) (term_over_prop n t)
    term_over_prop n (make at f k ts) = terms_over_prop n ts
    term_over_prop n (lambda at u a x t) =
        both (type_over_prop n (slice_get types a)) (term_over_prop n t)
    term_over_prop n (apply at s t) = both (term_over_prop n s) (term_over_prop n t)
    term_over_prop n (let_in at x s t) = both (term_over_prop n s) (term_over_prop n t)
    term_over_prop n (split at x y s t) = both (term_over_prop n s) (term_over_prop n t)
    term_over_prop n (if_else at s t u) =
        all_three (term_over_prop n s) (term_over_prop n t) (term_over_prop n u)
    term_over_prop n (case_of at t bs) = both (term_over_prop n t) (arms_over_prop n bs)
    term_over_prop n (operate at o s t) = both (term_over_prop n s) (term_over_prop n t)
    term_over_prop n (negate at t) = term_over_prop n t
    term_over_prop n (new at a) = type_over_prop 0 (slice_get types a)
    term_over_prop n (send at s t) = both (term_over_prop n s) (term_over_prop n t)
    term_over_prop n (receive at t) = term_over_prop n t
    term_over_prop n (close at t) = term_over_prop n t
    term_over_prop n (wait at t) = term_over_prop n t
    term_over_prop n (select at l t) = term_over_prop n t
    term_over_prop n (match_with at t bs) = both (term_over_prop n t) (arms_over_prop n bs)
    term_over_prop n (fork at t) = term_over_prop n t
    term_over_prop n (seq at s t) = both (term_over_prop n s) (term_over_prop n t)

    terms_over_prop : (n : ℕ) (ts : CoreList) → IsProp (HaveTypesOver types n ts)
    terms_over_prop n no_terms = always
    terms_over_prop n (term t ts) = both (term_over_prop n t) (terms_over_prop n ts)

    arms_over_prop : (n : ℕ) (bs : CoreArms) → IsProp (HaveArmTypesOver types n bs)
    arms_over_prop n no_arms = always
    arms_over_prop n (arm l xs t bs) = both (term_over_prop n t) (arms_over_prop n bs)

  -- of globals
  pub globals_over_prop : (gs : List GlobalEntry) → IsProp (AreGlobalsOver types gs)
  globals_over_prop [] = always
  globals_over_prop (g ∷ gs) = all_three
      (type_over_prop (length g.kinds.items) (slice_get types g.signature))
      (term_over_prop (length g.kinds.items) g.body) (globals_over_prop gs)

-- of the other types
pub others_closed_prop : (numbers : List ℕ) (types : List Tree) →
    IsProp (AreOthersClosed numbers types)
others_closed_prop numbers types x y i k t e n = variables_prop 0 t (x k t e n) (y k t e n) i
