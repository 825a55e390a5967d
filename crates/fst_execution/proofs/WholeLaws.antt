-- In a module that has derivations the arms of each `case` are those of one data type.
use Rattle.std.proofs.Common.{List, [], ◌∷◌}
use Rattle.fst_types.specs.Tree.{Tree}
use Rattle.fst_terms.specs.CoreTree.{CoreTree, local, global, int, bool, char, unit, pair, make, lambda, apply, let_in, split, if_else, case_of, operate, negate, new, send, receive, close, wait, select, match_with, fork, seq, CoreList, no_terms, term, CoreArms, no_arms, arm}
use Rattle.fst_terms.specs.declared.core_module.Module.{Module}
use Rattle.fst_terms.specs.declared.global.GlobalEntry.{GlobalEntry}
use Rattle.fst_context.specs.Scope.{Variable, is_once}
use Rattle.fst_context.specs.Vars.{Vars, no_vars, under}
use Rattle.fst_derivations.specs.Deriv.{Deriv, Derivs, type_of}
use Rattle.fst_derivations.specs.Modules.{HasDerivations, AreDerived, surroundings}
use Rattle.fst_derivations.specs.Parts.{IsConversion, enter_all, under_all}
use Rattle.fst_derivations.specs.Rules.{Surroundings, Mode, converting, Binding, Row, Fields, Arms, FurtherArms}
use Rattle.fst_machine.specs.Programs.{bodies}
use Rattle.fst_code.specs.Whole.{AreCasesWhole, AreAllWhole, AreArmsWhole, AreBodiesWhole}

module _ (m : Surroundings) (S : Mode) where
  mutual
    -- so it is in a term that has a row
    row_whole : (e : CoreTree) (g : List Variable) (u : Vars) (c : Deriv) → Row m S e g u c → AreCasesWhole m.families e
    row_whole (local at k) g u c h = tt
    row_whole (global at k ks) g u c h = tt
    row_whole (int at n) g u c h = tt
    row_whole (bool at b) g u c h = tt
    row_whole (char at n) g u c h = tt
    row_whole (unit at) g u c h = tt
    row_whole (pair at a b) g u c (d, l, x, q) = (
      row_whole a g x.left x.first.core x.first.rule,
      row_whole b g x.right x.second.core x.second.rule,
    )
    row_whole (make at n k es) g u c (o, ts, ds, p, i, x, q) = fields_whole es ts g u ds x
    row_whole (lambda at uses k y a) g u c (t, n, d, p, w, b, o, x, q) =
        row_whole a (record { type = t; uses = n } ∷ g) (under (is_once n) u) x.core x.rule
    row_whole (apply at a b) g u c (d, l, uses, s, t, x, p, q) =
        (row_whole a g x.left x.first.core x.first.rule, row_whole b g x.right x.second.core x.second.rule)
    row_whole (let_in at y a b) g u c (d, l, n, x, w, q) = (
      row_whole a g x.left x.first.core x.first.rule,
      row_whole b (record { type = type_of d; uses = n } ∷ g) (under (is_once n) x.right) x.second.core x.second.rule,
    )
    row_whole (split at y z a b) g u c (d, l, s, t, n, o, x, p, i, j, q) = (
      row_whole a g x.left x.first.core x.first.rule,
      row_whole b (record { type = t; uses = o } ∷ record { type = s; uses = n } ∷ g)
          (under (is_once o) (under (is_once n) x.right)) x.second.core x.second.rule,
    )
    row_whole (if_else at a b o) g u c (d, k, l, x, q) = (
      row_whole a g x.left x.first.core x.first.rule,
      row_whole b g x.right x.second.0.core x.second.0.rule,
      row_whole o g x.right x.second.1.core x.second.1.rule,
    )
    row_whole (case_of at a bs) g u c (d, n, f, t, ds, x, p, there, once, q) = (
      row_whole a g x.left x.first.core x.first.rule,
      arms_whole _ bs g x.right t ds x.second,
      record { number = n; family = f; there = there; each_once = once },
    )
    row_whole (operate at o a b) g u c (d, l, s, t, i, x, q) =
        (row_whole a g x.left x.first.core x.first.rule, row_whole b g x.right x.second.core x.second.rule)
    row_whole (negate at a) g u c (d, x, q) = row_whole a g u x.core x.rule
    row_whole (new at k) g u c h = tt
    row_whole (send at a b) g u c (d, l, k, t, x, p, i, q) =
        (row_whole a g x.left x.first.core x.first.rule, row_whole b g x.right x.second.core x.second.rule)
    row_whole (receive at a) g u c (d, k, t, x, p, q) = row_whole a g u x.core x.rule
    row_whole (close at a) g u c (d, t, x, p, q) = row_whole a g u x.core x.rule
    row_whole (wait at a) g u c (d, t, x, p, q) = row_whole a g u x.core x.rule
    row_whole (select at l a) g u c (d, t, x, p, q) = row_whole a g u x.core x.rule
    row_whole (match_with at a bs) g u c (d, ls, t, ds, x, i, l, q) =
        (row_whole a g x.left x.first.core x.first.rule, arms_whole _ bs g x.right t ds x.second)
    row_whole (fork at a) g u c (d, x, w, q) = row_whole a g u x.core x.rule
    row_whole (seq at a b) g u c (d, l, x, w, q) =
        (row_whole a g x.left x.first.core x.first.rule, row_whole b g x.right x.second.core x.second.rule)

    -- and in the terms of fields
    fields_whole : (es : CoreList) (ts : List Tree) (g : List Variable) (u : Vars) (ds : Derivs) → Fields m S es ts g u ds →
        AreAllWhole m.families es
    fields_whole no_terms ts g u ds h = tt
    fields_whole (term e es) [] g u ds h = absurd h
    fields_whole (term e es) (t ∷ ts) g u ds (d, more, x, q) =
        (row_whole e g x.left x.first.core x.first.rule, fields_whole es ts g x.right more x.second)

    -- and in the terms of arms
    arms_whole : (b : Binding) (bs : CoreArms) (g : List Variable) (u : Vars) (t : Tree) (ds : Derivs) → Arms m S b bs g u t ds →
        AreArmsWhole m.families bs
    arms_whole b no_arms g u t ds h = absurd h
    arms_whole b (arm l xs e bs) g u t ds (ts, vs, d, more, i, j, r, n, x, p, y, q) =
        (row_whole e (enter_all vs g) (under_all vs u) x.core x.rule, further_whole b bs g u t more y)

    -- also in those of further ones
    further_whole : (b : Binding) (bs : CoreArms) (g : List Variable) (u : Vars) (t : Tree) (ds : Derivs) →
        FurtherArms m S b bs g u t ds → AreArmsWhole m.families bs
    further_whole b no_arms g u t ds h = tt
    further_whole b (arm l xs e bs) g u t ds (ts, vs, d, more, i, j, r, n, x, y, q) =
        (row_whole e (enter_all vs g) (under_all vs u) x.core x.rule, further_whole b bs g u t more y)

globals_whole : (m : Module) (gs : List GlobalEntry) (ds : List Deriv) → AreDerived m IsConversion gs ds →
    AreBodiesWhole m.families.items (bodies gs)
globals_whole m [] ds h = tt
globals_whole m (g ∷ gs) [] h = absurd h
globals_whole m (g ∷ gs) (d ∷ ds) ((t, there, x), more) = (
  row_whole (surroundings m g.kinds.items) (converting (IsConversion g.kinds.items)) g.body [] no_vars x.core x.rule,
  globals_whole m gs ds more,
)

-- so it is in the bodies of a module that has derivations
pub derived_whole : (m : Module) (ds : List Deriv) → HasDerivations m ds →
    AreBodiesWhole m.families.items (bodies m.globals.items)
derived_whole m ds h = globals_whole m m.globals.items ds h.equations
