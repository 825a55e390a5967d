-- The numbers of the types that stand in a module are the same, whether or not the variables in scope are told with them.
use Rattle.std.proofs.Common.{◌≡◌, ◌∙◌, refl, ap, sym, ℕ, List, [], ◌∷◌, ◌++◌, append_assoc, map}
use Rattle.std.proofs.lemmas.List.{map-append}
use Rattle.fst_types.specs.declared.family.Family.{Family}
use Rattle.fst_types.specs.declared.family.Maker.{Maker}
use Rattle.fst_terms.specs.CoreTree.{CoreTree, local, global, int, bool, char, unit, pair, make, lambda, apply, let_in, split, if_else, case_of, operate, negate, new, send, receive, close, wait, select, match_with, fork, seq, CoreList, no_terms, term, CoreArms, no_arms, arm}
use Rattle.fst_terms.specs.InRange.{makers}
use Rattle.fst_terms.specs.Variables.{type_numbers, all_type_numbers, arm_type_numbers, global_numbers, field_numbers}
use Rattle.fst_terms.specs.declared.global.GlobalEntry.{GlobalEntry}
use Rattle.fst_derivations.specs.Modules.{Standing, all_open, types_in, types_in_all, types_in_arms, global_types, maker_types, family_types}

-- the numbers of types that stand somewhere
abbrev numbers : List Standing → List ℕ
numbers ps = map (λ p. p.0) ps

-- those of two lists, one behind the other
both : (ps qs : List Standing) (ks js : List ℕ) → numbers ps ≡ ks → numbers qs ≡ js → numbers (ps ++ qs) ≡ ks ++ js
both ps qs ks js e f = map-append (λ (p : Standing). p.0) ps qs ∙ (λ i. e i ++ f i)

-- those of types where the variables are in scope
open_numbers : (ks : List ℕ) → numbers (all_open ks) ≡ ks
open_numbers [] = refl
open_numbers (k ∷ ks) = ap (λ js. k ∷ js) (open_numbers ks)

-- those of two terms
two_numbers : (s t : CoreTree) → numbers (types_in s) ≡ type_numbers s → numbers (types_in t) ≡ type_numbers t →
    numbers (types_in s ++ types_in t) ≡ type_numbers s ++ type_numbers t
two_numbers s t e f = both (types_in s) (types_in t) (type_numbers s) (type_numbers t) e f

-- those of a term and of the arms behind it
with_arms : (t : CoreTree) (bs : CoreArms) → numbers (types_in t) ≡ type_numbers t →
    numbers (types_in_arms bs) ≡ arm_type_numbers bs →
    numbers (types_in t ++ types_in_arms bs) ≡ type_numbers t ++ arm_type_numbers bs
with_arms t bs e f = both (types_in t) (types_in_arms bs) (type_numbers t) (arm_type_numbers bs) e f

mutual
  -- those of a term
  term_numbers : (t : CoreTree) → numbers (types_in t) ≡ type_numbers t
  term_numbers (local at k) = refl
  term_numbers (global at k ks) = open_numbers ks
  term_numbers (int at i) = refl
  term_numbers (bool at v) = refl
  term_numbers (char at c) = refl
  term_numbers (unit at) = refl
  term_numbers (pair at s t) = two_numbers s t (term_numbers s) (term_numbers t)
  term_numbers (make at f k ts) = all_numbers ts
  term_numbers (lambda at u a x t) = ap (λ ks. a ∷ ks) (term_numbers t)
  term_numbers (apply at s t) = two_numbers s t (term_numbers s) (term_numbers t)
  term_numbers (let_in at x s t) = two_numbers s t (term_numbers s) (term_numbers t)
  term_numbers (split at x y s t) = two_numbers s t (term_numbers s) (term_numbers t)
  term_numbers (if_else at s t u) = both (types_in s) (types_in t ++ types_in u) (type_numbers s)
      (type_numbers t ++ type_numbers u) (term_numbers s) (two_numbers t u (term_numbers t) (term_numbers u))
  term_numbers (case_of at t bs) = with_arms t bs (term_numbers t) (arm_numbers bs)
  term_numbers (operate at o s t) = two_numbers s t (term_numbers s) (term_numbers t)
  term_numbers (negate at t) = term_numbers t
  term_numbers (new at a) = refl
  term_numbers (send at s t) = two_numbers s t (term_numbers s) (term_numbers t)
  term_numbers (receive at t) = term_numbers t
  term_numbers (close at t) = term_numbers t
  term_numbers (wait at t) = term_numbers t
  term_numbers (select at l t) = term_numbers t
  term_numbers (match_with at t bs) = with_arms t bs (term_numbers t) (arm_numbers bs)
  term_numbers (fork at t) = term_numbers t
  term_numbers (seq at s t) = two_numbers s t (term_numbers s) (term_numbers t)

  -- of some terms
  all_numbers : (ts : CoreList) → numbers (types_in_all ts) ≡ all_type_numbers ts
  all_numbers no_terms = refl
  all_numbers (term t ts) = both (types_in t) (types_in_all ts) (type_numbers t) (all_type_numbers ts) (term_numbers t)
      (all_numbers ts)

  -- and of arms
  arm_numbers : (bs : CoreArms) → numbers (types_in_arms bs) ≡ arm_type_numbers bs
  arm_numbers no_arms = refl
  arm_numbers (arm l xs t bs) = with_arms t bs (term_numbers t) (arm_numbers bs)

-- those of globals
pub global_types_are : (gs : List GlobalEntry) → global_types gs ≡ global_numbers gs
global_types_are [] = refl
global_types_are (g ∷ gs) = λ i. g.signature ∷ (term_numbers g.body i ++ global_types_are gs i)

-- those of constructors' fields
maker_types_are : (os : List Maker) → maker_types os ≡ field_numbers os
maker_types_are [] = refl
maker_types_are (o ∷ os) = ap (λ ks. o.fields.items ++ ks) (maker_types_are os)

-- the fields of constructors, some behind others
fields_together : (os ps : List Maker) → field_numbers (os ++ ps) ≡ field_numbers os ++ field_numbers ps
fields_together [] ps = refl
fields_together (o ∷ os) ps = ap (λ ks. o.fields.items ++ ks) (fields_together os ps)
    ∙ sym (append_assoc o.fields.items (field_numbers os) (field_numbers ps))

-- those of data types' fields
pub family_types_are : (fs : List Family) → family_types fs ≡ field_numbers (makers fs)
family_types_are [] = refl
family_types_are (f ∷ fs) = (λ i. maker_types_are f.makers.items i ++ family_types_are fs i)
    ∙ sym (fields_together f.makers.items (makers fs))
