-- That the parts of a module fit together has one proof at most, so a module can keep it.
use Rattle.std.specs.Prelude.{ℕ, ◌+◌, suc, List, [], ◌∷◌, ◌++◌, length, map, Option, Some, None}
use Rattle.std.specs.Str.{bytes_eq}
use Rattle.std.proofs.Math.Nat.{ℕ_set}
use Rattle.std.proofs.Math.Bridge.{le_prop}
use Rattle.std.proofs.lemmas.Map.Keys.{IsDistinct-prop}
use Rattle.fst_types.specs.Tree as tree
use Rattle.fst_types.specs.Tree.{Tree, Branches, none, branch}
use Rattle.fst_types.specs.Order.{EachChoice, EachChoiceBelow, AreSorted}
use Rattle.fst_types.specs.Scoped.{IsScoped, AllScoped}
use Rattle.fst_types.specs.Named.{IsNamedWithin, AllNamedWithin}
use Rattle.fst_types.specs.declared.family.Maker.{Maker}
use Rattle.fst_types.specs.declared.family.Family.{Family}
use Rattle.fst_terms.specs.declared.global.GlobalEntry.{GlobalEntry}
use Rattle.fst_terms.specs.CoreTree.{CoreTree, local, global, int, bool, char, unit, pair, make, lambda, apply, let_in, split, if_else, case_of, operate, negate, new, send, receive, close, wait, select, match_with, fork, seq, CoreList, no_terms, term, CoreArms, no_arms, arm}
use Rattle.fst_terms.specs.FilledFacts.{both, all_three, all_four}
use Rattle.fst_terms.specs.Variables.{field_numbers, global_numbers}
use Rattle.fst_terms.specs.VariablesFacts.{always, never, types_over_prop, globals_over_prop, others_closed_prop}
use Rattle.fst_terms.specs.InRange.{makers, maker_named, maker_of, HasFields, AreNumbersBelow, HasCoreArm, Bounds, IsInRange, AreInRange, AreCasesInRange, AreMatchesInRange, HaveFieldsInRange, AreFamilies, AreGlobals, AreTypes, IsModule}

fields_prop : (m : Option Maker) (n : ℕ) → IsProp (HasFields m n)
fields_prop (Some m) n = ℕ_set (length m.fields.items) n
fields_prop None n = never

numbers_prop : (n : ℕ) (ks : List ℕ) → IsProp (AreNumbersBelow n ks)
numbers_prop n [] = always
numbers_prop n (k ∷ ks) = both le_prop (numbers_prop n ks)

core_arm_prop : (bs : CoreArms) → IsProp (HasCoreArm bs)
core_arm_prop no_arms = never
core_arm_prop (arm l xs t bs) = always

module _ (b : Bounds) where
  mutual
    range_prop : (n : ℕ) (t : CoreTree) → IsProp (IsInRange b n t)
    range_prop n (local at k) = le_prop
    range_prop n (global at k ts) = both le_prop (numbers_prop b.types ts)
    range_prop n (int at i) = always
    range_prop n (bool at v) = always
    range_prop n (char at c) = always
    range_prop n (unit at) = always
    range_prop n (pair at s t) = both (range_prop n s) (range_prop n t)
    range_prop n (make at f k ts) = both (fields_prop _ _) (ranges_prop n ts)
    range_prop n (lambda at u a x t) = both le_prop (range_prop (suc n) t)
    range_prop n (apply at s t) = both (range_prop n s) (range_prop n t)
    range_prop n (let_in at x s t) = both (range_prop n s) (range_prop (suc n) t)
    range_prop n (split at x y s t) = both (range_prop n s) (range_prop (suc (suc n)) t)
    range_prop n (if_else at s t u) = all_three (range_prop n s) (range_prop n t) (range_prop n u)
    range_prop n (case_of at t bs) = all_three (core_arm_prop bs) (range_prop n t) (cases_prop n bs)
    range_prop n (operate at o s t) = both (range_prop n s) (range_prop n t)
    range_prop n (negate at t) = range_prop n t
    range_prop n (new at a) = le_prop
    range_prop n (send at s t) = both (range_prop n s) (range_prop n t)
    range_prop n (receive at t) = range_prop n t
    range_prop n (close at t) = range_prop n t
    range_prop n (wait at t) = range_prop n t
    range_prop n (select at l t) = range_prop n t
    range_prop n (match_with at t bs) =
        all_three (core_arm_prop bs) (range_prop n t) (matches_prop n bs)
    range_prop n (fork at t) = range_prop n t
    range_prop n (seq at s t) = both (range_prop n s) (range_prop n t)

    ranges_prop : (n : ℕ) (ts : CoreList) → IsProp (AreInRange b n ts)
    ranges_prop n no_terms = always
    ranges_prop n (term t ts) = both (range_prop n t) (ranges_prop n ts)

    cases_prop : (n : ℕ) (bs : CoreArms) → IsProp (AreCasesInRange b n bs)
    cases_prop n no_arms = always
    cases_prop n (arm l xs t bs) = all_three (fields_prop _ _) (range_prop (length xs + n) t)
        (cases_prop n bs)

    matches_prop : (n : ℕ) (bs : CoreArms) → IsProp (AreMatchesInRange b n bs)
    matches_prop n no_arms = always
    matches_prop n (arm l xs t bs) = all_three (ℕ_set (length xs) 1) (range_prop (suc n) t)
        (matches_prop n bs)

  globals_prop : (gs : List GlobalEntry) → IsProp (AreGlobals b gs)
  globals_prop [] = always
  globals_prop (g ∷ gs) = all_three le_prop (range_prop 0 g.body) (globals_prop gs)

have_fields_prop : (n : ℕ) (ms : List Maker) → IsProp (HaveFieldsInRange n ms)
have_fields_prop n [] = always
have_fields_prop n (m ∷ ms) = both (numbers_prop n m.fields.items) (have_fields_prop n ms)

families_prop : (n : ℕ) (fs : List Family) → IsProp (AreFamilies n fs)
families_prop n [] = always
families_prop n (f ∷ fs) = all_three le_prop (have_fields_prop n f.makers.items)
    (families_prop n fs)

sorted_prop : (bs : Branches) → IsProp (AreSorted bs)
sorted_prop none = never
sorted_prop (branch l t none) = always
sorted_prop (branch l t (branch m u bs)) = both
    (λ x y i e. never (x e) (y e) i) (sorted_prop (branch m u bs))

mutual
  scoped_prop : (n : ℕ) (t : Tree) → IsProp (IsScoped n t)
  scoped_prop n tree.skip = always
  scoped_prop n (tree.send b) = always
  scoped_prop n (tree.receive b) = always
  scoped_prop n tree.close = always
  scoped_prop n tree.wait = always
  scoped_prop n (tree.select bs) = all_scoped_prop n bs
  scoped_prop n (tree.offer bs) = all_scoped_prop n bs
  scoped_prop n (tree.seq s t) = both (scoped_prop n s) (scoped_prop n t)
  scoped_prop n (tree.rec t) = scoped_prop (suc n) t
  scoped_prop n (tree.back k) = le_prop
  scoped_prop n (tree.var k) = always
  scoped_prop n (tree.plain b) = always
  scoped_prop n (tree.arrow u s t) = both (scoped_prop n s) (scoped_prop n t)
  scoped_prop n (tree.pair s t) = both (scoped_prop n s) (scoped_prop n t)
  scoped_prop n (tree.named k) = always

  all_scoped_prop : (n : ℕ) (bs : Branches) → IsProp (AllScoped n bs)
  all_scoped_prop n none = always
  all_scoped_prop n (branch l t bs) = both (scoped_prop n t) (all_scoped_prop n bs)

mutual
  named_prop : (n : ℕ) (t : Tree) → IsProp (IsNamedWithin n t)
  named_prop n tree.skip = always
  named_prop n (tree.send b) = always
  named_prop n (tree.receive b) = always
  named_prop n tree.close = always
  named_prop n tree.wait = always
  named_prop n (tree.select bs) = all_named_prop n bs
  named_prop n (tree.offer bs) = all_named_prop n bs
  named_prop n (tree.seq s t) = both (named_prop n s) (named_prop n t)
  named_prop n (tree.rec t) = named_prop n t
  named_prop n (tree.back k) = always
  named_prop n (tree.var k) = always
  named_prop n (tree.plain b) = always
  named_prop n (tree.arrow u s t) = both (named_prop n s) (named_prop n t)
  named_prop n (tree.pair s t) = both (named_prop n s) (named_prop n t)
  named_prop n (tree.named k) = le_prop

  all_named_prop : (n : ℕ) (bs : Branches) → IsProp (AllNamedWithin n bs)
  all_named_prop n none = always
  all_named_prop n (branch l t bs) = both (named_prop n t) (all_named_prop n bs)

mutual
  choice_prop : (t : Tree) → IsProp (EachChoice AreSorted t)
  choice_prop tree.skip = always
  choice_prop (tree.send b) = always
  choice_prop (tree.receive b) = always
  choice_prop tree.close = always
  choice_prop tree.wait = always
  choice_prop (tree.select bs) = both (sorted_prop bs) (below_prop bs)
  choice_prop (tree.offer bs) = both (sorted_prop bs) (below_prop bs)
  choice_prop (tree.seq s t) = both (choice_prop s) (choice_prop t)
  choice_prop (tree.rec t) = choice_prop t
  choice_prop (tree.back k) = always
  choice_prop (tree.var k) = always
  choice_prop (tree.plain b) = always
  choice_prop (tree.arrow u s t) = both (choice_prop s) (choice_prop t)
  choice_prop (tree.pair s t) = both (choice_prop s) (choice_prop t)
  choice_prop (tree.named k) = always

  below_prop : (bs : Branches) → IsProp (EachChoiceBelow AreSorted bs)
  below_prop none = always
  below_prop (branch l t bs) = both (choice_prop t) (below_prop bs)

types_prop : (n : ℕ) (ts : List Tree) → IsProp (AreTypes n ts)
types_prop n [] = always
types_prop n (t ∷ ts) = all_four (scoped_prop 0 t) (named_prop n t) (choice_prop t)
    (types_prop n ts)

pub is_module_prop : (families : List Family) (globals : List GlobalEntry) (types : List Tree)
    (places : List ℕ) → IsProp (IsModule families globals types places)
is_module_prop families globals types places x y i = record {
  family_parts = families_prop (length types) families x.family_parts y.family_parts i;
  global_parts = globals_prop (record
      { families = families; globals = length globals; types = length types }) globals
      x.global_parts y.global_parts i;
  type_parts = types_prop (length families) types x.type_parts y.type_parts i;
  places_there = ℕ_set (length places) (length types) x.places_there y.places_there i;
  makers_differ = IsDistinct-prop bytes_eq
      (map (λ m. m.name) (makers families)) x.makers_differ y.makers_differ i;
  one_main = ℕ_set _ 1 x.one_main y.one_main i;
  field_variables = types_over_prop types 0
      (field_numbers (makers families)) x.field_variables y.field_variables i;
  global_variables = globals_over_prop types globals x.global_variables y.global_variables i;
  other_variables = others_closed_prop
      (field_numbers (makers families) ++ global_numbers globals) types x.other_variables
      y.other_variables i;
}
