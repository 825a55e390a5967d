-- What a value of a kind leads to; one of another kind leads nowhere.
use Rattle.std.proofs.Common.{ℕ, Bool, slice_get, sym, subst}
use Rattle.fst_terms.specs.CoreTree.{CoreTree}
use Rattle.fst_terms.specs.InRange.{maker_of, HasFields}
use Rattle.fst_machine.specs.Free.{free, outside}
use Rattle.fst_value.specs.ValueTree as tree
use Rattle.fst_value.specs.ValueTree.{ValueTree, ValueTrees}
use Rattle.fst_types.specs.declared.ends.EndName.{EndName}
use Rattle.fst_machine.specs.Values.{Value, Values, Environment, bool_in, count}
use Rattle.fst_machine.specs.Machine.{Pause, on, on_function, on_pair, on_made, on_end}
use Rattle.fst_machine.specs.Code.{Compiled}
use Rattle.fst_machine.specs.Spots.{Spot}
use Rattle.fst_machine.specs.Standing.{IsFunction, HasJust, Means, MeanAll, MeanCaptured, StandsFor}
use Rattle.fst_machine.proofs.Operators.{nothing}

module _ (n : ℕ) (c : Compiled) (S : ValueTree → Spot) where
  -- a pair
  pub pair_stands : (f : Value → Value → Pause) (z : ValueTree) (v : Value) → Means c z v →
      ((x y : ValueTree) (a b : Value) → Means c x a → Means c y b → StandsFor n c (S (tree.pair x y)) (f a b)) →
      StandsFor n c (S z) (on_pair v f)
  pair_stands f (tree.int i) v m g = subst (λ w. StandsFor n c (S (tree.int i)) (on_pair w f)) (sym m)
      (nothing n c (S (tree.int i)))
  pair_stands f (tree.bool b) v m g = subst (λ w. StandsFor n c (S (tree.bool b)) (on_pair w f)) (sym m)
      (nothing n c (S (tree.bool b)))
  pair_stands f (tree.char i) v m g = subst (λ w. StandsFor n c (S (tree.char i)) (on_pair w f)) (sym m)
      (nothing n c (S (tree.char i)))
  pair_stands f tree.unit v m g = subst (λ w. StandsFor n c (S tree.unit) (on_pair w f)) (sym m) (nothing n c (S tree.unit))
  pair_stands f (tree.pair x y) v m g = subst (λ w. StandsFor n c (S (tree.pair x y)) (on_pair w f)) (sym m.2)
      (g x y m.0 m.1 m.3 m.4)
  pair_stands f (tree.make i o xs) v m g = subst
      (λ w. StandsFor n c (S (tree.make i o xs)) (on_pair w f)) (sym m.1) (nothing n c (S (tree.make i o xs)))
  pair_stands f (tree.function l xs) v m g = subst
      (λ w. StandsFor n c (S (tree.function l xs)) (on_pair w f)) (sym m.3) (nothing n c (S (tree.function l xs)))
  pair_stands f (tree.end y) v m g = subst (λ w. StandsFor n c (S (tree.end y)) (on_pair w f)) (sym m)
      (nothing n c (S (tree.end y)))

  -- a function
  pub function_stands : (f : CoreTree → Environment → Pause) (z : ValueTree) (v : Value) → Means c z v →
      ((l : ℕ) (xs : ValueTrees) (e : CoreTree) (env : Environment) (h : IsFunction c l e) →
      MeanCaptured c xs h.entry.captured.items env → HasJust (outside (free e)) env →
      StandsFor n c (S (tree.function l xs)) (f e env)) →
      StandsFor n c (S z) (on_function v f)
  function_stands f (tree.int i) v m g = subst (λ w. StandsFor n c (S (tree.int i)) (on_function w f)) (sym m)
      (nothing n c (S (tree.int i)))
  function_stands f (tree.bool b) v m g = subst
      (λ w. StandsFor n c (S (tree.bool b)) (on_function w f)) (sym m) (nothing n c (S (tree.bool b)))
  function_stands f (tree.char i) v m g = subst
      (λ w. StandsFor n c (S (tree.char i)) (on_function w f)) (sym m) (nothing n c (S (tree.char i)))
  function_stands f tree.unit v m g = subst (λ w. StandsFor n c (S tree.unit) (on_function w f)) (sym m)
      (nothing n c (S tree.unit))
  function_stands f (tree.pair x y) v m g = subst
      (λ w. StandsFor n c (S (tree.pair x y)) (on_function w f)) (sym m.2) (nothing n c (S (tree.pair x y)))
  function_stands f (tree.make i o xs) v m g = subst
      (λ w. StandsFor n c (S (tree.make i o xs)) (on_function w f)) (sym m.1) (nothing n c (S (tree.make i o xs)))
  function_stands f (tree.function l xs) v m g = subst
      (λ w. StandsFor n c (S (tree.function l xs)) (on_function w f)) (sym m.3) (g l xs m.0 m.1 m.2 m.4 m.5)
  function_stands f (tree.end y) v m g = subst (λ w. StandsFor n c (S (tree.end y)) (on_function w f)) (sym m)
      (nothing n c (S (tree.end y)))

  -- a constructor
  pub made_stands : (f : ℕ → ℕ → Values → Pause) (z : ValueTree) (v : Value) → Means c z v →
      ((i o : ℕ) (xs : ValueTrees) (vs : Values) → HasFields (maker_of (slice_get c.families i) o) (count vs) → MeanAll c xs vs →
      StandsFor n c (S (tree.make i o xs)) (f i o vs)) →
      StandsFor n c (S z) (on_made v f)
  made_stands f (tree.int i) v m g = subst (λ w. StandsFor n c (S (tree.int i)) (on_made w f)) (sym m)
      (nothing n c (S (tree.int i)))
  made_stands f (tree.bool b) v m g = subst (λ w. StandsFor n c (S (tree.bool b)) (on_made w f)) (sym m)
      (nothing n c (S (tree.bool b)))
  made_stands f (tree.char i) v m g = subst (λ w. StandsFor n c (S (tree.char i)) (on_made w f)) (sym m)
      (nothing n c (S (tree.char i)))
  made_stands f tree.unit v m g = subst (λ w. StandsFor n c (S tree.unit) (on_made w f)) (sym m) (nothing n c (S tree.unit))
  made_stands f (tree.pair x y) v m g = subst (λ w. StandsFor n c (S (tree.pair x y)) (on_made w f)) (sym m.2)
      (nothing n c (S (tree.pair x y)))
  made_stands f (tree.make i o xs) v m g = subst
      (λ w. StandsFor n c (S (tree.make i o xs)) (on_made w f)) (sym m.1) (g i o xs m.0 m.2 m.3)
  made_stands f (tree.function l xs) v m g = subst
      (λ w. StandsFor n c (S (tree.function l xs)) (on_made w f)) (sym m.3) (nothing n c (S (tree.function l xs)))
  made_stands f (tree.end y) v m g = subst (λ w. StandsFor n c (S (tree.end y)) (on_made w f)) (sym m)
      (nothing n c (S (tree.end y)))

  -- an end
  pub end_stands : (f : EndName → Pause) (z : ValueTree) (v : Value) → Means c z v →
      ((y : EndName) → StandsFor n c (S (tree.end y)) (f y)) →
      StandsFor n c (S z) (on_end v f)
  end_stands f (tree.int i) v m g = subst (λ w. StandsFor n c (S (tree.int i)) (on_end w f)) (sym m)
      (nothing n c (S (tree.int i)))
  end_stands f (tree.bool b) v m g = subst (λ w. StandsFor n c (S (tree.bool b)) (on_end w f)) (sym m)
      (nothing n c (S (tree.bool b)))
  end_stands f (tree.char i) v m g = subst (λ w. StandsFor n c (S (tree.char i)) (on_end w f)) (sym m)
      (nothing n c (S (tree.char i)))
  end_stands f tree.unit v m g = subst (λ w. StandsFor n c (S tree.unit) (on_end w f)) (sym m) (nothing n c (S tree.unit))
  end_stands f (tree.pair x y) v m g = subst (λ w. StandsFor n c (S (tree.pair x y)) (on_end w f)) (sym m.2)
      (nothing n c (S (tree.pair x y)))
  end_stands f (tree.make i o xs) v m g = subst
      (λ w. StandsFor n c (S (tree.make i o xs)) (on_end w f)) (sym m.1) (nothing n c (S (tree.make i o xs)))
  end_stands f (tree.function l xs) v m g = subst
      (λ w. StandsFor n c (S (tree.function l xs)) (on_end w f)) (sym m.3) (nothing n c (S (tree.function l xs)))
  end_stands f (tree.end y) v m g = subst (λ w. StandsFor n c (S (tree.end y)) (on_end w f)) (sym m) (g y)

  -- a truth value
  pub truth_stands : (f : Bool → Pause) (z : ValueTree) (v : Value) → Means c z v →
      ((b : Bool) → StandsFor n c (S (tree.bool b)) (f b)) →
      StandsFor n c (S z) (on (bool_in v) f)
  truth_stands f (tree.int i) v m g = subst (λ w. StandsFor n c (S (tree.int i)) (on (bool_in w) f)) (sym m)
      (nothing n c (S (tree.int i)))
  truth_stands f (tree.bool b) v m g = subst (λ w. StandsFor n c (S (tree.bool b)) (on (bool_in w) f)) (sym m) (g b)
  truth_stands f (tree.char i) v m g = subst (λ w. StandsFor n c (S (tree.char i)) (on (bool_in w) f)) (sym m)
      (nothing n c (S (tree.char i)))
  truth_stands f tree.unit v m g = subst (λ w. StandsFor n c (S tree.unit) (on (bool_in w) f)) (sym m) (nothing n c (S tree.unit))
  truth_stands f (tree.pair x y) v m g = subst (λ w. StandsFor n c (S (tree.pair x y)) (on (bool_in w) f)) (sym m.2)
      (nothing n c (S (tree.pair x y)))
  truth_stands f (tree.make i o xs) v m g = subst
      (λ w. StandsFor n c (S (tree.make i o xs)) (on (bool_in w) f)) (sym m.1) (nothing n c (S (tree.make i o xs)))
  truth_stands f (tree.function l xs) v m g = subst
      (λ w. StandsFor n c (S (tree.function l xs)) (on (bool_in w) f)) (sym m.3) (nothing n c (S (tree.function l xs)))
  truth_stands f (tree.end y) v m g = subst (λ w. StandsFor n c (S (tree.end y)) (on (bool_in w) f)) (sym m)
      (nothing n c (S (tree.end y)))
