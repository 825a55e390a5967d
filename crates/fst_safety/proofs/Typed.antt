-- The types of terms and of values up to equality, and the values of variables.
use Rattle.std.proofs.Common.{◌≡◌, ℕ, zero, suc, List, [], ◌∷◌, Bool, true, false, Some, refl, sym, subst}
use Rattle.std.specs.Prelude.{slice_get}
use Rattle.std.proofs.lemmas.Bool.{false≢true}
use Rattle.fst_base.proofs.Options.{some_same}
use Rattle.fst_types.specs.Tree.{Tree}
use Rattle.fst_terms.specs.CoreTree.{CoreTree, local, global, int, bool, char, unit, pair, make, lambda, apply, let_in, split, if_else, case_of, operate, negate, new, send, receive, close, wait, select, match_with, fork, seq, CoreArms, no_arms, arm}
use Rattle.fst_context.specs.Scope.{Variable}
use Rattle.fst_derivations.specs.Parts as context
use Rattle.fst_derivations.specs.Parts.{IsFormed, HasUse, AreVariables}
use Rattle.fst_derivations.specs.Rules.{Surroundings, Binding, fields, rest}
use Rattle.fst_machine.specs.Free.{outside}
use Rattle.fst_machine.specs.Values as value
use Rattle.fst_machine.specs.Values.{Value, Values, no_values, Environment, none, hole, slot, lookup, enter, keep, count, enter_all}
use Rattle.fst_safety.specs.Running.{Equals, IsVariable, HasType, ArmsHaveType}
use Rattle.fst_safety.specs.Fitting.{Residuals, present, Fits, FitAll, FitsEnv}
use Rattle.fst_safety.proofs.Equals.{equals_through}

mutual
  -- a term of a type is one of each equal type
  pub type_equal : (m : Surroundings) (g : List Variable) (e : CoreTree) (a b : Tree) → HasType m g e a → Equals a b →
      HasType m g e b
  type_equal m g (local at k) a b d q = (d.0, d.1, equals_through d.2 q)
  type_equal m g (global at k ks) a b d q = (d.0, d.1, equals_through d.2 q)
  type_equal m g (int at n) a b d q = equals_through d q
  type_equal m g (bool at x) a b d q = equals_through d q
  type_equal m g (char at c) a b d q = equals_through d q
  type_equal m g (unit at) a b d q = equals_through d q
  type_equal m g (pair at e f) a b d q = (d.0, d.1, d.2, d.3, d.4, equals_through d.5 q)
  type_equal m g (make at n o es) a b d q = (d.0, d.1, d.2, d.3, d.4, equals_through d.5 q)
  type_equal m g (lambda at u k x e) a b d q = (d.0, d.1, d.2, d.3, d.4, d.5, equals_through d.6 q)
  type_equal m g (apply at e f) a b d q = (d.0, d.1, d.2, d.3, d.4, d.5, equals_through d.6 q)
  type_equal m g (let_in at x e f) a b d q = (d.0, d.1, d.2, type_equal m (d.0 ∷ g) f a b d.3 q, d.4, d.5)
  type_equal m g (split at x y e f) a b d q = (d.0, d.1, d.2, d.3, d.4, type_equal m (d.1 ∷ d.0 ∷ g) f a b d.5 q, d.6, d.7, d.8)
  type_equal m g (if_else at e f h) a b d q = (d.0, type_equal m g f a b d.1 q, type_equal m g h a b d.2 q, d.3, d.4)
  type_equal m g (case_of at e bs) a b d q = (
    d.0,
    d.1,
    d.2,
    d.3,
    d.4,
    arms_equal m (fields d.1.makers.items) g bs a b d.5 q,
    d.6,
    d.7,
  )
  type_equal m g (operate at o e f) a b d q = (d.0, d.1, d.2, d.3, d.4, d.5, equals_through d.6 q)
  type_equal m g (negate at e) a b d q = (d.0, equals_through d.1 q)
  type_equal m g (new at k) a b d q = (d.0, d.1, d.2, equals_through d.3 q)
  type_equal m g (send at e f) a b d q = (d.0, d.1, d.2, d.3, d.4, d.5, d.6, equals_through d.7 q)
  type_equal m g (receive at e) a b d q = (d.0, d.1, d.2, d.3, d.4, equals_through d.5 q)
  type_equal m g (close at e) a b d q = (d.0, d.1, d.2, d.3, equals_through d.4 q)
  type_equal m g (wait at e) a b d q = (d.0, d.1, d.2, d.3, equals_through d.4 q)
  type_equal m g (select at l e) a b d q = (d.0, d.1, d.2, d.3, equals_through d.4 q)
  type_equal m g (match_with at e bs) a b d q = (d.0, d.1, d.2, d.3, d.4, arms_equal m (rest d.0) g bs a b d.5 q, d.6, d.7)
  type_equal m g (fork at e) a b d q = (d.0, d.1, d.2, equals_through d.3 q)
  type_equal m g (seq at e f) a b d q = (d.0, d.1, d.2, type_equal m g f a b d.3 q, d.4)

  -- so are arms
  pub arms_equal : (m : Surroundings) (B : Binding) (g : List Variable) (bs : CoreArms) (a b : Tree) → ArmsHaveType m B g bs a →
      Equals a b → ArmsHaveType m B g bs b
  arms_equal m B g no_arms a b d q = tt
  arms_equal m B g (arm l xs e bs) a b d q =
      (d.0, d.1, d.2, d.3, d.4, type_equal m (context.enter_all d.1 g) e a b d.5 q, d.6, arms_equal m B g bs a b d.7 q)

module _ (m : Surroundings) (r : Residuals) where
  -- a value of a type is one of each equal type
  pub fits_equal : (v : Value) (a b : Tree) → Fits m r v a → Equals a b → Fits m r v b
  fits_equal (value.int n) a b f q = equals_through f q
  fits_equal (value.bool x) a b f q = equals_through f q
  fits_equal (value.char c) a b f q = equals_through f q
  fits_equal value.unit a b f q = equals_through f q
  fits_equal (value.pair v w) a b f q = (f.0, f.1, f.2, f.3, equals_through f.4 q)
  fits_equal (value.made n o vs) a b f q = (f.0, f.1, f.2, f.3, f.4, equals_through f.5 q)
  fits_equal (value.function e env) a b f q = (f.0, f.1, f.2, f.3, f.4, f.5, f.6, f.7, f.8, f.9, equals_through f.10 q)
  fits_equal (value.end x) a b f q = (f.0, f.1, f.2, equals_through f.3 q)

  -- a value's type is well formed
  pub fits_formed : (v : Value) (a : Tree) → Fits m r v a → IsFormed [] a
  fits_formed (value.int n) a f = f.right
  fits_formed (value.bool x) a f = f.right
  fits_formed (value.char c) a f = f.right
  fits_formed value.unit a f = f.right
  fits_formed (value.pair v w) a f = f.4.right
  fits_formed (value.made n o vs) a f = f.5.right
  fits_formed (value.function e env) a f = f.10.right
  fits_formed (value.end x) a f = f.3.right

  -- a value that is entered fits its variable
  pub fits_enter : (b : Bool) (v : Value) (env : Environment) (x : Variable) (g : List Variable) → Fits m r v x.type →
      IsVariable x → FitsEnv m r env g →
      FitsEnv m r (enter b v env) (x ∷ g)
  fits_enter true v env x g f i h = (f, i, h)
  fits_enter false v env x g f i h = h

  -- and so do the values that are entered for an arm's variables
  pub fits_enter_all : (p : ℕ → Bool) (vs : Values) (ts : List Tree) (xs : List Variable) (env : Environment)
      (g : List Variable) →
      FitAll m r vs ts → AreVariables [] ts xs → FitsEnv m r env g → FitsEnv m r (enter_all p vs env) (context.enter_all xs g)
  fits_enter_all p no_values [] [] env g f a h = h
  fits_enter_all p no_values [] (x ∷ xs) env g f a h = absurd a
  fits_enter_all p no_values (t ∷ ts) xs env g f a h = absurd f
  fits_enter_all p (value.value v vs) [] xs env g f a h = absurd f
  fits_enter_all p (value.value v vs) (t ∷ ts) [] env g f a h = absurd a
  fits_enter_all p (value.value v vs) (t ∷ ts) (x ∷ xs) env g f a h =
      fits_enter_all p vs ts xs (enter (p (count vs)) v env) (x ∷ g) f.1 a.2
      (fits_enter (p (count vs)) v env x g (subst (Fits m r v) (sym a.0) f.0) (subst (λ t. HasUse [] t x.uses) (sym a.0) a.1) h)

  -- the values that are kept fit their variables
  pub fits_keep : (env : Environment) (p : ℕ → Bool) (g : List Variable) → FitsEnv m r env g → FitsEnv m r (keep p env) g
  fits_keep none p g f = tt
  fits_keep (hole env) p [] f = absurd f
  fits_keep (hole env) p (x ∷ g) f = fits_keep env (outside p) g f
  fits_keep (slot v env) p [] f = absurd f
  fits_keep (slot v env) p (x ∷ g) f = fits_enter (p zero) v (keep (outside p) env) x g f.0 f.1 (fits_keep env (outside p) g f.2)

  -- the value of a variable that is there fits it
  pub fits_lookup : (env : Environment) (k : ℕ) (g : List Variable) (x : Variable) → FitsEnv m r env g → present env k ≡ true →
      slice_get g k ≡ Some x →
      (v : Value) × (lookup env k ≡ Some v) × Fits m r v x.type
  fits_lookup none k g x f h q = absurd (false≢true h)
  fits_lookup (hole env) k [] x f h q = absurd f
  fits_lookup (hole env) zero (y ∷ g) x f h q = absurd (false≢true h)
  fits_lookup (hole env) (suc k) (y ∷ g) x f h q = fits_lookup env k g x f h q
  fits_lookup (slot v env) k [] x f h q = absurd f
  fits_lookup (slot v env) zero (y ∷ g) x f h q = (v, refl, subst (λ z. Fits m r v z.type) (some_same q) f.0)
  fits_lookup (slot v env) (suc k) (y ∷ g) x f h q = fits_lookup env k g x f.2 h q
