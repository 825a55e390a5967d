-- Unspent ends go with the values that are entered and kept.
use Rattle.std.proofs.Common.{◌≡◌, ℕ, zero, suc, ◌+◌, List, [], ◌∷◌, length, Bool, true, false, ◌&&◌, ◌||◌, Some, refl, sym, ap, ◌∙◌, subst, arith}
use Rattle.std.specs.Prelude.{slice_get}
use Rattle.std.proofs.lemmas.Bool.{true≢false, false≢true}
use Rattle.fst_machine.proofs.Laws.{is_itself}
use Rattle.fst_base.proofs.Options.{some_same}
use Rattle.fst_types.specs.Tree.{Tree}
use Rattle.fst_context.specs.Scope.{Variable, is_once}
use Rattle.fst_derivations.specs.Parts.{HasUse, AreVariables}
use Rattle.fst_derivations.specs.Rules.{Surroundings}
use Rattle.fst_types.specs.declared.ends.EndName.{EndName}
use Rattle.fst_machine.specs.Free.{is, outside}
use Rattle.fst_machine.specs.Values as value
use Rattle.fst_machine.specs.Values.{Value, Values, no_values, Environment, none, hole, slot, lookup, enter, keep, count, enter_all}
use Rattle.fst_runs.specs.Wrong.{IsUnspent, held, held_all, held_env}
use Rattle.fst_safety.specs.Running.{Apart, Spends, SpendAll, IsVariable}
use Rattle.fst_safety.specs.Fitting.{Residuals, present, Exactly, Fits, FitAll, FitsEnv}
use Rattle.fst_safety.specs.WellTyped.{IsWellTyped}
use Rattle.fst_safety.proofs.Uses.{often}
use Rattle.fst_safety.proofs.Idle.{idle}

-- an environment for no variable holds nothing
pub held_nothing : (x : EndName) (env : Environment) → ((k : ℕ) → present env k ≡ false) → held_env x env ≡ 0
held_nothing x none h = refl
held_nothing x (hole env) h = held_nothing x env (λ k. h (suc k))
held_nothing x (slot v env) h = absurd (true≢false (h zero))

-- one for a single variable holds what its value holds
pub held_one : (x : EndName) (env : Environment) (j : ℕ) (v : Value) → lookup env j ≡ Some v → Exactly (is j) env →
    held_env x env ≡ held x v
held_one x none j v q h = absurd (false≢true (h j ∙ is_itself j))
held_one x (hole env) zero v q h = absurd (false≢true (h zero))
held_one x (hole env) (suc j) v q h = held_one x env j v q (λ k. h (suc k))
held_one x (slot u env) zero v q h =
    let z = held_nothing x env (λ k. h (suc k)) in
    let s : held x u ≡ held x v = ap (held x) (some_same q) in
    omega (arith, z, s)
held_one x (slot u env) (suc j) v q h = absurd (true≢false (h zero))

-- as many values as variables
pub counted_values : (m : Surroundings) (r : Residuals) (vs : Values) (ts : List Tree) (ys : List Variable) → FitAll m r vs ts →
    AreVariables [] ts ys → count vs ≡ length ys
counted_values m r no_values [] [] f a = refl
counted_values m r no_values [] (y ∷ ys) f a = absurd a
counted_values m r no_values (t ∷ ts) ys f a = absurd f
counted_values m r (value.value v vs) [] ys f a = absurd f
counted_values m r (value.value v vs) (t ∷ ts) [] f a = absurd a
counted_values m r (value.value v vs) (t ∷ ts) (y ∷ ys) f a = ap suc (counted_values m r vs ts ys f.1 a.2)

module _ (m : Surroundings) (w : IsWellTyped m) (r : Residuals) where
  unlinear : (x : EndName) (v : Value) (y : Variable) → IsUnspent r x → Fits m r v y.type → IsVariable y →
      is_once y.uses ≡ false → held x v ≡ 0
  unlinear x v y h f i q = idle m w r x v y.type h f (subst (HasUse [] y.type) (often y.uses q) i)

  -- a value that is entered may be dropped where its variable isn't used
  pub held_enter : (x : EndName) (b : Bool) (v : Value) (env : Environment) (y : Variable) → IsUnspent r x → Fits m r v y.type →
      IsVariable y → Spends y b →
      held_env x (enter b v env) ≡ held x v + held_env x env
  held_enter x true v env y h f i s = refl
  held_enter x false v env y h f i s = let z = unlinear x v y h f i (unused (is_once y.uses) s) in omega (arith, z)
    where
      unused : (l : Bool) → (l ≡ true → false ≡ true) → l ≡ false
      unused true s = sym (s refl)
      unused false s = refl

  -- and so may those that are entered for an arm's variables
  pub held_enter_all : (x : EndName) (p : ℕ → Bool) (vs : Values) (ts : List Tree) (ys : List Variable) (env : Environment) →
      IsUnspent r x →
      FitAll m r vs ts → AreVariables [] ts ys → SpendAll ys p → held_env x (enter_all p vs env) ≡ held_all x vs + held_env x env
  held_enter_all x p no_values ts ys env h f a s = omega arith
  held_enter_all x p (value.value v vs) [] ys env h f a s = absurd f
  held_enter_all x p (value.value v vs) (t ∷ ts) [] env h f a s = absurd a
  held_enter_all x p (value.value v vs) (t ∷ ts) (y ∷ ys) env h f a s =
      let is : length ys ≡ count vs = sym (counted_values m r vs ts ys f.1 a.2) in
      let one = held_enter x (p (count vs)) v env y h (subst (Fits m r v) (sym a.0) f.0)
      (subst (λ t. HasUse [] t y.uses) (sym a.0) a.1) (subst (λ n. Spends y (p n)) is s.0) in
      let more = held_enter_all x p vs ts ys (enter (p (count vs)) v env) h f.1 a.2 s.1 in
      omega (arith, one, more)

  both_slots : (x : EndName) (v : Value) (a b c : Environment) (y : Variable) (p q : Bool) → IsUnspent r x → Fits m r v y.type →
      IsVariable y → true ≡ (p || q) →
      (is_once y.uses ≡ true → (p && q) ≡ false) → held_env x a + held_env x b ≡ held_env x c →
      held_env x (enter p v a) + held_env x (enter q v b) ≡ held x v + held_env x c
  both_slots x v a b c y true true h f i o s e = let z = unlinear x v y h f i (unused (is_once y.uses) s) in omega (arith, z, e)
    where
      unused : (l : Bool) → (l ≡ true → true ≡ false) → l ≡ false
      unused true s = s refl
      unused false s = refl
  both_slots x v a b c y true false h f i o s e = omega (arith, e)
  both_slots x v a b c y false true h f i o s e = omega (arith, e)
  both_slots x v a b c y false false h f i o s e = absurd (true≢false o)

  -- each unspent end goes to exactly one of two parts
  pub held_parts : (x : EndName) (env : Environment) (g : List Variable) (p q : ℕ → Bool) → IsUnspent r x → FitsEnv m r env g →
      Exactly (λ k. p k || q k) env → Apart g p q →
      held_env x (keep p env) + held_env x (keep q env) ≡ held_env x env
  held_parts x none g p q h f e s = refl
  held_parts x (hole env) [] p q h f e s = absurd f
  held_parts x (hole env) (y ∷ g) p q h f e s = held_parts x env g (outside p) (outside q) h f (λ k. e (suc k)) (λ k. s (suc k))
  held_parts x (slot v env) [] p q h f e s = absurd f
  held_parts x (slot v env) (y ∷ g) p q h f e s =
      both_slots x v (keep (outside p) env) (keep (outside q) env) env y (p zero) (q zero) h f.0 f.1 (e zero) (s zero y refl)
      (held_parts x env g (outside p) (outside q) h f.2 (λ k. e (suc k)) (λ k. s (suc k)))

  kept_slot : (x : EndName) (v : Value) (a c : Environment) (y : Variable) (p q : Bool) → IsUnspent r x → Fits m r v y.type →
      IsVariable y → true ≡ q →
      (is_once y.uses ≡ true → q ≡ true → p ≡ true) → held_env x a ≡ held_env x c →
      held_env x (enter p v a) ≡ held x v + held_env x c
  kept_slot x v a c y true q h f i o s e = omega (arith, e)
  kept_slot x v a c y false q h f i o s e = let z = unlinear x v y h f i (unused (is_once y.uses) s) in omega (arith, z, e)
    where
      unused : (l : Bool) → (l ≡ true → q ≡ true → false ≡ true) → l ≡ false
      unused true s = sym (s refl (sym o))
      unused false s = refl

  -- all of them stay where all linear variables are kept
  pub held_kept : (x : EndName) (env : Environment) (g : List Variable) (p q : ℕ → Bool) → IsUnspent r x → FitsEnv m r env g →
      Exactly q env →
      ((k : ℕ) (y : Variable) → slice_get g k ≡ Some y → is_once y.uses ≡ true → q k ≡ true → p k ≡ true) →
      held_env x (keep p env) ≡ held_env x env
  held_kept x none g p q h f e s = refl
  held_kept x (hole env) [] p q h f e s = absurd f
  held_kept x (hole env) (y ∷ g) p q h f e s = held_kept x env g (outside p) (outside q) h f (λ k. e (suc k)) (λ k. s (suc k))
  held_kept x (slot v env) [] p q h f e s = absurd f
  held_kept x (slot v env) (y ∷ g) p q h f e s =
      kept_slot x v (keep (outside p) env) env y (p zero) (q zero) h f.0 f.1 (e zero) (s zero y refl)
      (held_kept x env g (outside p) (outside q) h f.2 (λ k. e (suc k)) (λ k. s (suc k)))
