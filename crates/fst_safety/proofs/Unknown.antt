-- An end that has no residual stands nowhere.
use Rattle.std.proofs.Common.{◌≡◌, ◌∙◌, List, [], ◌∷◌, Some, None, refl, sym, ap, arith}
use Rattle.fst_types.specs.Tree.{Tree}
use Rattle.fst_context.specs.Scope.{Variable}
use Rattle.fst_derivations.specs.Rules.{Surroundings}
use Rattle.fst_types.specs.declared.ends.EndName.{EndName}
use Rattle.fst_machine.specs.Values as value
use Rattle.fst_machine.specs.Values.{Value, Values, no_values, Environment, none, hole, slot}
use Rattle.fst_machine.specs.Machine.{State, Frame, at_function, at_argument, at_first, at_second, at_field, at_let, at_split, at_if, at_case, at_left, at_right, at_not, at_value, at_target, at_receive, at_close, at_wait, at_select, at_match, at_seq}
use Rattle.fst_runs.specs.Wrong.{held, held_all, held_env, held_frames, held_state}
use Rattle.fst_safety.specs.Fitting.{Residuals, Fits, FitAll, FitsEnv, FitBefore, Takes, IsTyped}
use Rattle.fst_safety.proofs.Owners.{held_apart}

module _ (m : Surroundings) (r : Residuals) (z : EndName) (n : r z ≡ None) where
  mutual
    -- not in a value
    pub unknown : (v : Value) (t : Tree) → Fits m r v t → held z v ≡ 0
    unknown (value.int i) t f = refl
    unknown (value.bool b) t f = refl
    unknown (value.char c) t f = refl
    unknown value.unit t f = refl
    unknown (value.pair v w) t f = let a = unknown v f.0 f.2 in let b = unknown w f.1 f.3 in omega (arith, a, b)
    unknown (value.made k o vs) t f = unknown_all vs f.1 f.4
    unknown (value.function e env) t f = unknown_env env f.0 f.4
    unknown (value.end y) t f = held_apart z y (λ e. let g : Some f.0 ≡ None = sym f.1 ∙ ap r (sym e) ∙ n in absurd (cc g))

    unknown_all : (vs : Values) (ts : List Tree) → FitAll m r vs ts → held_all z vs ≡ 0
    unknown_all no_values ts f = refl
    unknown_all (value.value v vs) [] f = absurd f
    unknown_all (value.value v vs) (t ∷ ts) f = let a = unknown v t f.0 in let b = unknown_all vs ts f.1 in omega (arith, a, b)

    unknown_env : (env : Environment) (g : List Variable) → FitsEnv m r env g → held_env z env ≡ 0
    unknown_env none g f = refl
    unknown_env (hole env) [] f = absurd f
    unknown_env (hole env) (v ∷ g) f = unknown_env env g f
    unknown_env (slot v env) [] f = absurd f
    unknown_env (slot v env) (w ∷ g) f = let a = unknown v w.type f.0 in let b = unknown_env env g f.2 in omega (arith, a, b)

  unknown_before : (vs : Values) (all ts : List Tree) → FitBefore m r vs all ts → held_all z vs ≡ 0
  unknown_before no_values all ts f = refl
  unknown_before (value.value v vs) all ts f = let a = unknown v f.0 f.1 in let b = unknown_before vs all (f.0 ∷ ts) f.2 in
      omega (arith, a, b)

  -- not in what waits
  pub unknown_frames : (fs : List Frame) (a t : Tree) → Takes m r fs a t → held_frames z fs ≡ 0
  unknown_frames [] a t k = refl
  unknown_frames (at_function e env ∷ fs) a t k = let x = unknown_env env k.3 k.5.0 in let y = unknown_frames fs k.7 t k.9 in
      omega (arith, x, y)
  unknown_frames (at_argument v ∷ fs) a t k = let x = unknown v _ k.2 in let y = unknown_frames fs k.3 t k.5 in
      omega (arith, x, y)
  unknown_frames (at_first e env ∷ fs) a t k = let x = unknown_env env k.1 k.2.0 in let y = unknown_frames fs k.4 t k.6 in
      omega (arith, x, y)
  unknown_frames (at_second v ∷ fs) a t k = let x = unknown v k.0 k.1 in let y = unknown_frames fs k.2 t k.4 in
      omega (arith, x, y)
  unknown_frames (at_field i o done es env ∷ fs) a t k =
      let w = unknown_before done k.1 (a ∷ k.2) k.6 in
      let x = unknown_env env k.3 k.7.0 in
      let y = unknown_frames fs k.9 t k.11 in
      omega (arith, w, x, y)
  unknown_frames (at_let e env ∷ fs) a t k = let x = unknown_env env k.2 k.5.0 in let y = unknown_frames fs k.1 t k.8 in
      omega (arith, x, y)
  unknown_frames (at_split e env ∷ fs) a t k = let x = unknown_env env k.3 k.7.0 in let y = unknown_frames fs k.2 t k.11 in
      omega (arith, x, y)
  unknown_frames (at_if e f env ∷ fs) a t k = let x = unknown_env env k.1 k.3.0 in let y = unknown_frames fs k.0 t k.7 in
      omega (arith, x, y)
  unknown_frames (at_case bs env ∷ fs) a t k = let x = unknown_env env k.3 k.5.0 in let y = unknown_frames fs k.2 t k.10 in
      omega (arith, x, y)
  unknown_frames (at_left o e env ∷ fs) a t k = let x = unknown_env env k.1 k.3.0 in let y = unknown_frames fs k.5 t k.7 in
      omega (arith, x, y)
  unknown_frames (at_right o v ∷ fs) a t k = let x = unknown v a k.2 in let y = unknown_frames fs k.3 t k.5 in omega (arith, x, y)
  unknown_frames (at_not ∷ fs) a t k = let y = unknown_frames fs k.1 t k.3 in omega (arith, y)
  unknown_frames (at_value e env ∷ fs) a t k = let x = unknown_env env k.3 k.5.0 in let y = unknown_frames fs k.8 t k.10 in
      omega (arith, x, y)
  unknown_frames (at_target v ∷ fs) a t k = let x = unknown v _ k.2 in let y = unknown_frames fs k.4 t k.6 in omega (arith, x, y)
  unknown_frames (at_receive ∷ fs) a t k = let y = unknown_frames fs k.3 t k.5 in omega (arith, y)
  unknown_frames (at_close ∷ fs) a t k = let y = unknown_frames fs k.2 t k.4 in omega (arith, y)
  unknown_frames (at_wait ∷ fs) a t k = let y = unknown_frames fs k.2 t k.4 in omega (arith, y)
  unknown_frames (at_select l ∷ fs) a t k = let y = unknown_frames fs k.2 t k.4 in omega (arith, y)
  unknown_frames (at_match bs env ∷ fs) a t k = let x = unknown_env env k.2 k.5.0 in let y = unknown_frames fs k.1 t k.8 in
      omega (arith, x, y)
  unknown_frames (at_seq e env ∷ fs) a t k = let x = unknown_env env k.1 k.3.0 in let y = unknown_frames fs k.0 t k.5 in
      omega (arith, x, y)

  -- not in a state
  pub unknown_state : (s : State) (t : Tree) → IsTyped m r s t → held_state z s ≡ 0
  unknown_state s t k =
      let x = unknown_env s.environment k.variables k.environment.0 in
      let y = unknown_frames s.frames k.type t k.frames in
      omega (arith, x, y)
