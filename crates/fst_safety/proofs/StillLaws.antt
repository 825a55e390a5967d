-- Typing looks only at the residuals of ends that stand there, and at these up to equality.
use Rattle.std.proofs.Common.{◌≡◌, ℕ, List, [], ◌∷◌, ◌+◌, Bool, Some, arith}
use Rattle.fst_types.specs.Tree.{Tree}
use Rattle.fst_kinds.specs.WellFormed.{IsSession}
use Rattle.fst_terms.specs.CoreTree.{CoreList}
use Rattle.fst_context.specs.Scope.{Variable}
use Rattle.fst_derivations.specs.Rules.{Surroundings}
use Rattle.fst_types.specs.declared.ends.EndName.{EndName}
use Rattle.fst_machine.specs.Values as value
use Rattle.fst_machine.specs.Values.{Value, Values, no_values, Environment, none, hole, slot}
use Rattle.fst_machine.specs.Machine.{State, Frame, at_function, at_argument, at_first, at_second, at_field, at_let, at_split, at_if, at_case, at_left, at_right, at_not, at_value, at_target, at_receive, at_close, at_wait, at_select, at_match, at_seq}
use Rattle.fst_runs.specs.Wrong.{held, held_all, held_env, held_frame, held_frames, held_state}
use Rattle.fst_runs.proofs.Laws.{own_once}
use Rattle.fst_safety.specs.Running.{Equals}
use Rattle.fst_safety.specs.Fitting.{Residuals, Fits, FitAll, FitsEnv, IsEnv, FitBefore, Takes, IsTyped}
use Rattle.fst_safety.proofs.Equals.{equals_itself, equals_through, session_formed}

-- an end stands in itself
pub own : (y : EndName) → held y (value.end y) ≡ 0 → ⊥
own y q = let e = own_once y in omega (arith, q, e)

module _ (m : Surroundings) (r r' : Residuals) where
  -- the ends that are counted have residuals that are equal types
  abbrev pub Still : (EndName → ℕ) → Type 0
  Still n = (x : EndName) (s : Tree) → r x ≡ Some s → IsSession [] s → (n x ≡ 0 → ⊥) → (u : Tree) ×
      (r' x ≡ Some u) × IsSession [] u × Equals u s

  -- so they have where they keep them
  pub unchanged : (n : EndName → ℕ) → ((x : EndName) (s : Tree) → r x ≡ Some s → (n x ≡ 0 → ⊥) → r' x ≡ Some s) → Still n
  unchanged n h x s e k z = (s, h x s e z, k, equals_itself s (session_formed k))

  -- where fewer ends are counted, they have too
  pub less : (n o : EndName → ℕ) → Still n → ((x : EndName) → n x ≡ 0 → o x ≡ 0) → Still o
  less n o h l x s e k z = h x s e k (λ q. z (l x q))

  mutual
    -- a value fits its type where the ends in it have equal residuals
    pub fits_still : (v : Value) (t : Tree) → Fits m r v t → Still (λ x. held x v) → Fits m r' v t
    fits_still (value.int n) t f h = f
    fits_still (value.bool b) t f h = f
    fits_still (value.char c) t f h = f
    fits_still value.unit t f h = f
    fits_still (value.pair v w) t f h = (
      f.0,
      f.1,
      fits_still v f.0 f.2 (less (λ x. held x v + held x w) (λ x. held x v) h (λ x q. omega (arith, q))),
      fits_still w f.1 f.3 (less (λ x. held x v + held x w) (λ x. held x w) h (λ x q. omega (arith, q))),
      f.4,
    )
    fits_still (value.made n o vs) t f h = (f.0, f.1, f.2, f.3, all_still vs f.1 f.4 h, f.5)
    fits_still (value.function e env) t f h = (f.0, f.1, f.2, f.3, values_still env f.0 f.4 h, f.5, f.6, f.7, f.8, f.9, f.10)
    fits_still (value.end y) t f h = let g = h y f.0 f.1 f.2 (own y) in (g.0, g.1, g.2, equals_through g.3 f.3)

    all_still : (vs : Values) (ts : List Tree) → FitAll m r vs ts → Still (λ x. held_all x vs) → FitAll m r' vs ts
    all_still no_values [] f h = tt
    all_still no_values (t ∷ ts) f h = f
    all_still (value.value v vs) [] f h = f
    all_still (value.value v vs) (t ∷ ts) f h = (
      fits_still v t f.0 (less (λ x. held x v + held_all x vs) (λ x. held x v) h (λ x q. omega (arith, q))),
      all_still vs ts f.1 (less (λ x. held x v + held_all x vs) (λ x. held_all x vs) h (λ x q. omega (arith, q))),
    )

    values_still : (env : Environment) (g : List Variable) → FitsEnv m r env g → Still (λ x. held_env x env) → FitsEnv m r' env g
    values_still none g f h = tt
    values_still (hole env) [] f h = f
    values_still (hole env) (v ∷ g) f h = values_still env g f h
    values_still (slot v env) [] f h = absurd f
    values_still (slot v env) (w ∷ g) f h = (
      fits_still v w.type f.0 (less (λ x. held x v + held_env x env) (λ x. held x v) h (λ x q. omega (arith, q))),
      f.1,
      values_still env g f.2 (less (λ x. held x v + held_env x env) (λ x. held_env x env) h (λ x q. omega (arith, q))),
    )

  -- so does an environment
  pub env_still : (g : List Variable) (p : ℕ → Bool) (env : Environment) → IsEnv m r g p env → Still (λ x. held_env x env) →
      IsEnv m r' g p env
  env_still g p env i h = (values_still env g i.0 h, i.1)

  before_still : (vs : Values) (all ts : List Tree) → FitBefore m r vs all ts → Still (λ x. held_all x vs) →
      FitBefore m r' vs all ts
  before_still no_values all ts f h = f
  before_still (value.value v vs) all ts f h = (
    f.0,
    fits_still v f.0 f.1 (less (λ x. held x v + held_all x vs) (λ x. held x v) h (λ x q. omega (arith, q))),
    before_still vs all (f.0 ∷ ts) f.2 (less (λ x. held x v + held_all x vs) (λ x. held_all x vs) h (λ x q. omega (arith, q))),
  )

  first : (f : Frame) (fs : List Frame) → Still (λ x. held_frames x (f ∷ fs)) → Still (λ x. held_frame x f)
  first f fs h = less (λ x. held_frames x (f ∷ fs)) (λ x. held_frame x f) h (λ x q. omega (arith, q))

  behind : (f : Frame) (fs : List Frame) → Still (λ x. held_frames x (f ∷ fs)) → Still (λ x. held_frames x fs)
  behind f fs h = less (λ x. held_frames x (f ∷ fs)) (λ x. held_frames x fs) h (λ x q. omega (arith, q))

  field_done : (n o : ℕ) (done : Values) (es : CoreList) (env : Environment) → Still
      (λ x. held_frame x (at_field n o done es env)) → Still (λ x. held_all x done)
  field_done n o done es env h = less (λ x. held_all x done + held_env x env) (λ x. held_all x done) h (λ x q. omega (arith, q))

  field_env : (n o : ℕ) (done : Values) (es : CoreList) (env : Environment) → Still
      (λ x. held_frame x (at_field n o done es env)) → Still (λ x. held_env x env)
  field_env n o done es env h = less (λ x. held_all x done + held_env x env) (λ x. held_env x env) h (λ x q. omega (arith, q))

  -- so do frames
  pub takes_still : (fs : List Frame) (a t : Tree) → Takes m r fs a t → Still (λ x. held_frames x fs) → Takes m r' fs a t
  takes_still [] a t k h = k
  takes_still (at_function e env ∷ fs) a t k h = (
    k.0,
    k.1,
    k.2,
    k.3,
    k.4,
    env_still k.3 _ env k.5 (first (at_function e env) fs h),
    k.6,
    k.7,
    k.8,
    takes_still fs k.7 t k.9 (behind (at_function e env) fs h),
  )
  takes_still (at_argument v ∷ fs) a t k h = (
    k.0,
    k.1,
    fits_still v _ k.2 (first (at_argument v) fs h),
    k.3,
    k.4,
    takes_still fs k.3 t k.5 (behind (at_argument v) fs h),
  )
  takes_still (at_first e env ∷ fs) a t k h = (
    k.0,
    k.1,
    env_still k.1 _ env k.2 (first (at_first e env) fs h),
    k.3,
    k.4,
    k.5,
    takes_still fs k.4 t k.6 (behind (at_first e env) fs h),
  )
  takes_still (at_second v ∷ fs) a t k h =
      (k.0, fits_still v k.0 k.1 (first (at_second v) fs h), k.2, k.3, takes_still fs k.2 t k.4 (behind (at_second v) fs h))
  takes_still (at_field n o done es env ∷ fs) a t k h =
      let own = first (at_field n o done es env) fs h in (
        k.0,
        k.1,
        k.2,
        k.3,
        k.4,
        k.5,
        before_still done k.1 (a ∷ k.2) k.6 (field_done n o done es env own),
        env_still k.3 _ env k.7 (field_env n o done es env own),
        k.8,
        k.9,
        k.10,
        takes_still fs k.9 t k.11 (behind (at_field n o done es env) fs h),
      )
  takes_still (at_let e env ∷ fs) a t k h = (
    k.0,
    k.1,
    k.2,
    k.3,
    k.4,
    env_still k.2 _ env k.5 (first (at_let e env) fs h),
    k.6,
    k.7,
    takes_still fs k.1 t k.8 (behind (at_let e env) fs h),
  )
  takes_still (at_split e env ∷ fs) a t k h = (
    k.0,
    k.1,
    k.2,
    k.3,
    k.4,
    k.5,
    k.6,
    env_still k.3 _ env k.7 (first (at_split e env) fs h),
    k.8,
    k.9,
    k.10,
    takes_still fs k.2 t k.11 (behind (at_split e env) fs h),
  )
  takes_still (at_if e f env ∷ fs) a t k h = (
    k.0,
    k.1,
    k.2,
    env_still k.1 _ env k.3 (first (at_if e f env) fs h),
    k.4,
    k.5,
    k.6,
    takes_still fs k.0 t k.7 (behind (at_if e f env) fs h),
  )
  takes_still (at_case bs env ∷ fs) a t k h = (
    k.0,
    k.1,
    k.2,
    k.3,
    k.4,
    env_still k.3 _ env k.5 (first (at_case bs env) fs h),
    k.6,
    k.7,
    k.8,
    k.9,
    takes_still fs k.2 t k.10 (behind (at_case bs env) fs h),
  )
  takes_still (at_left o e env ∷ fs) a t k h = (
    k.0,
    k.1,
    k.2,
    env_still k.1 _ env k.3 (first (at_left o e env) fs h),
    k.4,
    k.5,
    k.6,
    takes_still fs k.5 t k.7 (behind (at_left o e env) fs h),
  )
  takes_still (at_right o v ∷ fs) a t k h =
      (k.0, k.1, fits_still v a k.2 (first (at_right o v) fs h), k.3, k.4, takes_still fs k.3 t k.5 (behind (at_right o v) fs h))
  takes_still (at_not ∷ fs) a t k h = (k.0, k.1, k.2, takes_still fs k.1 t k.3 (behind at_not fs h))
  takes_still (at_value e env ∷ fs) a t k h = (
    k.0,
    k.1,
    k.2,
    k.3,
    k.4,
    env_still k.3 _ env k.5 (first (at_value e env) fs h),
    k.6,
    k.7,
    k.8,
    k.9,
    takes_still fs k.8 t k.10 (behind (at_value e env) fs h),
  )
  takes_still (at_target v ∷ fs) a t k h = (
    k.0,
    k.1,
    fits_still v _ k.2 (first (at_target v) fs h),
    k.3,
    k.4,
    k.5,
    takes_still fs k.4 t k.6 (behind (at_target v) fs h),
  )
  takes_still (at_receive ∷ fs) a t k h = (k.0, k.1, k.2, k.3, k.4, takes_still fs k.3 t k.5 (behind at_receive fs h))
  takes_still (at_close ∷ fs) a t k h = (k.0, k.1, k.2, k.3, takes_still fs k.2 t k.4 (behind at_close fs h))
  takes_still (at_wait ∷ fs) a t k h = (k.0, k.1, k.2, k.3, takes_still fs k.2 t k.4 (behind at_wait fs h))
  takes_still (at_select l ∷ fs) a t k h = (k.0, k.1, k.2, k.3, takes_still fs k.2 t k.4 (behind (at_select l) fs h))
  takes_still (at_match bs env ∷ fs) a t k h = (
    k.0,
    k.1,
    k.2,
    k.3,
    k.4,
    env_still k.2 _ env k.5 (first (at_match bs env) fs h),
    k.6,
    k.7,
    takes_still fs k.1 t k.8 (behind (at_match bs env) fs h),
  )
  takes_still (at_seq e env ∷ fs) a t k h = (
    k.0,
    k.1,
    k.2,
    env_still k.1 _ env k.3 (first (at_seq e env) fs h),
    k.4,
    takes_still fs k.0 t k.5 (behind (at_seq e env) fs h),
  )

  -- so does a state
  pub typed_still : (s : State) (t : Tree) → IsTyped m r s t → Still (λ x. held_state x s) → IsTyped m r' s t
  typed_still s t k h = record {
    variables = k.variables;
    type = k.type;
    environment = env_still k.variables _ s.environment k.environment
        (less (λ x. held_state x s) (λ x. held_env x s.environment) h (λ x q. omega (arith, q)));
    term = k.term;
    frames = takes_still s.frames k.type t k.frames
        (less (λ x. held_state x s) (λ x. held_frames x s.frames) h (λ x q. omega (arith, q)));
  }
