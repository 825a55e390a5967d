-- What it is for terms and for what waits to come to an allowed request, and what values of a form lead to.
use Rattle.std.proofs.Common.{◌≡◌, ℕ, ◌+◌, List, Bool, true, ◌||◌, Some, Contains, sym, ◌∙◌, subst, arith}
use Rattle.std.proofs.lemmas.Bool.{or_left, or_right}
use Rattle.fst_types.specs.Tree as type
use Rattle.fst_types.specs.Tree.{Tree, plain, arrow, named}
use Rattle.fst_types.specs.declared.base.Base.TheVariants.{Bool as Truth}
use Rattle.fst_types.specs.declared.family.Maker.{Maker}
use Rattle.fst_types.specs.declared.kind.Use.{Use}
use Rattle.fst_terms.specs.CoreTree.{CoreTree, CoreList, CoreArms}
use Rattle.fst_terms.specs.InRange.{maker_of}
use Rattle.std.specs.Prelude.{slice_get}
use Rattle.fst_arms.specs.Arms.{arm_labels}
use Rattle.fst_context.specs.Scope.{Variable}
use Rattle.fst_derivations.specs.Parts.{AreAt}
use Rattle.fst_derivations.specs.Rules.{Surroundings, Binding, Binds}
use Rattle.fst_types.specs.declared.ends.EndName.{EndName}
use Rattle.fst_machine.specs.Free.{free, free_in, free_below}
use Rattle.fst_machine.specs.Values as value
use Rattle.fst_machine.specs.Values.{Value, Values, Environment, keep, bool_in}
use Rattle.fst_machine.specs.Machine.{Frame, Pause, eval, eval_all, eval_arm, on, on_function, on_pair, on_made, on_end}
use Rattle.fst_runs.specs.Wrong.{IsUnspent, held, held_all, held_env, held_frames}
use Rattle.fst_safety.specs.Running.{Equals, Apart, AreAlike, HasType, HaveTypes, ArmsHaveType}
use Rattle.fst_safety.specs.Fitting.{Residuals, Fits, FitAll, IsEnv, FitBefore, Takes}
use Rattle.fst_safety.specs.WellTyped.{IsWellTyped}
use Rattle.fst_safety.specs.Pauses.{Reached}
use Rattle.fst_safety.proofs.Equals.{equals_plain, equals_named, equals_arrow, equals_pair, pairs_equal}
use Rattle.fst_safety.proofs.Exact.{exactly_keep}
use Rattle.fst_safety.proofs.Typed.{fits_equal, fits_keep}
use Rattle.fst_safety.proofs.Held.{held_parts}
use Rattle.fst_safety.proofs.Shapes.{IsMoving, bool_value, plain_arrow, named_arrow, pair_arrow, session_arrow, plain_pair, named_pair, arrow_pair, session_pair, plain_named, pair_named, arrow_named, session_named}

module _ (m : Surroundings) (w : IsWellTyped m) (r : Residuals) where
  -- each value of the type leads to an allowed request
  abbrev pub Comes : (Value → Pause) → List Frame → Tree → Tree → Type 0
  Comes back fs a t = (v : Value) → Fits m r v a → Reached m r (back v) t (λ x. held x v + held_frames x fs)

  -- the term comes to an allowed request wherever its value leads to one
  abbrev pub Good : CoreTree → Type 0
  Good e =
      (env : Environment) (fs : List Frame) (back : Value → Pause) (g : List Variable) (a t : Tree) →
      IsEnv m r g (free e) env → HasType m g e a → Takes m r fs a t → Comes back fs a t →
      Reached m r (eval m.families e env fs back) t (λ x. held_env x env + held_frames x fs)

  -- so do the arguments of a constructor
  abbrev pub GoodAll : CoreList → Type 0
  GoodAll es =
      (n o : ℕ) (done : Values) (env : Environment) (fs : List Frame) (back : Value → Pause) (g : List Variable) (c : Maker)
      (all ts : List Tree) (d t : Tree) →
      maker_of (slice_get m.families n) o ≡ Some c → AreAt m.types c.fields.items all → FitBefore m r done all ts →
      IsEnv m r g (free_in es) env → HaveTypes m g es ts → Equals (named n) d → Takes m r fs d t → Comes back fs d t →
      Reached m r (eval_all m.families es n o done env fs back) t (λ x. (held_all x done + held_env x env) + held_frames x fs)

  -- so does the arm of a label
  abbrev pub GoodArms : CoreArms → Type 0
  GoodArms bs =
      (l : List ℕ) (vs : Values) (ts : List Tree) (B : Binding) (env : Environment) (fs : List Frame) (back : Value → Pause)
      (g : List Variable) (p : ℕ → Bool) (b t : Tree) →
      Contains (arm_labels bs) l → FitAll m r vs ts → ((us : List Tree) → Binds m B l us → us ≡ ts) → IsEnv m r g p env →
      ((k : ℕ) → free_below bs k ≡ true → p k ≡ true) →
      ArmsHaveType m B g bs b → AreAlike g p bs → Takes m r fs b t → Comes back fs b t →
      Reached m r (eval_arm m.families bs l vs env fs back) t (λ x. (held_all x vs + held_env x env) + held_frames x fs)

  -- with another count that is the same
  pub counted : (p : Pause) (t : Tree) (n o : EndName → ℕ) → Reached m r p t n →
      ((x : EndName) → IsUnspent r x → n x ≡ o x) → Reached m r p t o
  counted p t n o h q = (h.0, λ x u. h.1 x u ∙ q x u)

  -- what is kept for a part is an environment for it
  pub part : (g : List Variable) (q p : ℕ → Bool) (env : Environment) → IsEnv m r g q env →
      ((k : ℕ) → p k ≡ true → q k ≡ true) → IsEnv m r g p (keep p env)
  part g q p env i s = (fits_keep m r env p g i.0, exactly_keep env q p i.1 s)

  -- for the left one of two parts
  pub left : (g : List Variable) (p q : ℕ → Bool) (env : Environment) → IsEnv m r g (λ k. p k || q k) env →
      IsEnv m r g p (keep p env)
  left g p q env i = part g (λ k. p k || q k) p env i (λ k. or_left (p k) (q k))

  -- and for the right one
  pub right : (g : List Variable) (p q : ℕ → Bool) (env : Environment) → IsEnv m r g (λ k. p k || q k) env →
      IsEnv m r g q (keep q env)
  right g p q env i = part g (λ k. p k || q k) q env i (λ k. or_right (p k) (q k))

  -- the unspent ends of both parts, in front of the frames
  pub shared : (g : List Variable) (p q : ℕ → Bool) (env : Environment) (fs : List Frame) → IsEnv m r g (λ k. p k || q k) env →
      Apart g p q →
      (x : EndName) → IsUnspent r x → held_env x (keep p env) + (held_env x (keep q env) + held_frames x fs) ≡ held_env x env
      + held_frames x fs
  shared g p q env fs i s x u = let h = held_parts m w r x env g p q u i.0 i.1 s in omega (arith, h)

  -- a value of a type that moves is an end
  pub end_next : (v : Value) (a t : Tree) (n : EndName → ℕ) (f : EndName → Pause) → IsMoving a → Fits m r v a →
      ((y : EndName) → Fits m r (value.end y) a → Reached m r (f y) t (λ x. held x (value.end y) + n x)) →
      Reached m r (on_end v f) t (λ x. held x v + n x)
  end_next (value.int i) a t n f h g k = absurd (subst IsMoving (equals_plain g) h)
  end_next (value.bool b) a t n f h g k = absurd (subst IsMoving (equals_plain g) h)
  end_next (value.char c) a t n f h g k = absurd (subst IsMoving (equals_plain g) h)
  end_next value.unit a t n f h g k = absurd (subst IsMoving (equals_plain g) h)
  end_next (value.pair v z) a t n f h g k = absurd (subst IsMoving ((equals_pair g.4).2) h)
  end_next (value.made j o vs) a t n f h g k = absurd (subst IsMoving (equals_named g.5) h)
  end_next (value.function e env) a t n f h g k = absurd (subst IsMoving ((equals_arrow g.10).2) h)
  end_next (value.end y) a t n f h g k = k y g

  -- a value of a function type is a function
  pub function_next : (v : Value) (u : Use) (a c t : Tree) (n : EndName → ℕ) (f : CoreTree → Environment → Pause) →
      Fits m r v (arrow u a c) →
      ((e : CoreTree) (env : Environment) → Fits m r (value.function e env) (arrow u a c) → Reached m r (f e env) t
      (λ x. held_env x env + n x)) →
      Reached m r (on_function v f) t (λ x. held x v + n x)
  function_next (value.int i) u a c t n f g k = plain_arrow g
  function_next (value.bool b) u a c t n f g k = plain_arrow g
  function_next (value.char i) u a c t n f g k = plain_arrow g
  function_next value.unit u a c t n f g k = plain_arrow g
  function_next (value.pair v z) u a c t n f g k = pair_arrow g.4
  function_next (value.made j o vs) u a c t n f g k = named_arrow g.5
  function_next (value.function e env) u a c t n f g k = k e env g
  function_next (value.end y) u a c t n f g k = session_arrow g.3 g.2

  -- a value of a pair type is a pair
  pub pair_next : (v : Value) (a b t : Tree) (n : EndName → ℕ) (f : Value → Value → Pause) → Fits m r v (type.pair a b) →
      ((y z : Value) → Fits m r y a → Fits m r z b → Reached m r (f y z) t (λ x. (held x y + held x z) + n x)) →
      Reached m r (on_pair v f) t (λ x. held x v + n x)
  pair_next (value.int i) a b t n f g k = plain_pair g
  pair_next (value.bool c) a b t n f g k = plain_pair g
  pair_next (value.char i) a b t n f g k = plain_pair g
  pair_next value.unit a b t n f g k = plain_pair g
  pair_next (value.pair y z) a b t n f g k =
      let q = pairs_equal g.4 in
      k y z (fits_equal m r y g.0 a g.2 q.0) (fits_equal m r z g.1 b g.3 q.1)
  pair_next (value.made j o vs) a b t n f g k = named_pair g.5
  pair_next (value.function e env) a b t n f g k = arrow_pair g.10
  pair_next (value.end y) a b t n f g k = session_pair g.3 g.2

  -- a value of a data type is one of its constructors with fields
  pub made_next : (v : Value) (j : ℕ) (t : Tree) (n : EndName → ℕ) (f : ℕ → ℕ → Values → Pause) → Fits m r v (named j) →
      ((i o : ℕ) (vs : Values) → Fits m r (value.made i o vs) (named j) → Reached m r (f i o vs) t (λ x. held_all x vs + n x)) →
      Reached m r (on_made v f) t (λ x. held x v + n x)
  made_next (value.int i) j t n f g k = plain_named g
  made_next (value.bool c) j t n f g k = plain_named g
  made_next (value.char i) j t n f g k = plain_named g
  made_next value.unit j t n f g k = plain_named g
  made_next (value.pair y z) j t n f g k = pair_named g.4
  made_next (value.made i o vs) j t n f g k = k i o vs g
  made_next (value.function e env) j t n f g k = arrow_named g.10
  made_next (value.end y) j t n f g k = session_named g.3 g.2

  -- a value of type Bool is a truth value
  pub bool_next : (v : Value) (t : Tree) (n : EndName → ℕ) (f : Bool → Pause) → Fits m r v (plain Truth) →
      ((b : Bool) → Reached m r (f b) t n) → Reached m r (on (bool_in v) f) t (λ x. held x v + n x)
  bool_next v t n f g k =
      let p = bool_value m r v g in
      subst (λ z. Reached m r (on (bool_in z) f) t (λ x. held x z + n x)) (sym p.1)
      (counted (f p.0) t n (λ x. 0 + n x) (k p.0) (λ x u. omega arith))
