-- What the value of a part leads to, frame by frame.
use Rattle.std.proofs.Common.{◌≡◌, ℕ, zero, suc, ◌+◌, List, ◌∷◌, not, Some, refl, sym, subst, arith}
use Rattle.fst_types.specs.Tree.{Tree}
use Rattle.fst_types.specs.declared.label.Label.TheVariants.{Send, Receive, Select, Close, Wait}
use Rattle.fst_lts.specs.Step.{step}
use Rattle.fst_terms.specs.CoreTree.{CoreTree, CoreList, CoreArms}
use Rattle.fst_terms.specs.declared.term.Op.{Op}
use Rattle.fst_derivations.specs.Rules.{Surroundings}
use Rattle.fst_types.specs.declared.event.Event.TheVariants.{Label}
use Rattle.fst_machine.specs.Free.{free, outside}
use Rattle.fst_machine.specs.Values as value
use Rattle.fst_machine.specs.Values.{Value, Values, Environment, enter, bool_in, operated, sent}
use Rattle.fst_machine.specs.Machine.{Frame, at_function, at_argument, at_first, at_second, at_field, at_let, at_split, at_left, at_right, at_not, at_value, at_target, at_receive, at_close, at_wait, at_select, at_match, at_seq, Pause, calls, puts, gets, closes, waits, matches, eval, eval_all, on, on_function, on_pair, on_end}
use Rattle.fst_runs.specs.Wrong.{held, held_env, held_frames}
use Rattle.fst_safety.specs.Fitting.{Residuals, Fits, FitsEnv, Takes}
use Rattle.fst_safety.specs.WellTyped.{IsWellTyped}
use Rattle.fst_safety.specs.Pauses.{Reached}
use Rattle.fst_safety.proofs.Exact.{exactly_enter}
use Rattle.fst_safety.proofs.Typed.{fits_equal, fits_enter}
use Rattle.fst_safety.proofs.Idle.{idle}
use Rattle.fst_safety.proofs.Held.{held_enter}
use Rattle.fst_safety.proofs.Shapes.{step_moving, offering_moving, sent_value}
use Rattle.fst_safety.proofs.Operators.{operated_gives}
use Rattle.fst_safety.proofs.Comes.{Comes, Good, GoodAll, counted, end_next, function_next, pair_next, bool_next}

module _ (m : Surroundings) (w : IsWellTyped m) (r : Residuals) where
  -- an argument is called with
  pub next_argument : (v : Value) (fs : List Frame) (a t : Tree) → Takes m r (at_argument v ∷ fs) a t →
      Comes m w r (λ z. on_function v (λ b own. calls b own z fs)) (at_argument v ∷ fs) a t
  next_argument v fs a t k z g =
      counted m w r (on_function v (λ b own. calls b own z fs)) t (λ x. held x v + (held x z + held_frames x fs))
      (λ x. held x z + (held x v + held_frames x fs))
      (function_next m w r v k.0 a k.1 t (λ x. held x z + held_frames x fs) (λ b own. calls b own z fs) k.2
      (λ e env f. ((k.0, a, k.1, f, g, k.3, k.4, k.5), λ x u. omega arith)))
      (λ x u. omega arith)

  -- a function waits for its argument
  pub next_function : (f : CoreTree) (env : Environment) (fs : List Frame) (a t : Tree) → Good m w r f →
      Takes m r (at_function f env ∷ fs) a t →
      Comes m w r (λ v. eval m.families f env (at_argument v ∷ fs) (λ z. on_function v (λ b own. calls b own z fs)))
      (at_function f env ∷ fs) a t
  next_function f env fs a t h k v g =
      let k' : Takes m r (at_argument v ∷ fs) k.1 t = (k.0, k.2, subst (Fits m r v) k.4 g, k.7, k.8, k.9) in
      counted m w r (eval m.families f env (at_argument v ∷ fs) (λ z. on_function v (λ b own. calls b own z fs))) t _ _
      (h env (at_argument v ∷ fs) (λ z. on_function v (λ b own. calls b own z fs)) k.3 k.1 t k.5 k.6 k'
      (next_argument v fs k.1 t k'))
      (λ x u. omega arith)

  -- both parts of a pair are there
  pub next_second : (v : Value) (fs : List Frame) (back : Value → Pause) (b t : Tree) (k : Takes m r (at_second v ∷ fs) b t) →
      Comes m w r back fs k.2 t →
      Comes m w r (λ z. back (value.pair v z)) (at_second v ∷ fs) b t
  next_second v fs back b t k h z g = counted m w r (back (value.pair v z)) t _ _ (h (value.pair v z) (k.0, b, k.1, g, k.3))
      (λ x u. omega arith)

  -- the first part waits for the second
  pub next_first : (f : CoreTree) (env : Environment) (fs : List Frame) (back : Value → Pause) (a t : Tree) → Good m w r f →
      (k : Takes m r (at_first f env ∷ fs) a t) →
      Comes m w r back fs k.4 t →
      Comes m w r (λ v. eval m.families f env (at_second v ∷ fs) (λ z. back (value.pair v z))) (at_first f env ∷ fs) a t
  next_first f env fs back a t h k c v g =
      let k' : Takes m r (at_second v ∷ fs) k.0 t = (a, g, k.4, k.5, k.6) in
      counted m w r (eval m.families f env (at_second v ∷ fs) (λ z. back (value.pair v z))) t _ _
      (h env (at_second v ∷ fs) (λ z. back (value.pair v z)) k.1 k.0 t k.2 k.3 k' (next_second v fs back k.0 t k' c))
      (λ x u. omega arith)

  -- an argument of a constructor joins those before it
  pub next_field : (n o : ℕ) (done : Values) (es : CoreList) (env : Environment) (fs : List Frame) (back : Value → Pause)
      (a t : Tree) → GoodAll m w r es →
      (k : Takes m r (at_field n o done es env ∷ fs) a t) → Comes m w r back fs k.9 t →
      Comes m w r (λ v. eval_all m.families es n o (value.value v done) env fs back) (at_field n o done es env ∷ fs) a t
  next_field n o done es env fs back a t h k c v g =
      counted m w r (eval_all m.families es n o (value.value v done) env fs back) t _ _
      (h n o (value.value v done) env fs back k.3 k.0 k.1 k.2 k.9 t k.4 k.5 (a, g, k.6) k.7 k.8 k.10 k.11 c)
      (λ x u. omega arith)

  -- a value is bound
  pub next_let : (f : CoreTree) (env : Environment) (fs : List Frame) (back : Value → Pause) (a t : Tree) → Good m w r f →
      (k : Takes m r (at_let f env ∷ fs) a t) →
      Comes m w r back fs k.1 t → Comes m w r (λ v. eval m.families f (enter (free f zero) v env) fs back) (at_let f env ∷ fs) a t
  next_let f env fs back a t h k c v g =
      let g' : Fits m r v k.0.type = subst (Fits m r v) k.3 g in
      counted m w r (eval m.families f (enter (free f zero) v env) fs back) t _ _
      (h (enter (free f zero) v env) fs back (k.0 ∷ k.2) k.1 t
      (fits_enter m r (free f zero) v env k.0 k.2 g' k.4 k.5.0, exactly_enter (free f zero) v env (free f) refl k.5.1) k.6 k.8 c)
      (λ x u. let z = held_enter m w r x (free f zero) v env k.0 u g' k.4 k.7 in omega (arith, z))

  -- the parts of a pair are bound
  pub next_split : (f : CoreTree) (env : Environment) (fs : List Frame) (back : Value → Pause) (a t : Tree) → Good m w r f →
      (k : Takes m r (at_split f env ∷ fs) a t) →
      Comes m w r back fs k.2 t →
      Comes m w r (λ v. on_pair v (λ y z. eval m.families f (enter (free f zero) z (enter (free f (suc zero)) y env)) fs back))
      (at_split f env ∷ fs) a t
  next_split f env fs back a t h k c v g =
      pair_next m w r v k.0.type k.1.type t (λ x. held_env x env + held_frames x fs)
      (λ y z. eval m.families f (enter (free f zero) z (enter (free f (suc zero)) y env)) fs back)
      (subst (Fits m r v) k.4 g)
      (λ y z gy gz.
      let e1 : Environment = enter (free f (suc zero)) y env in
      let f1 : FitsEnv m r e1 (k.0 ∷ k.3) = fits_enter m r (free f (suc zero)) y env k.0 k.3 gy k.5 k.7.0 in
      counted m w r (eval m.families f (enter (free f zero) z e1) fs back) t _ _
      (h (enter (free f zero) z e1) fs back (k.1 ∷ k.0 ∷ k.3) k.2 t (
        fits_enter m r (free f zero) z e1 k.1 (k.0 ∷ k.3) gz k.6 f1,
        exactly_enter (free f zero) z e1 (free f) refl (exactly_enter (free f (suc zero)) y env (outside (free f)) refl k.7.1),
      )
      k.8 k.11 c)
      (λ x u.
      let p = held_enter m w r x (free f (suc zero)) y env k.0 u gy k.5 k.9 in
      let q = held_enter m w r x (free f zero) z e1 k.1 u gz k.6 k.10 in
      omega (arith, p, q)))

  -- a value that may be copied is dropped
  pub next_seq : (f : CoreTree) (env : Environment) (fs : List Frame) (back : Value → Pause) (a t : Tree) → Good m w r f →
      (k : Takes m r (at_seq f env ∷ fs) a t) →
      Comes m w r back fs k.0 t → Comes m w r (λ v. eval m.families f env fs back) (at_seq f env ∷ fs) a t
  next_seq f env fs back a t h k c v g =
      counted m w r (eval m.families f env fs back) t _ _ (h env fs back k.1 k.0 t k.3 k.4 k.5 c)
      (λ x u. let z = idle m w r x v a u g k.2 in omega (arith, z))

  -- a sign has both operands
  pub next_right : (o : Op) (v : Value) (fs : List Frame) (back : Value → Pause) (a t : Tree)
      (k : Takes m r (at_right o v ∷ fs) a t) → Comes m w r back fs k.3 t →
      Comes m w r (λ z. on (operated o v z) back) (at_right o v ∷ fs) a t
  next_right o v fs back a t k c z g =
      let s = operated_gives m r o a k.0 v z k.1 k.2 g in
      subst (λ q. Reached m r (on q back) t (λ x. held x z + (held x v + held_frames x fs))) (sym s.is)
      (counted m w r (back s.result) t _ _ (c s.result (fits_equal m r s.result k.0 k.3 s.fits k.4))
      (λ x u. let i = s.empty x in let j = s.left x in let l = s.right x in omega (arith, i, j, l)))

  -- the left operand waits for the right one
  pub next_left : (o : Op) (f : CoreTree) (env : Environment) (fs : List Frame) (back : Value → Pause) (a t : Tree) →
      Good m w r f → (k : Takes m r (at_left o f env ∷ fs) a t) →
      Comes m w r back fs k.5 t → Comes m w r (λ v. eval m.families f env (at_right o v ∷ fs) (λ z. on (operated o v z) back))
      (at_left o f env ∷ fs) a t
  next_left o f env fs back a t h k c v g =
      let k' : Takes m r (at_right o v ∷ fs) a t = (k.0, k.2, g, k.5, k.6, k.7) in
      counted m w r (eval m.families f env (at_right o v ∷ fs) (λ z. on (operated o v z) back)) t _ _
      (h env (at_right o v ∷ fs) (λ z. on (operated o v z) back) k.1 a t k.3 k.4 k' (next_right o v fs back a t k' c))
      (λ x u. omega arith)

  -- a truth value is turned round
  pub next_not : (fs : List Frame) (back : Value → Pause) (a t : Tree) (k : Takes m r (at_not ∷ fs) a t) →
      Comes m w r back fs k.1 t →
      Comes m w r (λ v. on (bool_in v) (λ b. back (value.bool (not b)))) (at_not ∷ fs) a t
  next_not fs back a t k c v g =
      bool_next m w r v t (λ x. 0 + held_frames x fs) (λ b. back (value.bool (not b))) (subst (Fits m r v) k.0 g)
      (λ b. c (value.bool (not b)) k.2)

  -- a value is sent on an end
  pub next_target : (v : Value) (fs : List Frame) (a t : Tree) → Takes m r (at_target v ∷ fs) a t →
      Comes m w r (λ z. on_end z (λ y. on (sent v) (λ ev. puts y ev fs))) (at_target v ∷ fs) a t
  next_target v fs a t k z g =
      let s = sent_value m r v k.0 k.2 in
      end_next m w r z a t (λ x. held x v + held_frames x fs)
      (λ y. on (sent v) (λ ev. puts y ev fs)) (step_moving a (Send k.0) k.1 k.3) g
      (λ y f.
      subst (λ q. Reached m r (on q (λ ev. puts y ev fs)) t (λ x. held x (value.end y) + (held x v + held_frames x fs))) (sym s.1)
      ((a, k.1, f, subst (λ l. step a l ≡ Some k.1) (sym s.2) k.3, k.4, k.5, k.6), λ x u. let i = s.3 x in omega (arith, i)))

  -- a value to send waits for the end
  pub next_value : (f : CoreTree) (env : Environment) (fs : List Frame) (a t : Tree) → Good m w r f →
      Takes m r (at_value f env ∷ fs) a t →
      Comes m w r (λ v. eval m.families f env (at_target v ∷ fs) (λ z. on_end z (λ y. on (sent v) (λ ev. puts y ev fs))))
      (at_value f env ∷ fs) a t
  next_value f env fs a t h k v g =
      let k' : Takes m r (at_target v ∷ fs) k.1 t = (k.0, k.2, subst (Fits m r v) k.4 g, k.7, k.8, k.9, k.10) in
      counted m w r (eval m.families f env (at_target v ∷ fs) (λ z. on_end z (λ y. on (sent v) (λ ev. puts y ev fs)))) t _ _
      (h env (at_target v ∷ fs) (λ z. on_end z (λ y. on (sent v) (λ ev. puts y ev fs))) k.3 k.1 t k.5 k.6 k'
      (next_target v fs k.1 t k'))
      (λ x u. omega arith)

  -- something is received on an end
  pub next_receive : (fs : List Frame) (a t : Tree) → Takes m r (at_receive ∷ fs) a t → Comes m w r
      (λ z. on_end z (λ y. gets y fs)) (at_receive ∷ fs) a t
  next_receive fs a t k z g =
      end_next m w r z a t (λ x. 0 + held_frames x fs) (λ y. gets y fs) (step_moving a (Receive k.0) k.1 k.2) g
      (λ y f. ((k.0, a, k.1, f, k.2, k.3, k.4, k.5), λ x u. omega arith))

  -- a channel is closed at an end
  pub next_close : (fs : List Frame) (a t : Tree) → Takes m r (at_close ∷ fs) a t → Comes m w r
      (λ z. on_end z (λ y. closes y fs)) (at_close ∷ fs) a t
  next_close fs a t k z g =
      end_next m w r z a t (λ x. 0 + held_frames x fs) (λ y. closes y fs) (step_moving a Close k.0 k.1) g
      (λ y f. ((a, k.0, f, k.1, k.2, k.3, k.4), λ x u. omega arith))

  -- that is waited for at an end
  pub next_wait : (fs : List Frame) (a t : Tree) → Takes m r (at_wait ∷ fs) a t → Comes m w r
      (λ z. on_end z (λ y. waits y fs)) (at_wait ∷ fs) a t
  next_wait fs a t k z g =
      end_next m w r z a t (λ x. 0 + held_frames x fs) (λ y. waits y fs) (step_moving a Wait k.0 k.1) g
      (λ y f. ((a, k.0, f, k.1, k.2, k.3, k.4), λ x u. omega arith))

  -- a label is selected on an end
  pub next_select : (l : List ℕ) (fs : List Frame) (a t : Tree) → Takes m r (at_select l ∷ fs) a t → Comes m w r
      (λ z. on_end z (λ y. puts y (Label l) fs)) (at_select l ∷ fs) a t
  next_select l fs a t k z g =
      end_next m w r z a t (λ x. 0 + held_frames x fs) (λ y. puts y (Label l) fs) (step_moving a (Select l) k.0 k.1) g
      (λ y f. ((a, k.0, f, k.1, k.2, k.3, k.4), λ x u. omega arith))

  -- a label is waited for on an end
  pub next_match : (bs : CoreArms) (env : Environment) (fs : List Frame) (a t : Tree) → Takes m r (at_match bs env ∷ fs) a t →
      Comes m w r (λ z. on_end z (λ y. matches y bs env fs)) (at_match bs env ∷ fs) a t
  next_match bs env fs a t k z g =
      end_next m w r z a t (λ x. held_env x env + held_frames x fs) (λ y. matches y bs env fs) (offering_moving a k.0 k.3) g
      (λ y f. ((a, k.0, k.1, k.2, f, k.3, k.4, k.5, k.6, k.7, k.8), λ x u. omega arith))
