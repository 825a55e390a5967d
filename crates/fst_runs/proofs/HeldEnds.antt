-- With no typing: an end that stands nowhere in a state stands nowhere in its pause.
use Rattle.std.proofs.Common.{◌≡◌, ℕ, ℤ, zero, suc, ◌+◌, List, [], ◌∷◌, Bool, true, false, not, Option, Some, None, refl, arith}
use Rattle.std.specs.Prelude.{option_map, option_and_then}
use Rattle.std.specs.declared.cmp.Ordering.{Ordering}
use Rattle.std.specs.Int.{w64, int_wrapping_add, int_wrapping_sub, int_wrapping_mul}
use Rattle.std.specs.Ordering.{is_eq, is_ne, is_lt, is_le, is_gt, is_ge}
use Rattle.std.specs.Str.{bytes_eq}
use Rattle.fst_types.specs.declared.family.Family.{Family}
use Rattle.fst_terms.specs.CoreTree.{CoreTree, local, global, int, bool, char, unit, pair, make, lambda, apply, let_in, split, if_else, case_of, operate, negate, new, send, receive, close, wait, select, match_with, fork, seq, CoreList, no_terms, term, CoreArms, no_arms, arm}
use Rattle.fst_terms.specs.declared.term.Op.{Op}
use Rattle.fst_terms.specs.declared.term.Op.TheVariants.{Add, Subtract, Multiply, Equal, Unequal, Less, AtMost, Greater, AtLeast, And, Or}
use Rattle.fst_types.specs.declared.ends.EndName.{EndName}
use Rattle.fst_machine.specs.Free.{free, free_in, free_below, outside, outside_all}
use Rattle.fst_machine.specs.Values as value
use Rattle.fst_machine.specs.Values.{Value, Values, no_values, Environment, none, hole, slot, lookup, enter, keep, count, enter_all, turned_onto, int_in, bool_in, both, either, compared, operated, sent}
use Rattle.fst_machine.specs.Machine.{State, Frame, at_function, at_argument, at_first, at_second, at_field, at_let, at_split, at_if, at_case, at_left, at_right, at_not, at_value, at_target, at_receive, at_close, at_wait, at_select, at_match, at_seq, Pause, calls, puts, gets, closes, waits, matches, eval, eval_all, eval_arm, resume, pause, on, on_function, on_pair, on_made, on_end, chosen, name_of, in_either}
use Rattle.fst_runs.specs.Wrong.{held, held_all, held_env, held_frames, held_state, held_pause}

left_zero : (a b : ℕ) → a + b ≡ 0 → a ≡ 0
left_zero a b e = omega (arith, e)

right_zero : (a b : ℕ) → a + b ≡ 0 → b ≡ 0
right_zero a b e = omega (arith, e)

zeros : (a b : ℕ) → a ≡ 0 → b ≡ 0 → a + b ≡ 0
zeros a b e f = omega (arith, e, f)

-- values turned round hold what they held
pub held_turned : (x : EndName) (done ws : Values) → held_all x (turned_onto done ws) ≡ held_all x done + held_all x ws
held_turned x no_values ws = omega arith
held_turned x (value.value v vs) ws = let h = held_turned x vs (value.value v ws) in omega (arith, h)

-- x stands nowhere in what the lemmas begin with
module _ (m : List Family) (x : EndName) where
  -- with one variable more
  pub enter_none : (b : Bool) (v : Value) (env : Environment) → held x v ≡ 0 → held_env x env ≡ 0 → held_env x (enter b v env) ≡ 0
  enter_none true v env h g = zeros (held x v) (held_env x env) h g
  enter_none false v env h g = g

  -- with those alone that are kept
  pub keep_none : (env : Environment) (p : ℕ → Bool) → held_env x env ≡ 0 → held_env x (keep p env) ≡ 0
  keep_none none p h = refl
  keep_none (hole env) p h = keep_none env (outside p) h
  keep_none (slot v env) p h =
      enter_none (p zero) v (keep (outside p) env) (left_zero (held x v) (held_env x env) h)
      (keep_none env (outside p) (right_zero (held x v) (held_env x env) h))

  enter_all_none : (p : ℕ → Bool) (vs : Values) (env : Environment) → held_all x vs ≡ 0 → held_env x env ≡ 0 →
      held_env x (enter_all p vs env) ≡ 0
  enter_all_none p no_values env h g = g
  enter_all_none p (value.value v vs) env h g =
      enter_all_none p vs (enter (p (count vs)) v env) (right_zero (held x v) (held_all x vs) h)
      (enter_none (p (count vs)) v env (left_zero (held x v) (held_all x vs) h) g)

  -- each value in which the end doesn't stand leads to a pause in which it doesn't
  abbrev Backs : (Value → Pause) → Type 0
  Backs f = (v : Value) → held x v ≡ 0 → held_pause x (f v) ≡ 0

  on_none : {X : Type 0} (o : Option X) (f : X → Pause) → ((y : X) → held_pause x (f y) ≡ 0) → held_pause x (on o f) ≡ 0
  on_none None f g = refl
  on_none (Some y) f g = g y

  chosen_none : (b : Bool) (p q : Pause) → held_pause x p ≡ 0 → held_pause x q ≡ 0 → held_pause x (chosen b p q) ≡ 0
  chosen_none true p q h g = h
  chosen_none false p q h g = g

  found_none : (env : Environment) (k : ℕ) (f : Value → Pause) → held_env x env ≡ 0 → Backs f →
      held_pause x (on (lookup env k) f) ≡ 0
  found_none none k f h g = refl
  found_none (hole env) zero f h g = refl
  found_none (hole env) (suc k) f h g = found_none env k f h g
  found_none (slot v env) zero f h g = g v (left_zero (held x v) (held_env x env) h)
  found_none (slot v env) (suc k) f h g = found_none env k f (right_zero (held x v) (held_env x env) h) g

  end_none : (f : EndName → Pause) → ((y : EndName) → held x (value.end y) ≡ 0 → held_pause x (f y) ≡ 0) → Backs (λ v. on_end v f)
  end_none f g (value.int n) h = refl
  end_none f g (value.bool b) h = refl
  end_none f g (value.char c) h = refl
  end_none f g value.unit h = refl
  end_none f g (value.pair v w) h = refl
  end_none f g (value.made n o vs) h = refl
  end_none f g (value.function e env) h = refl
  end_none f g (value.end y) h = g y h

  pair_none : (f : Value → Value → Pause) → ((y z : Value) → held x y ≡ 0 → held x z ≡ 0 → held_pause x (f y z) ≡ 0) → Backs
      (λ v. on_pair v f)
  pair_none f g (value.int n) h = refl
  pair_none f g (value.bool b) h = refl
  pair_none f g (value.char c) h = refl
  pair_none f g value.unit h = refl
  pair_none f g (value.pair v w) h = g v w (left_zero (held x v) (held x w) h) (right_zero (held x v) (held x w) h)
  pair_none f g (value.made n o vs) h = refl
  pair_none f g (value.function e env) h = refl
  pair_none f g (value.end y) h = refl

  made_none : (f : ℕ → ℕ → Values → Pause) → ((n o : ℕ) (vs : Values) → held_all x vs ≡ 0 → held_pause x (f n o vs) ≡ 0) → Backs
      (λ v. on_made v f)
  made_none f g (value.int n) h = refl
  made_none f g (value.bool b) h = refl
  made_none f g (value.char c) h = refl
  made_none f g value.unit h = refl
  made_none f g (value.pair v w) h = refl
  made_none f g (value.made n o vs) h = g n o vs h
  made_none f g (value.function e env) h = refl
  made_none f g (value.end y) h = refl

  call_none : (v : Value) (fs : List Frame) → held x v ≡ 0 → held_frames x fs ≡ 0 → Backs
      (λ w. on_function v (λ b own. calls b own w fs))
  call_none (value.int n) fs h g w k = refl
  call_none (value.bool b) fs h g w k = refl
  call_none (value.char c) fs h g w k = refl
  call_none value.unit fs h g w k = refl
  call_none (value.pair y z) fs h g w k = refl
  call_none (value.made n o vs) fs h g w k = refl
  call_none (value.function e env) fs h g w k = omega (arith, h, g, k)
  call_none (value.end y) fs h g w k = refl

  send_none : (v : Value) (fs : List Frame) → held_frames x fs ≡ 0 → Backs (λ w. on_end w (λ y. on (sent v) (λ ev. puts y ev fs)))
  send_none v fs g = end_none (λ y. on (sent v) (λ ev. puts y ev fs))
      (λ y h. on_none (sent v) (λ ev. puts y ev fs) (λ ev. zeros (held x (value.end y)) (held_frames x fs) h g))

  computed_none : (f : ℤ → ℤ → ℤ) (a b : Option ℤ) (back : Value → Pause) → Backs back →
      held_pause x (on (option_and_then (λ m. option_map (λ n. value.int (f m n)) b) a) back) ≡ 0
  computed_none f None b back g = refl
  computed_none f (Some n) None back g = refl
  computed_none f (Some n) (Some k) back g = g (value.int (f n k)) refl

  decided_none : (f : Bool → Bool → Bool) (a b : Option Bool) (back : Value → Pause) → Backs back →
      held_pause x (on (option_and_then (λ a. option_map (λ b. value.bool (f a b)) b) a) back) ≡ 0
  decided_none f None b back g = refl
  decided_none f (Some n) None back g = refl
  decided_none f (Some n) (Some k) back g = g (value.bool (f n k)) refl

  tested_none : (f : Ordering → Bool) (o : Option Ordering) (back : Value → Pause) → Backs back →
      held_pause x (on (option_map (λ o. value.bool (f o)) o) back) ≡ 0
  tested_none f None back g = refl
  tested_none f (Some o) back g = g (value.bool (f o)) refl

  operated_none : (o : Op) (v w : Value) (back : Value → Pause) → Backs back → held_pause x (on (operated o v w) back) ≡ 0
  operated_none Add v w back g = computed_none (int_wrapping_add w64) (int_in v) (int_in w) back g
  operated_none Subtract v w back g = computed_none (int_wrapping_sub w64) (int_in v) (int_in w) back g
  operated_none Multiply v w back g = computed_none (int_wrapping_mul w64) (int_in v) (int_in w) back g
  operated_none Equal v w back g = tested_none is_eq (compared v w) back g
  operated_none Unequal v w back g = tested_none is_ne (compared v w) back g
  operated_none Less v w back g = tested_none is_lt (compared v w) back g
  operated_none AtMost v w back g = tested_none is_le (compared v w) back g
  operated_none Greater v w back g = tested_none is_gt (compared v w) back g
  operated_none AtLeast v w back g = tested_none is_ge (compared v w) back g
  operated_none And v w back g = decided_none both (bool_in v) (bool_in w) back g
  operated_none Or v w back g = decided_none either (bool_in v) (bool_in w) back g

  branch_none : (o : Option Bool) (p q : Pause) → held_pause x p ≡ 0 → held_pause x q ≡ 0 →
      held_pause x (on o (λ b. chosen b p q)) ≡ 0
  branch_none o p q h g = on_none o (λ b. chosen b p q) (λ b. chosen_none b p q h g)

  case_none : (bs : CoreArms) (env : Environment) (fs : List Frame) (back : Value → Pause) →
      ((l : List ℕ) (vs : Values) → held_all x vs ≡ 0 → held_pause x (eval_arm m bs l vs env fs back) ≡ 0) →
      Backs (λ v. on_made v (λ n o vs. on (name_of m n o) (λ l. eval_arm m bs l vs env fs back)))
  case_none bs env fs back h =
      made_none (λ n o vs. on (name_of m n o) (λ l. eval_arm m bs l vs env fs back))
      (λ n o vs d. on_none (name_of m n o) (λ l. eval_arm m bs l vs env fs back) (λ l. h l vs d))

  mutual
    -- a term leads to no pause with the end
    term_none : (e : CoreTree) (env : Environment) (fs : List Frame) (back : Value → Pause) → held_env x env ≡ 0 →
        held_frames x fs ≡ 0 → Backs back →
        held_pause x (eval m e env fs back) ≡ 0
    term_none (local at k) env fs back h g f = found_none env k back h f
    term_none (global at n ts) env fs back h g f = g
    term_none (int at n) env fs back h g f = f (value.int n) refl
    term_none (bool at b) env fs back h g f = f (value.bool b) refl
    term_none (char at c) env fs back h g f = f (value.char c) refl
    term_none (unit at) env fs back h g f = f value.unit refl
    term_none (pair at a b) env fs back h g f =
        let k = keep_none env (free b) h in
        term_none a (keep (free a) env) (at_first b (keep (free b) env) ∷ fs)
        (λ v. eval m b (keep (free b) env) (at_second v ∷ fs) (λ w. back (value.pair v w)))
        (keep_none env (free a) h) (zeros _ _ k g)
        (λ v z. term_none b (keep (free b) env) (at_second v ∷ fs) (λ w. back (value.pair v w)) k (zeros _ _ z g)
        (λ w y. f (value.pair v w) (zeros _ _ z y)))
    term_none (make at n o es) env fs back h g f = terms_none es n o no_values env fs back refl h g f
    term_none (lambda at u t y e) env fs back h g f = f (value.function e env) h
    term_none (apply at a b) env fs back h g f =
        let k = keep_none env (free b) h in
        term_none a (keep (free a) env) (at_function b (keep (free b) env) ∷ fs)
        (λ v. eval m b (keep (free b) env) (at_argument v ∷ fs) (λ w. on_function v (λ b own. calls b own w fs)))
        (keep_none env (free a) h) (zeros _ _ k g)
        (λ v z. term_none b (keep (free b) env) (at_argument v ∷ fs)
        (λ w. on_function v (λ b own. calls b own w fs)) k (zeros _ _ z g) (call_none v fs z g))
    term_none (let_in at y a b) env fs back h g f =
        let k = keep_none env (outside (free b)) h in
        term_none a (keep (free a) env) (at_let b (keep (outside (free b)) env) ∷ fs)
        (λ v. eval m b (enter (free b zero) v (keep (outside (free b)) env)) fs back)
        (keep_none env (free a) h) (zeros _ _ k g)
        (λ v z. term_none b (enter (free b zero) v (keep (outside (free b)) env)) fs back
        (enter_none (free b zero) v (keep (outside (free b)) env) z k) g f)
    term_none (split at y w a b) env fs back h g f =
        let kept = keep (outside (outside (free b))) env in
        let k = keep_none env (outside (outside (free b))) h in
        term_none a (keep (free a) env) (at_split b kept ∷ fs)
        (λ v. on_pair v (λ y z. eval m b (enter (free b zero) z (enter (free b (suc zero)) y kept)) fs back))
        (keep_none env (free a) h) (zeros _ _ k g)
        (pair_none (λ y z. eval m b (enter (free b zero) z (enter (free b (suc zero)) y kept)) fs back)
        (λ y z hy hz. term_none b (enter (free b zero) z (enter (free b (suc zero)) y kept)) fs back
        (enter_none (free b zero) z (enter (free b (suc zero)) y kept) hz (enter_none (free b (suc zero)) y kept hy k)) g f))
    term_none (if_else at e a b) env fs back h g f =
        let kept = keep (in_either a b) env in
        let k = keep_none env (in_either a b) h in
        term_none e (keep (free e) env) (at_if a b kept ∷ fs)
        (λ v. on (bool_in v) (λ t. chosen t (eval m a (keep (free a) kept) fs back) (eval m b (keep (free b) kept) fs back)))
        (keep_none env (free e) h) (zeros _ _ k g)
        (λ v z. branch_none (bool_in v) (eval m a (keep (free a) kept) fs back) (eval m b (keep (free b) kept) fs back)
        (term_none a (keep (free a) kept) fs back (keep_none kept (free a) k) g f)
        (term_none b (keep (free b) kept) fs back (keep_none kept (free b) k) g f))
    term_none (case_of at e bs) env fs back h g f =
        let kept = keep (free_below bs) env in
        let k = keep_none env (free_below bs) h in
        term_none e (keep (free e) env) (at_case bs kept ∷ fs)
        (λ v. on_made v (λ n o vs. on (name_of m n o) (λ l. eval_arm m bs l vs kept fs back)))
        (keep_none env (free e) h) (zeros _ _ k g)
        (case_none bs kept fs back (λ l vs d. arm_none bs l vs kept fs back d k g f))
    term_none (operate at o a b) env fs back h g f =
        let k = keep_none env (free b) h in
        term_none a (keep (free a) env) (at_left o b (keep (free b) env) ∷ fs)
        (λ v. eval m b (keep (free b) env) (at_right o v ∷ fs) (λ w. on (operated o v w) back))
        (keep_none env (free a) h) (zeros _ _ k g)
        (λ v z. term_none b (keep (free b) env) (at_right o v ∷ fs) (λ w. on (operated o v w) back) k (zeros _ _ z g)
        (λ w y. operated_none o v w back f))
    term_none (negate at e) env fs back h g f =
        term_none e env (at_not ∷ fs) (λ v. on (bool_in v) (λ b. back (value.bool (not b)))) h (zeros 0 _ refl g)
        (λ v z. on_none (bool_in v) (λ b. back (value.bool (not b))) (λ b. f (value.bool (not b)) refl))
    term_none (new at t) env fs back h g f = g
    term_none (send at a b) env fs back h g f =
        let k = keep_none env (free b) h in
        term_none a (keep (free a) env) (at_value b (keep (free b) env) ∷ fs)
        (λ v. eval m b (keep (free b) env) (at_target v ∷ fs) (λ w. on_end w (λ y. on (sent v) (λ ev. puts y ev fs))))
        (keep_none env (free a) h) (zeros _ _ k g)
        (λ v z. term_none b (keep (free b) env) (at_target v ∷ fs)
        (λ w. on_end w (λ y. on (sent v) (λ ev. puts y ev fs))) k (zeros _ _ z g) (send_none v fs g))
    term_none (receive at e) env fs back h g f =
        term_none e env (at_receive ∷ fs) (λ v. on_end v (λ y. gets y fs)) h (zeros 0 _ refl g)
        (end_none (λ y. gets y fs) (λ y hy. zeros _ _ hy g))
    term_none (close at e) env fs back h g f =
        term_none e env (at_close ∷ fs) (λ v. on_end v (λ y. closes y fs)) h (zeros 0 _ refl g)
        (end_none (λ y. closes y fs) (λ y hy. zeros _ _ hy g))
    term_none (wait at e) env fs back h g f =
        term_none e env (at_wait ∷ fs) (λ v. on_end v (λ y. waits y fs)) h (zeros 0 _ refl g)
        (end_none (λ y. waits y fs) (λ y hy. zeros _ _ hy g))
    term_none (select at l e) env fs back h g f =
        term_none e env (at_select l ∷ fs) _ h (zeros 0 _ refl g) (end_none _ (λ y hy. zeros _ _ hy g))
    term_none (match_with at e bs) env fs back h g f =
        let kept = keep (free_below bs) env in
        let k = keep_none env (free_below bs) h in
        term_none e (keep (free e) env) (at_match bs kept ∷ fs)
        (λ v. on_end v (λ y. matches y bs kept fs)) (keep_none env (free e) h) (zeros _ _ k g)
        (end_none (λ y. matches y bs kept fs) (λ y hy. zeros _ _ (zeros _ _ hy k) g))
    term_none (fork at e) env fs back h g f = zeros _ _ h g
    term_none (seq at a b) env fs back h g f =
        let k = keep_none env (free b) h in
        term_none a (keep (free a) env) (at_seq b (keep (free b) env) ∷ fs)
        (λ v. eval m b (keep (free b) env) fs back) (keep_none env (free a) h) (zeros _ _ k g)
        (λ v z. term_none b (keep (free b) env) fs back k g f)

    -- nor do the arguments of a constructor
    terms_none : (es : CoreList) (n o : ℕ) (done : Values) (env : Environment) (fs : List Frame) (back : Value → Pause) →
        held_all x done ≡ 0 → held_env x env ≡ 0 →
        held_frames x fs ≡ 0 → Backs back → held_pause x (eval_all m es n o done env fs back) ≡ 0
    terms_none no_terms n o done env fs back d h g f =
        f (value.made n o (turned_onto done no_values)) (let t = held_turned x done no_values in omega (arith, d, t))
    terms_none (term e es) n o done env fs back d h g f =
        let k = keep_none env (free_in es) h in
        term_none e (keep (free e) env) (at_field n o done es (keep (free_in es) env) ∷ fs)
        (λ v. eval_all m es n o (value.value v done) (keep (free_in es) env) fs back)
        (keep_none env (free e) h) (zeros _ _ (zeros _ _ d k) g)
        (λ v z. terms_none es n o (value.value v done) (keep (free_in es) env) fs back (zeros _ _ z d) k g f)

    -- nor does the arm of a label
    arm_none : (bs : CoreArms) (l : List ℕ) (vs : Values) (env : Environment) (fs : List Frame) (back : Value → Pause) →
        held_all x vs ≡ 0 → held_env x env ≡ 0 →
        held_frames x fs ≡ 0 → Backs back → held_pause x (eval_arm m bs l vs env fs back) ≡ 0
    arm_none no_arms l vs env fs back d h g f = refl
    arm_none (arm k xs e bs) l vs env fs back d h g f =
        chosen_none (bytes_eq l k) (eval m e (enter_all (free e) vs (keep (outside_all xs (free e)) env)) fs back)
        (eval_arm m bs l vs env fs back)
        (term_none e (enter_all (free e) vs (keep (outside_all xs (free e)) env)) fs back
        (enter_all_none (free e) vs (keep (outside_all xs (free e)) env) d (keep_none env (outside_all xs (free e)) h)) g f)
        (arm_none bs l vs env fs back d h g f)

  -- a value without the end comes through frames without it to no pause with it
  value_none : (fs : List Frame) → held_frames x fs ≡ 0 → Backs (resume m fs)
  value_none [] h v z = z
  value_none (at_function b env ∷ fs) h v z =
      let g = right_zero (held_env x env) (held_frames x fs) h in
      term_none b env (at_argument v ∷ fs) (λ w. on_function v (λ b own. calls b own w fs))
      (left_zero (held_env x env) (held_frames x fs) h) (zeros _ _ z g) (call_none v fs z g)
  value_none (at_argument w ∷ fs) h v z = call_none w fs (left_zero (held x w) (held_frames x fs) h)
      (right_zero (held x w) (held_frames x fs) h) v z
  value_none (at_first b env ∷ fs) h v z =
      let g = right_zero (held_env x env) (held_frames x fs) h in
      term_none b env (at_second v ∷ fs) (λ w. resume m fs (value.pair v w)) (left_zero (held_env x env) (held_frames x fs) h)
      (zeros _ _ z g)
      (λ w y. value_none fs g (value.pair v w) (zeros _ _ z y))
  value_none (at_second w ∷ fs) h v z =
      value_none fs (right_zero (held x w) (held_frames x fs) h) (value.pair w v)
      (zeros _ _ (left_zero (held x w) (held_frames x fs) h) z)
  value_none (at_field n o done es env ∷ fs) h v z =
      let d = left_zero (held_all x done + held_env x env) (held_frames x fs) h in
      let g = right_zero (held_all x done + held_env x env) (held_frames x fs) h in
      terms_none es n o (value.value v done) env fs (resume m fs) (zeros _ _ z (left_zero (held_all x done) (held_env x env) d))
      (right_zero (held_all x done) (held_env x env) d) g (value_none fs g)
  value_none (at_let b env ∷ fs) h v z =
      let g = right_zero (held_env x env) (held_frames x fs) h in
      term_none b (enter (free b zero) v env) fs (resume m fs)
      (enter_none (free b zero) v env z (left_zero (held_env x env) (held_frames x fs) h)) g (value_none fs g)
  value_none (at_split b env ∷ fs) h v z =
      let g = right_zero (held_env x env) (held_frames x fs) h in
      let k = left_zero (held_env x env) (held_frames x fs) h in
      pair_none (λ y w. eval m b (enter (free b zero) w (enter (free b (suc zero)) y env)) fs (resume m fs))
      (λ y w hy hw. term_none b (enter (free b zero) w (enter (free b (suc zero)) y env)) fs (resume m fs)
      (enter_none (free b zero) w (enter (free b (suc zero)) y env) hw (enter_none (free b (suc zero)) y env hy k)) g
      (value_none fs g)) v z
  value_none (at_if a b env ∷ fs) h v z =
      let g = right_zero (held_env x env) (held_frames x fs) h in
      let k = left_zero (held_env x env) (held_frames x fs) h in
      branch_none (bool_in v) (eval m a (keep (free a) env) fs (resume m fs)) (eval m b (keep (free b) env) fs (resume m fs))
      (term_none a (keep (free a) env) fs (resume m fs) (keep_none env (free a) k) g (value_none fs g))
      (term_none b (keep (free b) env) fs (resume m fs) (keep_none env (free b) k) g (value_none fs g))
  value_none (at_case bs env ∷ fs) h v z =
      let g = right_zero (held_env x env) (held_frames x fs) h in
      let k = left_zero (held_env x env) (held_frames x fs) h in
      case_none bs env fs (resume m fs) (λ l vs d. arm_none bs l vs env fs (resume m fs) d k g (value_none fs g)) v z
  value_none (at_left o b env ∷ fs) h v z =
      let g = right_zero (held_env x env) (held_frames x fs) h in
      term_none b env (at_right o v ∷ fs) (λ w. on (operated o v w) (resume m fs))
      (left_zero (held_env x env) (held_frames x fs) h) (zeros _ _ z g)
      (λ w y. operated_none o v w (resume m fs) (value_none fs g))
  value_none (at_right o w ∷ fs) h v z = operated_none o w v (resume m fs)
      (value_none fs (right_zero (held x w) (held_frames x fs) h))
  value_none (at_not ∷ fs) h v z =
      on_none (bool_in v) (λ b. resume m fs (value.bool (not b)))
      (λ b. value_none fs (right_zero 0 (held_frames x fs) h) (value.bool (not b)) refl)
  value_none (at_value b env ∷ fs) h v z =
      let g = right_zero (held_env x env) (held_frames x fs) h in
      term_none b env (at_target v ∷ fs) (λ w. on_end w (λ y. on (sent v) (λ ev. puts y ev fs)))
      (left_zero (held_env x env) (held_frames x fs) h) (zeros _ _ z g) (send_none v fs g)
  value_none (at_target w ∷ fs) h v z = send_none w fs (right_zero (held x w) (held_frames x fs) h) v z
  value_none (at_receive ∷ fs) h v z = end_none (λ y. gets y fs) (λ y hy. zeros _ _ hy (right_zero 0 (held_frames x fs) h)) v z
  value_none (at_close ∷ fs) h v z = end_none (λ y. closes y fs) (λ y hy. zeros _ _ hy (right_zero 0 (held_frames x fs) h)) v z
  value_none (at_wait ∷ fs) h v z = end_none (λ y. waits y fs) (λ y hy. zeros _ _ hy (right_zero 0 (held_frames x fs) h)) v z
  value_none (at_select l ∷ fs) h v z = end_none _ (λ y hy. zeros _ _ hy (right_zero 0 (held_frames x fs) h)) v z
  value_none (at_match bs env ∷ fs) h v z =
      end_none (λ y. matches y bs env fs)
      (λ y hy. zeros _ _ (zeros _ _ hy (left_zero (held_env x env) (held_frames x fs) h))
      (right_zero (held_env x env) (held_frames x fs) h)) v z
  value_none (at_seq b env ∷ fs) h v z =
      let g = right_zero (held_env x env) (held_frames x fs) h in
      term_none b env fs (resume m fs) (left_zero (held_env x env) (held_frames x fs) h) g (value_none fs g)

  -- an end that stands nowhere in a state stands nowhere in its pause
  pub pause_none : (s : State) → held_state x s ≡ 0 → held_pause x (pause m s) ≡ 0
  pause_none s h =
      let g = right_zero (held_env x s.environment) (held_frames x s.frames) h in
      term_none s.term s.environment s.frames (resume m s.frames)
      (left_zero (held_env x s.environment) (held_frames x s.frames) h) g (value_none s.frames g)
