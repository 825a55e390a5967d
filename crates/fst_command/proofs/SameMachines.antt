-- What a task of one program does, one of another does that has the same bodies and whose constructors have the same names.
use Rattle.std.proofs.Common.{◌≡◌, ℕ, zero, suc, not, List, [], ◌∷◌, refl, ap}
use Rattle.std.specs.Str.{bytes_eq}
use Rattle.fst_types.specs.declared.family.Family.{Family}
use Rattle.fst_terms.specs.CoreTree.{CoreTree, local, global, int, bool, char, unit, pair, make, lambda, apply, let_in, split, if_else, case_of, operate, negate, new, send, receive, close, wait, select, match_with, fork, seq, CoreList, no_terms, term, CoreArms, no_arms, arm}
use Rattle.fst_types.specs.declared.event.Event.TheVariants as event
use Rattle.fst_machine.specs.declared.request.Answer.{Answer}
use Rattle.fst_machine.specs.declared.request.Answer.TheVariants.{Go, Made, Forked, Sent, Got}
use Rattle.fst_machine.specs.Free.{free, free_in, free_below, outside, outside_all}
use Rattle.fst_machine.specs.Values as value
use Rattle.fst_machine.specs.Values.{Value, Values, no_values, Environment, lookup, enter, keep, enter_all, turned_onto, operated, sent}
use Rattle.fst_machine.specs.Machine.{Frame, at_function, at_argument, at_first, at_second, at_field, at_let, at_split, at_if, at_case, at_left, at_right, at_not, at_value, at_target, at_receive, at_close, at_wait, at_select, at_match, at_seq, State, Pause, stuck, calls, uses, makes, forks, puts, gets, closes, waits, matches, ended, on, on_function, on_pair, on_made, on_end, chosen, name_of, in_either, eval, eval_all, eval_arm, resume, pause, after}

module _ (m n : List Family) (names : (f o : ℕ) → name_of m f o ≡ name_of n f o) where
  mutual
    eval_same : {b c : Value → Pause} (e : CoreTree) (env : Environment) (fs : List Frame) → b ≡ c →
        eval m e env fs b ≡ eval n e env fs c
    eval_same (local at k) env fs h = ap (on (lookup env k)) h
    eval_same (global at g ts) env fs h = refl
    eval_same (int at k) env fs h = λ i. h i (value.int k)
    eval_same (bool at b) env fs h = λ i. h i (value.bool b)
    eval_same (char at k) env fs h = λ i. h i (value.char k)
    eval_same (unit at) env fs h = λ i. h i value.unit
    eval_same (pair at e f) env fs h =
        eval_same e (keep (free e) env) (at_first f (keep (free f) env) ∷ fs)
        (λ i v. eval_same f (keep (free f) env) (at_second v ∷ fs) (λ j w. h j (value.pair v w)) i)
    eval_same (make at k o es) env fs h = all_same es k o no_values env fs h
    eval_same (lambda at u t x e) env fs h = λ i. h i (value.function e env)
    eval_same (apply at e f) env fs h =
        eval_same e (keep (free e) env) (at_function f (keep (free f) env) ∷ fs)
        (λ i v. eval_same f (keep (free f) env) (at_argument v ∷ fs) (λ j w. on_function v (λ b own. calls b own w fs)) i)
    eval_same (let_in at x e f) env fs h =
        eval_same e (keep (free e) env) (at_let f (keep (outside (free f)) env) ∷ fs)
        (λ i v. eval_same f (enter (free f zero) v (keep (outside (free f)) env)) fs h i)
    eval_same (split at x y e f) env fs h =
        eval_same e (keep (free e) env) (at_split f (keep (outside (outside (free f))) env) ∷ fs)
        (λ i v. on_pair v (λ a b. eval_same f (enter (free f zero) b
        (enter (free f (suc zero)) a (keep (outside (outside (free f))) env))) fs h i))
    eval_same (if_else at e f g) env fs h =
        eval_same e (keep (free e) env) (at_if f g (keep (in_either f g) env) ∷ fs)
        (λ i v. on (value.bool_in v) (λ b. chosen b
        (eval_same f (keep (free f) (keep (in_either f g) env)) fs h i)
        (eval_same g (keep (free g) (keep (in_either f g) env)) fs h i)))
    eval_same (case_of at e bs) env fs h =
        eval_same e (keep (free e) env) (at_case bs (keep (free_below bs) env) ∷ fs)
        (λ i v. on_made v (λ k o vs. on (names k o i) (λ l. arm_same bs l vs (keep (free_below bs) env) fs h i)))
    eval_same (operate at o e f) env fs h =
        eval_same e (keep (free e) env) (at_left o f (keep (free f) env) ∷ fs)
        (λ i v. eval_same f (keep (free f) env) (at_right o v ∷ fs) (λ j w. on (operated o v w) (h j)) i)
    eval_same (negate at e) env fs h = eval_same e env (at_not ∷ fs) (λ i v. on (value.bool_in v) (λ b. h i (value.bool (not b))))
    eval_same (new at t) env fs h = refl
    eval_same (send at e f) env fs h =
        eval_same e (keep (free e) env) (at_value f (keep (free f) env) ∷ fs)
        (λ i v. eval_same f (keep (free f) env) (at_target v ∷ fs) (λ j w. on_end w (λ x. on (sent v) (λ ev. puts x ev fs))) i)
    eval_same (receive at e) env fs h = eval_same e env (at_receive ∷ fs) (λ i v. on_end v (λ x. gets x fs))
    eval_same (close at e) env fs h = eval_same e env (at_close ∷ fs) (λ i v. on_end v (λ x. closes x fs))
    eval_same (wait at e) env fs h = eval_same e env (at_wait ∷ fs) (λ i v. on_end v (λ x. waits x fs))
    eval_same (select at l e) env fs h = eval_same e env (at_select l ∷ fs) (λ i v. on_end v (λ x. puts x (event.Label l) fs))
    eval_same (match_with at e bs) env fs h =
        eval_same e (keep (free e) env) (at_match bs (keep (free_below bs) env) ∷ fs)
        (λ i v. on_end v (λ x. matches x bs (keep (free_below bs) env) fs))
    eval_same (fork at e) env fs h = refl
    eval_same (seq at e f) env fs h =
        eval_same e (keep (free e) env) (at_seq f (keep (free f) env) ∷ fs)
        (λ i v. eval_same f (keep (free f) env) fs h i)

    all_same : {b c : Value → Pause} (es : CoreList) (k o : ℕ) (done : Values) (env : Environment) (fs : List Frame) → b ≡ c →
        eval_all m es k o done env fs b ≡ eval_all n es k o done env fs c
    all_same no_terms k o done env fs h = λ i. h i (value.made k o (turned_onto done no_values))
    all_same (term e es) k o done env fs h =
        eval_same e (keep (free e) env) (at_field k o done es (keep (free_in es) env) ∷ fs)
        (λ i v. all_same es k o (value.value v done) (keep (free_in es) env) fs h i)

    arm_same : {b c : Value → Pause} (bs : CoreArms) (l : List ℕ) (vs : Values) (env : Environment) (fs : List Frame) → b ≡ c →
        eval_arm m bs l vs env fs b ≡ eval_arm n bs l vs env fs c
    arm_same no_arms l vs env fs h = refl
    arm_same (arm k xs e bs) l vs env fs h = λ i. chosen (bytes_eq l k)
        (eval_same e (enter_all (free e) vs (keep (outside_all xs (free e)) env)) fs h i)
        (arm_same bs l vs env fs h i)

  resume_same : (fs : List Frame) (v : Value) → resume m fs v ≡ resume n fs v
  resume_same [] v = refl
  resume_same (at_function f env ∷ fs) v = eval_same f env (at_argument v ∷ fs) (λ i w. on_function v (λ b own. calls b own w fs))
  resume_same (at_argument v ∷ fs) w = refl
  resume_same (at_first f env ∷ fs) v = eval_same f env (at_second v ∷ fs) (λ i w. resume_same fs (value.pair v w) i)
  resume_same (at_second v ∷ fs) w = resume_same fs (value.pair v w)
  resume_same (at_field k o done es env ∷ fs) v = all_same es k o (value.value v done) env fs (λ i w. resume_same fs w i)
  resume_same (at_let f env ∷ fs) v = eval_same f (enter (free f zero) v env) fs (λ i w. resume_same fs w i)
  resume_same (at_split f env ∷ fs) v = λ i. on_pair v
      (λ a b. eval_same f (enter (free f zero) b (enter (free f (suc zero)) a env)) fs (λ j w. resume_same fs w j) i)
  resume_same (at_if f g env ∷ fs) v = λ i. on (value.bool_in v) (λ b. chosen b
      (eval_same f (keep (free f) env) fs (λ j w. resume_same fs w j) i)
      (eval_same g (keep (free g) env) fs (λ j w. resume_same fs w j) i))
  resume_same (at_case bs env ∷ fs) v = λ i. on_made v
      (λ k o vs. on (names k o i) (λ l. arm_same bs l vs env fs (λ j w. resume_same fs w j) i))
  resume_same (at_left o f env ∷ fs) v = eval_same f env (at_right o v ∷ fs)
      (λ i w. on (operated o v w) (λ x. resume_same fs x i))
  resume_same (at_right o v ∷ fs) w = λ i. on (operated o v w) (λ x. resume_same fs x i)
  resume_same (at_not ∷ fs) v = λ i. on (value.bool_in v) (λ b. resume_same fs (value.bool (not b)) i)
  resume_same (at_value f env ∷ fs) v = eval_same f env (at_target v ∷ fs)
      (λ i w. on_end w (λ x. on (sent v) (λ ev. puts x ev fs)))
  resume_same (at_target v ∷ fs) w = refl
  resume_same (at_receive ∷ fs) v = refl
  resume_same (at_close ∷ fs) v = refl
  resume_same (at_wait ∷ fs) v = refl
  resume_same (at_select l ∷ fs) v = refl
  resume_same (at_match bs env ∷ fs) v = refl
  resume_same (at_seq f env ∷ fs) v = eval_same f env fs (λ i w. resume_same fs w i)

  -- a task stands still next where the other does
  pub pause_same : (s : State) → pause m s ≡ pause n s
  pause_same s = eval_same s.term s.environment s.frames (λ i v. resume_same s.frames v i)

-- after an answer tasks are in the same state
pub after_same : (fs gs : List Family) (bs cs : List CoreTree) → bs ≡ cs →
    (q : Pause) (a : Answer) → after (record { families = fs; bodies = bs }) q a ≡ after
    (record { families = gs; bodies = cs }) q a
after_same fs gs bs cs h stuck a = refl
after_same fs gs bs cs h (calls e env v ks) Go = refl
after_same fs gs bs cs h (calls e env v ks) (Made c) = refl
after_same fs gs bs cs h (calls e env v ks) Forked = refl
after_same fs gs bs cs h (calls e env v ks) Sent = refl
after_same fs gs bs cs h (calls e env v ks) (Got ev) = refl
after_same fs gs bs cs h (uses g ks) Go = λ i. after (record { families = fs; bodies = h i }) (uses g ks) Go
after_same fs gs bs cs h (uses g ks) (Made c) = refl
after_same fs gs bs cs h (uses g ks) Forked = refl
after_same fs gs bs cs h (uses g ks) Sent = refl
after_same fs gs bs cs h (uses g ks) (Got ev) = refl
after_same fs gs bs cs h (makes t ks) Go = refl
after_same fs gs bs cs h (makes t ks) (Made c) = refl
after_same fs gs bs cs h (makes t ks) Forked = refl
after_same fs gs bs cs h (makes t ks) Sent = refl
after_same fs gs bs cs h (makes t ks) (Got ev) = refl
after_same fs gs bs cs h (forks e env ks) Go = refl
after_same fs gs bs cs h (forks e env ks) (Made c) = refl
after_same fs gs bs cs h (forks e env ks) Forked = refl
after_same fs gs bs cs h (forks e env ks) Sent = refl
after_same fs gs bs cs h (forks e env ks) (Got ev) = refl
after_same fs gs bs cs h (puts x ev ks) Go = refl
after_same fs gs bs cs h (puts x ev ks) (Made c) = refl
after_same fs gs bs cs h (puts x ev ks) Forked = refl
after_same fs gs bs cs h (puts x ev ks) Sent = refl
after_same fs gs bs cs h (puts x ev ks) (Got ew) = refl
after_same fs gs bs cs h (gets x ks) Go = refl
after_same fs gs bs cs h (gets x ks) (Made c) = refl
after_same fs gs bs cs h (gets x ks) Forked = refl
after_same fs gs bs cs h (gets x ks) Sent = refl
after_same fs gs bs cs h (gets x ks) (Got ev) = refl
after_same fs gs bs cs h (closes x ks) Go = refl
after_same fs gs bs cs h (closes x ks) (Made c) = refl
after_same fs gs bs cs h (closes x ks) Forked = refl
after_same fs gs bs cs h (closes x ks) Sent = refl
after_same fs gs bs cs h (closes x ks) (Got ev) = refl
after_same fs gs bs cs h (waits x ks) Go = refl
after_same fs gs bs cs h (waits x ks) (Made c) = refl
after_same fs gs bs cs h (waits x ks) Forked = refl
after_same fs gs bs cs h (waits x ks) Sent = refl
after_same fs gs bs cs h (waits x ks) (Got ev) = refl
after_same fs gs bs cs h (matches x as' env ks) Go = refl
after_same fs gs bs cs h (matches x as' env ks) (Made c) = refl
after_same fs gs bs cs h (matches x as' env ks) Forked = refl
after_same fs gs bs cs h (matches x as' env ks) Sent = refl
after_same fs gs bs cs h (matches x as' env ks) (Got (event.Int k)) = refl
after_same fs gs bs cs h (matches x as' env ks) (Got (event.Bool b)) = refl
after_same fs gs bs cs h (matches x as' env ks) (Got (event.Char k)) = refl
after_same fs gs bs cs h (matches x as' env ks) (Got event.Unit) = refl
after_same fs gs bs cs h (matches x as' env ks) (Got (event.Label l)) = refl
after_same fs gs bs cs h (matches x as' env ks) (Got event.Closed) = refl
after_same fs gs bs cs h (ended v) a = refl
