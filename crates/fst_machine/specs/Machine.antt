-- One task: its state, what it asks next, and its state after an answer (language: by value, from left to right).
use Rattle.std.specs.Prelude.{ℕ, zero, suc, Bool, true, false, not, Option, Some, None, option_map, ◌||◌, List, [], ◌∷◌, slice_get, if◌then◌else◌}
use Rattle.std.specs.Str.{bytes_eq}
use Rattle.fst_types.specs.declared.family.Family.{Family}
use Rattle.fst_types.specs.declared.side.Side.TheVariants.{Left, Right}
use Rattle.fst_terms.specs.CoreTree.{CoreTree, local, global, int, bool, char, unit, pair, make, lambda, apply, let_in, split, if_else, case_of, operate, negate, new, send, receive, close, wait, select, match_with, fork, seq, CoreList, no_terms, term, CoreArms, no_arms, arm}
use Rattle.fst_terms.specs.InRange.{maker_of}
use Rattle.fst_terms.specs.declared.term.Op.{Op}
use Rattle.fst_types.specs.declared.ends.ChannelName.{ChannelName}
use Rattle.fst_types.specs.declared.ends.EndName.{EndName}
use Rattle.fst_types.specs.declared.event.Event.{Event}
use Rattle.fst_types.specs.declared.event.Event.TheVariants.{Label, Closed}
use Rattle.fst_machine.specs.declared.request.Request.{Request}
use Rattle.fst_machine.specs.declared.request.Request.TheVariants.{Step, New, Fork, Put, Get, Ended}
use Rattle.fst_machine.specs.declared.request.Answer.{Answer}
use Rattle.fst_machine.specs.declared.request.Answer.TheVariants.{Go, Made, Forked, Sent, Got}
use Rattle.fst_machine.specs.Free.{free, free_in, free_below, outside, outside_all}
use Rattle.fst_machine.specs.Values as value
use Rattle.fst_machine.specs.Values.{Value, Values, no_values, Environment, none, slot, lookup, enter, keep, enter_all, turned_onto, operated, sent, received, awaited}

-- what terms speak of: the data types, and the bodies of the globals
pub record Program : Type 0 where
  pub families : List Family
  pub bodies : List CoreTree

-- what waits for the value of a part, with the values of what it has free
pub data Frame : Type 0 where
  -- an application, for the function; then for the argument
  at_function : CoreTree → Environment → Frame
  at_argument : Value → Frame
  -- a pair, for the first part; then for the second
  at_first : CoreTree → Environment → Frame
  at_second : Value → Frame
  -- a constructor, for one of its arguments: those that are there, the latest first, and those to come
  at_field : ℕ → ℕ → Values → CoreList → Environment → Frame
  at_let : CoreTree → Environment → Frame
  at_split : CoreTree → Environment → Frame
  at_if : CoreTree → CoreTree → Environment → Frame
  at_case : CoreArms → Environment → Frame
  -- a sign, for the left operand; then for the right one
  at_left : Op → CoreTree → Environment → Frame
  at_right : Op → Value → Frame
  at_not : Frame
  -- a send, for the value; then for the end
  at_value : CoreTree → Environment → Frame
  at_target : Value → Frame
  at_receive : Frame
  at_close : Frame
  at_wait : Frame
  at_select : List ℕ → Frame
  at_match : CoreArms → Environment → Frame
  at_seq : CoreTree → Environment → Frame

-- a task's state: a term, the values of what it has free, and what waits for its value, the innermost first
pub record State : Type 0 where
  pub term : CoreTree
  pub environment : Environment
  pub frames : List Frame

-- where a task stands still: what it asks for, and all that it holds then
pub data Pause : Type 0 where
  -- a part has a value of another kind than the step needs
  stuck : Pause
  -- a function's body with its values, and the argument
  calls : CoreTree → Environment → Value → List Frame → Pause
  uses : ℕ → List Frame → Pause
  makes : ℕ → List Frame → Pause
  forks : CoreTree → Environment → List Frame → Pause
  puts : EndName → Event → List Frame → Pause
  gets : EndName → List Frame → Pause
  closes : EndName → List Frame → Pause
  waits : EndName → List Frame → Pause
  matches : EndName → CoreArms → Environment → List Frame → Pause
  ended : Value → Pause

-- on with what is there
abbrev pub on : {X : Type 0} → Option X → (X → Pause) → Pause
on None next = stuck
on (Some x) next = next x

-- the body and the values of a function
abbrev pub on_function : Value → (CoreTree → Environment → Pause) → Pause
on_function (value.function e env) next = next e env
on_function (value.int n) next = stuck
on_function (value.bool b) next = stuck
on_function (value.char c) next = stuck
on_function value.unit next = stuck
on_function (value.pair v w) next = stuck
on_function (value.made n o vs) next = stuck
on_function (value.end x) next = stuck

-- both parts of a pair
abbrev pub on_pair : Value → (Value → Value → Pause) → Pause
on_pair (value.pair v w) next = next v w
on_pair (value.int n) next = stuck
on_pair (value.bool b) next = stuck
on_pair (value.char c) next = stuck
on_pair value.unit next = stuck
on_pair (value.made n o vs) next = stuck
on_pair (value.function e env) next = stuck
on_pair (value.end x) next = stuck

-- the data type, the constructor and the fields
abbrev pub on_made : Value → (ℕ → ℕ → Values → Pause) → Pause
on_made (value.made n o vs) next = next n o vs
on_made (value.int n) next = stuck
on_made (value.bool b) next = stuck
on_made (value.char c) next = stuck
on_made value.unit next = stuck
on_made (value.pair v w) next = stuck
on_made (value.function e env) next = stuck
on_made (value.end x) next = stuck

-- an end of a channel
abbrev pub on_end : Value → (EndName → Pause) → Pause
on_end (value.end x) next = next x
on_end (value.int n) next = stuck
on_end (value.bool b) next = stuck
on_end (value.char c) next = stuck
on_end value.unit next = stuck
on_end (value.pair v w) next = stuck
on_end (value.made n o vs) next = stuck
on_end (value.function e env) next = stuck

-- one of two pauses
abbrev pub chosen : Bool → Pause → Pause → Pause
chosen true p q = p
chosen false p q = q

-- the name of a constructor
abbrev pub name_of : List Family → ℕ → ℕ → Option (List ℕ)
name_of families n o = option_map (λ m. m.name) (maker_of (slice_get families n) o)

-- the variable is free in one of two terms
abbrev pub in_either : CoreTree → CoreTree → ℕ → Bool
in_either e f k = free e k || free f k

abbrev mutual
  -- down to where the task stands still: fs is what waits for the term's value, and back is where this value leads
  pub eval : List Family → CoreTree → Environment → List Frame → (Value → Pause) → Pause
  eval m (local at k) env fs back = on (lookup env k) back
  eval m (global at g ts) env fs back = uses g fs
  eval m (int at n) env fs back = back (value.int n)
  eval m (bool at b) env fs back = back (value.bool b)
  eval m (char at c) env fs back = back (value.char c)
  eval m (unit at) env fs back = back value.unit
  eval m (pair at e f) env fs back =
      eval m e (keep (free e) env) (at_first f (keep (free f) env) ∷ fs)
      (λ v. eval m f (keep (free f) env) (at_second v ∷ fs) (λ w. back (value.pair v w)))
  eval m (make at n o es) env fs back = eval_all m es n o no_values env fs back
  eval m (lambda at u t x e) env fs back = back (value.function e env)
  eval m (apply at e f) env fs back =
      eval m e (keep (free e) env) (at_function f (keep (free f) env) ∷ fs)
      (λ v. eval m f (keep (free f) env) (at_argument v ∷ fs)
      (λ w. on_function v (λ b own. calls b own w fs)))
  eval m (let_in at x e f) env fs back =
      eval m e (keep (free e) env) (at_let f (keep (outside (free f)) env) ∷ fs)
      (λ v. eval m f (enter (free f zero) v (keep (outside (free f)) env)) fs back)
  eval m (split at x y e f) env fs back =
      eval m e (keep (free e) env) (at_split f (keep (outside (outside (free f))) env) ∷ fs)
      (λ v. on_pair v (λ a b. eval m f (enter (free f zero) b
      (enter (free f (suc zero)) a (keep (outside (outside (free f))) env))) fs back))
  eval m (if_else at e f g) env fs back =
      eval m e (keep (free e) env) (at_if f g (keep (in_either f g) env) ∷ fs)
      (λ v. on (value.bool_in v) (λ b. chosen b
      (eval m f (keep (free f) (keep (in_either f g) env)) fs back)
      (eval m g (keep (free g) (keep (in_either f g) env)) fs back)))
  eval m (case_of at e bs) env fs back =
      eval m e (keep (free e) env) (at_case bs (keep (free_below bs) env) ∷ fs)
      (λ v. on_made v (λ n o vs. on (name_of m n o)
      (λ l. eval_arm m bs l vs (keep (free_below bs) env) fs back)))
  eval m (operate at o e f) env fs back =
      eval m e (keep (free e) env) (at_left o f (keep (free f) env) ∷ fs)
      (λ v. eval m f (keep (free f) env) (at_right o v ∷ fs) (λ w. on (operated o v w) back))
  eval m (negate at e) env fs back = eval m e env (at_not ∷ fs)
      (λ v. on (value.bool_in v) (λ b. back (value.bool (not b))))
  eval m (new at t) env fs back = makes t fs
  eval m (send at e f) env fs back =
      eval m e (keep (free e) env) (at_value f (keep (free f) env) ∷ fs)
      (λ v. eval m f (keep (free f) env) (at_target v ∷ fs)
      (λ w. on_end w (λ x. on (sent v) (λ ev. puts x ev fs))))
  eval m (receive at e) env fs back = eval m e env (at_receive ∷ fs)
      (λ v. on_end v (λ x. gets x fs))
  eval m (close at e) env fs back = eval m e env (at_close ∷ fs)
      (λ v. on_end v (λ x. closes x fs))
  eval m (wait at e) env fs back = eval m e env (at_wait ∷ fs)
      (λ v. on_end v (λ x. waits x fs))
  eval m (select at l e) env fs back = eval m e env (at_select l ∷ fs)
      (λ v. on_end v (λ x. puts x (Label l) fs))
  eval m (match_with at e bs) env fs back =
      eval m e (keep (free e) env) (at_match bs (keep (free_below bs) env) ∷ fs)
      (λ v. on_end v (λ x. matches x bs (keep (free_below bs) env) fs))
  eval m (fork at e) env fs back = forks e env fs
  eval m (seq at e f) env fs back =
      eval m e (keep (free e) env) (at_seq f (keep (free f) env) ∷ fs)
      (λ v. eval m f (keep (free f) env) fs back)

  -- the arguments of a constructor that are to come; those before them have these values, the latest first
  pub eval_all : List Family → CoreList → ℕ → ℕ → Values → Environment → List Frame →
      (Value → Pause) → Pause
  eval_all m no_terms n o done env fs back = back (value.made n o (turned_onto done no_values))
  eval_all m (term e es) n o done env fs back =
      eval m e (keep (free e) env) (at_field n o done es (keep (free_in es) env) ∷ fs)
      (λ v. eval_all m es n o (value.value v done) (keep (free_in es) env) fs back)

  -- the arm with this label, whose variables stand for these values
  pub eval_arm : List Family → CoreArms → List ℕ → Values → Environment → List Frame →
      (Value → Pause) → Pause
  eval_arm m no_arms l vs env fs back = stuck
  eval_arm m (arm k xs e bs) l vs env fs back =
      chosen (bytes_eq l k)
      (eval m e (enter_all (free e) vs (keep (outside_all xs (free e)) env)) fs back)
      (eval_arm m bs l vs env fs back)

-- where a value leads that comes to these frames
abbrev pub resume : List Family → List Frame → Value → Pause
resume m [] v = ended v
resume m (at_function f env ∷ fs) v = eval m f env (at_argument v ∷ fs)
    (λ w. on_function v (λ b own. calls b own w fs))
resume m (at_argument v ∷ fs) w = on_function v (λ b own. calls b own w fs)
resume m (at_first f env ∷ fs) v = eval m f env (at_second v ∷ fs)
    (λ w. resume m fs (value.pair v w))
resume m (at_second v ∷ fs) w = resume m fs (value.pair v w)
resume m (at_field n o done es env ∷ fs) v =
    eval_all m es n o (value.value v done) env fs (resume m fs)
resume m (at_let f env ∷ fs) v = eval m f (enter (free f zero) v env) fs (resume m fs)
resume m (at_split f env ∷ fs) v = on_pair v
    (λ a b. eval m f (enter (free f zero) b (enter (free f (suc zero)) a env)) fs (resume m fs))
resume m (at_if f g env ∷ fs) v = on (value.bool_in v)
    (λ b. chosen b (eval m f (keep (free f) env) fs (resume m fs))
    (eval m g (keep (free g) env) fs (resume m fs)))
resume m (at_case bs env ∷ fs) v = on_made v
    (λ n o vs. on (name_of m n o) (λ l. eval_arm m bs l vs env fs (resume m fs)))
resume m (at_left o f env ∷ fs) v = eval m f env (at_right o v ∷ fs)
    (λ w. on (operated o v w) (resume m fs))
resume m (at_right o v ∷ fs) w = on (operated o v w) (resume m fs)
resume m (at_not ∷ fs) v = on (value.bool_in v) (λ b. resume m fs (value.bool (not b)))
resume m (at_value f env ∷ fs) v = eval m f env (at_target v ∷ fs)
    (λ w. on_end w (λ x. on (sent v) (λ ev. puts x ev fs)))
resume m (at_target v ∷ fs) w = on_end w (λ x. on (sent v) (λ ev. puts x ev fs))
resume m (at_receive ∷ fs) v = on_end v (λ x. gets x fs)
resume m (at_close ∷ fs) v = on_end v (λ x. closes x fs)
resume m (at_wait ∷ fs) v = on_end v (λ x. waits x fs)
resume m (at_select l ∷ fs) v = on_end v (λ x. puts x (Label l) fs)
resume m (at_match bs env ∷ fs) v = on_end v (λ x. matches x bs env fs)
resume m (at_seq f env ∷ fs) v = eval m f env fs (resume m fs)

-- where a task stands still next
abbrev pub pause : List Family → State → Pause
pause m s = eval m s.term s.environment s.frames (resume m s.frames)

-- what it asks for there
abbrev pub asked : Pause → Option Request
asked stuck = None
asked (calls e env v fs) = Some Step
asked (uses g fs) = Some Step
asked (makes t fs) = Some (New t)
asked (forks e env fs) = Some Fork
asked (puts x ev fs) = Some (Put x ev)
asked (gets x fs) = Some (Get x)
asked (closes x fs) = Some (Put x Closed)
asked (waits x fs) = Some (Get x)
asked (matches x bs env fs) = Some (Get x)
asked (ended v) = Some Ended

-- the next request of a state
abbrev pub request : List Family → State → Option Request
request m s = asked (pause m s)

-- a value on its way to what waits for it
abbrev pub giving : Value → List Frame → State
giving v fs = record { term = local zero zero; environment = slot v none; frames = fs }

-- a state that has no next request
abbrev pub lost : State
lost = record { term = local zero zero; environment = none; frames = [] }

-- the beginning of a term that has no variable free
abbrev pub begins : CoreTree → List Frame → State
begins e fs = record { term = e; environment = none; frames = fs }

-- the two ends of a channel as a pair
abbrev pub ends : ChannelName → Value
ends c = value.pair (value.end (record { channel = c; side = Left }))
    (value.end (record { channel = c; side = Right }))

-- what is there, or a state without a next request
abbrev pub or_lost : Option State → State
or_lost None = lost
or_lost (Some s) = s

-- the state in the arm with this label, whose variable stands for the end
abbrev pub arm_state : CoreArms → List ℕ → EndName → Environment → List Frame → State
arm_state no_arms l x env fs = lost
arm_state (arm k xs e bs) l x env fs =
    if bytes_eq l k then
    record {
      term = e;
      environment = enter (free e zero) (value.end x)
          (keep (outside (free e)) env);
      frames = fs;
    }
    else
    arm_state bs l x env fs

-- the state after an answer to what is asked
abbrev pub after : Program → Pause → Answer → Option State
after p (calls e env v fs) Go = Some
    (record { term = e; environment = enter (free e zero) v env; frames = fs })
after p (uses g fs) Go = Some (or_lost (option_map (λ e. begins e fs) (slice_get p.bodies g)))
after p (makes t fs) (Made c) = Some (giving (ends c) fs)
after p (forks e env fs) Forked = Some (giving value.unit fs)
after p (puts x ev fs) Sent = Some (giving (value.end x) fs)
after p (gets x fs) (Got ev) = Some
    (or_lost (option_map (λ v. giving (value.pair v (value.end x)) fs) (received ev)))
after p (closes x fs) Sent = Some (giving value.unit fs)
after p (waits x fs) (Got ev) = Some (or_lost (option_map (λ v. giving v fs) (awaited ev)))
after p (matches x bs env fs) (Got (Label l)) = Some (arm_state bs l x env fs)
after p (matches x bs env fs) (Got ev) = Some lost
after p here a = None

-- the state after an answer, if it is one to the request
abbrev pub answered : Program → State → Answer → Option State
answered p s a = after p (pause p.families s) a

-- the state of the task that a fork makes
abbrev pub child : Pause → Option State
child (forks e env fs) = Some (record { term = e; environment = env; frames = [] })
child here = None
