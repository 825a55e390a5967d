-- The test of what a task asks for tells whether it can move.
use Rattle.std.proofs.Common.{◌≡◌, ◌∙◌, ◌<◌, ◌+◌, ℕ, zero, suc, List, [], ◌∷◌, length, true, Option, Some, None, refl, sym, ap, subst, arith}
use Rattle.std.specs.Prelude.{nat_eq, nat_lt, slice_get}
use Rattle.std.proofs.lemmas.Bool.{false≢true, and_from}
use Rattle.std.proofs.lemmas.Bool.Decides.{nat_tests}
use Rattle.std.proofs.lemmas.Option.{same_Some, slice_get_within}
use Rattle.fst_base.proofs.Bools.{and_parts}
use Rattle.fst_types.specs.Tree.{Tree}
use Rattle.fst_types.specs.declared.side.Side.{Side}
use Rattle.fst_lts.specs.Histories.{opposite}
use Rattle.fst_types.specs.declared.ends.ChannelName.{ChannelName}
use Rattle.fst_machine.specs.declared.request.Request.{Request}
use Rattle.fst_machine.specs.declared.request.Request.TheVariants as request
use Rattle.fst_machine.specs.declared.request.Answer.TheVariants.{Go, Made, Forked}
use Rattle.fst_machine.specs.Machine as machine
use Rattle.fst_machine.specs.Machine.{Program, State, Pause, stuck, calls, uses, makes, forks, puts, gets, closes, waits, matches, ended, pause, asked, after, child}
use Rattle.fst_runs.specs.Configs.{Path, Task, channel_name}
use Rattle.fst_runs.proofs.Laws.{new_pause, put_answered, get_answered}
use Rattle.fst_buffered.specs.Channels.{Message, Channel, Config, seen, IsWhole, HasRoom, IsNext}
use Rattle.fst_buffered.specs.Events.{Occurrence, local, new, fork, put, takes, path_of, Asks, Does, CanMove}
use Rattle.fst_buffered.specs.Moving.{can_put, can_take, can, MovesExactly}

same_number : (m n : ℕ) → nat_eq m n ≡ true → m ≡ n
same_number m n e = grind (arith, nat_tests)

number_same : (m n : ℕ) → m ≡ n → nat_eq m n ≡ true
number_same m n e = grind (arith, nat_tests)

pub less_number : (m n : ℕ) → nat_lt m n ≡ true → m < n
less_number m n e = grind (arith, nat_tests)

number_less : (m n : ℕ) → m < n → nat_lt m n ≡ true
number_less m n e = grind (arith, nat_tests)

-- what stands within a list is there
at_there : {X : Type 0} (xs : List X) (n : ℕ) → n < length xs → (x : X) × (slice_get xs n ≡ Some x)
at_there [] n l = absurd (omega (arith, l))
at_there (x ∷ xs) zero l = (x, refl)
at_there (x ∷ xs) (suc n) l = at_there xs n (omega (arith, l))

-- what asks to go on by itself does
step_answered : (m : Program) (p : Pause) → asked p ≡ Some request.Step → (s : State) × (after m p Go ≡ Some s)
step_answered m stuck e = absurd (cc e)
step_answered m (calls f env v fs) e = (_, refl)
step_answered m (uses g fs) e = (_, refl)
step_answered m (makes k fs) e = absurd (cc e)
step_answered m (forks f env fs) e = absurd (cc e)
step_answered m (puts x ev fs) e = absurd (cc e)
step_answered m (gets x fs) e = absurd (cc e)
step_answered m (closes x fs) e = absurd (cc e)
step_answered m (waits x fs) e = absurd (cc e)
step_answered m (matches x bs env fs) e = absurd (cc e)
step_answered m (ended v) e = absurd (cc e)

-- what asks for a channel goes on with it
new_answered : (m : Program) (p : Pause) (k : ℕ) (h : ChannelName) → asked p ≡ Some (request.New k) → (s : State) ×
    (after m p (Made h) ≡ Some s)
new_answered m p k h e = let w = new_pause p k e in (_, ap (λ z. after m z (Made h)) w.1)

-- what asks for a fork makes a task, and goes on
fork_answered : (m : Program) (p : Pause) → asked p ≡ Some request.Fork → (b : State) × (s : State) × (child p ≡ Some b) ×
    (after m p Forked ≡ Some s)
fork_answered m stuck e = absurd (cc e)
fork_answered m (calls f env v fs) e = absurd (cc e)
fork_answered m (uses g fs) e = absurd (cc e)
fork_answered m (makes k fs) e = absurd (cc e)
fork_answered m (forks f env fs) e = (_, _, refl, refl)
fork_answered m (puts x ev fs) e = absurd (cc e)
fork_answered m (gets x fs) e = absurd (cc e)
fork_answered m (closes x fs) e = absurd (cc e)
fork_answered m (waits x fs) e = absurd (cc e)
fork_answered m (matches x bs env fs) e = absurd (cc e)
fork_answered m (ended v) e = absurd (cc e)

-- a side that can put something in
pub put_room : (s : Side) (capacity : ℕ) (o : Option Channel) → can_put s capacity o ≡ true → (k : Channel) ×
    (o ≡ Some k) × IsWhole s k × HasRoom capacity s k
put_room s capacity None e = absurd (false≢true e)
put_room s capacity (Some k) e =
    let b = and_parts (nat_eq (seen s k) (length k.history)) (nat_lt (length k.history) (seen (opposite s) k + capacity)) e in
    (k, refl, same_number (seen s k) (length k.history) b.0, less_number (length k.history) (seen (opposite s) k + capacity) b.1)

room_put : (s : Side) (capacity : ℕ) (k : Channel) → IsWhole s k → HasRoom capacity s k → can_put s capacity (Some k) ≡ true
room_put s capacity k w r =
    and_from (nat_eq (seen s k) (length k.history)) (nat_lt (length k.history) (seen (opposite s) k + capacity))
    (number_same (seen s k) (length k.history) w) (number_less (length k.history) (seen (opposite s) k + capacity) r)

-- a side that can take something
take_next : (s : Side) (o : Option Channel) → can_take s o ≡ true → (k : Channel) × (e : Message) × (o ≡ Some k) × IsNext s k e
take_next s None e = absurd (false≢true e)
take_next s (Some k) e = let n = at_there k.history (seen s k) (less_number (seen s k) (length k.history) e) in
    (k, n.0, refl, n.1)

next_take : (s : Side) (k : Channel) (e : Message) → IsNext s k e → can_take s (Some k) ≡ true
next_take s k e n = number_less (seen s k) (length k.history) (slice_get_within k.history (seen s k) e n)

module _ (m : Program) (types : List Tree) (capacity : ℕ) (c : Config) (p : Path) (t : Task) where
  -- what passes the test is possible
  can_move : (q : Request) → Asks m c p t q → can (length types) capacity c.channels q ≡ true → CanMove m types capacity c p
  can_move request.Step a e =
      let s = step_answered m (pause m.families t.state) a.1 in
      (local p, _, refl, (t, s.0, a, s.1, refl))
  can_move (request.New n) a e =
      let k = at_there types n (less_number n (length types) e) in
      let s = new_answered m (pause m.families t.state) n (channel_name p t.made) a.1 in
      (new p, _, refl, (t, s.0, n, k.0, a, k.1, s.1, refl))
  can_move request.Fork a e =
      let s = fork_answered m (pause m.families t.state) a.1 in
      (fork p, _, refl, (t, s.1, s.0, a, s.2, s.3, refl))
  can_move (request.Put x ev) a e =
      let k = put_room x.side capacity (c.channels x.channel) e in
      let s = put_answered m (pause m.families t.state) x ev a.1 in
      (put p x ev, _, refl, (t, s.0, k.0, a, k.1, k.2, k.3, s.1, refl))
  can_move (request.Get x) a e =
      let k = take_next x.side (c.channels x.channel) e in
      let s = get_answered m (pause m.families t.state) x k.1.event a.1 in
      (takes p x k.1.event, _, refl, (t, s.0, k.0, k.1, a, k.2, k.3, refl, s.1, refl))
  can_move request.Ended a e = absurd (false≢true e)

  -- a task asks for one thing
  pub one_request : (q r : Request) (o : Path) (u : Task) → Asks m c p t q → o ≡ p → Asks m c o u r → r ≡ q
  one_request q r o u a e b =
      let same : u ≡ t = same_Some u t (sym b.0 ∙ ap c.tasks e ∙ a.0) in
      same_Some r q (sym b.1 ∙ ap (λ (z : Task). machine.request m.families z.state) same ∙ a.1)

  -- what is possible passes the test
  move_can : (q : Request) → Asks m c p t q → CanMove m types capacity c p → can (length types) capacity c.channels q ≡ true
  move_can q a (local o, d, e, g) = subst (λ r. can (length types) capacity c.channels r ≡ true)
      (one_request q request.Step o g.0 a e g.2) refl
  move_can q a (new o, d, e, g) =
      subst (λ r. can (length types) capacity c.channels r ≡ true) (one_request q (request.New g.2) o g.0 a e g.4)
      (number_less g.2 (length types) (slice_get_within types g.2 g.3 g.5))
  move_can q a (fork o, d, e, g) = subst (λ r. can (length types) capacity c.channels r ≡ true)
      (one_request q request.Fork o g.0 a e g.3) refl
  move_can q a (put o x ev, d, e, g) =
      subst (λ r. can (length types) capacity c.channels r ≡ true) (one_request q (request.Put x ev) o g.0 a e g.3)
      (ap (can_put x.side capacity) g.4 ∙ room_put x.side capacity g.2 g.5 g.6)
  move_can q a (takes o x ev, d, e, g) =
      subst (λ r. can (length types) capacity c.channels r ≡ true) (one_request q (request.Get x) o g.0 a e g.4)
      (ap (can_take x.side) g.5 ∙ next_take x.side g.2 g.3 g.6)

-- the task that does something is there
pub who_does : (m : Program) (types : List Tree) (capacity : ℕ) (c : Config) (o : Occurrence) (d : Config) (p : Path) →
    Does m types capacity c o d → path_of o ≡ p → (t : Task) × (c.tasks p ≡ Some t)
who_does m types capacity c (local q) d p f at = (f.0, ap c.tasks (sym at) ∙ f.2.0)
who_does m types capacity c (new q) d p f at = (f.0, ap c.tasks (sym at) ∙ f.4.0)
who_does m types capacity c (fork q) d p f at = (f.0, ap c.tasks (sym at) ∙ f.3.0)
who_does m types capacity c (put q x ev) d p f at = (f.0, ap c.tasks (sym at) ∙ f.3.0)
who_does m types capacity c (takes q x ev) d p f at = (f.0, ap c.tasks (sym at) ∙ f.4.0)

-- the test tells exactly which tasks can move
pub moves_exactly : MovesExactly
moves_exactly m types capacity c p t q a = (can_move m types capacity c p t q a, move_can m types capacity c p t q a)
