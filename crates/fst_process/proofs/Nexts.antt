-- What asks for something has a next state after an answer to it.
use Rattle.std.proofs.Common.{◌≡◌, ◌⊎◌, inl, inr, ℕ, Some, refl, ap}
use Rattle.fst_base.proofs.Options.{some_same, none_some}
use Rattle.fst_types.specs.declared.ends.ChannelName.{ChannelName}
use Rattle.fst_types.specs.declared.ends.EndName.{EndName}
use Rattle.fst_types.specs.declared.event.Event.{Event}
use Rattle.fst_machine.specs.declared.request.Request.{Request}
use Rattle.fst_machine.specs.declared.request.Request.TheVariants as request
use Rattle.fst_machine.specs.declared.request.Answer.TheVariants.{Go, Made, Forked}
use Rattle.fst_machine.specs.Machine.{Program, State, Pause, stuck, calls, uses, makes, forks, puts, gets, closes, waits, matches, ended, asked, after, child}
use Rattle.fst_runs.proofs.Laws.{new_pause}
use Rattle.fst_process.specs.Kept.{end_of}

-- what asks for a step goes on
pub step_next : (m : Program) (p : Pause) → asked p ≡ Some request.Step → (s : State) × (after m p Go ≡ Some s)
step_next m stuck e = absurd (none_some e)
step_next m (calls f env v fs) e = (_, refl)
step_next m (uses g fs) e = (_, refl)
step_next m (makes k fs) e = absurd (cc e)
step_next m (forks f env fs) e = absurd (cc e)
step_next m (puts y ew fs) e = absurd (cc e)
step_next m (gets y fs) e = absurd (cc e)
step_next m (closes y fs) e = absurd (cc e)
step_next m (waits y fs) e = absurd (cc e)
step_next m (matches y bs env fs) e = absurd (cc e)
step_next m (ended v) e = absurd (cc e)

-- what asks for a channel
pub new_next : (m : Program) (p : Pause) (n : ℕ) (h : ChannelName) → asked p ≡ Some (request.New n) → (s : State) ×
    (after m p (Made h) ≡ Some s)
new_next m p n h e =
    let w = new_pause p n e in
    (_, ap (λ z. after m z (Made h)) w.1)

-- what asks for a task, and the task
pub fork_next : (m : Program) (p : Pause) → asked p ≡ Some request.Fork → (s : State) × (b : State) ×
    (after m p Forked ≡ Some s) × (child p ≡ Some b)
fork_next m stuck e = absurd (none_some e)
fork_next m (calls f env v fs) e = absurd (cc e)
fork_next m (uses g fs) e = absurd (cc e)
fork_next m (makes k fs) e = absurd (cc e)
fork_next m (forks f env fs) e = (_, _, refl, refl)
fork_next m (puts y ew fs) e = absurd (cc e)
fork_next m (gets y fs) e = absurd (cc e)
fork_next m (closes y fs) e = absurd (cc e)
fork_next m (waits y fs) e = absurd (cc e)
fork_next m (matches y bs env fs) e = absurd (cc e)
fork_next m (ended v) e = absurd (cc e)

-- what is asked at an end is to send or to receive
pub at_end : (a : Request) (x : EndName) → end_of a ≡ Some x → ((ev : Event) × (a ≡ request.Put x ev)) ⊎ (a ≡ request.Get x)
at_end request.Step x e = absurd (none_some e)
at_end (request.New n) x e = absurd (none_some e)
at_end request.Fork x e = absurd (none_some e)
at_end (request.Put y ev) x e = inl (ev, ap (λ z. request.Put z ev) (some_same e))
at_end (request.Get y) x e = inr (ap request.Get (some_same e))
at_end request.Ended x e = absurd (none_some e)
