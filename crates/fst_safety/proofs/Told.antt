-- Each answer to what is asked leads on.
use Rattle.std.proofs.Common.{◌≡◌, ℕ, Some, refl}
use Rattle.fst_types.specs.declared.ends.ChannelName.{ChannelName}
use Rattle.fst_types.specs.declared.ends.EndName.{EndName}
use Rattle.fst_types.specs.declared.event.Event.{Event}
use Rattle.fst_types.specs.declared.event.Event.TheVariants.{Int, Bool, Char, Unit as Nothing, Label, Closed}
use Rattle.fst_machine.specs.declared.request.Request.TheVariants.{Step, New, Fork, Put, Get}
use Rattle.fst_machine.specs.declared.request.Answer.TheVariants.{Go, Made, Forked, Sent, Got}
use Rattle.fst_machine.specs.Machine.{Program, State, Pause, stuck, calls, uses, makes, forks, puts, gets, closes, waits, matches, ended, asked, after, child}

pub told_go : (p : Program) (q : Pause) → asked q ≡ Some Step → (s : State) × (after p q Go ≡ Some s)
told_go p stuck e = absurd (cc e)
told_go p (calls b env v fs) e = (_, refl)
told_go p (uses g fs) e = (_, refl)
told_go p (makes k fs) e = absurd (cc e)
told_go p (forks b env fs) e = absurd (cc e)
told_go p (puts x ev fs) e = absurd (cc e)
told_go p (gets x fs) e = absurd (cc e)
told_go p (closes x fs) e = absurd (cc e)
told_go p (waits x fs) e = absurd (cc e)
told_go p (matches x bs env fs) e = absurd (cc e)
told_go p (ended v) e = absurd (cc e)

pub told_made : (p : Program) (q : Pause) (k : ℕ) (h : ChannelName) → asked q ≡ Some (New k) → (s : State) ×
    (after p q (Made h) ≡ Some s)
told_made p stuck k h e = absurd (cc e)
told_made p (calls b env v fs) k h e = absurd (cc e)
told_made p (uses g fs) k h e = absurd (cc e)
told_made p (makes j fs) k h e = (_, refl)
told_made p (forks b env fs) k h e = absurd (cc e)
told_made p (puts x ev fs) k h e = absurd (cc e)
told_made p (gets x fs) k h e = absurd (cc e)
told_made p (closes x fs) k h e = absurd (cc e)
told_made p (waits x fs) k h e = absurd (cc e)
told_made p (matches x bs env fs) k h e = absurd (cc e)
told_made p (ended v) k h e = absurd (cc e)

pub told_forked : (p : Program) (q : Pause) → asked q ≡ Some Fork → (b : State) × (s : State) × (child q ≡ Some b) ×
    (after p q Forked ≡ Some s)
told_forked p stuck e = absurd (cc e)
told_forked p (calls b env v fs) e = absurd (cc e)
told_forked p (uses g fs) e = absurd (cc e)
told_forked p (makes k fs) e = absurd (cc e)
told_forked p (forks b env fs) e = (_, _, refl, refl)
told_forked p (puts x ev fs) e = absurd (cc e)
told_forked p (gets x fs) e = absurd (cc e)
told_forked p (closes x fs) e = absurd (cc e)
told_forked p (waits x fs) e = absurd (cc e)
told_forked p (matches x bs env fs) e = absurd (cc e)
told_forked p (ended v) e = absurd (cc e)

pub told_sent : (p : Program) (q : Pause) (x : EndName) (ev : Event) → asked q ≡ Some (Put x ev) → (s : State) ×
    (after p q Sent ≡ Some s)
told_sent p stuck x ev e = absurd (cc e)
told_sent p (calls b env v fs) x ev e = absurd (cc e)
told_sent p (uses g fs) x ev e = absurd (cc e)
told_sent p (makes k fs) x ev e = absurd (cc e)
told_sent p (forks b env fs) x ev e = absurd (cc e)
told_sent p (puts y ew fs) x ev e = (_, refl)
told_sent p (gets y fs) x ev e = absurd (cc e)
told_sent p (closes y fs) x ev e = (_, refl)
told_sent p (waits y fs) x ev e = absurd (cc e)
told_sent p (matches y bs env fs) x ev e = absurd (cc e)
told_sent p (ended v) x ev e = absurd (cc e)

pub told_got : (p : Program) (q : Pause) (x : EndName) (ev : Event) → asked q ≡ Some (Get x) → (s : State) ×
    (after p q (Got ev) ≡ Some s)
told_got p stuck x ev e = absurd (cc e)
told_got p (calls b env v fs) x ev e = absurd (cc e)
told_got p (uses g fs) x ev e = absurd (cc e)
told_got p (makes k fs) x ev e = absurd (cc e)
told_got p (forks b env fs) x ev e = absurd (cc e)
told_got p (puts y ew fs) x ev e = absurd (cc e)
told_got p (gets y fs) x ev e = (_, refl)
told_got p (closes y fs) x ev e = absurd (cc e)
told_got p (waits y fs) x ev e = (_, refl)
told_got p (matches y bs env fs) x (Int n) e = (_, refl)
told_got p (matches y bs env fs) x (Bool b) e = (_, refl)
told_got p (matches y bs env fs) x (Char c) e = (_, refl)
told_got p (matches y bs env fs) x Nothing e = (_, refl)
told_got p (matches y bs env fs) x (Label l) e = (_, refl)
told_got p (matches y bs env fs) x Closed e = (_, refl)
told_got p (ended v) x ev e = absurd (cc e)
