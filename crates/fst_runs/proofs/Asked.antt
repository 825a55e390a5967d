-- The pauses that ask for something.
use Rattle.std.proofs.Common.{◌≡◌, ℕ, List, [], Some, subst}
use Rattle.std.proofs.lemmas.Option.{none-some, same_Some}
use Rattle.fst_terms.specs.CoreTree.{CoreTree, CoreArms}
use Rattle.fst_types.specs.declared.ends.EndName.{EndName}
use Rattle.fst_types.specs.declared.event.Event.{Event}
use Rattle.fst_types.specs.declared.event.Event.TheVariants.{Closed}
use Rattle.fst_machine.specs.declared.request.Request.TheVariants as request
use Rattle.fst_machine.specs.Values.{Environment}
use Rattle.fst_machine.specs.Machine.{State, Frame, Pause, stuck, calls, uses, makes, forks, puts, gets, closes, waits, matches, ended, asked, child}

-- whatever holds of a pause that asks to send an event, by its two forms
pub put_pause : (P : Pause → Type 0) (p : Pause) (x : EndName) (ev : Event) → asked p ≡ Some (request.Put x ev) →
    ((fs : List Frame) → P (puts x ev fs)) →
    ((fs : List Frame) → ev ≡ Closed → P (closes x fs)) → P p
put_pause P stuck x ev e f g = absurd (cc e)
put_pause P (calls h env v fs) x ev e f g = absurd (cc e)
put_pause P (uses h fs) x ev e f g = absurd (cc e)
put_pause P (makes k fs) x ev e f g = absurd (cc e)
put_pause P (forks h env fs) x ev e f g = absurd (cc e)
put_pause P (puts y ew fs) x ev e f g =
    let a : x ≡ y = cc in
    let b : ev ≡ ew = cc in
    subst (λ z. P (puts z ew fs)) a (subst (λ z. P (puts x z fs)) b (f fs))
put_pause P (gets y fs) x ev e f g = absurd (cc e)
put_pause P (closes y fs) x ev e f g =
    let a : x ≡ y = cc in
    let b : ev ≡ Closed = cc in
    subst (λ z. P (closes z fs)) a (g fs b)
put_pause P (waits y fs) x ev e f g = absurd (cc e)
put_pause P (matches y bs env fs) x ev e f g = absurd (cc e)
put_pause P (ended v) x ev e f g = absurd (cc e)

-- whatever holds of a pause that asks to receive, by its three forms
pub get_pause : (P : Pause → Type 0) (p : Pause) (x : EndName) → asked p ≡ Some (request.Get x) →
    ((fs : List Frame) → P (gets x fs)) →
    ((fs : List Frame) → P (waits x fs)) →
    ((bs : CoreArms) (env : Environment) (fs : List Frame) → P (matches x bs env fs)) → P p
get_pause P stuck x e f g h = absurd (cc e)
get_pause P (calls b env v fs) x e f g h = absurd (cc e)
get_pause P (uses b fs) x e f g h = absurd (cc e)
get_pause P (makes k fs) x e f g h = absurd (cc e)
get_pause P (forks b env fs) x e f g h = absurd (cc e)
get_pause P (puts y ew fs) x e f g h = absurd (cc e)
get_pause P (gets y fs) x e f g h =
    let a : x ≡ y = cc in
    subst (λ z. P (gets z fs)) a (f fs)
get_pause P (closes y fs) x e f g h = absurd (cc e)
get_pause P (waits y fs) x e f g h =
    let a : x ≡ y = cc in
    subst (λ z. P (waits z fs)) a (g fs)
get_pause P (matches y bs env fs) x e f g h =
    let a : x ≡ y = cc in
    subst (λ z. P (matches z bs env fs)) a (h bs env fs)
get_pause P (ended v) x e f g h = absurd (cc e)

-- what asks for a channel
pub new_pause : (p : Pause) (k : ℕ) → asked p ≡ Some (request.New k) → (fs : List Frame) × (p ≡ makes k fs)
new_pause stuck k e = absurd (cc e)
new_pause (calls f env v fs) k e = absurd (cc e)
new_pause (uses g fs) k e = absurd (cc e)
new_pause (makes n fs) k e =
    let a : n ≡ k = cc in
    (fs, λ i. makes (a i) fs)
new_pause (forks f env fs) k e = absurd (cc e)
new_pause (puts y ew fs) k e = absurd (cc e)
new_pause (gets y fs) k e = absurd (cc e)
new_pause (closes y fs) k e = absurd (cc e)
new_pause (waits y fs) k e = absurd (cc e)
new_pause (matches y bs env fs) k e = absurd (cc e)
new_pause (ended v) k e = absurd (cc e)

-- whatever holds of a pause that makes a task, by its form
pub fork_pause : (P : Pause → Type 0) (p : Pause) (k : State) → child p ≡ Some k →
    ((e : CoreTree) (env : Environment) (fs : List Frame) → record { term = e; environment = env; frames = [] } ≡ k →
    P (forks e env fs)) → P p
fork_pause P stuck k e f = absurd (none-some _ e)
fork_pause P (calls b env v fs) k e f = absurd (none-some _ e)
fork_pause P (uses g fs) k e f = absurd (none-some _ e)
fork_pause P (makes s fs) k e f = absurd (none-some _ e)
fork_pause P (forks b env fs) k e f = f b env fs (same_Some _ _ e)
fork_pause P (puts y ew fs) k e f = absurd (none-some _ e)
fork_pause P (gets y fs) k e f = absurd (none-some _ e)
fork_pause P (closes y fs) k e f = absurd (none-some _ e)
fork_pause P (waits y fs) k e f = absurd (none-some _ e)
fork_pause P (matches y bs env fs) k e f = absurd (none-some _ e)
fork_pause P (ended v) k e f = absurd (none-some _ e)
