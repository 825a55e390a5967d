-- Runs have stamps, and each event has one.
use Rattle.std.proofs.Common.{◌≡◌, ◌∙◌, ℕ, suc, List, [], ◌∷◌, Option, Some, None, refl, sym, ap}
use Rattle.std.specs.Prelude.{if◌then◌else◌}
use Rattle.fst_types.specs.Tree.{Tree}
use Rattle.fst_lts.specs.Histories.{over}
use Rattle.fst_machine.specs.Machine.{Program}
use Rattle.fst_runs.specs.declared.event.CoreEvent.{CoreEvent}
use Rattle.fst_runs.specs.declared.event.CoreEvent.TheVariants.{Local, New, Fork, Meet}
use Rattle.fst_runs.specs.declared.event.Stamped.{Stamped}
use Rattle.fst_runs.specs.Configs.{Path, Task, Config, same_path, child_path, new_task}
use Rattle.fst_runs.specs.Events.{Write, written, Does, Runs, moved, task_at, meeting_stamp, has_made, has_forked, has_met}
use Rattle.fst_runs.specs.StampedRuns.{IsStamp, RunsAt, events_in}
use Rattle.fst_runs.proofs.NameLaws.{same_path-itself}
use Rattle.fst_runs.proofs.Updates.{in_test}

-- ---- what an event writes

-- a task of two that are written has the clock of both
pub clock_of : (n : ℕ) (o u : Option Task) (t : Task) → ((v : Task) → o ≡ Some v → v.clock ≡ n) →
    ((v : Task) → u ≡ Some v → v.clock ≡ n) → over o u ≡ Some t → t.clock ≡ n
clock_of n None u t f g e = g t e
clock_of n (Some v) u t f g e = f t e

-- a task that is put at its path has its clock
pub clock_at : (p : Path) (t : Task) (q : Path) (u : Task) → task_at p t q ≡ Some u → u.clock ≡ t.clock
clock_at p t q u f = in_test (same_path p q) t u (λ b g. sym (ap (λ (t : Task). t.clock) g)) f

-- what an event writes has one clock
abbrev pub write_stamp : (m : Program) (types : List Tree) (c : Config) (e : CoreEvent) (w : Write) → Does m types c e w →
    (n : ℕ) × IsStamp w n
write_stamp m types c (Local p) w d =
    (suc d.task.clock, λ o u f. clock_at p (moved d.task d.state) o u (sym (ap (λ (w : Write). w.tasks o) d.writes) ∙ f))
write_stamp m types c (New p) w d = (
  suc d.task.clock,
  λ o u f. clock_at p (has_made d.task d.state (suc d.task.clock)) o u (sym (ap (λ (w : Write). w.tasks o) d.writes) ∙ f),
)
write_stamp m types c (Fork p) w d =
    let q = child_path p d.task.forked in
    let x = new_task d.begun (suc d.task.clock) in
    let y = has_forked d.task d.state (suc d.task.clock) in (
      suc d.task.clock,
      λ o u f. clock_of (suc d.task.clock) (task_at q x o) (task_at p y o) u (clock_at q x o) (clock_at p y o)
          (sym (ap (λ (w : Write). w.tasks o) d.writes) ∙ f),
    )
write_stamp m types c (Meet p q h) w d =
    let n = meeting_stamp d.sender d.receiver d.channel in
    let x = has_met d.receiver d.got n in
    let y = has_met d.sender d.sent n in (
      n,
      λ o u f. clock_of n (task_at q x o) (task_at p y o) u (clock_at q x o) (clock_at p y o)
          (sym (ap (λ (w : Write). w.tasks o) d.writes) ∙ f),
    )

-- a task that is written
abbrev WritesOne : Write → Type 0
WritesOne w = (p : Path) × (t : Task) × (w.tasks p ≡ Some t)

-- a task that is put at its path is there
put_at : (p : Path) (t : Task) → task_at p t p ≡ Some t
put_at p t = ap (λ b. if b then Some t else None) (same_path-itself p)

-- each event writes one
writes_one : (m : Program) (types : List Tree) (c : Config) (e : CoreEvent) (w : Write) → Does m types c e w → WritesOne w
writes_one m types c (Local p) w d =
    let t = moved d.task d.state in
    (p, t, ap (λ (w : Write). w.tasks p) d.writes ∙ put_at p t)
writes_one m types c (New p) w d =
    let t = has_made d.task d.state (suc d.task.clock) in
    (p, t, ap (λ (w : Write). w.tasks p) d.writes ∙ put_at p t)
writes_one m types c (Fork p) w d =
    let q = child_path p d.task.forked in
    let t = new_task d.begun (suc d.task.clock) in
    let u = has_forked d.task d.state (suc d.task.clock) in
    (q, t, ap (λ (w : Write). w.tasks q) d.writes ∙ ap (λ o. over o (task_at p u q)) (put_at q t))
writes_one m types c (Meet p q h) w d =
    let n = meeting_stamp d.sender d.receiver d.channel in
    let t = has_met d.receiver d.got n in
    let u = has_met d.sender d.sent n in
    (q, t, ap (λ (w : Write). w.tasks q) d.writes ∙ ap (λ o. over o (task_at p u q)) (put_at q t))

-- so an event has one stamp
pub one_stamp : (m : Program) (types : List Tree) (c : Config) (e : CoreEvent) (w : Write) (n k : ℕ) → Does m types c e w →
    IsStamp w n → IsStamp w k → n ≡ k
one_stamp m types c e w n k d s r = let x = writes_one m types c e w d in sym (s x.0 x.1 x.2) ∙ r x.0 x.1 x.2

-- ---- runs

-- a run whose events have these stamps
pub record HasStamps (m : Program) (types : List Tree) (c : Config) (es : List CoreEvent) (d : Config) : Type 0 where
  pub list : List Stamped
  pub events : events_in list ≡ es
  pub runs : RunsAt m types c list d

-- the events of each run have stamps
pub run_stamps : (m : Program) (types : List Tree) (c : Config) (es : List CoreEvent) (d : Config) → Runs m types c es d →
    HasStamps m types c es d
run_stamps m types c [] d r = record { list = []; events = refl; runs = r }
run_stamps m types c (e ∷ es) d r =
    let n = write_stamp m types c e r.0 r.1 in
    let k = run_stamps m types (written c r.0) es d r.2 in
    record {
      list = record { event = e; stamp = n.0 } ∷ k.list;
      events = ap (λ (l : List CoreEvent). e ∷ l) k.events;
      runs = (r.0, r.1, n.1, k.runs);
    }

-- a run whose events have stamps is a run
pub stamped_runs : (m : Program) (types : List Tree) (c : Config) (es : List Stamped) (d : Config) → RunsAt m types c es d →
    Runs m types c (events_in es) d
stamped_runs m types c [] d r = r
stamped_runs m types c (e ∷ es) d r = (r.0, r.1, stamped_runs m types (written c r.0) es d r.3)
