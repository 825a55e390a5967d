-- What is kept is the configuration after a task has made a step alone; what all events share.
use Rattle.std.proofs.Common.{◌≡◌, ◌∙◌, ◌≤◌, ℕ, suc, Bool, true, false, Option, Some, None, refl, sym, ap, subst, arith}
use Rattle.std.specs.Prelude.{length, if◌then◌else◌}
use Rattle.fst_lts.specs.Histories.{over}
use Rattle.fst_terms.specs.declared.core_module.Module.{Module}
use Rattle.fst_machine.specs.declared.code.Code.{Code}
use Rattle.fst_machine.specs.declared.request.Request.{Request}
use Rattle.fst_machine.specs.declared.request.Request.TheVariants as request
use Rattle.fst_machine.specs.Machine as machine
use Rattle.fst_vm.specs.Tasks.{IsIn, IsAtRest}
use Rattle.fst_runs.specs.declared.event.CoreEvent.TheVariants.{Local}
use Rattle.fst_runs.specs.Configs.{Path, Config, Task, same_path, program}
use Rattle.fst_runs.specs.Events.{Write, written, moved, Asks, Does}
use Rattle.fst_vm.specs.Slot.{Slot}
use Rattle.fst_paths.specs.Paths.{put_at}
use Rattle.fst_process.specs.Kept.{Kept, end_of, noted, without, settled}
use Rattle.fst_process.specs.Reflects.{Reflects}
use Rattle.fst_paths.proofs.Laws.{put_here}
use Rattle.fst_process.proofs.Taking.{hide, show, is_kept, taken_out, later}
use Rattle.fst_process.proofs.Fewer.{Fine}
use Rattle.fst_process.proofs.Putting.{put_in}
use Rattle.fst_process.proofs.Moving.{kept_asks}

-- the slot is that of the task with this path, whatever channels it has made
pub record IsOf (m : Module) (k : Code) (p : Path) (s : Slot) (t : Task) : Type 0 where
  pub path : s.task.path ≡ p
  pub rests : IsAtRest k s.task
  pub is_in : IsIn m k s.task t.state
  pub asks : machine.request m.families.items t.state ≡ Some s.request
  pub clock : s.clock ≡ t.clock
  pub forked : s.task.forked ≡ t.forked

-- the numbers of a task are at most n, and it has made so many channels
pub record IsBound (n : ℕ) (channels : ℕ) (t : Task) : Type 0 where
  pub clock : t.clock ≤ n
  pub forked : t.forked ≤ n
  pub made : channels ≡ t.made
  pub makes : t.made ≤ n

-- so it is with each task that is there
pub bound : (m : Module) (k : Code) (n : ℕ) (d : Kept) (c : Config) (p : Path) (t : Task) → Reflects m k n d c →
    c.tasks p ≡ Some t → IsBound n (d.made p) t
bound m k n d c p t r e =
    let f = is_kept m k d p (d.tasks p) (c.tasks p) t (r.tasks p) e in
    let a = r.clocks p f.0 f.1 in
    let b = r.forks p f.0 f.1 in
    record {
      clock = subst (λ z. z ≤ n) f.2.clock a;
      forked = subst (λ z. z ≤ n) f.2.forked b;
      made = f.2.made;
      makes = subst (λ z. z ≤ n) f.2.made (r.makes p);
    }

-- settling a task makes no channel
pub settled_made : (types : ℕ) (s : Slot) (d : Kept) (p : Path) → (settled types s d).made p ≡ d.made p
settled_made types s d p = go s.request
  where
    go : (a : Request) → (noted types s.task.path a (record d { tasks = put_at s.task.path (Some s) d.tasks })).made p ≡ d.made p
    go request.Step = refl
    go (request.New n) = refl
    go request.Fork = refl
    go (request.Put x ev) = refl
    go (request.Get x) = refl
    go request.Ended = refl

-- a task that asks at no end is taken out, an event later
pub taken : (m : Module) (k : Code) (n : ℕ) (d : Kept) (c : Config) (p : Path) (t : Task) (a : Request) → Reflects m k n d c →
    Asks (program m) c p t a → end_of a ≡ None →
    Reflects m k (suc n) (without p d) (hide p c)
taken m k n d c p t a r i f =
    let g = kept_asks m k n d c r p t a i in
    later m k n (suc n) (without p d) (hide p c) (taken_out m k n d c p g.0 r g.1 (ap end_of g.2 ∙ f)) (omega arith)

-- a task is put in whose numbers are in bounds
pub comes_in : (m : Module) (k : Code) (n : ℕ) (d : Kept) (c : Config) (p : Path) (s : Slot) (t : Task) → Reflects m k n d c →
    c.tasks p ≡ None → IsOf m k p s t →
    d.made p ≡ t.made → t.clock ≤ n → t.forked ≤ n → Fine m (show p t c) →
    Reflects m k n (settled (length m.types.items) s d) (show p t c)
comes_in m k n d c p s t r free is made clock forked fine =
    put_in m k n d c p s t r free
    (record {
      path = is.path;
      rests = is.rests;
      is_in = is.is_in;
      asks = is.asks;
      clock = is.clock;
      forked = is.forked;
      made =
          made;
    })
    (subst (λ z. z ≤ n) (sym is.clock) clock) (subst (λ z. z ≤ n) (sym is.forked) forked) fine

-- a task written in place of one that was there
pub one_written : {X : Type 0} (b : Bool) (t : X) (o : Option X) →
    (if b then Some t else if b then None else o) ≡ over (if b then Some t else None) o
one_written true t o = refl
one_written false t o = refl

-- after a step of a task alone
pub local_goes : (m : Module) (k : Code) (n : ℕ) (d : Kept) (c : Config) (p : Path) (w : Write) (s : Slot) → Reflects m k n d c →
    (f : Does (program m) m.types.items c (Local p) w) → IsOf m k p s (moved f.task f.state) → Fine m (written c w) →
    Reflects m k (suc n) (settled (length m.types.items) s (without p d)) (written c w)
local_goes m k n d c p w s r f is fine =
    let b = bound m k n d c p f.task r f.asks.0 in
    subst (Reflects m k (suc n) (settled (length m.types.items) s (without p d))) same
    (comes_in m k (suc n) (without p d) (hide p c) p s (moved f.task f.state)
    (taken m k n d c p f.task request.Step r f.asks refl) (put_here p None c.tasks) is b.made
    (let g = b.clock in omega (arith, g)) (let g = b.forked in omega (arith, g)) (subst (Fine m) (sym same) fine))
  where
    same : show p (moved f.task f.state) (hide p c) ≡ written c w
    same = (λ i. record { tasks = λ q. one_written (same_path p q) (moved f.task f.state) (c.tasks q) i; channels = c.channels })
        ∙ sym (ap (written c) f.writes)
