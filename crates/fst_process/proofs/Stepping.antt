-- A task that is kept goes on after an answer, and is put in again.
use Rattle.std.proofs.Common.{◌≡◌, ◌∙◌, ◌+◌, ◌<◌, ℕ, zero, suc, max, true, false, Some, sym, ap, subst, arith}
use Rattle.std.specs.Prelude.{length, not}
use Rattle.std.specs.Coded.{le_prop}
use Rattle.std.proofs.Math.Logic.{∥∥₁_elim}
use Rattle.fst_base.proofs.Options.{some_same, none_some}
use Rattle.fst_terms.specs.declared.core_module.Module.{Module}
use Rattle.fst_machine.specs.declared.code.Code.{Code}
use Rattle.fst_machine.specs.declared.request.Request.{Request}
use Rattle.fst_machine.specs.declared.request.Answer.{Answer}
use Rattle.fst_machine.specs.declared.request.Answer.TheVariants.{Forked}
use Rattle.fst_machine.specs.Machine.{Program, State, Pause, stuck, calls, uses, makes, forks, puts, gets, closes, waits, matches, ended, asked, pause, request, after, answered}
use Rattle.fst_vm.specs.TaskView.{TaskView}
use Rattle.fst_vm.specs.Tasks.{IsIn, IsFrom, HasNext, Takes, GoesOn, forked_after}
use Rattle.fst_runs.specs.declared.event.CoreEvent.{CoreEvent}
use Rattle.fst_runs.specs.Configs.{Path, Config, Task, program}
use Rattle.fst_runs.specs.Events.{Asks}
use Rattle.fst_vm.specs.Slot.{Slot, has_ended, is_live}
use Rattle.fst_process.specs.Kept.{Kept, without, settled_at, settled}
use Rattle.fst_process.specs.Reflects.{IsTask, Reflects}
use Rattle.fst_process.specs.Firing.{IsPossible, Settles, CanGoOn, HasGoneOn}
use Rattle.fst_process.proofs.Taking.{is_kept}
use Rattle.fst_process.proofs.Going.{IsOf}

-- a task that asks for something is kept as one that has not ended
pub there_live : (m : Module) (k : Code) (n : ℕ) (d : Kept) (c : Config) (p : Path) (t : Task) (q : Request) →
    Reflects m k n d c → Asks (program m) c p t q →
    has_ended q ≡ false → is_live (d.tasks p) ≡ true
there_live m k n d c p t q r asks e =
    let f = is_kept m k d p (d.tasks p) (c.tasks p) t (r.tasks p) asks.0 in
    let same : f.0.request ≡ q = some_same (sym f.2.asks ∙ asks.1) in
    ap (λ o. is_live o) f.1 ∙ ap (λ z. not (has_ended z)) same ∙ ap not e

-- what takes an answer has not ended
takes_none : (m : Program) (x : Pause) (a : Answer) (u : State) (q : Request) → after m x a ≡ Some u → asked x ≡ Some q →
    has_ended q ≡ false
takes_none m stuck a u q e f = absurd (none_some f)
takes_none m (calls b env v fs) a u q e f = sym (ap has_ended (some_same f))
takes_none m (uses g fs) a u q e f = sym (ap has_ended (some_same f))
takes_none m (makes t fs) a u q e f = sym (ap has_ended (some_same f))
takes_none m (forks b env fs) a u q e f = sym (ap has_ended (some_same f))
takes_none m (puts x ev fs) a u q e f = sym (ap has_ended (some_same f))
takes_none m (gets x fs) a u q e f = sym (ap has_ended (some_same f))
takes_none m (closes x fs) a u q e f = sym (ap has_ended (some_same f))
takes_none m (waits x fs) a u q e f = sym (ap has_ended (some_same f))
takes_none m (matches x bs env fs) a u q e f = sym (ap has_ended (some_same f))
takes_none m (ended v) a u q e f = absurd (none_some e)

-- and it is what is kept
pub its_task : (m : Module) (k : Code) (n : ℕ) (d : Kept) (c : Config) (p : Path) (s : Slot) (t : Task) → Reflects m k n d c →
    d.tasks p ≡ Some s → c.tasks p ≡ Some t →
    IsTask m k d p s t
its_task m k n d c p s t r there e =
    let f = is_kept m k d p (d.tasks p) (c.tasks p) t (r.tasks p) e in
    subst (λ z. IsTask m k d p z t) (some_same (sym f.1 ∙ there)) f.2

-- how what a task is in becomes what it is in after an answer
module _ (m : Module) (k : Code) (d : Kept) (p : Path) (s : Slot) (t : Task) (from : IsFrom m k) (is : IsTask m k d p s t)
    (a : Answer) (u : State)
    (told : answered (program m) t.state a ≡ Some u) (alive : pause m.families.items u ≡ stuck → ⊥) where
  -- it takes the answer
  takes : (a ≡ Forked → s.task.forked < 4294967295) → Takes k s.task a
  takes few = record {
    rests = is.rests;
    source = m;
    from = from;
    state = t.state;
    is_in = is.is_in;
    after = u;
    told = told;
    asks = alive;
    few = few;
  }

  -- and is in the next state then
  is_after : (v : TaskView) → GoesOn k s.task a v → IsIn m k v u
  is_after v g = g.states m t.state u from is.is_in told alive

  -- which asks for something
  next_after : (v : TaskView) → GoesOn k s.task a v → (q : Request) → request m.families.items u ≡ Some q → HasNext k v
  next_after v g q e = record { source = m; from = from; state = u; is_in = is_after v g; next = (q, e) }

  -- it can go on where it is kept and can move
  pub can_go_on : (e : Kept) → e.tasks p ≡ Some s → e.ready p ≡ true → s.clock < 4294967295 →
      (a ≡ Forked → s.task.forked < 4294967295) →
      (q : Request) → request m.families.items u ≡ Some q → CanGoOn k e p a
  can_go_on e there moves clock few q asks = record {
    slot = s;
    there = there;
    path = is.path;
    moves = moves;
    goes = takes_none (program m) (pause m.families.items t.state) a u s.request told is.asks;
    takes = takes few;
    next = λ v g. next_after v g q asks;
    few = clock;
  }

  -- put in again, it is the task in that state
  pub is_of : (v : TaskView) (l : ℕ) (e f : Kept) (made clock forked : ℕ) → GoesOn k s.task a v →
      (z : Settles k v l e f) → l ≡ clock → forked_after a t.forked ≡ forked →
      IsOf m k p z.slot (record { state = u; made = made; forked = forked; clock = clock })
  is_of v l e f made clock forked g z same grown = record {
    path = z.stays.path ∙ g.path ∙ is.path;
    rests = z.rests;
    is_in = z.stays.states m u (is_after v g);
    asks = z.asked m u (is_after v g) alive;
    clock = z.clock ∙ same;
    forked = z.stays.forked ∙ g.forked ∙ ap (forked_after a) is.forked ∙ grown;
  }

-- a task that has gone on in its place is as if it were taken out and put in again
pub settles_gone : (k : Code) (p : Path) (a : Answer) (n : ℕ) (d e : Kept) → (g : HasGoneOn k p a n d e) → g.slot.task.path ≡ p →
    Settles k g.moves_on.task (max (suc g.slot.clock) n) (without p d) e
settles_gone k p a n d e g path = record {
  slot = g.now;
  stays = g.moves_on.stays;
  asked = g.moves_on.asked;
  rests = g.moves_on.rests;
  clock = g.moves_on.clock;
  after = g.after ∙ ap (λ q. settled_at (length k.types.items) q g.now (without p d))
      (sym (g.moves_on.stays.path ∙ g.moves_on.goes_on.path ∙ path));
}

-- what is kept after a task is put in, by the number of types of the module
pub settled_types : (m : Module) (k : Code) (v : TaskView) (l : ℕ) (e f : Kept) → IsFrom m k →
    (z : Settles k v l e f) → f ≡ settled (length m.types.items) z.slot e
settled_types m k v l e f from z = z.after ∙ ap (λ ts. settled (length ts) z.slot e) from.same_types

-- a clock that counts one event more
pub one_more : (i j : ℕ) → i ≡ j → i + 1 ≡ suc j
one_more i j e = omega (arith, e)

-- so it is where it has to be at least 0
pub next_clock : (i j : ℕ) → i ≡ j → max (suc i) zero ≡ suc j
next_clock i j e = omega (arith, e)

-- a clock in bounds
pub clock_few : (k : Code) (d : Kept) (p : Path) (s : Slot) (e : CoreEvent) → d.tasks p ≡ Some s → IsPossible k d e →
    s.clock < 4294967295
clock_few k d p s e there x = let c = x.reflects.clocks p s there in let f = x.few in omega (arith, c, f)

-- even where the event is merely known to be possible
pub clock_within : (k : Code) (d : Kept) (p : Path) (s : Slot) (e : CoreEvent) → d.tasks p ≡ Some s → ∥ IsPossible k d e ∥₁ →
    s.clock < 4294967295
clock_within k d p s e there x = ∥∥₁_elim x le_prop (clock_few k d p s e there)
