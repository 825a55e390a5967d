-- How what is kept changes where a task is put in and where one goes on; and who has no event.
use Rattle.std.proofs.Common.{◌≡◌, ◌∙◌, ℕ, Option, Some, None, List, refl, sym, ap}
use Rattle.std.specs.Prelude.{option_map, option_and_then, length}
use Rattle.std.specs.Option.{option_or}
use Rattle.std.specs.Map.{lookup}
use Rattle.fst_machine.specs.declared.code.Code.{Code}
use Rattle.fst_machine.specs.declared.request.Answer.{Answer}
use Rattle.fst_machine.specs.declared.request.Request.TheVariants.{Ended}
use Rattle.fst_paths.specs.Paths.{at_path, put_at}
use Rattle.fst_vm.specs.declared.kept.EndedTask.{EndedTask}
use Rattle.fst_vm.specs.Slot.{Slot}
use Rattle.fst_vm.specs.SlotOf.{slot_of, ended_in}
use Rattle.fst_vm.specs.Going.{MovesOn}
use Rattle.fst_vm.proofs.Laws.{ended_asks}
use Rattle.fst_runs.specs.declared.event.CoreEvent.{CoreEvent}
use Rattle.fst_runs.specs.Configs.{Path}
use Rattle.fst_process.specs.declared.config.Config.{Config}
use Rattle.fst_process.specs.Kept.{Kept, noted, settled, settled_at, unable, without}
use Rattle.fst_process.specs.KeptOf.{kept_besides, kept_in, kept_of}
use Rattle.fst_process.specs.Firing.{HasGoneOn}
use Rattle.fst_process.specs.Nexts.{event_of, event_with}
use Rattle.fst_process.proofs.KeptLaws.{settled_after}
use Rattle.fst_process.proofs.Noting.{noted_in, noted_again}

-- no task that has ended has an event
no_event : (d : Kept) (ts : List EndedTask) (p : Path) → option_and_then
    (λ (s : Slot). event_with d p s.request) (ended_in ts p) ≡ None
no_event d ts p = by (ended_in ts p) (ended_asks ts p)
  where
    by : (o : Option Slot) → ((s : Slot) → o ≡ Some s → s.request ≡ Ended) → option_and_then
        (λ (s : Slot). event_with d p s.request) o ≡ None
    by None f = refl
    by (Some s) f = ap (event_with d p) (f s refl)

-- nor one that isn't found among the others
pub none_event : (k : Config) (p : Path) → None ≡ lookup (at_path p) k.tasks.live.entries → None ≡ event_of (kept_of k) p
none_event k p none =
    let event : Option Slot → Option CoreEvent = option_and_then (λ (s : Slot). event_with (kept_of k) p s.request) in
    sym (no_event (kept_of k) k.tasks.ended.items p) ∙ ap
    (λ o. event (option_or (option_map slot_of o) (ended_in k.tasks.ended.items p))) none

-- what is kept once what a task asks for is noted, and it is put in
pub settled_now : (n types : ℕ) (q : Path) (s : Slot) (k new : Config) → n ≡ types → q ≡ s.task.path →
    kept_besides new.channels.by_maker.entries new.ready.keys ≡ noted n q s.request
    (kept_besides k.channels.by_maker.entries k.ready.keys) →
    (kept_of new).tasks ≡ put_at s.task.path (Some s) (kept_of k).tasks → kept_of new ≡ settled types s (kept_of k)
settled_now n types q s k new len is noting putting =
    let mid = kept_in (kept_of k).tasks new.channels.by_maker.entries new.ready.keys in
    settled_after types s (kept_of k) mid (kept_of new)
    (noted_in n q k.channels.by_maker.entries new.channels.by_maker.entries k.ready.keys new.ready.keys
    (kept_of k).tasks s.request noting
    ∙ (λ i. noted (len i) (is i) s.request (kept_of k)))
    (λ i. record { tasks = putting i; channels = mid.channels; made = mid.made; ready = mid.ready })

-- what is kept once a task has come to another slot in its place, and what it asks for then is noted
pub noted_on : (code : Code) (p : Path) (types : ℕ) (k new : Config) (t : Slot) → types ≡ length code.types.items →
    (kept_of new).tasks ≡ put_at p (Some t) (kept_of k).tasks →
    kept_besides new.channels.by_maker.entries new.ready.keys ≡ noted types p t.request
    (unable p (kept_besides k.channels.by_maker.entries k.ready.keys)) →
    kept_of new ≡ settled_at (length code.types.items) p t (without p (kept_of k))
noted_on code p types k new t len tasks noting =
    noted_again types p k.channels.by_maker.entries new.channels.by_maker.entries k.ready.keys new.ready.keys (kept_of k).tasks
    (kept_of new).tasks t tasks noting
    ∙ ap (λ l. settled_at l p t (without p (kept_of k))) len

-- so it is where it has gone on after an answer
pub gone_on : (code : Code) (p : Path) (a : Answer) (n types : ℕ) (k new : Config) (s t : Slot) →
    (kept_of k).tasks p ≡ Some s → MovesOn code a n s t → types ≡ length code.types.items →
    (kept_of new).tasks ≡ put_at p (Some t) (kept_of k).tasks →
    kept_besides new.channels.by_maker.entries new.ready.keys ≡ noted types p t.request
    (unable p (kept_besides k.channels.by_maker.entries k.ready.keys)) →
    HasGoneOn code p a n (kept_of k) (kept_of new)
gone_on code p a n types k new s t there moves len tasks noting =
    record {
      slot = s;
      there = there;
      now = t;
      moves_on = moves;
      after = noted_on code p types k new t len tasks noting;
    }
