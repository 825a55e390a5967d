-- How what is kept of tasks changes where one is put in and where one ends.
use Rattle.std.proofs.Common.{◌≡◌, ◌∙◌, Bool, true, false, Option, Some, None, List, [], ◌∷◌, ◌++◌, refl, sym, ap}
use Rattle.std.specs.Prelude.{option_map, is_some, not, if◌then◌else◌}
use Rattle.std.specs.Option.{option_or}
use Rattle.std.specs.Str.{bytes_eq}
use Rattle.std.specs.Map.{lookup, KeepsOthers}
use Rattle.std.specs.BTreeMap.{BTreeMap}
use Rattle.std.proofs.lemmas.Bool.{false≢true}
use Rattle.std.proofs.lemmas.Option.{none-some, same_Some}
use Rattle.fst_machine.specs.declared.request.Request.{Request}
use Rattle.fst_machine.specs.declared.request.Request.TheVariants.{Step, New, Fork, Put, Get, Ended}
use Rattle.fst_paths.specs.Paths.{Path, Key, at_path, same_key, put_at}
use Rattle.fst_paths.proofs.Laws.{found_after, put_mapped, put_twice, put_back}
use Rattle.fst_vm.specs.declared.kept.Slot as rust_slot
use Rattle.fst_vm.specs.declared.kept.EndedTask.{EndedTask}
use Rattle.fst_vm.specs.declared.tasks.Tasks.{Tasks}
use Rattle.fst_vm.specs.Slot.{Slot, has_ended, is_step, is_live}
use Rattle.fst_vm.specs.SlotOf.{slot_of, slot_of_ended, Slots, slot_in, ended_in, tasks_in, tasks_by_path}

-- what has ended asks for nothing
pub asks_nothing : (r : Request) → has_ended r ≡ true → r ≡ Ended
asks_nothing Step e = absurd (false≢true e)
asks_nothing (New n) e = absurd (false≢true e)
asks_nothing Fork e = absurd (false≢true e)
asks_nothing (Put x ev) e = absurd (false≢true e)
asks_nothing (Get x) e = absurd (false≢true e)
asks_nothing Ended e = refl

-- what is to step asks for a step
pub asks_step : (r : Request) → is_step r ≡ true → r ≡ Step
asks_step Step e = refl
asks_step (New n) e = absurd (false≢true e)
asks_step Fork e = absurd (false≢true e)
asks_step (Put x ev) e = absurd (false≢true e)
asks_step (Get x) e = absurd (false≢true e)
asks_step Ended e = absurd (false≢true e)

-- ---- tasks that have not ended

-- a map of tasks in which a path has this task, or none
pub slots_after : (p : Path) (old new : Slots) (w : Option rust_slot.Slot) → lookup (at_path p) new ≡ w →
    KeepsOthers same_key (at_path p) old new →
    slot_in new ≡ put_at p (option_map slot_of w) (slot_in old)
slots_after p old new w here others = λ i q.
    (ap (option_map slot_of) (found_after p old new w here others q) ∙ put_mapped (option_map slot_of) p w
    (λ o. lookup (at_path o) old) q) i

live_after : (p : Path) (s : Slot) (ts : List EndedTask) (old new : Slots) → slot_in new ≡ put_at p (Some s) (slot_in old) →
    tasks_in new ts ≡ put_at p (Some s) (tasks_in old ts)
live_after p s ts old new e = λ i q. (ap (λ f. option_or (f q) (ended_in ts q)) e
    ∙ by (bytes_eq p q) (slot_in old q) (ended_in ts q)) i
  where
    by : (b : Bool) (x y : Option Slot) → option_or (if b then Some s else x) y ≡ (if b then Some s else option_or x y)
    by true x y = refl
    by false x y = refl

-- all tasks, once a path has this one among those that have not ended
pub put_after : (p q : Path) (s : rust_slot.Slot) (t : Tasks) (live : BTreeMap Key rust_slot.Slot) → q ≡ p →
    lookup (at_path q) live.entries ≡ Some s → KeepsOthers same_key (at_path q) t.live.entries live.entries →
    tasks_by_path (record t { live = live }) ≡ put_at p (Some (slot_of s)) (tasks_by_path t)
put_after p q s t live is here others =
    live_after p (slot_of s) t.ended.items t.live.entries live.entries
    (slots_after q t.live.entries live.entries (Some s) here others
    ∙ ap (λ o. put_at o (Some (slot_of s)) (slot_in t.live.entries)) is)

-- ---- tasks that have ended

-- one more task has ended
ended_after : (ts : List EndedTask) (t : EndedTask) (q : Path) →
    ended_in (ts ++ t ∷ []) q ≡ put_at t.task.path (Some (slot_of_ended t)) (ended_in ts) q
ended_after [] t q = refl
ended_after (u ∷ ts) t q = ap (λ o. option_or o here) (ended_after ts t q) ∙ by (bytes_eq t.task.path q)
  where
    here : Option Slot
    here = if bytes_eq u.task.path q then Some (slot_of_ended u) else None

    by : (b : Bool) → option_or (if b then Some (slot_of_ended t) else ended_in ts q)
        here ≡ (if b then Some (slot_of_ended t) else option_or (ended_in ts q) here)
    by true = refl
    by false = refl

module _ (ts : List EndedTask) (t : EndedTask) (old new : Slots)
    (gone : slot_in new ≡ put_at t.task.path None (slot_in old)) where
  -- a task that has ended is put in
  pub gone_after : tasks_in new (ts ++ t ∷ []) ≡ put_at t.task.path (Some (slot_of_ended t)) (tasks_in old ts)
  gone_after = λ i q. ((λ j. option_or (gone j q) (ended_after ts t q j))
      ∙ by (bytes_eq t.task.path q) (slot_in old q) (ended_in ts q)) i
    where
      by : (b : Bool) (x y : Option Slot) →
          option_or (if b then None else x) (if b then Some (slot_of_ended t) else y)
          ≡ (if b then Some (slot_of_ended t) else option_or x y)
      by true x y = refl
      by false x y = refl

  -- where it was there, all tasks are as before
  pub set_aside_after : slot_in old t.task.path ≡ Some (slot_of_ended t) → tasks_in new (ts ++ t ∷ []) ≡ tasks_in old ts
  set_aside_after e =
      let p = t.task.path in
      let s = Some (slot_of_ended t) in
      gone_after ∙ put_twice p s None (tasks_in old ts)
      ∙ sym (put_back p s None (tasks_in old ts) (ap (λ o. option_or o (ended_in ts p)) e))

-- the last task that has ended is found by its path
pub last_here : (all ts : List EndedTask) (t : EndedTask) (p : Path) → all ≡ ts ++ t ∷ [] → bytes_eq t.task.path p ≡ true →
    ended_in all p ≡ Some (slot_of_ended t)
last_here all ts t p e f = ap (λ es. ended_in es p) e ∙ ended_after ts t p ∙ ap
    (λ b. if b then Some (slot_of_ended t) else ended_in ts p) f

-- and by another one what was found before it
pub last_else : (all ts : List EndedTask) (t : EndedTask) (p : Path) → all ≡ ts ++ t ∷ [] → bytes_eq t.task.path p ≡ false →
    ended_in all p ≡ ended_in ts p
last_else all ts t p e f = ap (λ es. ended_in es p) e ∙ ended_after ts t p ∙ ap
    (λ b. if b then Some (slot_of_ended t) else ended_in ts p) f

-- a task that has ended asks for nothing
pub ended_asks : (ts : List EndedTask) (p : Path) (s : Slot) → ended_in ts p ≡ Some s → s.request ≡ Ended
ended_asks [] p s e = absurd (none-some s e)
ended_asks (t ∷ ts) p s e = by (ended_in ts p) (ended_asks ts p s) (bytes_eq t.task.path p) e
  where
    by : (o : Option Slot) → (o ≡ Some s → s.request ≡ Ended) →
        (b : Bool) → option_or o (if b then Some (slot_of_ended t) else None) ≡ Some s → s.request ≡ Ended
    by (Some r) f b g = f g
    by None f true g = ap (λ (z : Slot). z.request) (sym (same_Some (slot_of_ended t) s g))
    by None f false g = absurd (none-some s g)

-- ---- where a task is found

-- a task that is found among those that have not ended
pub its_slot : (t : Tasks) (p q : Path) (s : rust_slot.Slot) → q ≡ p → Some s ≡ lookup (at_path q) t.live.entries →
    tasks_by_path t p ≡ Some (slot_of s)
its_slot t p q s is found =
    ap (tasks_by_path t) (sym is) ∙ ap (λ o. option_or (option_map slot_of o) (ended_in t.ended.items q)) (sym found)

-- no task that has ended is a live one
not_live : (ts : List EndedTask) (p : Path) → is_live (ended_in ts p) ≡ false
not_live ts p = by (ended_in ts p) (ended_asks ts p)
  where
    by : (o : Option Slot) → ((s : Slot) → o ≡ Some s → s.request ≡ Ended) → is_live o ≡ false
    by None f = refl
    by (Some s) f = ap (λ r. not (has_ended r)) (f s refl)

-- a live task is among those that have not ended
pub live_there : (t : Tasks) (p : Path) → is_live (tasks_by_path t p) ≡ true → tasks_by_path t p ≡ slot_in t.live.entries p
live_there t p = by (slot_in t.live.entries p)
  where
    by : (o : Option Slot) → is_live (option_or o (ended_in t.ended.items p)) ≡ true → option_or o (ended_in t.ended.items p) ≡ o
    by (Some s) live = refl
    by None live = absurd (false≢true (sym (not_live t.ended.items p) ∙ live))

-- so it is found there
pub live_some : (t : Tasks) (p : Path) → is_live (tasks_by_path t p) ≡ true → is_some (slot_in t.live.entries p) ≡ true
live_some t p = by (slot_in t.live.entries p)
  where
    by : (o : Option Slot) → is_live (option_or o (ended_in t.ended.items p)) ≡ true → is_some o ≡ true
    by (Some s) live = refl
    by None live = absurd (false≢true (sym (not_live t.ended.items p) ∙ live))
