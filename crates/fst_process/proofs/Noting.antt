-- What is kept once what a task asks for is noted anew.
use Rattle.std.proofs.Common.{◌≡◌, ◌∙◌, ℕ, true, false, Option, Some, None, sym, ap}
use Rattle.std.proofs.lemmas.Bool.{false≢true}
use Rattle.fst_machine.specs.declared.request.Request.{Request}
use Rattle.fst_machine.specs.declared.request.Request.TheVariants.{Step, New, Fork, Put, Get, Ended}
use Rattle.fst_runs.specs.Configs.{Path}
use Rattle.fst_vm.specs.Slot.{Slot, moves_alone}
use Rattle.fst_paths.specs.Paths.{put_at, Keys}
use Rattle.fst_paths.proofs.Laws.{put_back, put_twice}
use Rattle.fst_process.specs.Kept.{Kept, able, unable, without, noted, settled_at}
use Rattle.fst_process.specs.KeptOf.{Channels, kept_in, kept_besides}
use Rattle.fst_process.proofs.KeptLaws.{noted_first}

able_again : (p : Path) (d : Kept) → d.ready p ≡ true → d ≡ able true p (unable p d)
able_again p d f = λ i. record {
  tasks = d.tasks;
  channels = d.channels;
  made = d.made;
  ready =
      put_back p true false d.ready f i;
}

-- a task that could move, and still can alone, is noted as before
pub still_noted : (types : ℕ) (p : Path) (r : Request) (d : Kept) → moves_alone types r ≡ true → d.ready p ≡ true →
    d ≡ noted types p r (unable p d)
still_noted types p Step d e f = able_again p d f
still_noted types p (New n) d e f = able_again p d f ∙ ap (λ b. able b p (unable p d)) (sym e)
still_noted types p Fork d e f = able_again p d f
still_noted types p (Put x ev) d e f = absurd (false≢true e)
still_noted types p (Get x) d e f = absurd (false≢true e)
still_noted types p Ended d e f = absurd (false≢true e)

module _ (types : ℕ) (p : Path) (js js' : Channels) (ks ks' : Keys) where
  -- what is noted besides tasks is noted with them
  pub noted_in : (tasks : Path → Option Slot) (r : Request) → kept_besides js' ks' ≡ noted types p r (kept_besides js ks) →
      kept_in tasks js' ks' ≡ noted types p r (kept_in tasks js ks)
  noted_in tasks r e = ap (λ (z : Kept). record z { tasks = tasks }) e ∙ noted_first types p r tasks (kept_besides js ks)

  -- where it is noted anew what a task asks for, and the task is changed in its place, it is as if it were taken out and put in again
  pub noted_again : (tasks new : Path → Option Slot) (s : Slot) → new ≡ put_at p (Some s) tasks →
      kept_besides js' ks' ≡ noted types p s.request (unable p (kept_besides js ks)) →
      kept_in new js' ks' ≡ settled_at types p s (without p (kept_in tasks js ks))
  noted_again tasks new s f e =
      (λ i. record (e i) { tasks = f i })
      ∙ noted_first types p s.request (put_at p (Some s) tasks) (unable p (kept_besides js ks))
      ∙ ap (λ z. noted types p s.request (record (unable p (kept_besides js ks)) { tasks = z })) (put_twice p (Some s) None tasks)
