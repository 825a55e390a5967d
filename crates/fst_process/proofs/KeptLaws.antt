-- How what is kept changes with the maps that keep it.
use Rattle.std.proofs.Common.{◌≡◌, ◌∙◌, ℕ, zero, suc, true, Option, Some, None, List, [], ◌∷◌, ◌++◌, refl, sym, ap, arith}
use Rattle.std.specs.Prelude.{slice_get, length}
use Rattle.std.specs.Map.{lookup, KeepsOthers}
use Rattle.std.specs.declared.alloc.Global.{Global}
use Rattle.std.specs.declared.vec.Vec.{Vec}
use Rattle.fst_base.proofs.Options.{some_same, none_some}
use Rattle.fst_lts.specs.Histories.{last_stamp}
use Rattle.fst_types.specs.declared.ends.ChannelName.{ChannelName}
use Rattle.fst_types.specs.declared.event.Entry.{Entry}
use Rattle.fst_machine.specs.declared.request.Request.{Request}
use Rattle.fst_machine.specs.declared.request.Request.TheVariants.{Step, New, Fork, Put, Get, Ended}
use Rattle.fst_paths.specs.Paths.{Keys, at_path, has_path, put_at, same_key}
use Rattle.fst_paths.specs.ChannelLists.{IsChangedAt, listed, made_in, many_in}
use Rattle.fst_paths.proofs.Laws.{changed_in, as_many, unchanged_none, added_in, one_more_in}
use Rattle.fst_vm.specs.Slot.{Slot}
use Rattle.fst_runs.specs.Configs.{Path, channel_name}
use Rattle.fst_process.specs.declared.kept.Channel as rust_channel
use Rattle.fst_process.specs.Kept.{Channel, Kept, able, added, changed, noted, settled}
use Rattle.fst_process.specs.KeptOf.{Channels, channel_of, kept_besides, kept_in}

-- putting tasks in and noting what one asks for come in either order
pub noted_first : (types : ℕ) (p : Path) (r : Request) (f : Path → Option Slot) (d : Kept) →
    record (noted types p r d) { tasks = f } ≡ noted types p r (record d { tasks = f })
noted_first types p Step f d = refl
noted_first types p (New n) f d = refl
noted_first types p Fork f d = refl
noted_first types p (Put x ev) f d = refl
noted_first types p (Get x) f d = refl
noted_first types p Ended f d = refl

-- noting changes no tasks
pub noted_tasks : (types : ℕ) (p : Path) (r : Request) (d : Kept) → (noted types p r d).tasks ≡ d.tasks
noted_tasks types p Step d = refl
noted_tasks types p (New n) d = refl
noted_tasks types p Fork d = refl
noted_tasks types p (Put x ev) d = refl
noted_tasks types p (Get x) d = refl
noted_tasks types p Ended d = refl

-- a task that is put among those that can move
pub woken : (js : Channels) (old new : Keys) (p : Path) → has_path new ≡ put_at p true (has_path old) →
    kept_besides js new ≡ able true p (kept_besides js old)
woken js old new p e =
    let k = kept_besides js old in
    λ i. record { tasks = k.tasks; channels = k.channels; made = k.made; ready = e i }

module _ (tasks : Path → Option Slot) (ks : Keys) (old new : Channels) (h : ChannelName) (f : Channel → Channel) (p : Path) where
  -- a channel is changed where it is in the list of its maker
  pub channel_changed : (v w : Vec rust_channel.Channel Global) → p ≡ h.maker → lookup (at_path p) old ≡ Some v →
      lookup (at_path p) new ≡ Some w →
      KeepsOthers same_key (at_path p) old new → IsChangedAt channel_of h.count f v.items w.items →
      kept_in tasks new ks ≡ changed h f (kept_in tasks old ks)
  channel_changed v w is there here others c =
      let channels = changed_in channel_of h f old new p v w is there here others c in
      let many = as_many channel_of h f old new p v w is there here others c in
      λ i. record { tasks = tasks; channels = channels i; made = many i; ready = has_path ks }

  -- and nothing is where its maker has no list
  pub channel_unchanged : p ≡ h.maker → lookup (at_path p) old ≡ None → new ≡ old →
      kept_in tasks new ks ≡ changed h f (kept_in tasks old ks)
  channel_unchanged is none same =
      let channels = unchanged_none channel_of h f old new (ap (made_in old) (sym is) ∙ ap listed none) same in
      λ i. record { tasks = tasks; channels = channels i; made = many_in (same i); ready = has_path ks }

-- a channel is there besides the others where it is put behind those of its maker
pub channel_added : (tasks : Path → Option Slot) (ks : Keys) (old new : Channels) (p : Path) (x : rust_channel.Channel) →
    made_in new ≡ put_at p (made_in old p ++ x ∷ []) (made_in old) →
    kept_in tasks new ks ≡ added (channel_name p (many_in old p)) (channel_of x) (kept_in tasks old ks)
channel_added tasks ks old new p x pushed =
    let channels = added_in channel_of p x old new pushed in
    let many = one_more_in channel_of p x old new pushed in
    λ i. record { tasks = tasks; channels = channels i; made = many i; ready = has_path ks }

-- the stamp of the last entry
pub stamp_last : (es : List Entry) (k : ℕ) (e : Entry) → suc k ≡ length es → slice_get es k ≡ Some e → e.stamp ≡ last_stamp es
stamp_last [] k e l at = absurd (none_some at)
stamp_last (x ∷ []) zero e l at = ap (λ (z : Entry). z.stamp) (sym (some_same at))
stamp_last (x ∷ []) (suc k) e l at = absurd (none_some at)
stamp_last (x ∷ y ∷ es) zero e l at = absurd (omega (arith, l))
stamp_last (x ∷ y ∷ es) (suc k) e l at = stamp_last (y ∷ es) k e (omega (arith, l)) at

-- what is kept once what a task asks for is noted, and the task is put in
pub settled_after : (types : ℕ) (s : Slot) (d mid new : Kept) → mid ≡ noted types s.task.path s.request d →
    new ≡ record mid { tasks = put_at s.task.path (Some s) mid.tasks } →
    new ≡ settled types s d
settled_after types s d mid new noting putting =
    let p = s.task.path in
    putting
    ∙ ap (λ (z : Kept). record z { tasks = put_at p (Some s) z.tasks }) noting
    ∙ ap (λ z. record (noted types p s.request d) { tasks = put_at p (Some s) z }) (noted_tasks types p s.request d)
    ∙ noted_first types p s.request (put_at p (Some s) d.tasks) d
