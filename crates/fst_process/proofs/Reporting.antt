-- The report is that of the configuration.
use Rattle.std.proofs.Common.{◌≡◌, ◌∙◌, inl, inr, ℕ, ◌<◌, false, Option, Some, None, map, refl, sym, ap, subst, arith}
use Rattle.std.specs.Prelude.{Contains, option_map, not}
use Rattle.std.specs.Option.{option_or}
use Rattle.fst_base.proofs.Options.{some_same, none_some}
use Rattle.fst_terms.specs.declared.core_module.Module.{Module}
use Rattle.fst_value.specs.ValueTree.{ValueTree}
use Rattle.fst_types.specs.declared.ends.ChannelName.{ChannelName}
use Rattle.fst_types.specs.declared.ends.EndName.{EndName}
use Rattle.fst_types.specs.declared.event.ChannelHistory.{ChannelHistory}
use Rattle.fst_machine.specs.declared.code.Code.{Code}
use Rattle.fst_machine.specs.declared.request.Request.{Request}
use Rattle.fst_machine.specs.declared.request.Request.TheVariants as request
use Rattle.fst_machine.specs.Values.{Value}
use Rattle.fst_machine.specs.Machine as machine
use Rattle.fst_machine.specs.Machine.{Pause, stuck, calls, uses, makes, forks, puts, gets, closes, waits, matches, ended, asked, pause}
use Rattle.fst_paths.specs.Paths.{AreInOrder}
use Rattle.fst_paths.specs.ChannelLists.{ChannelLists, named_in, numbered, made_in}
use Rattle.fst_vm.specs.declared.report.Report.{Report}
use Rattle.fst_vm.specs.declared.report.Waiting.{Waiting}
use Rattle.fst_vm.specs.declared.tasks.Tasks.{Tasks}
use Rattle.fst_vm.specs.Running.{code_of}
use Rattle.fst_vm.specs.Tasks.{HasEnded, IsAtRest, IsIn}
use Rattle.fst_vm.specs.Slot.{Slot, has_ended, is_live}
use Rattle.fst_vm.specs.SlotOf.{IsEnd, ended_in, tasks_by_path, waiting_in}
use Rattle.fst_vm.proofs.Laws.{live_there}
use Rattle.fst_runs.specs.Configs as runs
use Rattle.fst_runs.specs.Configs.{Path, Config, Task, main_path, program}
use Rattle.fst_runs.specs.Least.{IsBefore, WaitsAt}
use Rattle.fst_runs.specs.Order.{AreRising}
use Rattle.fst_process.specs.declared.config.Config as rust_config
use Rattle.fst_process.specs.Kept.{Kept, end_of}
use Rattle.fst_process.specs.KeptOf.{channel_of, kept_of}
use Rattle.fst_process.specs.Reflects.{Reflects, bare}
use Rattle.fst_process.specs.Reports.{ComesBefore, IsMainResult, IsConfig, IsReport, IsReported}
use Rattle.fst_process.specs.Listed.{channels_in, histories_in, shown}
use Rattle.fst_process.proofs.Taking.{is_kept, is_there}
use Rattle.fst_process.proofs.Nexts.{at_end}
use Rattle.fst_process.proofs.Alike.{means_alike}
use Rattle.fst_process.proofs.ReportLists.{waiting_rises, listed_waits, waits_listed, listed_there, there_listed, channels_rise, in_shown, shown_in, histories_rise, all_shown}

-- what has ended has a value
asked_ended : (p : Pause) → asked p ≡ Some request.Ended → (v : Value) × (p ≡ ended v)
asked_ended stuck e = absurd (none_some e)
asked_ended (calls f env v fs) e = absurd (cc e)
asked_ended (uses g fs) e = absurd (cc e)
asked_ended (makes k fs) e = absurd (cc e)
asked_ended (forks f env fs) e = absurd (cc e)
asked_ended (puts y ew fs) e = absurd (cc e)
asked_ended (gets y fs) e = absurd (cc e)
asked_ended (closes y fs) e = absurd (cc e)
asked_ended (waits y fs) e = absurd (cc e)
asked_ended (matches y bs env fs) e = absurd (cc e)
asked_ended (ended v) e = (v, refl)

-- what asks at an end has not ended
end_goes : (q : Request) (x : EndName) → end_of q ≡ Some x → has_ended q ≡ false
end_goes request.Step x e = absurd (none_some e)
end_goes (request.New n) x e = absurd (none_some e)
end_goes request.Fork x e = absurd (none_some e)
end_goes (request.Put y ev) x e = refl
end_goes (request.Get y) x e = refl
end_goes request.Ended x e = absurd (none_some e)

-- ---- of any tasks and channels that show a configuration

-- a slot shows a task: its code stands for the task's state, and it asks for what the state does
pub record Shows (m : Module) (k : Code) (s : Slot) (t : Task) : Type 0 where
  pub rests : IsAtRest k s.task
  pub is_in : IsIn m k s.task t.state
  pub asks : machine.request m.families.items t.state ≡ Some s.request

-- tasks by their paths show those of a configuration
pub record ShowTasks (m : Module) (k : Code) (tasks : Path → Option Slot) (c : Config) : Type 0 where
  pub there : (p : Path) (s : Slot) → tasks p ≡ Some s → (t : Task) × (c.tasks p ≡ Some t) × Shows m k s t
  pub back : (p : Path) (t : Task) → c.tasks p ≡ Some t → (s : Slot) × (tasks p ≡ Some s) × Shows m k s t

module _ (m : Module) (k : Code) (tasks : Path → Option Slot) (c : Config) (show : ShowTasks m k tasks c) where
  -- a task that asks for nothing has ended
  pub ended_shown : (p : Path) (s : Slot) → tasks p ≡ Some s → s.request ≡ request.Ended → HasEnded s.task
  ended_shown p s at e =
      let f = show.there p s at in
      let g = asked_ended (pause m.families.items f.0.state) (f.2.asks ∙ ap Some e) in
      record {
        code = k;
        rests = f.2.rests;
        source = m;
        state = f.0.state;
        is_in = f.2.is_in;
        value = g.0;
        ends = g.1;
      }

  -- the value of main's task
  main_result : (o : Option ValueTree) → IsEnd (tasks main_path) o → IsMainResult (program m) c o
  main_result None h = λ t v e f.
      let g = show.back main_path t e in
      h g.0 g.1 (some_same (sym g.2.asks ∙ ap asked f))
  main_result (Some x) h =
      let f = show.there main_path h.0 h.1 in
      let g = asked_ended (pause m.families.items f.0.state) (f.2.asks ∙ ap Some h.2) in
      (f.0, g.0, f.1, g.1, means_alike (code_of m.families.items k) x g.0 (h.3 m k f.0.state g.0 f.2.rests f.2.is_in g.1))

  -- a task that asks at an end waits
  shown_waits : (p : Path) (x : EndName) → ((s : Slot) × (tasks p ≡ Some s) × (end_of s.request ≡ Some x)) →
      WaitsAt (program m) c p x
  shown_waits p x h =
      let f = show.there p h.0 h.1 in (
        f.0,
        f.1,
        elim (at_end h.0.request x h.2) [
          | inl g ↦ inl (g.0, f.2.asks ∙ ap Some g.1)
          | inr g ↦ inr (f.2.asks ∙ ap Some g)
        ],
      )

  -- and a task that waits asks there
  waits_shown : (p : Path) (x : EndName) → WaitsAt (program m) c p x → (s : Slot) × (tasks p ≡ Some s) ×
      (end_of s.request ≡ Some x)
  waits_shown p x h =
      let f = show.back p h.0 h.1 in (
        f.0,
        f.1,
        elim h.2 [
          | inl g ↦ ap end_of (some_same (sym f.2.asks ∙ g.1))
          | inr g ↦ ap end_of (some_same (sym f.2.asks ∙ g))
        ],
      )

module _ {X : Type 0} (view : X → runs.Channel) (m : Module) (k : Code) (c : Config) (ts : Tasks) (js : ChannelLists X)
    (show : ShowTasks m k (tasks_by_path ts) c)
    (same : (h : ChannelName) → named_in view js h ≡ c.channels h) where
  -- what lists say of tasks and channels that show a configuration makes the report of it
  pub is_report : (n : ℕ) (r : Report) → IsEnd (tasks_by_path ts main_path) r.result →
      r.waiting.items ≡ waiting_in ts.live.entries → AreInOrder ts.live.entries →
      map shown r.channels.items ≡ channels_in view js → AreInOrder js → r.events ≡ n → IsReport (program m) c n r
  is_report n r result waiting order channels channel_order events = record {
    result = main_result m k (tasks_by_path ts) c show r.result result;
    waiting = λ p x. (
      λ a.
          let s = listed_waits ts.live.entries p x order
          (subst (λ ws. Contains ws (record { task = p; end = x })) waiting a) in
          shown_waits m k (tasks_by_path ts) c show p x (s.0, ap (λ o. option_or o (ended_in ts.ended.items p)) s.1, s.2),
      λ a.
          let s = waits_shown m k (tasks_by_path ts) c show p x a in
          let live = ap (λ o. is_live o) s.1 ∙ ap not (end_goes s.0.request x s.2) in
          subst (λ ws. Contains ws (record { task = p; end = x })) (sym waiting)
          (waits_listed ts.live.entries p x s.0 (sym (live_there ts p live) ∙ s.1) s.2),
    );
    waiting_order = subst (AreRising (λ (v w : Waiting). IsBefore v.task w.task)) (sym waiting)
        (waiting_rises ts.live.entries order);
    channels = λ g j. (there g j, back g j);
    channels_order = histories_rise r.channels.items
        (subst (AreRising (λ (g h : ChannelName × runs.Channel). ComesBefore g.0 h.0)) (sym channels)
        (channels_rise view js channel_order));
    events = events;
  }
    where
      there : (g : ChannelName) (j : runs.Channel) → c.channels g ≡ Some j →
          (i : ChannelHistory) × Contains r.channels.items i × (i.name ≡ g) × (i.declared ≡ j.declared) ×
          (i.entries.items ≡ j.history)
      there g j e =
          let listed = there_listed view js g j (same g ∙ e) in
          let o = shown_in r.channels.items (g, j) (subst (λ gs. Contains gs (g, j)) (sym channels) listed) in (
            o.0,
            o.1,
            ap (λ (z : ChannelName × runs.Channel). z.0) o.2,
            ap (λ (z : ChannelName × runs.Channel). z.1.declared) o.2,
            ap (λ (z : ChannelName × runs.Channel). z.1.history) o.2,
          )

      back : (g : ChannelName) (j : runs.Channel) →
          ((i : ChannelHistory) × Contains r.channels.items i × (i.name ≡ g) × (i.declared ≡ j.declared) ×
          (i.entries.items ≡ j.history)) → c.channels g ≡ Some j
      back g j o =
          let listed = subst (λ gs. Contains gs (shown o.0)) channels (in_shown r.channels.items o.0 o.1) in
          sym (same g) ∙ ap (named_in view js) (sym o.2)
          ∙ listed_there view js (shown o.0) channel_order listed
          ∙ (λ a. Some (record { declared = o.3 a; history = o.4 a }))

-- ---- of what is kept

-- what is kept shows the tasks of the configuration
kept_shows : (m : Module) (k : Code) (l : ℕ) (d : Kept) (c : Config) → Reflects m k l d c → ShowTasks m k d.tasks c
kept_shows m k l d c r = record {
  there = λ p s e.
      let f = is_there m k d p (d.tasks p) (c.tasks p) s (r.tasks p) e in
      (f.0, f.1, record { rests = f.2.rests; is_in = f.2.is_in; asks = f.2.asks });
  back = λ p t e.
      let f = is_kept m k d p (d.tasks p) (c.tasks p) t (r.tasks p) e in
      (f.0, f.1, record { rests = f.2.rests; is_in = f.2.is_in; asks = f.2.asks });
}

-- a task that is kept and asks for nothing has ended
pub ended_there : (d : Kept) (p : Path) (s : Slot) → d.tasks p ≡ Some s → s.request ≡ request.Ended → IsConfig d → HasEnded s.task
ended_there d p s at e x =
    ended_shown x.source x.code d.tasks x.config (kept_shows x.source x.code x.events d x.config x.reflects) p s at e

-- no task has made more channels than there are numbers
pub made_within : (d : Kept) (p : Path) → IsConfig d → d.made p < 4294967296
made_within d p x = let a = x.reflects.makes p in let f = x.few in omega (arith, a, f)

-- what is seen of a channel without who asks at it
twice : {A B C : Type 0} (f : B → C) (g : A → B) (o : Option A) → option_map (λ x. f (g x)) o ≡ option_map f (option_map g o)
twice f g None = refl
twice f g (Some x) = refl

-- what lists say of what is kept makes the report of it
pub reported : (k : rust_config.Config) (n : ℕ) (r : Report) → IsEnd (tasks_by_path k.tasks main_path) r.result →
    r.waiting.items ≡ waiting_in k.tasks.live.entries → AreInOrder k.tasks.live.entries →
    r.channels.items ≡ histories_in k.channels.by_maker.entries → AreInOrder k.channels.by_maker.entries → r.events ≡ n →
    IsReported (kept_of k) n r
reported k n r result waiting order channels channel_order events = λ m code l c h.
    let js = k.channels.by_maker.entries in
    is_report (λ j. bare (channel_of j)) m code c k.tasks js (kept_shows m code l (kept_of k) c h)
    (λ g. twice bare channel_of (numbered (made_in js g.maker) g.count) ∙ h.channels g) n r result waiting order
    (ap (map shown) channels ∙ all_shown js) channel_order events
