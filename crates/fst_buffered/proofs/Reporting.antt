-- The report is that of the configuration, and its numbers are how much of each channel one side hasn't taken.
use Rattle.std.proofs.Common.{◌≡◌, ◌∙◌, ◌++◌, ℕ, zero, suc, ◌+◌, ◌-◌, ◌≤◌, ◌<◌, Option, Some, None, List, [], ◌∷◌, length, map, refl, sym, ap, subst, arith}
use Rattle.std.specs.Prelude.{Contains, min, option_map}
use Rattle.std.proofs.lemmas.List.{map-append}
use Rattle.fst_base.proofs.Lists.{contains_head, contains_tail}
use Rattle.fst_terms.specs.declared.core_module.Module.{Module}
use Rattle.fst_types.specs.declared.side.Side.TheVariants.{Left, Right}
use Rattle.fst_types.specs.declared.ends.ChannelName.{ChannelName}
use Rattle.fst_types.specs.declared.event.ChannelHistory.{ChannelHistory}
use Rattle.fst_machine.specs.declared.code.Code.{Code}
use Rattle.fst_machine.specs.declared.request.Request.TheVariants.{Ended}
use Rattle.fst_paths.specs.Paths.{AreInOrder}
use Rattle.fst_paths.specs.ChannelLists.{made_in, numbered}
use Rattle.fst_vm.specs.declared.report.Report.{Report}
use Rattle.fst_vm.specs.Tasks.{HasEnded}
use Rattle.fst_vm.specs.Slot.{Slot}
use Rattle.fst_vm.specs.SlotOf.{IsEnd, tasks_by_path, waiting_in}
use Rattle.fst_runs.specs.Configs as runs
use Rattle.fst_runs.specs.Configs.{Path, channel_name, main_path}
use Rattle.fst_process.specs.Listed.{channels_in, channels_of, shown}
use Rattle.fst_process.proofs.Laws.{ShowTasks, ended_shown, is_report, listed_there}
use Rattle.fst_buffered.specs.declared.kept.Channel as rust_channel
use Rattle.fst_buffered.specs.declared.config.Config as rust_config
use Rattle.fst_buffered.specs.Answers.{AreUnread}
use Rattle.fst_buffered.specs.Channels.{Channel, Config, IsWithin, AreWithin, core, plain, unread, unread_of}
use Rattle.fst_buffered.specs.Kept.{Kept, Reflects}
use Rattle.fst_buffered.specs.KeptOf.{Channels, Held, channel_of, held_of, kept_of, plain_of}
use Rattle.fst_buffered.specs.Running.{IsConfig, IsReported}
use Rattle.fst_buffered.proofs.Keeping.{is_kept}
use Rattle.fst_buffered.proofs.Rights.{is_there}

-- what is kept shows the tasks of the configuration
kept_shows : (m : Module) (k : Code) (capacity l : ℕ) (d : Kept) (c : Config) → Reflects m k capacity l d c →
    ShowTasks m k d.tasks (core c)
kept_shows m k capacity l d c r = record {
  there = λ p s e.
      let f = is_there m k p (d.tasks p) (c.tasks p) s (r.tasks p) e in
      (f.0, f.1, record { rests = f.2.rests; is_in = f.2.is_in; asks = f.2.asks });
  back = λ p t e.
      let f = is_kept m k p (d.tasks p) (c.tasks p) t (r.tasks p) e in
      (f.0, f.1, record { rests = f.2.rests; is_in = f.2.is_in; asks = f.2.asks });
}

-- a task that is kept and asks for nothing has ended
pub ended_there : (d : Kept) (p : Path) (s : Slot) → d.tasks p ≡ Some s → s.request ≡ Ended → IsConfig d → HasEnded s.task
ended_there d p s at e x =
    ended_shown x.source x.code d.tasks (core x.config)
    (kept_shows x.source x.code x.capacity x.events d x.config x.reflects) p s at e

-- no task has made more channels than there are numbers
pub made_within : (d : Kept) (p : Path) → IsConfig d → d.made p < 4294967296
made_within d p x = let a = x.reflects.makes p in let f = x.few in omega (arith, a, f)

-- what is seen of a channel that may be there, without who asks at it
bare : (o : Option rust_channel.Channel) → option_map channel_of o ≡ option_map (λ (j : Held). j.channel) (option_map held_of o)
bare None = refl
bare (Some j) = refl

bare_plain : (o : Option rust_channel.Channel) → option_map plain_of o
    ≡ option_map plain (option_map (λ (j : Held). j.channel) (option_map held_of o))
bare_plain None = refl
bare_plain (Some j) = refl

lesser_within : (m l r : ℕ) → l ≤ m → r ≤ m → (m - min l r) + min l r ≡ m
lesser_within m l r a b = omega (arith, a, b)

unread_here : (k : Channel) → IsWithin k → unread k + min k.left k.right ≡ length k.history
unread_here k f = lesser_within (length k.history) k.left k.right (f Left) (f Right)

-- a channel with its name, as one at which tasks meet
abbrev as_plain : ChannelName × Channel → ChannelName × runs.Channel
as_plain x = (x.0, plain x.1)

some_plain : (p : Path) (n : ℕ) (js : List rust_channel.Channel) →
    channels_of plain_of p n js ≡ map as_plain (channels_of channel_of p n js)
some_plain p n [] = refl
some_plain p n (j ∷ js) = ap (λ l. (channel_name p n, plain_of j) ∷ l) (some_plain p (suc n) js)

all_plain : (js : Channels) → channels_in plain_of js ≡ map as_plain (channels_in channel_of js)
all_plain [] = refl
all_plain (e ∷ es) =
    (λ i. some_plain e.0.items zero e.1.items i ++ all_plain es i)
    ∙ sym (map-append as_plain (channels_of channel_of e.0.items zero e.1.items) (channels_in channel_of es))

-- of channels that are there in the order of the histories, so many entries are unread
are_unread : (c : Config) → AreWithin c → (xs : List (ChannelName × Channel)) (hs : List ChannelHistory) →
    map shown hs ≡ map as_plain xs → ((x : ChannelName × Channel) → Contains xs x → c.channels x.0 ≡ Some x.1) →
    AreUnread c hs (map unread_of xs)
are_unread c within [] [] e f = tt
are_unread c within [] (h ∷ hs) e f = absurd (cc e)
are_unread c within (x ∷ xs) [] e f = absurd (cc e)
are_unread c within (x ∷ xs) (h ∷ hs) e f =
    let here = f x (contains_head xs x x refl) in
    let same : shown h ≡ as_plain x = cc e in
    let rest : map shown hs ≡ map as_plain xs = cc e in (
      (x.1, ap (λ (y : ChannelName × runs.Channel). c.channels y.0) same ∙ here, unread_here x.1 (within x.0 x.1 here)),
      are_unread c within xs hs rest (λ y d. f y (contains_tail xs y x d)),
    )

-- what lists say of what is kept makes the report of it, with how much of each channel is unread
pub reported : (k : rust_config.Config) (n : ℕ) (r : Report) (ns : List ℕ) → IsEnd (tasks_by_path k.tasks main_path) r.result →
    r.waiting.items ≡ waiting_in k.tasks.live.entries → AreInOrder k.tasks.live.entries →
    map shown r.channels.items ≡ channels_in plain_of k.channels.by_maker.entries →
    ns ≡ map unread_of (channels_in channel_of k.channels.by_maker.entries) → AreInOrder k.channels.by_maker.entries →
    r.events ≡ n → IsReported (kept_of k) n r ns
reported k n r ns result waiting order channels numbers channel_order events = λ m code capacity l c h within.
    let js = k.channels.by_maker.entries in
    let xs = channels_in channel_of js in
    let there : (x : ChannelName × Channel) → Contains xs x → c.channels x.0 ≡ Some x.1 =
    λ x d. sym (bare (numbered (made_in js x.0.maker) x.0.count) ∙ h.channels x.0)
    ∙ listed_there channel_of js x channel_order d in (
      is_report plain_of m code (core c) k.tasks js (kept_shows m code capacity l (kept_of k) c h)
          (λ g. bare_plain (numbered (made_in js g.maker) g.count) ∙ ap (option_map plain) (h.channels g)) n r result waiting
          order
          channels channel_order events,
      subst (AreUnread c r.channels.items) (sym numbers)
          (are_unread c within xs r.channels.items (channels ∙ all_plain js) there),
    )
