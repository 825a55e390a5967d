-- An event has one write, and events are the same or not.
use Rattle.std.proofs.Common.{◌≡◌, ◌∙◌, List, [], Bool, true, false, ◌&&◌, sym, ap, suc}
use Rattle.std.proofs.lemmas.Bool.{and_from}
use Rattle.std.specs.Prelude.{slice_get}
use Rattle.fst_base.proofs.Options.{some_same}
use Rattle.fst_base.proofs.Bools.{and_parts}
use Rattle.fst_types.specs.Tree.{Tree}
use Rattle.fst_lts.specs.Histories.{over}
use Rattle.fst_machine.specs.declared.request.Request.TheVariants as request
use Rattle.fst_machine.specs.declared.request.Answer.TheVariants.{Go, Made, Forked, Sent, Got}
use Rattle.fst_machine.specs.Machine.{Program, pause, answered, child}
use Rattle.fst_runs.specs.declared.event.CoreEvent.{CoreEvent}
use Rattle.fst_runs.specs.declared.event.CoreEvent.TheVariants.{Local, New, Fork, Meet}
use Rattle.fst_runs.specs.Configs.{Config, same_path, same_channel, other, child_path, channel_name, new_task}
use Rattle.fst_runs.specs.Events.{Write, task_at, channel_at, no_channel, moved, meeting_stamp, extended, Does}
use Rattle.fst_runs.proofs.Laws.{same_path-itself, same_path-same, same_channel-itself, same_channel-same}
use Rattle.fst_safety.proofs.Askers.{same_asks}

-- an event has one write
pub one_write : (m : Program) (types : List Tree) (c : Config) (e : CoreEvent) (w v : Write) → Does m types c e w →
    Does m types c e v → w ≡ v
one_write m types c (Local p) w v d f =
    let t : d.task ≡ f.task = (same_asks m c p d.task f.task request.Step request.Step d.asks f.asks).0 in
    let s : d.state ≡ f.state = some_same (sym d.leads ∙ ap (λ z. answered m z.state Go) t ∙ f.leads) in
    d.writes ∙ (λ i. record { tasks = task_at p (moved (t i) (s i)); channels = no_channel }) ∙ sym f.writes
one_write m types c (New p) w v d f =
    let a = same_asks m c p d.task f.task (request.New d.number) (request.New f.number) d.asks f.asks in
    let t : d.task ≡ f.task = a.0 in
    let q : request.New d.number ≡ request.New f.number = a.1 in
    let n : d.number ≡ f.number = cc q in
    let k : d.declared ≡ f.declared = some_same (sym d.typed ∙ ap (slice_get types) n ∙ f.typed) in
    let s : d.state ≡ f.state = some_same (sym d.leads ∙ ap (λ z. answered m z.state (Made (channel_name p z.made))) t
    ∙ f.leads) in
    d.writes ∙ (λ i. record {
      tasks = task_at p (record { state = s i; made = suc (t i).made; forked = (t i).forked; clock = suc (t i).clock });
      channels = channel_at (channel_name p (t i).made) (record { declared = k i; history = [] });
    }) ∙ sym f.writes
one_write m types c (Fork p) w v d f =
    let t : d.task ≡ f.task = (same_asks m c p d.task f.task request.Fork request.Fork d.asks f.asks).0 in
    let s : d.state ≡ f.state = some_same (sym d.leads ∙ ap (λ z. answered m z.state Forked) t ∙ f.leads) in
    let b : d.begun ≡ f.begun = some_same (sym d.begins ∙ ap (λ z. child (pause m.families z.state)) t ∙ f.begins) in
    d.writes ∙ (λ i. record {
      tasks = λ q. over
          (task_at (child_path p (t i).forked) (new_task (b i) (suc (t i).clock)) q)
          (task_at p (record { state = s i; made = (t i).made; forked = suc (t i).forked; clock = suc (t i).clock }) q);
      channels = no_channel;
    }) ∙ sym f.writes
one_write m types c (Meet p q h) w v d f =
    let a = same_asks m c p d.sender f.sender (request.Put d.end d.event) (request.Put f.end f.event) d.puts f.puts in
    let t : d.sender ≡ f.sender = a.0 in
    let u : d.receiver ≡ f.receiver = (same_asks m c q d.receiver f.receiver (request.Get (other d.end))
    (request.Get (other f.end)) d.gets f.gets).0 in
    let r : request.Put d.end d.event ≡ request.Put f.end f.event = a.1 in
    let ev : d.event ≡ f.event = cc r in
    let k : d.channel ≡ f.channel = some_same (sym d.there ∙ f.there) in
    let s : d.sent ≡ f.sent = some_same (sym d.sender_leads ∙ ap (λ z. answered m z.state Sent) t ∙ f.sender_leads) in
    let g : d.got ≡ f.got = some_same (sym d.receiver_leads ∙ (λ i. answered m (u i).state (Got (ev i))) ∙ f.receiver_leads) in
    d.writes ∙ (λ i. record {
      tasks = λ o. over
          (task_at q (record (u i) { state = g i; clock = meeting_stamp (t i) (u i) (k i) }) o)
          (task_at p (record (t i) { state = s i; clock = meeting_stamp (t i) (u i) (k i) }) o);
      channels = channel_at h (extended (k i) (record
          { event = ev i; stamp = meeting_stamp (t i) (u i) (k i); sent = (t i).clock; got = (u i).clock }));
    }) ∙ sym f.writes

-- the events are the same
abbrev pub same_event : CoreEvent → CoreEvent → Bool
same_event (Local p) (Local q) = same_path p q
same_event (New p) (New q) = same_path p q
same_event (Fork p) (Fork q) = same_path p q
same_event (Meet p r g) (Meet q s h) = same_path p q && (same_path r s && same_channel g h)
same_event a b = false

-- events that pass the test are one
pub same_event-same : (a b : CoreEvent) → same_event a b ≡ true → a ≡ b
same_event-same (Local p) (Local q) h = ap Local (same_path-same p q h)
same_event-same (New p) (New q) h = ap New (same_path-same p q h)
same_event-same (Fork p) (Fork q) h = ap Fork (same_path-same p q h)
same_event-same (Meet p r g) (Meet q s k) h =
    let x = and_parts (same_path p q) (same_path r s && same_channel g k) h in
    let y = and_parts (same_path r s) (same_channel g k) x.1 in
    let first = same_path-same p q x.0 in
    let second = same_path-same r s y.0 in
    let over = same_channel-same g k y.1 in
    λ i. Meet (first i) (second i) (over i)
same_event-same (Local p) (New q) h = absurd (cc h)
same_event-same (Local p) (Fork q) h = absurd (cc h)
same_event-same (Local p) (Meet q s k) h = absurd (cc h)
same_event-same (New p) (Local q) h = absurd (cc h)
same_event-same (New p) (Fork q) h = absurd (cc h)
same_event-same (New p) (Meet q s k) h = absurd (cc h)
same_event-same (Fork p) (Local q) h = absurd (cc h)
same_event-same (Fork p) (New q) h = absurd (cc h)
same_event-same (Fork p) (Meet q s k) h = absurd (cc h)
same_event-same (Meet p r g) (Local q) h = absurd (cc h)
same_event-same (Meet p r g) (New q) h = absurd (cc h)
same_event-same (Meet p r g) (Fork q) h = absurd (cc h)

-- an event is the same as itself
pub same_event-itself : (a : CoreEvent) → same_event a a ≡ true
same_event-itself (Local p) = same_path-itself p
same_event-itself (New p) = same_path-itself p
same_event-itself (Fork p) = same_path-itself p
same_event-itself (Meet p q h) =
    and_from (same_path p p) (same_path q q && same_channel h h) (same_path-itself p)
    (and_from (same_path q q) (same_channel h h) (same_path-itself q) (same_channel-itself h))
