-- Each run in which tasks meet is a buffered run, with each meeting as a put and a take directly after it.
use Rattle.std.proofs.Common.{◌≡◌, ◌∙◌, ℕ, zero, suc, ◌+◌, ◌<◌, List, [], ◌∷◌, ◌++◌, length, length-append, Bool, true, false, Option, Some, None, refl, sym, ap, subst, arith}
use Rattle.std.specs.Prelude.{option_map, slice_get, if◌then◌else◌}
use Rattle.std.proofs.lemmas.Option.{none-some, same_Some}
use Rattle.fst_types.specs.Tree.{Tree}
use Rattle.fst_types.specs.declared.side.Side.{Side}
use Rattle.fst_types.specs.declared.side.Side.TheVariants.{Left, Right}
use Rattle.fst_lts.specs.Histories.{events_of, opposite}
use Rattle.fst_terms.specs.CoreTree.{CoreTree}
use Rattle.fst_types.specs.declared.ends.ChannelName.{ChannelName}
use Rattle.fst_types.specs.declared.ends.EndName.{EndName}
use Rattle.fst_types.specs.declared.event.Event.{Event}
use Rattle.fst_types.specs.declared.event.Entry.{Entry}
use Rattle.fst_machine.specs.declared.request.Request.TheVariants as request
use Rattle.fst_machine.specs.Machine as machine
use Rattle.fst_machine.specs.Machine.{Program, State, begins}
use Rattle.fst_runs.specs.declared.event.CoreEvent.{CoreEvent}
use Rattle.fst_runs.specs.declared.event.CoreEvent.TheVariants.{Local, New, Fork, Meet}
use Rattle.fst_runs.specs.Configs as runs
use Rattle.fst_runs.specs.Configs.{Path, Task, same_path, same_channel, other, child_path, channel_name, new_task, main_path}
use Rattle.fst_runs.specs.Events as meeting
use Rattle.fst_runs.specs.Events.{Write, written, moved, meeting_stamp, has_made, has_forked, has_met, passed}
use Rattle.fst_runs.proofs.Laws.{same_channel-itself, asks_apart, local_puts, new_puts, fork_puts, meet_puts, stays_apart}
use Rattle.fst_runs.proofs.Laws as update
use Rattle.fst_buffered.specs.Channels.{Message, Channel, Config, seen, IsNext, further, after_put, placed, with_task, with_channel, opened, core, started}
use Rattle.fst_buffered.specs.Events.{Occurrence, local, new, fork, put, takes, in_state, Does, Runs}
use Rattle.fst_buffered.specs.Meeting.{IsAs, AreAs, timeless, events_in, IsPassed, ArePassed, IsSame, MeetingIsBuffered}

-- ---- what is placed on both sides

same_placed : (b : Bool) (u v : Task) (o p : Option Task) → u ≡ timeless v → o ≡ option_map timeless p →
    placed b u o ≡ option_map timeless (update.put b v p)
same_placed true u v o p e f = ap Some e
same_placed false u v o p e f = f

passed_placed : (b : Bool) (k : runs.Channel) (j : Channel) (o : Option runs.Channel) (p : Option Channel) → IsPassed k j →
    ArePassed o p → ArePassed (update.put b k o) (placed b j p)
passed_placed true k j o p h g = h
passed_placed false k j o p h g = g

-- placed twice
passed_twice : (b : Bool) (k : runs.Channel) (i j : Channel) (o : Option runs.Channel) (p : Option Channel) → IsPassed k j →
    ArePassed o p → ArePassed (update.put b k o) (placed b j (placed b i p))
passed_twice true k i j o p h g = h
passed_twice false k i j o p h g = g

passed_there : (o : Option runs.Channel) (p : Option Channel) (k : runs.Channel) → ArePassed o p → o ≡ Some k → (j : Channel) ×
    (p ≡ Some j) × IsPassed k j
passed_there None p k h e = absurd (none-some k e)
passed_there (Some i) None k h e = absurd h
passed_there (Some i) (Some j) k h e = (j, refl, subst (λ z. IsPassed z j) (same_Some i k e) h)

-- ---- one entry more

at-append : (b r : List Message) → slice_get (b ++ r) (length b) ≡ slice_get r zero
at-append [] r = refl
at-append (x ∷ b) r = at-append b r

-- what one side puts in is next for the other
next_put : (s : Side) (ev : Event) (j : Channel) → j.left ≡ length j.history → j.right ≡ length j.history →
    IsNext (opposite s) (after_put s ev j) (record { side = s; event = ev })
next_put Left ev j l r = ap (slice_get (j.history ++ record { side = Left; event = ev } ∷ [])) r
    ∙ at-append j.history (record { side = Left; event = ev } ∷ [])
next_put Right ev j l r = ap (slice_get (j.history ++ record { side = Right; event = ev } ∷ [])) l
    ∙ at-append j.history (record { side = Right; event = ev } ∷ [])

events_in-more : (h : List Message) (e : Message) → events_in (h ++ e ∷ []) ≡ events_in h ++ e.event ∷ []
events_in-more [] e = refl
events_in-more (d ∷ h) e = ap (λ z. d.event ∷ z) (events_in-more h e)

events_of-more : (h : List Entry) (e : Entry) → events_of (h ++ e ∷ []) ≡ events_of h ++ e.event ∷ []
events_of-more [] e = refl
events_of-more (d ∷ h) e = ap (λ z. d.event ∷ z) (events_of-more h e)

one_longer : (h : List Message) (e : Message) (n : ℕ) → n ≡ length h → suc n ≡ length (h ++ e ∷ [])
one_longer h e n q = let l = length-append h (e ∷ []) in omega (arith, q, l)

-- with a put and a take directly after it the same has passed again
passed_on : (s : Side) (k : runs.Channel) (j : Channel) (e : Entry) → IsPassed k j →
    IsPassed (meeting.extended k e) (further (opposite s) (after_put s e.event j))
passed_on Left k j e h = record {
  declared = h.declared;
  events = events_in-more j.history (record { side = Left; event = e.event }) ∙ ap (λ z. z ++ e.event ∷ []) h.events
      ∙ sym (events_of-more k.history e);
  left = one_longer j.history (record { side = Left; event = e.event }) j.left h.left;
  right = one_longer j.history (record { side = Left; event = e.event }) j.right h.right;
}
passed_on Right k j e h = record {
  declared = h.declared;
  events = events_in-more j.history (record { side = Right; event = e.event }) ∙ ap (λ z. z ++ e.event ∷ []) h.events
      ∙ sym (events_of-more k.history e);
  left = one_longer j.history (record { side = Right; event = e.event }) j.left h.left;
  right = one_longer j.history (record { side = Right; event = e.event }) j.right h.right;
}

seen_all : (s : Side) (j : Channel) → j.left ≡ length j.history → j.right ≡ length j.history → seen s j ≡ length j.history
seen_all Left j l r = l
seen_all Right j l r = r

module _ (m : Program) (types : List Tree) (capacity : ℕ) (some : 0 < capacity) where
  -- one run behind another
  joined : (os qs : List Occurrence) (a b c : Config) → Runs m types capacity a os b → Runs m types capacity b qs c →
      Runs m types capacity a (os ++ qs) c
  joined [] qs a b c r s = subst (λ z. Runs m types capacity z qs c) r s
  joined (o ∷ os) qs a b c r s = (r.0, r.1, joined os qs r.0 b c r.2 s)

  -- an event as what happens with buffers
  abbrev Simulates : runs.Config → CoreEvent → Write → Config → Type 0
  Simulates c e w d = (os : List Occurrence) × (b : Config) × IsAs e os × Runs m types capacity d os b × IsSame (written c w) b

  there : (c : runs.Config) (d : Config) (h : IsSame c d) (p : Path) (t : Task) → c.tasks p ≡ Some t →
      d.tasks p ≡ Some (timeless t)
  there c d h p t e = h.tasks p ∙ ap (option_map timeless) e

  local_as : (c : runs.Config) (d : Config) (p : Path) (w : Write) → IsSame c d → meeting.Does m types c (Local p) w →
      Simulates c (Local p) w d
  local_as c d p w h g = (
    local p ∷ [],
    with_task d p (in_state (timeless g.task) g.state),
    refl,
    (_, (timeless g.task, g.state, (there c d h p g.task g.asks.0, g.asks.1), g.leads, refl), refl),
    subst (λ z. IsSame z (with_task d p (in_state (timeless g.task) g.state))) (sym (local_puts m types c p w g))
        (record {
          tasks = λ q. same_placed (same_path p q) (in_state (timeless g.task) g.state) (moved g.task g.state) (d.tasks q)
              (c.tasks q) refl (h.tasks q);
          channels = h.channels;
        }),
  )

  new_as : (c : runs.Config) (d : Config) (p : Path) (w : Write) → IsSame c d → meeting.Does m types c (New p) w →
      Simulates c (New p) w d
  new_as c d p w h g =
      let name : ChannelName = channel_name p g.task.made in
      let u : Task = record { state = g.state; made = suc g.task.made; forked = g.task.forked; clock = 0 } in
      let k : runs.Channel = record { declared = g.declared; history = [] } in (
        new p ∷ [],
        with_task (with_channel d name (opened g.declared)) p u,
        refl,
        (
          _,
          (timeless g.task, g.state, g.number, g.declared, (there c d h p g.task g.asks.0, g.asks.1), g.typed, g.leads, refl),
          refl,
        ),
        subst (λ z. IsSame z (with_task (with_channel d name (opened g.declared)) p u)) (sym (new_puts m types c p w g))
            (record {
              tasks = λ q. same_placed (same_path p q) u (has_made g.task g.state (suc g.task.clock)) (d.tasks q) (c.tasks q) refl
                  (h.tasks q);
              channels = λ f. passed_placed (same_channel name f) k (opened g.declared) (c.channels f) (d.channels f)
                  (record { declared = refl; events = refl; left = refl; right = refl }) (h.channels f);
            }),
      )

  fork_as : (c : runs.Config) (d : Config) (p : Path) (w : Write) → IsSame c d → meeting.Does m types c (Fork p) w →
      Simulates c (Fork p) w d
  fork_as c d p w h g =
      let q : Path = child_path p g.task.forked in
      let u : Task = record { state = g.state; made = g.task.made; forked = suc g.task.forked; clock = 0 } in
      let v : Task = new_task g.begun 0 in (
        fork p ∷ [],
        with_task (with_task d p u) q v,
        refl,
        (_, (timeless g.task, g.state, g.begun, (there c d h p g.task g.asks.0, g.asks.1), g.begins, g.leads, refl), refl),
        subst (λ z. IsSame z (with_task (with_task d p u) q v)) (sym (fork_puts m types c p w g))
            (record {
              tasks = λ o. same_placed (same_path q o) v (new_task g.begun (suc g.task.clock))
                  (placed (same_path p o) u (d.tasks o)) (update.put (same_path p o)
                  (has_forked g.task g.state (suc g.task.clock)) (c.tasks o)) refl
                  (same_placed (same_path p o) u (has_forked g.task g.state (suc g.task.clock)) (d.tasks o) (c.tasks o) refl
                  (h.tasks o));
              channels = h.channels;
            }),
      )

  -- all that a meeting is about
  module _ (c : runs.Config) (d : Config) (h : IsSame c d) (p q : Path) (x : EndName) (w : Write)
      (g : meeting.Does m types c (Meet p q x.channel) w) (is : g.end ≡ x) where
    abbrev t : Task
    t = timeless g.sender

    abbrev u : Task
    u = timeless g.receiver

    its : (j : Channel) × (d.channels x.channel ≡ Some j) × IsPassed g.channel j
    its = passed_there (c.channels x.channel) (d.channels x.channel) g.channel (h.channels x.channel) g.there

    abbrev j : Channel
    j = its.0

    abbrev full : Channel
    full = after_put x.side g.event j

    abbrev empty : Channel
    empty = further (opposite x.side) full

    abbrev first : Config
    first = with_task (with_channel d x.channel full) p (in_state t g.sent)

    abbrev second : Config
    second = with_task (with_channel first x.channel empty) q (in_state u g.got)

    room : (n k : ℕ) → k ≡ n → n < k + capacity
    room n k e = omega (arith, e, some)

    puts_it : Does m types capacity d (put p x g.event) first
    puts_it = (
      t,
      g.sent,
      j,
      (
        there c d h p g.sender g.puts.0,
        subst (λ y. machine.request m.families g.sender.state ≡ Some (request.Put y g.event)) is
            g.puts.1,
      ),
      its.1,
      seen_all x.side j its.2.left its.2.right,
      room (length j.history) (seen (opposite x.side) j) (seen_all (opposite x.side) j its.2.left its.2.right),
      g.sender_leads,
      refl,
    )

    apart : p ≡ q → ⊥
    apart = asks_apart m c p q g.sender g.receiver g.end (other g.end) g.event g.puts g.gets

    takes_it : Does m types capacity first (takes q (other x) g.event) second
    takes_it = (
      u,
      g.got,
      full,
      record { side = x.side; event = g.event },
      (
        stays_apart (core (with_channel d x.channel full)) p q (in_state t g.sent) apart ∙ there c d h q g.receiver g.gets.0,
        subst
            (λ y. machine.request m.families g.receiver.state ≡ Some (request.Get (other y))) is g.gets.1,
      ),
      ap (λ b. placed b full (d.channels x.channel)) (same_channel-itself x.channel),
      next_put x.side g.event j its.2.left its.2.right,
      refl,
      g.receiver_leads,
      refl,
    )

    abbrev n : ℕ
    n = meeting_stamp g.sender g.receiver g.channel

    its_same : IsSame (written c w) second
    its_same = subst (λ z. IsSame z second) (sym (meet_puts m types c p q x.channel w g))
        (record {
          tasks = λ o. same_placed (same_path q o) (in_state u g.got) (has_met g.receiver g.got n)
              (placed (same_path p o) (in_state t g.sent) (d.tasks o))
              (update.put (same_path p o) (has_met g.sender g.sent n) (c.tasks o)) refl
              (same_placed (same_path p o) (in_state t g.sent) (has_met g.sender g.sent n) (d.tasks o) (c.tasks o) refl
              (h.tasks o));
          channels = λ f. passed_twice (same_channel x.channel f)
              (meeting.extended g.channel (passed g.event g.sender g.receiver g.channel)) full empty (c.channels f) (d.channels f)
              (passed_on x.side g.channel j (passed g.event g.sender g.receiver g.channel) its.2) (h.channels f);
        })

    meet_here : Simulates c (Meet p q x.channel) w d
    meet_here = (
      put p x g.event ∷ takes q (other x) g.event ∷ [],
      second,
      (x, g.event, refl, refl),
      (first, puts_it, (second, takes_it, refl)),
      its_same,
    )

  meet_as : (c : runs.Config) (d : Config) (p q : Path) (h : ChannelName) (w : Write) → IsSame c d →
      meeting.Does m types c (Meet p q h) w → Simulates c (Meet p q h) w d
  meet_as c d p q h w s g =
      (subst (λ f. (j : meeting.Does m types c (Meet p q f) w) → j.end ≡ g.end → Simulates c (Meet p q f) w d) g.named
      (λ j is. meet_here c d s p q g.end w j is)) g refl

  -- whatever happens
  event_as : (c : runs.Config) (d : Config) (e : CoreEvent) (w : Write) → IsSame c d → meeting.Does m types c e w →
      Simulates c e w d
  event_as c d (Local p) w h g = local_as c d p w h g
  event_as c d (New p) w h g = new_as c d p w h g
  event_as c d (Fork p) w h g = fork_as c d p w h g
  event_as c d (Meet p q f) w h g = meet_as c d p q f w h g

  -- along a run
  run_as : (es : List CoreEvent) (c b : runs.Config) (d : Config) → IsSame c d → meeting.Runs m types c es b →
      (os : List Occurrence) × (e : Config) × AreAs es os × Runs m types capacity d os e × IsSame b e
  run_as [] c b d h r = ([], d, refl, refl, subst (λ z. IsSame z d) (sym r) h)
  run_as (e ∷ es) c b d h r =
      let one = event_as c d e r.0 h r.1 in
      let more = run_as es (written c r.0) b one.1 one.4 r.2 in
      (one.0 ++ more.0, more.1, (one.0, more.0, refl, one.2, more.2), joined one.0 more.0 d one.1 more.1 one.3 more.3, more.4)

started_same : (e : CoreTree) → IsSame (runs.started e) (started e)
started_same e = record {
  tasks = λ p. pick (same_path main_path p);
  channels = λ h. tt;
}
  where
    pick : (b : Bool) → (if b then Some (new_task (begins e []) zero) else None) ≡ option_map timeless
        (if b then Some (new_task (begins e []) zero) else None)
    pick true = refl
    pick false = refl

-- each run in which tasks meet is a buffered run
pub meeting_buffered : MeetingIsBuffered
meeting_buffered m types capacity some e es c r =
    run_as m types capacity some es (runs.started e) c (started e) (started_same e) r
