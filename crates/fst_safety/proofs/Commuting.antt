-- Two different events that are possible commute.
use Rattle.std.proofs.Common.{◌≡◌, ◌∙◌, ◌⊎◌, inl, inr, List, Option, Some, None, refl, sym, ap}
use Rattle.std.specs.Prelude.{if◌then◌else◌}
use Rattle.fst_types.specs.Tree.{Tree}
use Rattle.fst_lts.specs.Histories.{over}
use Rattle.fst_types.specs.declared.ends.ChannelName.{ChannelName}
use Rattle.fst_machine.specs.Machine.{Program}
use Rattle.fst_runs.specs.declared.event.CoreEvent.{CoreEvent}
use Rattle.fst_runs.specs.declared.event.CoreEvent.TheVariants.{Local, New, Fork, Meet}
use Rattle.fst_runs.specs.Configs.{Path, Task, Channel, Config}
use Rattle.fst_runs.specs.Events.{Write, written, task_at, channel_at, Does}
use Rattle.fst_runs.proofs.Laws.{same_path-itself, same_channel-itself}
use Rattle.fst_safety.specs.Diamond.{Commutes}
use Rattle.fst_safety.proofs.Askers.{IsRegular}
use Rattle.fst_safety.proofs.Places.{apart_tasks, apart_channels}

some_none : {X : Type 0} {x : X} → Some x ≡ None → ⊥
some_none e = cc

-- what isn't written by one of two stays as the other writes it
over_none : {X : Type 0} (a b o : Option X) → (a ≡ None) ⊎ (b ≡ None) → (b ≡ None → ⊥) → over a o ≡ o
over_none a b o (inl e) n = ap (λ z. over z o) e
over_none a b o (inr e) n = absurd (n e)

-- where not both write, the order of writing doesn't matter
swap : {X : Type 0} (a b o : Option X) → (a ≡ None) ⊎ (b ≡ None) → over b (over a o) ≡ over a (over b o)
swap None b o h = refl
swap (Some x) None o h = refl
swap (Some x) (Some y) o (inl e) = absurd (some_none e)
swap (Some x) (Some y) o (inr e) = absurd (some_none e)

at_self : (p : Path) (t : Task) → task_at p t p ≡ None → ⊥
at_self p t e = some_none (sym (ap (λ b. if b then Some t else None) (same_path-itself p)) ∙ e)

at_own : (h : ChannelName) (k : Channel) → channel_at h k h ≡ None → ⊥
at_own h k e = some_none (sym (ap (λ b. if b then Some k else None) (same_channel-itself h)) ∙ e)

over_first : {X : Type 0} (a b : Option X) → (a ≡ None → ⊥) → over a b ≡ None → ⊥
over_first None b n e = n refl
over_first (Some x) b n e = some_none e

over_second : {X : Type 0} (a b : Option X) → (b ≡ None → ⊥) → over a b ≡ None → ⊥
over_second None b n e = n e
over_second (Some x) b n e = some_none e

-- an event stays possible, and writes the same, after a write of nothing that it writes
pub stays : (m : Program) (types : List Tree) (c : Config) (e : CoreEvent) (v w : Write) → Does m types c e w →
    ((o : Path) → (v.tasks o ≡ None) ⊎ (w.tasks o ≡ None)) →
    ((h : ChannelName) → (v.channels h ≡ None) ⊎ (w.channels h ≡ None)) → Does m types (written c v) e w
stays m types c (Local p) v w d f g = record {
  task = d.task;
  state = d.state;
  asks = (
    over_none (v.tasks p) (w.tasks p) (c.tasks p) (f p) (λ e. at_self p _ (sym (ap (λ z. z.tasks p) d.writes) ∙ e))
        ∙ d.asks.0,
    d.asks.1,
  );
  leads = d.leads;
  writes = d.writes;
}
stays m types c (New p) v w d f g = record {
  task = d.task;
  state = d.state;
  number = d.number;
  declared = d.declared;
  asks = (
    over_none (v.tasks p) (w.tasks p) (c.tasks p) (f p) (λ e. at_self p _ (sym (ap (λ z. z.tasks p) d.writes) ∙ e))
        ∙ d.asks.0,
    d.asks.1,
  );
  typed = d.typed;
  leads = d.leads;
  writes = d.writes;
}
stays m types c (Fork p) v w d f g = record {
  task = d.task;
  state = d.state;
  begun = d.begun;
  asks = (
    over_none (v.tasks p) (w.tasks p) (c.tasks p) (f p)
        (λ e. over_second _ _ (at_self p _) (sym (ap (λ z. z.tasks p) d.writes) ∙ e)) ∙ d.asks.0,
    d.asks.1,
  );
  begins = d.begins;
  leads = d.leads;
  writes = d.writes;
}
stays m types c (Meet p q h) v w d f g = record {
  sender = d.sender;
  receiver = d.receiver;
  end = d.end;
  event = d.event;
  sent = d.sent;
  got = d.got;
  channel = d.channel;
  puts = (
    over_none (v.tasks p) (w.tasks p) (c.tasks p) (f p)
        (λ e. over_second _ _ (at_self p _) (sym (ap (λ z. z.tasks p) d.writes) ∙ e)) ∙ d.puts.0,
    d.puts.1,
  );
  gets = (
    over_none (v.tasks q) (w.tasks q) (c.tasks q) (f q)
        (λ e. over_first _ _ (at_self q _) (sym (ap (λ z. z.tasks q) d.writes) ∙ e)) ∙ d.gets.0,
    d.gets.1,
  );
  named = d.named;
  there = over_none (v.channels h) (w.channels h) (c.channels h) (g h)
      (λ e. at_own h _ (sym (ap (λ z. z.channels h) d.writes) ∙ e)) ∙ d.there;
  sender_leads = d.sender_leads;
  receiver_leads = d.receiver_leads;
  writes = d.writes;
}

turned_round : {A B : Type 0} → A ⊎ B → B ⊎ A
turned_round (inl a) = inr a
turned_round (inr b) = inl b

-- two different events commute where nothing has gone wrong and names are fresh
pub commute : (m : Program) (types : List Tree) (c : Config) (a b : CoreEvent) (v w : Write) → IsRegular m c →
    Does m types c a v → Does m types c b w →
    (a ≡ b → ⊥) → Commutes m types c a v b w
commute m types c a b v w hs da db n =
    let f = apart_tasks m types c hs a b v w da db n in
    let g = apart_channels m types c hs a b v w da db n in (
      stays m types c b v w db f g,
      stays m types c a w v da (λ o. turned_round (f o)) (λ h. turned_round (g h)),
      λ i. record {
        tasks = λ o. swap (v.tasks o) (w.tasks o) (c.tasks o) (f o) i;
        channels = λ h. swap (v.channels h) (w.channels h) (c.channels h) (g h) i;
      },
    )
