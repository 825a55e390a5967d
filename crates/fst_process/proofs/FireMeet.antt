-- Two tasks meet.
use Rattle.std.proofs.Common.{◌≡◌, ◌∙◌, inl, inr, ◌<◌, ℕ, suc, max, true, Some, refl, sym, ap, subst, arith}
use Rattle.std.specs.Prelude.{length}
use Rattle.fst_base.proofs.Options.{some_same}
use Rattle.fst_lts.specs.Histories.{last_stamp}
use Rattle.fst_terms.specs.declared.core_module.Module.{Module}
use Rattle.fst_types.specs.declared.ends.ChannelName.{ChannelName}
use Rattle.fst_types.specs.declared.ends.EndName.{EndName}
use Rattle.fst_types.specs.declared.event.Event.{Event}
use Rattle.fst_types.specs.declared.event.Entry.{Entry}
use Rattle.fst_machine.specs.declared.code.Code.{Code}
use Rattle.fst_machine.specs.declared.request.Request.TheVariants as request
use Rattle.fst_machine.specs.declared.request.Answer.TheVariants.{Sent, Got}
use Rattle.fst_machine.specs.Machine.{stuck, pause, answered}
use Rattle.fst_runs.specs.declared.event.CoreEvent.TheVariants.{Meet}
use Rattle.fst_runs.specs.Configs.{Path, Config, Task, other, program}
use Rattle.fst_runs.specs.Events.{Write, Does, written, meeting_stamp, extended, has_met, passed as passed_entry}
use Rattle.fst_runs.specs.Wrong.{IsRight}
use Rattle.fst_runs.proofs.Laws.{asks_apart, with_task, with_channel, meet_puts, put_there, stays_apart}
use Rattle.fst_vm.specs.Slot.{Slot, is_live}
use Rattle.fst_process.specs.Kept.{Channel, Kept, end_of, partner, without, changed, passed, settled_at, settled}
use Rattle.fst_process.specs.Reflects.{IsTask, Reflects}
use Rattle.fst_process.specs.Firing.{IsPossible, Happens, CanGoOn, HasGoneOn}
use Rattle.fst_process.proofs.Apart.{settled_apart, asks_elsewhere, rest_there, rest_ready}
use Rattle.fst_process.proofs.Ends.{there_bare}
use Rattle.fst_process.proofs.Moving.{moves_ready}
use Rattle.fst_process.proofs.GoingMeets.{last_stamped, its_entry, meet_goes}
use Rattle.fst_process.proofs.Rights.{right_fine, right_alive}
use Rattle.fst_process.proofs.Stepping.{there_live, its_task, can_go_on, is_of, settles_gone, settled_types, clock_few}

put_event : (x y : EndName) (ev ew : Event) → request.Put x ev ≡ request.Put y ew → ev ≡ ew
put_event x y ev ew e = cc e

module _ (m : Module) (c : Config) (p q : Path) (h : ChannelName) (w : Write)
    (f : Does (program m) m.types.items c (Meet p q h) w) where
  abbrev stamp : ℕ
  stamp = meeting_stamp f.sender f.receiver f.channel

  -- the two tasks are different ones
  differ : p ≡ q → ⊥
  differ = asks_apart (program m) c p q f.sender f.receiver f.end (other f.end) f.event f.puts f.gets

  -- the task that sends, and the one that receives, after it
  abbrev sender : Task
  sender = has_met f.sender f.sent stamp

  abbrev receiver : Task
  receiver = has_met f.receiver f.got stamp

  abbrev half : Config
  half = with_task (with_channel c h (extended f.channel (passed_entry f.event f.sender f.receiver f.channel))) p sender

  puts : written c w ≡ with_task half q receiver
  puts = meet_puts (program m) m.types.items c p q h w f

  sender_there : (written c w).tasks p ≡ Some sender
  sender_there =
      ap (λ z. z.tasks p) puts
      ∙ stays_apart half q p receiver (λ z. differ (sym z))
      ∙ put_there (with_channel c h (extended f.channel (passed_entry f.event f.sender f.receiver f.channel))) p sender

  receiver_there : (written c w).tasks q ≡ Some receiver
  receiver_there = ap (λ z. z.tasks q) puts ∙ put_there half q receiver

  module _ (right : IsRight (program m) (written c w)) where
    sender_alive : pause m.families.items f.sent ≡ stuck → ⊥
    sender_alive = right_alive m (written c w) p sender right sender_there

    receiver_alive : pause m.families.items f.got ≡ stuck → ⊥
    receiver_alive = right_alive m (written c w) q receiver right receiver_there

-- a stamp is over the clocks of both tasks
stamp_first : (i a b c l : ℕ) → i ≡ a → l ≡ suc (max (max a b) c) → max (suc i) l ≡ l
stamp_first i a b c l e f = omega (arith, e, f)

stamp_second : (i a b c l : ℕ) → i ≡ b → l ≡ suc (max (max a b) c) → max (suc i) l ≡ l
stamp_second i a b c l e f = omega (arith, e, f)

module _ (k : Code) (d : Kept) (p q : Path) (h : ChannelName) where
  -- the task that sends is kept as one that has not ended
  pub sender_kept : IsPossible k d (Meet p q h) → is_live (d.tasks p) ≡ true
  sender_kept x = there_live x.source k x.events d x.before p x.does.sender
      (request.Put x.does.end x.does.event) x.reflects x.does.puts refl

  -- and so is the one that receives
  pub receiver_kept : IsPossible k d (Meet p q h) → is_live (d.tasks q) ≡ true
  receiver_kept x = there_live x.source k x.events d x.before q x.does.receiver
      (request.Get (other x.does.end)) x.reflects x.does.gets refl

  -- the last stamp of the channel is in bounds
  pub stamps_few : (j : Channel) → d.channels h ≡ Some j → IsPossible k d (Meet p q h) → last_stamp j.history < 4294967296
  stamps_few j e x =
      let l = last_stamped x.events j.history (x.reflects.stamps h j e) in
      let f = x.few in
      omega (arith, l, f)

  module _ (s o : Slot) (there : d.tasks p ≡ Some s) (there' : d.tasks q ≡ Some o) where
    sender_is : (m : Module) (n : ℕ) (c : Config) (w : Write) → Reflects m k n d c →
        (f : Does (program m) m.types.items c (Meet p q h) w) → IsTask m k d p s f.sender
    sender_is m n c w r f = its_task m k n d c p s f.sender r there f.puts.0

    receiver_is : (m : Module) (n : ℕ) (c : Config) (w : Write) → Reflects m k n d c →
        (f : Does (program m) m.types.items c (Meet p q h) w) → IsTask m k d q o f.receiver
    receiver_is m n c w r f = its_task m k n d c q o f.receiver r there' f.gets.0

    asks_put : (m : Module) (n : ℕ) (c : Config) (w : Write) → Reflects m k n d c →
        (f : Does (program m) m.types.items c (Meet p q h) w) → s.request ≡ request.Put f.end f.event
    asks_put m n c w r f = some_same (sym (sender_is m n c w r f).asks ∙ f.puts.1)

    -- the task that sends can go on, once it is kept what passes
    pub put_can : (b : Kept) (en : Entry) → b ≡ changed h (passed en) d → IsPossible k d (Meet p q h) → CanGoOn k b p Sent
    put_can b en after x =
        let i = sender_is x.source x.events x.before x.write x.reflects x.does in
        let a = x.right_after.asks p _ (sender_there x.source x.before p q h x.write x.does) in
        can_go_on x.source k d p s x.does.sender x.reflects.from i Sent x.does.sent x.does.sender_leads
        (sender_alive x.source x.before p q h x.write x.does x.right_after) b
        (ap (λ (z : Kept). z.tasks p) after ∙ there)
        (ap (λ (z : Kept). z.ready p) after ∙ moves_ready x.source k x.events d x.before x.reflects p (Meet p q h) x.write
        (inl refl) x.does)
        (clock_few k d p s (Meet p q h) there x) (λ z. absurd (cc z)) a.0 a.1

    -- the one that receives doesn't ask at another channel
    never_partner : (m : Module) (n : ℕ) (c : Config) (w : Write) → Reflects m k n d c →
        (f : Does (program m) m.types.items c (Meet p q h) w) →
        (en : Entry) (x : EndName) → partner (changed h (passed en) d) x ≡ Some q → ⊥
    never_partner m n c w r f en x e =
        let a = asks_elsewhere d h en (other x) q e in
        let b = (r.askers (other x) q).0 a.1 in
        let get : o.request ≡ request.Get (other f.end) = some_same (sym (receiver_is m n c w r f).asks ∙ f.gets.1) in
        let one : b.0 ≡ o = some_same (sym b.1 ∙ there') in
        let same : other x ≡ other f.end = some_same (sym b.2 ∙ ap (λ (z : Slot). end_of z.request) one ∙ ap end_of get) in
        a.0 (sym (ap (λ (z : EndName). z.channel) same ∙ f.named))

    module _ (y : EndName) (ev : Event) (asks : s.request ≡ request.Put y ev) where
      event_is : (m : Module) (n : ℕ) (c : Config) (w : Write) → Reflects m k n d c →
          (f : Does (program m) m.types.items c (Meet p q h) w) → ev ≡ f.event
      event_is m n c w r f = put_event y f.end ev f.event (sym asks ∙ asks_put m n c w r f)

      told : (m : Module) (n : ℕ) (c : Config) (w : Write) → Reflects m k n d c →
          (f : Does (program m) m.types.items c (Meet p q h) w) →
          answered (program m) f.receiver.state (Got ev) ≡ Some f.got
      told m n c w r f = ap (λ z. answered (program m) f.receiver.state (Got z)) (event_is m n c w r f) ∙ f.receiver_leads

      -- the task that receives can go on with what is sent, once the other one has gone on
      pub get_can : (l : ℕ) (b e : Kept) (en : Entry) → b ≡ changed h (passed en) d → HasGoneOn k p Sent l b e →
          IsPossible k d (Meet p q h) → CanGoOn k e q (Got ev)
      get_can l b e en after g x =
          let i = receiver_is x.source x.events x.before x.write x.reflects x.does in
          let a = x.right_after.asks q _ (receiver_there x.source x.before p q h x.write x.does) in
          let types = length k.types.items in
          let n = differ x.source x.before p q h x.write x.does in
          let is = g.after ∙ ap (λ z. settled_at types p g.now (without p z)) after in
          can_go_on x.source k d q o x.does.receiver x.reflects.from i (Got ev) x.does.got
          (told x.source x.events x.before x.write x.reflects x.does)
          (receiver_alive x.source x.before p q h x.write x.does x.right_after) e
          (ap (λ (z : Kept). z.tasks q) is ∙ rest_there types p q g.now (changed h (passed en) d) n ∙ there')
          (ap (λ (z : Kept). z.ready q) is ∙ rest_ready types p q g.now (changed h (passed en) d) n
          (moves_ready x.source k x.events d x.before x.reflects q (Meet p q h) x.write (inr refl) x.does))
          (clock_few k d q o (Meet p q h) there' x) (λ z. absurd (cc z)) a.0 a.1

      -- what is kept after they have met is the configuration after it
      pub meet_happens : (l : ℕ) (b e g : Kept) →
          ((j : Channel) → d.channels h ≡ Some j → l ≡ suc (max (max s.clock o.clock) (last_stamp j.history))) →
          b ≡ changed h (passed (record { event = ev; stamp = l; sent = s.clock; got = o.clock })) d →
          HasGoneOn k p Sent l b e → HasGoneOn k q (Got ev) l e g → Happens k d (Meet p q h) g
      meet_happens l b e g stamped after on on' = λ m n c w r f right makers parents.
          let types = length m.types.items in
          let i = sender_is m n c w r f in
          let i' = receiver_is m n c w r f in
          let j = there_bare (d.channels h) (c.channels h) f.channel (r.channels h) f.there in
          let over = stamped j.0 j.1 in
          let stamp_is : l ≡ stamp m c p q h w f = over
          ∙ (λ a. suc (max (max (i.clock a) (i'.clock a)) (last_stamp (j.2 a).history))) in
          let en : Entry = record { event = ev; stamp = l; sent = s.clock; got = o.clock } in
          let entry : en ≡ its_entry m k n d c p q h w s o r f =
          λ a. record { event = event_is m n c w r f a; stamp = stamp_is a; sent = i.clock a; got = i'.clock a } in
          let is = on.after ∙ ap (λ z. settled_at (length k.types.items) p on.now (without p z)) after in
          let first : d.tasks p ≡ Some on.slot = sym (ap (λ (z : Kept). z.tasks p) after) ∙ on.there in
          let second : d.tasks q ≡ Some on'.slot =
          sym (rest_there (length k.types.items) p q on.now (changed h (passed en) d) (differ m c p q h w f))
          ∙ sym (ap (λ (z : Kept). z.tasks q) is) ∙ on'.there in
          let t = its_task m k n d c p on.slot f.sender r first f.puts.0 in
          let t' = its_task m k n d c q on'.slot f.receiver r second f.gets.0 in
          let z = settles_gone k p Sent l b e on t.path in
          let z' = settles_gone k q (Got ev) l e g on' t'.path in
          let at = stamp_first on.slot.clock s.clock o.clock (last_stamp j.0.history) l (t.clock ∙ sym i.clock) over ∙ stamp_is in
          let at' = stamp_second on'.slot.clock s.clock o.clock (last_stamp j.0.history) l (t'.clock ∙ sym i'.clock) over
          ∙ stamp_is in
          let it =
          is_of m k d p on.slot f.sender r.from t Sent f.sent f.sender_leads (sender_alive m c p q h w f right) on.moves_on.task
          (max (suc on.slot.clock) l) (without p b) e
          f.sender.made (stamp m c p q h w f) f.sender.forked on.moves_on.goes_on z at refl in
          let it' =
          is_of m k d q on'.slot f.receiver r.from t' (Got ev) f.got (told m n c w r f)
          (receiver_alive m c p q h w f right) on'.moves_on.task (max (suc on'.slot.clock) l) (without q e) g
          f.receiver.made (stamp m c p q h w f) f.receiver.forked on'.moves_on.goes_on z' at' refl in
          let changed_is = after ∙ ap (λ y. changed h (passed y) d) entry in
          let half =
          ap (without q) (settled_types m k on.moves_on.task (max (suc on.slot.clock) l) (without p b) e r.from z)
          ∙ ap (λ y. without q (settled types z.slot (without p y))) changed_is
          ∙ settled_apart types z.slot.task.path q z.slot (without p (changed h (passed (its_entry m k n d c p q h w s o r f)) d))
          (λ y. differ m c p q h w f (sym it.path ∙ y))
          (λ x y. never_partner m n c w r f (its_entry m k n d c p q h w s o r f) x) in
          let kept = settled_types m k on'.moves_on.task (max (suc on'.slot.clock) l) (without q e) g r.from z'
          ∙ ap (settled types z'.slot) half in
          subst (λ y. Reflects m k (suc n) y (written c w)) (sym kept)
          (meet_goes m k n d c p q h w z.slot z'.slot r f it it' (right_fine m (written c w) right))
