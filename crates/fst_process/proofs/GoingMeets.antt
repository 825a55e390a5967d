-- What is kept is the configuration after two tasks have met.
use Rattle.std.proofs.Common.{◌≡◌, ◌∙◌, ◌≤◌, ℕ, suc, List, [], ◌∷◌, Bool, true, false, Option, Some, None, refl, sym, ap, subst, arith}
use Rattle.std.specs.Prelude.{length, if◌then◌else◌}
use Rattle.fst_lts.specs.Histories.{over, last_stamp}
use Rattle.fst_lts.specs.Stamps.{StampedTo}
use Rattle.fst_terms.specs.declared.core_module.Module.{Module}
use Rattle.fst_types.specs.declared.ends.ChannelName.{ChannelName}
use Rattle.fst_types.specs.declared.event.Entry.{Entry}
use Rattle.fst_machine.specs.declared.code.Code.{Code}
use Rattle.fst_machine.specs.declared.request.Request.TheVariants as request
use Rattle.fst_runs.specs.declared.event.CoreEvent.TheVariants.{Meet}
use Rattle.fst_runs.specs.Configs as runs
use Rattle.fst_runs.specs.Configs.{Path, Config, Task, same_path, same_channel, other, program}
use Rattle.fst_runs.specs.Events.{Write, written, meeting_stamp, extended, Does, has_met, passed as passed_entry}
use Rattle.fst_runs.proofs.Laws.{asks_apart}
use Rattle.fst_vm.specs.Slot.{Slot}
use Rattle.fst_paths.specs.Paths.{put_at}
use Rattle.fst_process.specs.Kept.{Kept, end_of, without, changed, passed, settled}
use Rattle.fst_process.specs.Reflects.{Reflects}
use Rattle.fst_paths.proofs.Laws.{put_here, put_cases}
use Rattle.fst_process.proofs.Taking.{hide, show}
use Rattle.fst_process.proofs.Fewer.{Fine, fine_before}
use Rattle.fst_process.proofs.Ends.{there_bare}
use Rattle.fst_process.proofs.Moving.{kept_asks}
use Rattle.fst_process.proofs.Opening.{with_channel}
use Rattle.fst_process.proofs.Meeting.{meeting}
use Rattle.fst_process.proofs.Going.{IsOf, bound, settled_made, comes_in}
use Rattle.fst_process.proofs.GoingNew.{channel_written}

-- two tasks written in place of those that were there
both_written : {X : Type 0} (a b : Bool) (u t : X) (o : Option X) →
    (if a then Some u else if b then Some t else if a then None else if b then None else o) ≡ over
    (over (if a then Some u else None) (if b then Some t else None)) o
both_written true b u t o = refl
both_written false true u t o = refl
both_written false false u t o = refl

-- the last stamp is no greater than the greatest
pub last_stamped : (n : ℕ) (es : List Entry) → StampedTo n es → last_stamp es ≤ n
last_stamped n [] s = omega arith
last_stamped n (e ∷ []) s = s.0
last_stamped n (e ∷ f ∷ es) s = last_stamped n (f ∷ es) s.1

-- no stamp of a channel is over n
channel_stamped : (m : Module) (k : Code) (n : ℕ) (d : Kept) (c : Config) (h : ChannelName) (j : runs.Channel) →
    Reflects m k n d c → c.channels h ≡ Some j → last_stamp j.history ≤ n
channel_stamped m k n d c h j r e =
    let f = there_bare (d.channels h) (c.channels h) j (r.channels h) e in
    subst (λ (i : runs.Channel). last_stamp i.history ≤ n) f.2 (last_stamped n f.0.history (r.stamps h f.0 f.1))

module _ (m : Module) (k : Code) (n : ℕ) (d : Kept) (c : Config) (p q : Path) (h : ChannelName) (w : Write) (s o : Slot)
    (r : Reflects m k n d c)
    (f : Does (program m) m.types.items c (Meet p q h) w) where
  -- the stamp of what has passed
  abbrev pub stamp : ℕ
  stamp = meeting_stamp f.sender f.receiver f.channel

  -- what has passed
  abbrev pub its_entry : Entry
  its_entry = passed_entry f.event f.sender f.receiver f.channel

  -- the task that has sent it
  abbrev pub sender : Task
  sender = has_met f.sender f.sent stamp

  -- and the one that has received it
  abbrev pub receiver : Task
  receiver = has_met f.receiver f.got stamp

  -- what is kept without both
  abbrev pub before : Kept
  before = changed h (passed its_entry) (without q (without p d))

  abbrev empty : Config
  empty = hide q (hide p (with_channel h (extended f.channel its_entry) c))

  abbrev half : Config
  half = show p sender empty

  same : show q receiver half ≡ written c w
  same =
      (λ i. record {
        tasks = λ v. both_written (same_path q v) (same_path p v) receiver sender (c.tasks v) i;
        channels = λ g. channel_written (same_channel h g) (extended f.channel its_entry) (c.channels g) i;
      }) ∙ sym (ap (written c) f.writes)

  differ : p ≡ q → ⊥
  differ = asks_apart (program m) c p q f.sender f.receiver f.end (other f.end) f.event f.puts f.gets

  stamp_few : stamp ≤ suc n
  stamp_few =
      let a = (bound m k n d c p f.sender r f.puts.0).clock in
      let b = (bound m k n d c q f.receiver r f.gets.0).clock in
      let l = channel_stamped m k n d c h f.channel r f.there in
      omega (arith, a, b, l)

  emptied : Reflects m k (suc n) before empty
  emptied =
      let a = kept_asks m k n d c r p f.sender (request.Put f.end f.event) f.puts in
      let b = kept_asks m k n d c r q f.receiver (request.Get (other f.end)) f.gets in
      subst (λ g. Reflects m k (suc n) (changed g (passed its_entry) (without q (without p d)))
      (hide q (hide p (with_channel g (extended f.channel its_entry) c)))) f.named
      (meeting m k n (suc n) d c p q a.0 b.0 f.end its_entry f.channel r a.1 b.1 (ap end_of a.2) (ap end_of b.2)
      (ap c.channels f.named ∙ f.there) (omega arith) stamp_few)

  -- after two tasks have met
  pub meet_goes : IsOf m k p s sender → IsOf m k q o receiver → Fine m (written c w) →
      Reflects m k (suc n) (settled (length m.types.items) o (settled (length m.types.items) s before)) (written c w)
  meet_goes is it fine =
      let a = bound m k n d c p f.sender r f.puts.0 in
      let b = bound m k n d c q f.receiver r f.gets.0 in
      let first = a.forked in
      let second = b.forked in
      subst (Reflects m k (suc n) (settled (length m.types.items) o (settled (length m.types.items) s before))) same
      (comes_in m k (suc n) (settled (length m.types.items) s before) half q o receiver
      (comes_in m k (suc n) before empty p s sender emptied first_free is a.made stamp_few (omega (arith, first))
      (fine_before m half q receiver second_free whole))
      second_free it (settled_made (length m.types.items) s before q ∙ b.made) stamp_few (omega (arith, second)) whole)
    where
      whole : Fine m (show q receiver half)
      whole = subst (Fine m) (sym same) fine

      first_free : empty.tasks p ≡ None
      first_free = put_cases (λ z. z ≡ None) q p None (put_at p None c.tasks) (λ z. refl) (λ z. put_here p None c.tasks)

      second_free : half.tasks q ≡ None
      second_free = put_cases (λ z. z ≡ None) p q (Some sender) empty.tasks (λ z. absurd (differ z))
          (λ z. put_here q None (put_at p None c.tasks))
