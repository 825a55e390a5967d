-- A task makes a channel.
use Rattle.std.proofs.Common.{◌≡◌, ◌∙◌, ◌<◌, ℕ, zero, suc, max, [], List, Some, refl, sym, ap, subst, arith}
use Rattle.std.specs.Prelude.{length, slice_get}
use Rattle.std.proofs.lemmas.Option.{slice_get_within}
use Rattle.fst_base.proofs.Options.{some_same}
use Rattle.fst_types.specs.Tree.{Tree}
use Rattle.fst_terms.specs.declared.core_module.Module.{Module}
use Rattle.fst_types.specs.declared.ends.ChannelName.{ChannelName}
use Rattle.fst_machine.specs.declared.code.Code.{Code}
use Rattle.fst_machine.specs.declared.request.Request.TheVariants as request
use Rattle.fst_machine.specs.declared.request.Answer.TheVariants.{Made}
use Rattle.fst_machine.specs.Machine.{stuck, pause, answered}
use Rattle.fst_runs.specs.declared.event.CoreEvent.TheVariants.{New}
use Rattle.fst_runs.specs.Configs.{Path, Config, channel_name, program}
use Rattle.fst_runs.specs.Events.{Write, Does, written, has_made}
use Rattle.fst_runs.specs.Wrong.{IsRight}
use Rattle.fst_runs.proofs.Laws.{new_free, with_channel, new_puts, put_there}
use Rattle.fst_vm.specs.Slot.{Slot}
use Rattle.fst_process.specs.Kept.{Kept, without, opened, settled}
use Rattle.fst_process.specs.Reflects.{IsTask, Reflects}
use Rattle.fst_process.specs.Firing.{IsPossible, Happens, CanGoOn, HasGoneOn}
use Rattle.fst_process.proofs.Moving.{moves_ready}
use Rattle.fst_process.proofs.GoingNew.{new_goes}
use Rattle.fst_process.proofs.Rights.{right_fine, right_alive}
use Rattle.fst_process.proofs.Stepping.{its_task, can_go_on, is_of, settles_gone, settled_types, next_clock, clock_few}

new_number : (i j : ℕ) → request.New i ≡ request.New j → i ≡ j
new_number i j e = cc e

-- the task is there after it has made the channel
maker_there : (m : Module) (c : Config) (p : Path) (w : Write) → (f : Does (program m) m.types.items c (New p) w) →
    (written c w).tasks p ≡ Some (has_made f.task f.state (suc f.task.clock))
maker_there m c p w f =
    ap (λ z. z.tasks p) (new_puts (program m) m.types.items c p w f)
    ∙ put_there (with_channel c (channel_name p f.task.made) (record { declared = f.declared; history = [] })) p
    (has_made f.task f.state (suc f.task.clock))

maker_alive : (m : Module) (c : Config) (p : Path) (w : Write) → IsRight (program m) (written c w) →
    (f : Does (program m) m.types.items c (New p) w) →
    pause m.families.items f.state ≡ stuck → ⊥
maker_alive m c p w right f = right_alive m (written c w) p (has_made f.task f.state (suc f.task.clock)) right
    (maker_there m c p w f)

module _ (k : Code) (d : Kept) (p : Path) where
  module _ (s : Slot) (there : d.tasks p ≡ Some s) where
    its_maker : (m : Module) (n : ℕ) (c : Config) (w : Write) → Reflects m k n d c →
        (f : Does (program m) m.types.items c (New p) w) → IsTask m k d p s f.task
    its_maker m n c w r f = its_task m k n d c p s f.task r there f.asks.0

    asks_new : (m : Module) (n : ℕ) (c : Config) (w : Write) → Reflects m k n d c →
        (f : Does (program m) m.types.items c (New p) w) → s.request ≡ request.New f.number
    asks_new m n c w r f = some_same (sym (its_maker m n c w r f).asks ∙ f.asks.1)

    -- the type of the channel that it asks for is there
    pub type_there : (number : ℕ) → s.request ≡ request.New number → IsPossible k d (New p) → number < length k.types.items
    type_there number e x =
        let same = new_number number x.does.number (sym e ∙ asks_new x.source x.events x.before x.write x.reflects x.does) in
        let within = slice_get_within x.source.types.items x.does.number x.does.declared x.does.typed in
        let types = ap (λ (ts : List Tree). length ts) x.reflects.from.same_types in
        omega (arith, same, within, types)

    module _ (h : ChannelName) (its : h ≡ channel_name p (d.made p)) where
      name_is : (m : Module) (n : ℕ) (c : Config) (w : Write) → Reflects m k n d c →
          (f : Does (program m) m.types.items c (New p) w) → h ≡ channel_name p f.task.made
      name_is m n c w r f = its ∙ ap (channel_name p) (its_maker m n c w r f).made

      told : (m : Module) (n : ℕ) (c : Config) (w : Write) → Reflects m k n d c →
          (f : Does (program m) m.types.items c (New p) w) →
          answered (program m) f.task.state (Made h) ≡ Some f.state
      told m n c w r f = ap (λ z. answered (program m) f.task.state (Made z)) (name_is m n c w r f) ∙ f.leads

      -- it can go on with the channel's name, once the channel is there
      pub new_can : (a : Tree) (mid : Kept) → mid ≡ opened h a d → IsPossible k d (New p) → CanGoOn k mid p (Made h)
      new_can a mid after x =
          let i = its_maker x.source x.events x.before x.write x.reflects x.does in
          let a = x.right_after.asks p (has_made x.does.task x.does.state (suc x.does.task.clock))
          (maker_there x.source x.before p x.write x.does) in
          can_go_on x.source k d p s x.does.task x.reflects.from i (Made h) x.does.state
          (told x.source x.events x.before x.write x.reflects x.does)
          (maker_alive x.source x.before p x.write x.right_after x.does) mid (ap (λ (z : Kept). z.tasks p) after ∙ there)
          (ap (λ (z : Kept). z.ready p) after ∙ moves_ready x.source k x.events d x.before x.reflects p
          (New p) x.write refl x.does)
          (clock_few k d p s (New p) there x) (λ z. absurd (cc z)) a.0 a.1

      -- what is kept after the task has made the channel is the configuration after it
      pub new_happens : (number : ℕ) (a : Tree) (mid e : Kept) → s.request ≡ request.New number →
          slice_get k.types.items number ≡ Some a →
          mid ≡ opened h a d → HasGoneOn k p (Made h) zero mid e → Happens k d (New p) e
      new_happens number a mid e asks type after g = λ m n c w r f right makers parents.
          let u = g.slot in
          let v = g.moves_on.task in
          let l = max (suc u.clock) zero in
          let i = its_task m k n d c p u f.task r (sym (ap (λ (z : Kept). z.tasks p) after) ∙ g.there) f.asks.0 in
          let z = settles_gone k p (Made h) zero mid e g i.path in
          let o = is_of m k d p u f.task r.from i (Made h) f.state (told m n c w r f) (maker_alive m c p w right f) v l
          (without p mid) e (suc f.task.made) (suc f.task.clock) f.task.forked
          g.moves_on.goes_on z (next_clock u.clock f.task.clock i.clock) refl in
          let number_is = new_number number f.number (sym asks ∙ asks_new m n c w r f) in
          let type_is : a ≡ f.declared = some_same (sym type ∙ (λ j. slice_get (r.from.same_types j) (number_is j)) ∙ f.typed) in
          let kept = settled_types m k v l (without p mid) e r.from z ∙ ap (settled (length m.types.items) z.slot)
          (ap (without p) after ∙ (λ j. opened (name_is m n c w r f j) (type_is j) (without p d))) in
          subst (λ y. Reflects m k (suc n) y (written c w)) (sym kept)
          (new_goes m k n d c p w z.slot r f o (new_free c p f.task makers f.asks.0) (right_fine m (written c w) right))
