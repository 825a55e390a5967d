-- What is kept is the configuration after a task has made a channel.
use Rattle.std.proofs.Common.{◌≡◌, ◌∙◌, ℕ, suc, [], Bool, true, false, Option, Some, None, refl, sym, ap, subst, arith}
use Rattle.std.specs.Prelude.{length, if◌then◌else◌}
use Rattle.fst_lts.specs.Histories.{over}
use Rattle.fst_terms.specs.declared.core_module.Module.{Module}
use Rattle.fst_types.specs.declared.ends.ChannelName.{ChannelName}
use Rattle.fst_machine.specs.declared.code.Code.{Code}
use Rattle.fst_machine.specs.declared.request.Request.TheVariants as request
use Rattle.fst_runs.specs.declared.event.CoreEvent.TheVariants.{New}
use Rattle.fst_runs.specs.Configs.{Path, Config, Task, Channel, same_path, same_channel, channel_name, program}
use Rattle.fst_runs.specs.Events.{Write, written, Does, has_made}
use Rattle.fst_vm.specs.Slot.{Slot}
use Rattle.fst_process.specs.Kept.{Kept, without, opened, settled}
use Rattle.fst_process.specs.Reflects.{Reflects}
use Rattle.fst_paths.proofs.Laws.{put_here}
use Rattle.fst_process.proofs.Taking.{hide, show}
use Rattle.fst_process.proofs.Fewer.{Fine}
use Rattle.fst_process.proofs.Opening.{with_channel, opening}
use Rattle.fst_process.proofs.Going.{IsOf, bound, taken, comes_in, one_written}

-- a channel that is written
pub channel_written : {X : Type 0} (b : Bool) (j : X) (o : Option X) →
    (if b then Some j else o) ≡ over (if b then Some j else None) o
channel_written true j o = refl
channel_written false j o = refl

module _ (m : Module) (k : Code) (n : ℕ) (d : Kept) (c : Config) (p : Path) (w : Write) (s : Slot) (r : Reflects m k n d c)
    (f : Does (program m) m.types.items c (New p) w) where
  -- the task after it has made the channel
  abbrev pub maker : Task
  maker = has_made f.task f.state (suc f.task.clock)

  -- the channel's name
  abbrev pub its_name : ChannelName
  its_name = channel_name p f.task.made

  abbrev its_channel : Channel
  its_channel = record { declared = f.declared; history = [] }

  same : show p maker (with_channel its_name its_channel (hide p c)) ≡ written c w
  same =
      (λ i. record {
        tasks = λ q. one_written (same_path p q) maker (c.tasks q) i;
        channels = λ g. channel_written (same_channel its_name g) its_channel (c.channels g) i;
      }) ∙ sym (ap (written c) f.writes)

  -- after a task has made a channel, whose name is new
  pub new_goes : IsOf m k p s maker → c.channels its_name ≡ None → Fine m (written c w) →
      Reflects m k (suc n) (settled (length m.types.items) s (opened its_name f.declared (without p d))) (written c w)
  new_goes is fresh fine =
      let b = bound m k n d c p f.task r f.asks.0 in
      let made = b.made in
      let makes = b.makes in
      let clock = b.clock in
      let forked = b.forked in
      subst (Reflects m k (suc n) (settled (length m.types.items) s (opened its_name f.declared (without p d)))) same
      (comes_in m k (suc n) (opened its_name f.declared (without p d)) (with_channel its_name its_channel (hide p c)) p s maker
      (opening m k (suc n) (suc n) (without p d) (hide p c) its_name f.declared
      (taken m k n d c p f.task (request.New f.number) r f.asks refl) fresh (put_here p None c.tasks)
      (ap suc (sym made)) (omega (arith, made, makes)) (omega arith))
      (put_here p None c.tasks) is (put_here p (suc (d.made p)) d.made ∙ ap suc made) (omega (arith, clock))
      (omega (arith, forked)) (subst (Fine m) (sym same) fine))
