-- When tasks that ask at ends fit; and that they do where some of them are taken away.
use Rattle.std.proofs.Common.{◌≡◌, ◌∙◌, Some, None, refl, sym, ap}
use Rattle.fst_base.proofs.Options.{none_some}
use Rattle.fst_terms.specs.declared.core_module.Module.{Module}
use Rattle.fst_types.specs.declared.ends.ChannelName.{ChannelName}
use Rattle.fst_types.specs.declared.ends.EndName.{EndName}
use Rattle.fst_types.specs.declared.event.Event.{Event}
use Rattle.fst_machine.specs.declared.request.Request.{Request}
use Rattle.fst_machine.specs.declared.request.Request.TheVariants.{Put, Get}
use Rattle.fst_machine.specs.declared.request.Answer.TheVariants.{Sent, Got}
use Rattle.fst_machine.specs.Machine.{State, answered}
use Rattle.fst_runs.specs.Configs.{Path, Config, Task, Channel, other, program}
use Rattle.fst_runs.specs.Events.{Asks}
use Rattle.fst_runs.specs.Wrong.{end_of}
use Rattle.fst_paths.proofs.Laws.{put_cases}
use Rattle.fst_process.proofs.Taking.{show}

-- tasks that ask at ends fit: one asks at an end, of a channel that is there, and two at both ends of a channel can meet
pub record Fine (m : Module) (c : Config) : Type 0 where
  pub one : (p q : Path) (t u : Task) (a b : Request) (x : EndName) → Asks (program m) c p t a → Asks (program m) c q u b →
      end_of a ≡ Some x → end_of b ≡ Some x → p ≡ q
  pub there : (p : Path) (t : Task) (a : Request) (x : EndName) → Asks (program m) c p t a → end_of a ≡ Some x →
      (j : Channel) × (c.channels x.channel ≡ Some j)
  pub puts_apart : (p q : Path) (t u : Task) (x : EndName) (ev ew : Event) → Asks (program m) c p t (Put x ev) →
      Asks (program m) c q u (Put (other x) ew) → ⊥
  pub gets_apart : (p q : Path) (t u : Task) (x : EndName) → Asks (program m) c p t (Get x) →
      Asks (program m) c q u (Get (other x)) → ⊥
  pub meets : (p q : Path) (t u : Task) (x : EndName) (ev : Event) → Asks (program m) c p t (Put x ev) →
      Asks (program m) c q u (Get (other x)) →
      (s : State) × (v : State) × (answered (program m) t.state Sent ≡ Some s) × (answered (program m) u.state (Got ev) ≡ Some v)

-- fewer tasks, and the same channels
pub fewer : (m : Module) (b c : Config) → ((p : Path) (t : Task) → b.tasks p ≡ Some t → c.tasks p ≡ Some t) →
    ((h : ChannelName) → b.channels h ≡ c.channels h) →
    Fine m c → Fine m b
fewer m b c f g fine = record {
  one = λ p q t u a e x i j y z. fine.one p q t u a e x (also p t a i) (also q u e j) y z;
  there = λ p t a x i y. let o = fine.there p t a x (also p t a i) y in (o.0, g x.channel ∙ o.1);
  puts_apart = λ p q t u x ev ew i j. fine.puts_apart p q t u x ev ew (also p t _ i) (also q u _ j);
  gets_apart = λ p q t u x i j. fine.gets_apart p q t u x (also p t _ i) (also q u _ j);
  meets = λ p q t u x ev i j. fine.meets p q t u x ev (also p t _ i) (also q u _ j);
}
  where
    also : (p : Path) (t : Task) (a : Request) → Asks (program m) b p t a → Asks (program m) c p t a
    also p t a i = (f p t i.0, i.1)

-- tasks fit where one is left out that isn't there otherwise
pub fine_before : (m : Module) (c : Config) (p : Path) (t : Task) → c.tasks p ≡ None → Fine m (show p t c) → Fine m c
fine_before m c p t free fine =
    fewer m c (show p t c)
    (λ q u e. put_cases (λ o. o ≡ Some u) p q (Some t) c.tasks (λ z. absurd (none_some (sym free ∙ ap c.tasks z ∙ e))) (λ z. e))
    (λ h. refl) fine
