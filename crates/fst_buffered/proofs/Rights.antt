-- Where nothing has gone wrong, two tasks don't ask at one end, and its channel is there.
use Rattle.std.proofs.Common.{◌≡◌, ◌∙◌, Bool, true, false, Option, Some, None, refl, sym, ap, subst}
use Rattle.std.specs.Prelude.{option_and_then}
use Rattle.std.proofs.lemmas.Option.{none-some, same_Some}
use Rattle.fst_terms.specs.declared.core_module.Module.{Module}
use Rattle.fst_types.specs.declared.ends.ChannelName.{ChannelName}
use Rattle.fst_types.specs.declared.ends.EndName.{EndName}
use Rattle.fst_machine.specs.declared.code.Code.{Code}
use Rattle.fst_machine.specs.declared.request.Request.{Request}
use Rattle.fst_machine.specs.Machine.{Program, pause}
use Rattle.fst_vm.specs.Slot.{Slot}
use Rattle.fst_runs.specs.Configs.{Path, Task, same_path, program}
use Rattle.fst_runs.specs.Wrong.{held_state, amount, IsUnspent, IsAllowed, end_of}
use Rattle.fst_runs.proofs.Laws.{same_path-same, owner, asks_held, allowed_unspent, pause_none}
use Rattle.fst_buffered.specs.Channels.{Channel, Config, side_residual, residual_in, core}
use Rattle.fst_buffered.specs.Events.{Asks}
use Rattle.fst_buffered.specs.Wrong.{IsRight}
use Rattle.fst_buffered.specs.Kept.{IsTask, AreTask}

module _ (m : Program) (c : Config) (h : IsRight m c) where
  -- what a task asks is allowed
  pub right_allowed : (p : Path) (t : Task) (q : Request) → Asks m c p t q → IsAllowed (residual_in c) q
  right_allowed p t q a = let f = h.asks p t a.0 in
      subst (IsAllowed (residual_in c)) (same_Some f.0 q (sym f.1 ∙ a.1)) f.2

  -- an end at which a task asks isn't spent
  right_unspent : (p : Path) (t : Task) (q : Request) (x : EndName) → Asks m c p t q → end_of q ≡ Some x →
      IsUnspent (residual_in c) x
  right_unspent p t q x a n = allowed_unspent (residual_in c) q x n (right_allowed p t q a)

  -- and the task holds it
  holds : (p : Path) (t : Task) (q : Request) (x : EndName) → Asks m c p t q → end_of q ≡ Some x → held_state x t.state ≡ 0 → ⊥
  holds p t q x a n z = asks_held (pause m.families t.state) q x n a.1 (pause_none m.families x t.state z)

  -- two tasks that ask at one end are one
  pub right_one : (p q : Path) (t u : Task) (a b : Request) (x : EndName) → Asks m c p t a → Asks m c q u b → end_of a ≡ Some x →
      end_of b ≡ Some x → p ≡ q
  right_one p q t u a b x f g n k = pick (same_path p q) refl
    where
      pick : (z : Bool) → same_path p q ≡ z → p ≡ q
      pick true e = same_path-same p q e
      pick false e =
          let o = owner (core c) x p t (h.owned x (right_unspent p t a x f n)) f.0 (holds p t a x f n) in
          absurd (holds q u b x g k (sym (ap (λ o. amount x o) g.0) ∙ o.1 q e))

  -- an end at which a task asks is one of a channel
  right_there : (p : Path) (t : Task) (q : Request) (x : EndName) → Asks m c p t q → end_of q ≡ Some x → (k : Channel) ×
      (c.channels x.channel ≡ Some k)
  right_there p t q x a n = pick (c.channels x.channel) refl (right_unspent p t q x a n)
    where
      pick : (o : Option Channel) → c.channels x.channel ≡ o → IsUnspent (residual_in c) x → (k : Channel) ×
          (c.channels x.channel ≡ Some k)
      pick None e u = absurd (none-some u.0 (sym (ap (option_and_then (side_residual x.side)) e) ∙ u.1))
      pick (Some k) e u = (k, e)

-- tasks that are kept and ask at one end are one, and its channel is there
pub record AreFair (tasks : Path → Option Slot) (channels : ChannelName → Option Channel) : Type 0 where
  pub one : (p q : Path) (s t : Slot) (x : EndName) → tasks p ≡ Some s → tasks q ≡ Some t →
      end_of s.request ≡ Some x → end_of t.request ≡ Some x → p ≡ q
  pub there : (p : Path) (s : Slot) (x : EndName) → tasks p ≡ Some s → end_of s.request ≡ Some x → (k : Channel) ×
      (channels x.channel ≡ Some k)

-- a task that is kept is there
pub is_there : (m : Module) (k : Code) (p : Path) (o : Option Slot) (u : Option Task) (s : Slot) → AreTask m k p o u →
    o ≡ Some s →
    (t : Task) × (u ≡ Some t) × IsTask m k p s t
is_there m k p None u s h e = absurd (none-some s e)
is_there m k p (Some r) None s h e = absurd h
is_there m k p (Some r) (Some t) s h e = (t, refl, subst (λ z. IsTask m k p z t) (same_Some r s e) h)

-- so it is with what is kept of a configuration in which nothing has gone wrong
pub right_fair : (m : Module) (k : Code) (tasks : Path → Option Slot) (channels : ChannelName → Option Channel) (c : Config) →
    ((p : Path) → AreTask m k p (tasks p) (c.tasks p)) → ((h : ChannelName) → channels h ≡ c.channels h) →
    IsRight (program m) c → AreFair tasks channels
right_fair m k tasks channels c are same right = record {
  one = λ p q s t x e f i j.
      let (u, a) = asks p s e in
      let (v, b) = asks q t f in
      right_one (program m) c right p q u v s.request t.request x a b i j;
  there = λ p s x e i.
      let (u, a) = asks p s e in
      let (j, f) = right_there (program m) c right p u s.request x a i in
      (j, same x.channel ∙ f);
}
  where
    asks : (p : Path) (s : Slot) → tasks p ≡ Some s → (t : Task) × Asks (program m) c p t s.request
    asks p s e = let (t, f, g) = is_there m k p (tasks p) (c.tasks p) s (are p) e in (t, (f, g.asks))

-- and with fewer tasks
pub fewer_fair : (f g : Path → Option Slot) (channels : ChannelName → Option Channel) →
    ((p : Path) (s : Slot) → f p ≡ Some s → g p ≡ Some s) → AreFair g channels → AreFair f channels
fewer_fair f g channels into fair = record {
  one = λ p q s t x a b i j. fair.one p q s t x (into p s a) (into q t b) i j;
  there = λ p s x a i. fair.there p s x (into p s a) i;
}
