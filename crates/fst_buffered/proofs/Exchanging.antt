-- A configuration stays sound where a task puts something in at an end, or takes something there.
use Rattle.std.proofs.Common.{◌≡◌, ◌∙◌, ◌⊎◌, inl, inr, ℕ, Bool, true, false, Some, refl, sym, ap, subst, arith}
use Rattle.std.specs.Prelude.{option_and_then}
use Rattle.std.proofs.lemmas.Option.{same_Some}
use Rattle.fst_types.specs.Tree.{Tree}
use Rattle.fst_types.specs.declared.label.Label.{Label}
use Rattle.fst_types.specs.declared.side.Side.{Side}
use Rattle.fst_lts.specs.Step.{step}
use Rattle.fst_lts.specs.Histories.{sending, receiving, opposite}
use Rattle.fst_lts.proofs.Laws.{moving}
use Rattle.fst_derivations.specs.Rules.{Surroundings}
use Rattle.fst_types.specs.declared.ends.EndName.{EndName}
use Rattle.fst_types.specs.declared.event.Event.{Event}
use Rattle.fst_machine.specs.declared.request.Request.{Request}
use Rattle.fst_machine.specs.declared.request.Request.TheVariants as request
use Rattle.fst_machine.specs.declared.request.Answer.TheVariants.{Sent, Got}
use Rattle.fst_machine.specs.Machine as machine
use Rattle.fst_machine.specs.Machine.{State, pause, after, answered}
use Rattle.fst_runs.specs.Configs.{Path, Task, same_path, same_channel, other, main_path}
use Rattle.fst_runs.specs.Names.{HasMakers, HasParents}
use Rattle.fst_runs.specs.Wrong.{held_state, amount, IsUnspent, IsAllowed, end_of}
use Rattle.fst_runs.proofs.Laws.{pause_none, same_path-same, same_channel-itself, same_channel-same, owner, asks_held, in_put, same_amount}
use Rattle.fst_safety.specs.Fitting.{Residuals, IsTyped}
use Rattle.fst_safety.specs.WellTyped.{IsWellTyped, program_in}
use Rattle.fst_safety.specs.Pauses.{Goes}
use Rattle.fst_safety.proofs.Laws.{or_other, KeepsBut, kept_typed, typed_asks, sent_typed, got_typed}
use Rattle.fst_buffered.specs.Channels.{Message, Channel, Config, side_residual, residual_in, IsWhole, IsNext, further, after_put, placed, with_task, with_channel, core}
use Rattle.fst_buffered.specs.Events.{in_state, Does, put, takes}
use Rattle.fst_buffered.specs.Use.{IsUsed}
use Rattle.fst_buffered.specs.Sound.{IsSound}
use Rattle.fst_buffered.proofs.ChannelLaws.{put_residual, put_other, put_used, take_used, take_residual, take_other}
use Rattle.fst_buffered.proofs.Updates.{names_grow}

-- the residual of one end, x, goes on by a label, and the task that holds it goes on to the state s
module _ (m : Surroundings) (well : IsWellTyped m) (a : Tree) (c : Config) (hs : IsSound m a c) (p : Path) (t : Task) (s : State)
    (x : EndName) (k j : Channel) (l : Label) (now next : Tree)
    (ep : c.tasks p ≡ Some t) (ek : c.channels x.channel ≡ Some k) (before : side_residual x.side k ≡ Some now)
    (moves : step now l ≡ Some next)
    (later : side_residual x.side j ≡ Some next) (others : side_residual (opposite x.side) j ≡ side_residual (opposite x.side) k)
    (q : Request) (asks : machine.request m.families t.state ≡ Some q) (at : end_of q ≡ Some x) where
  abbrev u : Task
  u = in_state t s

  abbrev d : Config
  d = with_task (with_channel c x.channel j) p u

  abbrev r : Residuals
  r = residual_in c

  abbrev r' : Residuals
  r' = residual_in d

  abbrev A : Tree
  A = (hs.tasks p t ep).0

  pub r_before : r x ≡ Some now
  r_before = ap (option_and_then (side_residual x.side)) ek ∙ before

  at_own : (b : Side) → option_and_then (side_residual b) (d.channels x.channel) ≡ side_residual b j
  at_own b = ap (λ z. option_and_then (side_residual b) (placed z j (c.channels x.channel))) (same_channel-itself x.channel)

  pub r_later : r' x ≡ Some next
  r_later = at_own x.side ∙ later

  kept : (z : EndName) → (z ≡ x) ⊎ (r' z ≡ r z)
  kept z = go (same_channel x.channel z.channel) refl
    where
      one_of : (z ≡ x) ⊎ (z ≡ other x) → (z ≡ x) ⊎ (r' z ≡ r z)
      one_of (inl f) = inl f
      one_of (inr f) = inr (ap r' f ∙ at_own (opposite x.side) ∙ others
          ∙ sym (ap (option_and_then (side_residual (opposite x.side))) ek) ∙ ap r (sym f))

      go : (b : Bool) → same_channel x.channel z.channel ≡ b → (z ≡ x) ⊎ (r' z ≡ r z)
      go true f = one_of (or_other z x (sym (same_channel-same x.channel z.channel f)))
      go false f = inr (ap (λ o. option_and_then (side_residual z.side) (placed o j (c.channels z.channel))) f)

  x_unspent : IsUnspent r x
  x_unspent = (now, r_before, moving now next l moves)

  was_unspent : (z : EndName) → IsUnspent r' z → IsUnspent r z
  was_unspent z h = go (kept z)
    where
      go : (z ≡ x) ⊎ (r' z ≡ r z) → IsUnspent r z
      go (inl f) = subst (IsUnspent r) (sym f) x_unspent
      go (inr f) = (h.0, sym f ∙ h.1, h.2)

  -- the task holds the end once, and no other holds it
  x_owned : (held_state x t.state ≡ 1) × ((o : Path) → same_path p o ≡ false → amount x (c.tasks o) ≡ 0)
  x_owned = owner (core c) x p t (hs.owned x x_unspent) ep
      (λ z. asks_held (pause m.families t.state) q x at asks (pause_none m.families x t.state z))

  pub held_there : held_state x t.state ≡ 1
  held_there = x_owned.0

  -- all other ends keep their residuals
  pub keeps : (o : State) → KeepsBut r r' x o
  keeps o z = go (kept z)
    where
      go : (z ≡ x) ⊎ (r' z ≡ r z) → (z ≡ x) ⊎ ((IsUnspent r z × (held_state z o ≡ 0)) ⊎ (r' z ≡ r z))
      go (inl f) = inl f
      go (inr f) = inr (inr f)

  third : (o : Path) (w : Task) → same_path p o ≡ false → c.tasks o ≡ Some w → (b : Tree) × IsTyped m r' w.state b ×
      (o ≡ main_path → b ≡ a)
  third o w f g =
      let h = hs.tasks o w g in (
        h.0,
        kept_typed m r r' x w.state h.0 (keeps w.state) (sym (ap (λ z. amount x z) g) ∙ x_owned.1 o f) h.1,
        h.2,
      )

  names : HasMakers (core d) × HasParents (core d)
  names = names_grow c p t u x.channel k j hs.makers hs.parents ep (omega arith, omega arith) ek

  -- the configuration after it is sound, where its new state and the channel are
  pub exchanged : Goes m r' s A (λ z. held_state z t.state) → IsUsed j → IsSound m a d
  exchanged goes used = record {
    tasks = λ o w i. in_put (same_path p o) u w (c.tasks o)
        (λ f g. (A, subst (λ z. IsTyped m r' z.state A) g goes.0, λ i. (hs.tasks p t ep).2 (same_path-same p o f ∙ i)))
        (λ f g. third o w f g) i;
    owned = λ z h.
        let o = hs.owned z (was_unspent z h) in
        (o.0, same z o.0 h ∙ o.1, λ q f. same z q h ∙ o.2 q f);
    used = λ h i e. in_put (same_channel x.channel h) j i (c.channels h)
        (λ f q. subst IsUsed q used)
        (λ f q. hs.used h i q) e;
    makers = names.0;
    parents = names.1;
  }
    where
      same : (z : EndName) (o : Path) → IsUnspent r' z → amount z (d.tasks o) ≡ amount z (c.tasks o)
      same z o h = same_amount z (core c) p o t u ep (goes.1 z h)

-- ---- putting in

module _ (m : Surroundings) (well : IsWellTyped m) (a : Tree) (c : Config) (hs : IsSound m a c) (p : Path) (t : Task) (s : State)
    (x : EndName) (ev : Event) (k : Channel)
    (ep : c.tasks p ≡ Some t) (rp : machine.request m.families t.state ≡ Some (request.Put x ev))
    (ek : c.channels x.channel ≡ Some k) (whole : IsWhole x.side k)
    (an : answered (program_in m) t.state Sent ≡ Some s) where
  abbrev B : Tree
  B = (hs.tasks p t ep).0

  mv : (now : Tree) × (next : Tree) × (residual_in c x ≡ Some now) × (step now (sending ev) ≡ Some next)
  mv =
      let g = typed_asks m well t.state B (residual_in c) (hs.tasks p t ep).1 in
      subst (IsAllowed (residual_in c)) (same_Some g.0 (request.Put x ev) (sym g.1 ∙ rp)) g.2

  its_residual : side_residual x.side k ≡ Some mv.0
  its_residual = sym (ap (option_and_then (side_residual x.side)) ek) ∙ mv.2

  its_use : IsUsed k
  its_use = hs.used x.channel k ek

  later : side_residual x.side (after_put x.side ev k) ≡ Some mv.1
  later = put_residual k x.side ev mv.0 mv.1 whole its_residual mv.3

  others : side_residual (opposite x.side) (after_put x.side ev k) ≡ side_residual (opposite x.side) k
  others = put_other k x.side ev its_use

  abbrev e : Config
  e = with_task (with_channel c x.channel (after_put x.side ev k)) p (in_state t s)

  sent : Goes m (residual_in e) s B (λ z. held_state z t.state)
  sent = sent_typed m well t.state B s (residual_in c) (residual_in e) x ev mv.0 mv.1 (hs.tasks p t ep).1 rp
      (held_there m well a c hs p t s x k (after_put x.side ev k) (sending ev) mv.0 mv.1 ep ek its_residual mv.3 later others
      (request.Put x ev) rp refl) mv.2 mv.3
      (r_later m well a c hs p t s x k (after_put x.side ev k) (sending ev) mv.0 mv.1 ep ek its_residual mv.3 later others
      (request.Put x ev) rp refl)
      (keeps m well a c hs p t s x k (after_put x.side ev k) (sending ev) mv.0 mv.1 ep ek its_residual mv.3 later others
      (request.Put x ev) rp refl t.state) an

  -- the configuration after it is sound
  pub has_put : IsSound m a e
  has_put = exchanged m well a c hs p t s x k (after_put x.side ev k) (sending ev) mv.0 mv.1 ep ek its_residual mv.3 later others
      (request.Put x ev) rp refl sent
      (put_used k x.side ev mv.0 mv.1 its_use whole its_residual mv.3)

-- a configuration stays sound where a task puts something in
pub put_sound : (m : Surroundings) (well : IsWellTyped m) (a : Tree) (capacity : ℕ) (c d : Config) (p : Path) (x : EndName)
    (ev : Event) →
    IsSound m a c → Does (program_in m) m.types capacity c (put p x ev) d → IsSound m a d
put_sound m well a capacity c d p x ev h g =
    subst (IsSound m a) (sym g.8) (has_put m well a c h p g.0 g.1 x ev g.2 g.3.0 g.3.1 g.4 g.5 g.7)

-- ---- taking

module _ (m : Surroundings) (well : IsWellTyped m) (a : Tree) (c : Config) (hs : IsSound m a c) (p : Path) (t : Task) (s : State)
    (x : EndName) (n : Message) (k : Channel)
    (ep : c.tasks p ≡ Some t) (rp : machine.request m.families t.state ≡ Some (request.Get x))
    (ek : c.channels x.channel ≡ Some k) (is : IsNext x.side k n)
    (an : answered (program_in m) t.state (Got n.event) ≡ Some s) where
  abbrev C : Tree
  C = (hs.tasks p t ep).0

  use_it : IsUsed k
  use_it = hs.used x.channel k ek

  tk : (now : Tree) × (next : Tree) × (side_residual x.side k ≡ Some now) × (step now (receiving n.event) ≡ Some next) ×
      (side_residual x.side (further x.side k) ≡ Some next)
  tk = take_residual k x.side n use_it is

  the_others : side_residual (opposite x.side) (further x.side k) ≡ side_residual (opposite x.side) k
  the_others = take_other k x.side n use_it is

  abbrev g : Config
  g = with_task (with_channel c x.channel (further x.side k)) p (in_state t s)

  got : Goes m (residual_in g) s C (λ z. held_state z t.state)
  got = got_typed m well t.state C s (residual_in c) (residual_in g) x n.event tk.0 tk.1 (hs.tasks p t ep).1 rp
      (held_there m well a c hs p t s x k (further x.side k) (receiving n.event) tk.0 tk.1 ep ek tk.2 tk.3 tk.4 the_others
      (request.Get x) rp refl)
      (r_before m well a c hs p t s x k (further x.side k) (receiving n.event) tk.0 tk.1 ep ek tk.2 tk.3 tk.4 the_others
      (request.Get x) rp refl) tk.3
      (r_later m well a c hs p t s x k (further x.side k) (receiving n.event) tk.0 tk.1 ep ek tk.2 tk.3 tk.4 the_others
      (request.Get x) rp refl)
      (keeps m well a c hs p t s x k (further x.side k) (receiving n.event) tk.0 tk.1 ep ek tk.2 tk.3 tk.4 the_others
      (request.Get x) rp refl t.state) an

  -- the configuration after it is sound
  pub has_taken : IsSound m a g
  has_taken = exchanged m well a c hs p t s x k (further x.side k) (receiving n.event) tk.0 tk.1 ep ek tk.2 tk.3 tk.4 the_others
      (request.Get x) rp refl got
      (take_used k x.side n use_it is)

-- a configuration stays sound where a task takes something
pub take_sound : (m : Surroundings) (well : IsWellTyped m) (a : Tree) (capacity : ℕ) (c d : Config) (p : Path) (x : EndName)
    (ev : Event) →
    IsSound m a c → Does (program_in m) m.types capacity c (takes p x ev) d → IsSound m a d
take_sound m well a capacity c d p x ev h g =
    subst (IsSound m a) (sym g.9)
    (has_taken m well a c h p g.0 g.1 x g.3 g.2 g.4.0 g.4.1 g.5 g.6
    (ap (λ z. answered (program_in m) g.0.state (Got z)) g.7 ∙ g.8))
