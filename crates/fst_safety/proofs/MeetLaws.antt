-- A configuration stays sound where two tasks meet.
use Rattle.std.proofs.Common.{◌≡◌, ◌∙◌, ◌⊎◌, inl, inr, ℕ, [], Bool, true, false, Some, refl, sym, ap, subst}
use Rattle.std.specs.Prelude.{option_map, option_and_then}
use Rattle.fst_types.specs.Tree.{Tree}
use Rattle.fst_types.specs.declared.label.Label.TheVariants.{Close}
use Rattle.fst_types.specs.declared.side.Side.{Side}
use Rattle.fst_kinds.specs.WellFormed.{IsSession}
use Rattle.fst_lts.specs.Step.{step}
use Rattle.fst_lts.specs.Dual.{dual}
use Rattle.fst_lts.specs.Histories.{sending, receiving, opposite}
use Rattle.fst_derivations.specs.Rules.{Surroundings}
use Rattle.fst_types.specs.declared.ends.ChannelName.{ChannelName}
use Rattle.fst_types.specs.declared.ends.EndName.{EndName}
use Rattle.fst_types.specs.declared.event.Entry.{Entry}
use Rattle.fst_types.specs.declared.event.Event.{Event}
use Rattle.fst_machine.specs.declared.request.Request.TheVariants as request
use Rattle.fst_machine.specs.declared.request.Answer.TheVariants.{Sent, Got}
use Rattle.fst_machine.specs.Machine.{State, Pause, pause, asked, answered}
use Rattle.fst_machine.specs.Machine as machine
use Rattle.fst_lts.proofs.Laws.{moving, dual_receives}
use Rattle.fst_runs.specs.Configs.{Path, Task, Channel, Config, same_path, same_channel, other, residual_in, channel_residual, main_path}
use Rattle.fst_runs.specs.declared.event.CoreEvent.TheVariants.{Meet}
use Rattle.fst_runs.specs.Events.{Write, written, extended, meeting_stamp, Does, has_met, passed}
use Rattle.fst_runs.specs.Names.{HasMakers, HasParents}
use Rattle.fst_runs.specs.Wrong.{held_state, amount, IsUnspent}
use Rattle.fst_runs.proofs.Laws.{put_pause, pause_none, same_path-same, same_path-apart, same_channel-itself, same_channel-same, asks_apart, named_meet, owner, asks_held, put, with_task, with_channel, in_put, stays_apart, same_amount, meet_puts}
use Rattle.fst_safety.specs.Fitting.{Residuals, IsTyped}
use Rattle.fst_safety.specs.WellTyped.{IsWellTyped, program_in}
use Rattle.fst_safety.specs.Pauses.{Allowed, Goes}
use Rattle.fst_safety.specs.Sound.{IsSound, IsTrace}
use Rattle.fst_safety.proofs.Answered.{kept_typed, sent_typed, got_typed}
use Rattle.fst_safety.proofs.Asking.{end_moves}
use Rattle.fst_safety.proofs.Equals.{session_step}
use Rattle.fst_safety.proofs.Owners.{or_other}
use Rattle.fst_safety.proofs.Settles.{pause_goes}
use Rattle.fst_safety.proofs.TraceLaws.{Sides, sides_from, trace_from, sides_grow}

-- where a typed task asks to send, the residual of the end moves so
put_moves : (m : Surroundings) (r : Residuals) (p : Pause) (t : Tree) (x : EndName) (ev : Event) →
    asked p ≡ Some (request.Put x ev) → Allowed m r p t →
    (now : Tree) × (next : Tree) × (r x ≡ Some now) × (step now (sending ev) ≡ Some next) × IsSession [] now
put_moves m r p t x ev asks = put_pause
    (λ w. Allowed m r w t →
    (now : Tree) × (next : Tree) × (r x ≡ Some now) × (step now (sending ev) ≡ Some next) × IsSession [] now) p x ev asks
    (λ fs a. let g = end_moves m r x a.0 a.1 (sending ev) a.2 a.3 in (g.0, g.1, g.2, g.3, g.4))
    (λ fs c a.
    let g = end_moves m r x a.0 a.1 Close a.2 a.3 in
    (g.0, g.1, g.2, subst (λ e. step g.0 (sending e) ≡ Some g.1) (sym c) g.3, g.4))

-- all that a meeting is about; n is the clock of both tasks after it
module _ (m : Surroundings) (well : IsWellTyped m) (a : Tree) (c : Config) (p q : Path) (t u : Task) (x : EndName) (e : Entry)
    (s v : State) (k : Channel) (n : ℕ)
    (hs : IsSound m a c) (ep : c.tasks p ≡ Some t) (eq : c.tasks q ≡ Some u)
    (rp : machine.request m.families t.state ≡ Some (request.Put x e.event))
    (rq : machine.request m.families u.state ≡ Some (request.Get (other x)))
    (ap' : answered (program_in m) t.state Sent ≡ Some s) (aq : answered (program_in m) u.state (Got e.event) ≡ Some v)
    (ek : c.channels x.channel ≡ Some k) where
  abbrev r : Residuals
  r = residual_in c

  abbrev t' : Task
  t' = has_met t s n

  abbrev u' : Task
  u' = has_met u v n

  abbrev grown : Config
  grown = with_channel c x.channel (extended k e)

  abbrev d : Config
  d = with_task (with_task grown p t') q u'

  abbrev r' : Residuals
  r' = residual_in d

  abbrev y : EndName
  y = other x

  abbrev A : Tree
  A = (hs.tasks p t ep).0

  abbrev B : Tree
  B = (hs.tasks q u eq).0

  mv : (now : Tree) × (next : Tree) × (r x ≡ Some now) × (step now (sending e.event) ≡ Some next) × IsSession [] now
  mv = put_moves m r (pause m.families t.state) A x e.event rp (pause_goes m well r t.state A (hs.tasks p t ep).1).0

  its_trace : IsTrace k
  its_trace = hs.traces x.channel k ek

  sides : Sides x.side k mv.0
  sides = sides_from k x.side mv.0 (sym (ap (option_and_then (channel_residual x.side)) ek) ∙ mv.2)

  new_sides : Sides x.side (extended k e) mv.1
  new_sides = sides_grow k x.side e mv.0 mv.1 sides mv.3

  new_trace : IsTrace (extended k e)
  new_trace = trace_from (extended k e) x.side mv.1 its_trace.1 (session_step mv.0 mv.1 (sending e.event) mv.4 mv.3) new_sides

  at_own : (b : Side) → option_and_then (channel_residual b) (d.channels x.channel) ≡ channel_residual b (extended k e)
  at_own b = ap (λ o. option_and_then (channel_residual b) (put o (extended k e) (c.channels x.channel)))
      (same_channel-itself x.channel)

  others : (z : EndName) → (z ≡ x) ⊎ ((z ≡ y) ⊎ (r' z ≡ r z))
  others z = go (same_channel x.channel z.channel) refl
    where
      put_in : (z ≡ x) ⊎ (z ≡ y) → (z ≡ x) ⊎ ((z ≡ y) ⊎ (r' z ≡ r z))
      put_in (inl f) = inl f
      put_in (inr f) = inr (inl f)

      go : (b : Bool) → same_channel x.channel z.channel ≡ b → (z ≡ x) ⊎ ((z ≡ y) ⊎ (r' z ≡ r z))
      go true f = put_in (or_other z x (sym (same_channel-same x.channel z.channel f)))
      go false f = inr (inr (ap (λ o. option_and_then (channel_residual z.side) (put o (extended k e) (c.channels z.channel))) f))

  before_other : r y ≡ Some (dual mv.0)
  before_other = ap (option_and_then (channel_residual (opposite x.side))) ek ∙ sides.1

  moves_other : step (dual mv.0) (receiving e.event) ≡ Some (dual mv.1)
  moves_other = dual_receives mv.0 e.event ∙ ap (option_map dual) mv.3

  x_unspent : IsUnspent r x
  x_unspent = (mv.0, mv.2, moving mv.0 mv.1 (sending e.event) mv.3)

  y_unspent : IsUnspent r y
  y_unspent = (dual mv.0, before_other, moving (dual mv.0) (dual mv.1) (receiving e.event) moves_other)

  apart : p ≡ q → ⊥
  apart = asks_apart (program_in m) c p q t u x y e.event (ep, rp) (eq, rq)

  x_owned : (held_state x t.state ≡ 1) × ((o : Path) → same_path p o ≡ false → amount x (c.tasks o) ≡ 0)
  x_owned = owner c x p t (hs.owned x x_unspent) ep
      (λ z. asks_held (pause m.families t.state) (request.Put x e.event) x refl rp (pause_none m.families x t.state z))

  y_owned : (held_state y u.state ≡ 1) × ((o : Path) → same_path q o ≡ false → amount y (c.tasks o) ≡ 0)
  y_owned = owner c y q u (hs.owned y y_unspent) eq
      (λ z. asks_held (pause m.families u.state) (request.Get y) y refl rq (pause_none m.families y u.state z))

  x_at_q : held_state x u.state ≡ 0
  x_at_q = sym (ap (λ o. amount x o) eq) ∙ x_owned.1 q (same_path-apart p q apart)

  y_at_p : held_state y t.state ≡ 0
  y_at_p = sym (ap (λ o. amount y o) ep) ∙ y_owned.1 p (same_path-apart q p (λ f. apart (sym f)))

  sent : Goes m r' s A (λ z. held_state z t.state)
  sent = sent_typed m well t.state A s r r' x e.event mv.0 mv.1 (hs.tasks p t ep).1 rp x_owned.0 mv.2 mv.3
      (at_own x.side ∙ new_sides.0) (λ z. by z (others z)) ap'
    where
      by : (z : EndName) → (z ≡ x) ⊎ ((z ≡ y) ⊎ (r' z ≡ r z)) →
          (z ≡ x) ⊎ ((IsUnspent r z × (held_state z t.state ≡ 0)) ⊎ (r' z ≡ r z))
      by z (inl f) = inl f
      by z (inr (inl f)) = inr (inl (subst (IsUnspent r) (sym f) y_unspent, ap (λ w. held_state w t.state) f ∙ y_at_p))
      by z (inr (inr f)) = inr (inr f)

  got : Goes m r' v B (λ z. held_state z u.state)
  got = got_typed m well u.state B v r r' y e.event (dual mv.0) (dual mv.1) (hs.tasks q u eq).1 rq y_owned.0 before_other
      moves_other (at_own (opposite x.side) ∙ new_sides.1) (λ z. by z (others z)) aq
    where
      by : (z : EndName) → (z ≡ x) ⊎ ((z ≡ y) ⊎ (r' z ≡ r z)) →
          (z ≡ y) ⊎ ((IsUnspent r z × (held_state z u.state ≡ 0)) ⊎ (r' z ≡ r z))
      by z (inl f) = inr (inl (subst (IsUnspent r) (sym f) x_unspent, ap (λ w. held_state w u.state) f ∙ x_at_q))
      by z (inr (inl f)) = inl f
      by z (inr (inr f)) = inr (inr f)

  was_unspent : (z : EndName) → IsUnspent r' z → IsUnspent r z
  was_unspent z h = go (others z)
    where
      go : (z ≡ x) ⊎ ((z ≡ y) ⊎ (r' z ≡ r z)) → IsUnspent r z
      go (inl f) = subst (IsUnspent r) (sym f) x_unspent
      go (inr (inl f)) = subst (IsUnspent r) (sym f) y_unspent
      go (inr (inr f)) = (h.0, sym f ∙ h.1, h.2)

  at_q : (with_task grown p t').tasks q ≡ Some u
  at_q = stays_apart grown p q t' apart ∙ eq

  same_amounts : (z : EndName) (o : Path) → IsUnspent r' z → amount z (d.tasks o) ≡ amount z (c.tasks o)
  same_amounts z o h =
      same_amount z (with_task c p t') q o u u' at_q (got.1 z h) ∙ same_amount z c p o t t' ep (sent.1 z h)

  third : (o : Path) (w : Task) → same_path p o ≡ false → same_path q o ≡ false → c.tasks o ≡ Some w →
      (b : Tree) × IsTyped m r' w.state b × (o ≡ main_path → b ≡ a)
  third o w f g i =
      let h = hs.tasks o w i in (
        h.0,
        kept_typed m r r' x w.state h.0 (λ z. by z (others z)) (sym (ap (λ z. amount x z) i) ∙ x_owned.1 o f) h.1,
        h.2,
      )
    where
      by : (z : EndName) → (z ≡ x) ⊎ ((z ≡ y) ⊎ (r' z ≡ r z)) →
          (z ≡ x) ⊎ ((IsUnspent r z × (held_state z w.state ≡ 0)) ⊎ (r' z ≡ r z))
      by z (inl f) = inl f
      by z (inr (inl f)) = inr (inl (
        subst (IsUnspent r) (sym f) y_unspent,
        ap (λ v. held_state v w.state) f ∙ sym (ap (λ z. amount y z) i)
            ∙ y_owned.1 o g,
      ))
      by z (inr (inr f)) = inr (inr f)

  names : HasMakers d × HasParents d
  names = named_meet c p q t u s v n x.channel k (extended k e) hs.makers hs.parents ep eq apart ek

  -- the configuration after a meeting is sound
  pub met : IsSound m a d
  met = record {
    tasks = λ o w i. in_put (same_path q o) u' w (put (same_path p o) t' (c.tasks o))
        (λ f g. (B, subst (λ z. IsTyped m r' z.state B) g got.0, λ j. (hs.tasks q u eq).2 (same_path-same q o f ∙ j)))
        (λ f g. in_put (same_path p o) t' w (c.tasks o)
        (λ f' g'. (A, subst (λ z. IsTyped m r' z.state A) g' sent.0, λ j. (hs.tasks p t ep).2 (same_path-same p o f' ∙ j)))
        (λ f' g'. third o w f' f g') g) i;
    owned = λ z h.
        let o = hs.owned z (was_unspent z h) in
        (o.0, same_amounts z o.0 h ∙ o.1, λ o' f. same_amounts z o' h ∙ o.2 o' f);
    traces = λ h j i. in_put (same_channel x.channel h) (extended k e) j (c.channels h)
        (λ f g. subst IsTrace g new_trace)
        (λ f g. hs.traces h j g) i;
    makers = names.0;
    parents = names.1;
  }

-- a configuration stays sound where two tasks meet
pub meet_sound : (m : Surroundings) (well : IsWellTyped m) (a : Tree) (c : Config) (p q : Path) (h : ChannelName) (w : Write) →
    IsSound m a c → Does (program_in m) m.types c (Meet p q h) w → IsSound m a (written c w)
meet_sound m well a c p q h w sound d =
    let n = meeting_stamp d.sender d.receiver d.channel in
    let entry = passed d.event d.sender d.receiver d.channel in
    let is : with_task (with_task (with_channel c d.end.channel (extended d.channel entry)) p (has_met d.sender d.sent n)) q
    (has_met d.receiver d.got n) ≡ written c w =
    ap (λ g. with_task (with_task (with_channel c g (extended d.channel entry)) p (has_met d.sender d.sent n)) q
    (has_met d.receiver d.got n)) d.named
    ∙ sym (meet_puts (program_in m) m.types c p q h w d) in
    subst (IsSound m a) is
    (met m well a c p q d.sender d.receiver d.end entry d.sent d.got d.channel n sound d.puts.0 d.gets.0 d.puts.1 d.gets.1
    d.sender_leads d.receiver_leads (ap c.channels d.named ∙ d.there))
