-- What a typed state becomes once what it asks for is answered, over residuals that change with that.
use Rattle.std.proofs.Common.{◌≡◌, ◌∙◌, ◌⊎◌, inl, inr, ◌<◌, ℕ, zero, suc, ◌+◌, List, [], Bool, true, false, Some, refl, sym, ap, subst, arith}
use Rattle.std.specs.Prelude.{slice_get}
use Rattle.fst_base.proofs.Options.{some_same}
use Rattle.fst_types.specs.Tree as type
use Rattle.fst_types.specs.Tree.{Tree}
use Rattle.fst_types.specs.declared.ends.ChannelName.{ChannelName}
use Rattle.fst_types.specs.declared.ends.EndName.{EndName}
use Rattle.fst_types.specs.declared.event.Event.{Event}
use Rattle.fst_types.specs.declared.family.Family.{Family}
use Rattle.fst_types.specs.declared.label.Label.{Label}
use Rattle.fst_types.specs.declared.side.Side.{Side}
use Rattle.fst_types.specs.declared.side.Side.TheVariants.{Left, Right}
use Rattle.fst_kinds.specs.WellFormed.{IsSession}
use Rattle.fst_lts.specs.Dual.{dual}
use Rattle.fst_lts.specs.Histories.{sending, receiving, side_type}
use Rattle.fst_lts.specs.Step.{step}
use Rattle.fst_lts.proofs.Laws.{moving, dual_session}
use Rattle.fst_terms.specs.CoreTree.{CoreTree}
use Rattle.fst_derivations.specs.Rules.{Surroundings}
use Rattle.fst_machine.specs.declared.request.Request.{Request}
use Rattle.fst_machine.specs.declared.request.Request.TheVariants as request
use Rattle.fst_machine.specs.declared.request.Answer.{Answer}
use Rattle.fst_machine.specs.declared.request.Answer.TheVariants.{Go, Made, Forked, Sent, Got}
use Rattle.fst_machine.specs.Machine as machine
use Rattle.fst_machine.specs.Values.{Environment}
use Rattle.fst_machine.specs.Machine.{Program, State, Frame, Pause, stuck, makes, forks, ends, pause, after, answered, child}
use Rattle.fst_runs.specs.Configs.{same_channel}
use Rattle.fst_runs.specs.Wrong.{once, held, held_env, held_frames, held_pause, held_state, IsUnspent, IsAllowed}
use Rattle.fst_runs.proofs.Laws.{put_pause, get_pause, new_pause, fork_pause, pause_none, after_none, child_none, own_once, same_channel-itself, same_channel-same}
use Rattle.fst_safety.specs.Running.{Equals}
use Rattle.fst_safety.specs.Fitting.{Residuals, Fits, IsTyped}
use Rattle.fst_safety.specs.WellTyped.{IsWellTyped, program_in}
use Rattle.fst_safety.specs.Pauses.{Allowed, Reached, Goes}
use Rattle.fst_safety.proofs.Asking.{allowed_right}
use Rattle.fst_safety.proofs.Answers.{giving_goes, child_goes, parent_goes, steps_on}
use Rattle.fst_safety.proofs.Equals.{equals_itself, session_formed}
use Rattle.fst_safety.proofs.Exchanging.{sent_goes, closed_goes, received_goes, waited_goes, chosen_goes}
use Rattle.fst_safety.proofs.Owners.{held_apart}
use Rattle.fst_safety.proofs.Settles.{pause_goes}
use Rattle.fst_safety.proofs.StillLaws.{Still, unchanged, takes_still, typed_still}

-- an end of a channel
abbrev pub end_at : ChannelName → Side → EndName
end_at h b = record { channel = h; side = b }

-- each end keeps its residual, but for x and for unspent ends that the state doesn't hold
abbrev pub KeepsBut : Residuals → Residuals → EndName → State → Type 0
KeepsBut r r' x s = (z : EndName) → (z ≡ x) ⊎ ((IsUnspent r z × (held_state z s ≡ 0)) ⊎ (r' z ≡ r z))

-- the ends of a channel have residuals of this type and its dual, all other ends keep theirs, and the state holds neither
pub record Opens (r r' : Residuals) (h : ChannelName) (a : Tree) (s : State) : Type 0 where
  pub none : (b : Side) → held_state (end_at h b) s ≡ 0
  pub opened : (b : Side) → r' (end_at h b) ≡ Some (side_type b a)
  pub others : (z : EndName) → same_channel h z.channel ≡ false → r' z ≡ r z

-- an end is one of a channel's two, or one of another channel
pub which_end : (h : ChannelName) (z : EndName) → ((b : Side) × (z ≡ end_at h b)) ⊎ (same_channel h z.channel ≡ false)
which_end h z = go (same_channel h z.channel) refl
  where
    go : (b : Bool) → same_channel h z.channel ≡ b → ((b : Side) × (z ≡ end_at h b)) ⊎ (same_channel h z.channel ≡ false)
    go true f = inl (z.side, λ i. record { channel = sym (same_channel-same h z.channel f) i; side = z.side })
    go false f = inr f

-- not both
pub not_end : (h : ChannelName) (z : EndName) → same_channel h z.channel ≡ false → (b : Side) → z ≡ end_at h b → ⊥
not_end h z f b q =
    let g : false ≡ true = sym f ∙ ap (λ (w : EndName). same_channel h w.channel) q ∙ same_channel-itself h in
    absurd (cc g)

-- where a channel is opened, ends that are counted keep their residuals, if its own aren't counted
opens_still : (m : Surroundings) (r r' : Residuals) (h : ChannelName) (a : Tree) (s : State) → Opens r r' h a s →
    (n : EndName → ℕ) → ((b : Side) → n (end_at h b) ≡ 0) → Still m r r' n
opens_still m r r' h a s o n none = unchanged m r r' n (λ z u f g. go z u f g (which_end h z))
  where
    go : (z : EndName) (u : Tree) → r z ≡ Some u → (n z ≡ 0 → ⊥) → ((b : Side) × (z ≡ end_at h b)) ⊎
        (same_channel h z.channel ≡ false) → r' z ≡ Some u
    go z u f g (inl i) = absurd (g (ap n i.1 ∙ none i.0))
    go z u f g (inr i) = o.others z i ∙ f

-- a typed state stays typed where a channel is opened
pub opens_typed : (m : Surroundings) (r r' : Residuals) (h : ChannelName) (a : Tree) (s : State) (t : Tree) →
    Opens r r' h a s → IsTyped m r s t → IsTyped m r' s t
opens_typed m r r' h a s t o k = typed_still m r r' s t k (opens_still m r r' h a s o (λ z. held_state z s) o.none)

-- and where the residual of an end goes on that it doesn't hold
pub kept_typed : (m : Surroundings) (r r' : Residuals) (x : EndName) (s : State) (t : Tree) → KeepsBut r r' x s →
    held_state x s ≡ 0 → IsTyped m r s t → IsTyped m r' s t
kept_typed m r r' x s t keeps none k = typed_still m r r' s t k
    (unchanged m r r' (λ z. held_state z s) (λ z u e f. go z u e f (keeps z)))
  where
    go : (z : EndName) (u : Tree) → r z ≡ Some u → (held_state z s ≡ 0 → ⊥) →
        (z ≡ x) ⊎ ((IsUnspent r z × (held_state z s ≡ 0)) ⊎ (r' z ≡ r z)) → r' z ≡ Some u
    go z u e f (inl i) = absurd (f (ap (λ y. held_state y s) i ∙ none))
    go z u e f (inr (inl i)) = absurd (f i.1)
    go z u e f (inr (inr i)) = i ∙ e

-- after an answer a state holds no end that it didn't, but those of a new channel
pub held_before : (w : Program) (s s' : State) (a : Answer) (z : EndName) → answered w s a ≡ Some s' → (a ≡ Made z.channel → ⊥) →
    0 < held_state z s' → 0 < held_state z s
held_before w s s' a z told n h = go (held_state z s) refl
  where
    go : (j : ℕ) → held_state z s ≡ j → 0 < j
    go zero q =
        let g = after_none w z (pause w.families s) a s' told (pause_none w.families z s q) n in
        absurd (omega (arith, h, g))
    go (suc j) q = omega arith

-- nor does a task that it forks
pub child_before : (fs : List Family) (s b : State) (z : EndName) → child (pause fs s) ≡ Some b → 0 < held_state z b →
    0 < held_state z s
child_before fs s b z is h = go (held_state z s) refl
  where
    go : (j : ℕ) → held_state z s ≡ j → 0 < j
    go zero q = let g = child_none z (pause fs s) b is (pause_none fs z s q) in absurd (omega (arith, h, g))
    go (suc j) q = omega arith

module _ (m : Surroundings) (well : IsWellTyped m) (s : State) (t : Tree) where
  -- it isn't stuck
  pub not_stuck : (r : Residuals) → IsTyped m r s t → pause m.families s ≡ stuck → ⊥
  not_stuck r h q = subst (λ p. Allowed m r p t) q (pause_goes m well r s t h).0

  -- it asks for something that its residuals allow
  pub typed_asks : (r : Residuals) → IsTyped m r s t →
      (q : Request) × (machine.request m.families s ≡ Some q) × IsAllowed r q
  typed_asks r h = allowed_right m r (pause m.families s) t (pause_goes m well r s t h).0

  module _ (s' : State) where
    -- after a step of its own it is typed over the same residuals, and holds the same unspent ends
    pub go_typed : (r : Residuals) → IsTyped m r s t → answered (program_in m) s Go ≡ Some s' →
        Goes m r s' t (λ z. held_state z s)
    go_typed r h e =
        let k = pause_goes m well r s t h in
        let n = steps_on m well r (pause m.families s) s' t k.0 e in
        (n.0, λ z u. n.1 z u ∙ k.1 z u)

    -- what goes on is typed, and so is a forked state; both share the unspent ends
    abbrev pub Parts : Residuals → State → Type 0
    Parts r b = IsTyped m r s' t × ((u : Tree) × IsTyped m r b u) ×
        ((z : EndName) → IsUnspent r z → held_state z s' + held_state z b ≡ held_state z s)

    -- so it is after a fork
    pub forked_typed : (r : Residuals) (b : State) → IsTyped m r s t → child (pause m.families s) ≡ Some b →
        answered (program_in m) s Forked ≡ Some s' → Parts r b
    forked_typed r b typed is e =
        (fork_pause (λ p. Reached m r p t (λ z. held_state z s) → after (program_in m) p Forked ≡ Some s' → Parts r b)
        (pause m.families s) b is go) (pause_goes m well r s t typed) e
      where
        go : (f : CoreTree) (env : Environment) (fs : List Frame) → record { term = f; environment = env; frames = [] } ≡ b →
            Reached m r (forks f env fs) t (λ z. held_state z s) → after (program_in m) (forks f env fs) Forked ≡ Some s' →
            Parts r b
        go f env fs q h told =
            let c = child_goes m well r f env fs t h.0 in
            let o = subst (λ w. Goes m r w t (λ z. held_frames z fs)) (some_same told) (parent_goes m well r f env fs t h.0) in
            subst (Parts r) q
            (o.0, (c.0, c.1.0), λ z u. let x = o.1 z u in let y = c.1.1 z u in let w = h.1 z u in omega (arith, x, y, w))

    -- after a channel was made for it, it is typed over the residuals with those of the new ends, and holds these besides
    module _ (r r' : Residuals) (k : ℕ) (a : Tree) (h : ChannelName) (typed : IsTyped m r s t)
        (asks : machine.request m.families s ≡ Some (request.New k)) (is : slice_get m.types k ≡ Some a)
        (opens : Opens r r' h a s) (e : answered (program_in m) s (Made h) ≡ Some s') where
      abbrev fs : List Frame
      fs = (new_pause (pause m.families s) k asks).0

      is_makes : pause m.families s ≡ makes k fs
      is_makes = (new_pause (pause m.families s) k asks).1

      reached : Reached m r (makes k fs) t (λ z. held_state z s)
      reached = subst (λ w. Reached m r w t (λ z. held_state z s)) is_makes (pause_goes m well r s t typed)

      is_type : reached.0.0 ≡ a
      is_type = some_same (sym reached.0.1 ∙ is)

      session : IsSession [] a
      session = subst (IsSession []) is_type reached.0.2

      none : (b : Side) → held_frames (end_at h b) fs ≡ 0
      none b = sym (ap (held_pause (end_at h b)) is_makes) ∙ pause_none m.families (end_at h b) s (opens.none b)

      ends_fit : Fits m r' (ends h) reached.0.3
      ends_fit = (
        a,
        dual a,
        (a, opens.opened Left, session, equals_itself a (session_formed session)),
        (
          dual a,
          opens.opened Right,
          dual_session [] a session,
          equals_itself (dual a) (session_formed (dual_session [] a session)),
        ),
        subst (λ k. Equals (type.pair k (dual k)) reached.0.3) is_type reached.0.4,
      )

      given : Goes m r' s' t (λ z. held z (ends h) + held_frames z fs)
      given = subst (λ w. Goes m r' w t (λ z. held z (ends h) + held_frames z fs))
          (some_same (sym (ap (λ z. after (program_in m) z (Made h)) is_makes) ∙ e))
          (giving_goes m well r' (ends h) fs reached.0.3 t ends_fit
          (takes_still m r r' fs reached.0.3 t reached.0.5 (opens_still m r r' h a s opens (λ z. held_frames z fs) none)))

      not_right : (x : EndName) → x.side ≡ Left → x ≡ end_at h Right → ⊥
      not_right x f q = let g : Left ≡ Right = sym f ∙ ap (λ (z : EndName). z.side) q in absurd (cc g)

      own_end : (b : Side) → held (end_at h b) (ends h) ≡ 1
      own_end Left =
          let x = own_once (end_at h Left) in
          let y = held_apart (end_at h Left) (end_at h Right) (not_right (end_at h Left) refl) in
          omega (arith, x, y)
      own_end Right =
          let x = own_once (end_at h Right) in
          let y = held_apart (end_at h Right) (end_at h Left) (λ q. not_right (end_at h Left) refl (sym q)) in
          omega (arith, x, y)

      no_end : (z : EndName) → same_channel h z.channel ≡ false → held z (ends h) ≡ 0
      no_end z f =
          let x = held_apart z (end_at h Left) (not_end h z f Left) in
          let y = held_apart z (end_at h Right) (not_end h z f Right) in
          omega (arith, x, y)

      pub made_typed : IsSession [] a × Goes m r' s' t (λ z. held_state z s + once (same_channel h z.channel))
      made_typed = (session, (given.0, λ z u. go z u (which_end h z)))
        where
          go : (z : EndName) → IsUnspent r' z → ((b : Side) × (z ≡ end_at h b)) ⊎ (same_channel h z.channel ≡ false) →
              held_state z s' ≡ held_state z s + once (same_channel h z.channel)
          go z u (inl i) =
              let g = given.1 z u in
              let one = ap (λ w. held w (ends h)) i.1 ∙ own_end i.0 in
              let fewer = ap (λ w. held_frames w fs) i.1 ∙ none i.0 in
              let before = ap (λ w. held_state w s) i.1 ∙ opens.none i.0 in
              let f = ap (λ (w : EndName). once (same_channel h w.channel)) i.1 ∙ ap once (same_channel-itself h) in
              omega (arith, g, one, fewer, before, f)
          go z u (inr f) =
              let g = given.1 z u in
              let none = no_end z f in
              let before = reached.1 z (u.0, sym (opens.others z f) ∙ u.1, u.2) in
              let q = ap once f in
              omega (arith, g, none, before, q)

    -- an exchange at an end that it holds once, whose residual goes on by a label
    module _ (r r' : Residuals) (x : EndName) (l : Label) (now next : Tree) (typed : IsTyped m r s t)
        (one : held_state x s ≡ 1) (before : r x ≡ Some now) (moves : step now l ≡ Some next) (keeps : KeepsBut r r' x s) where
      there : Reached m r (pause m.families s) t (λ z. held_state z s)
      there = pause_goes m well r s t typed

      unspent : IsUnspent r x
      unspent = (now, before, moving now next l moves)

      was_unspent : (z : EndName) → IsUnspent r' z → IsUnspent r z
      was_unspent z u = go (keeps z)
        where
          go : (z ≡ x) ⊎ ((IsUnspent r z × (held_state z s ≡ 0)) ⊎ (r' z ≡ r z)) → IsUnspent r z
          go (inl f) = subst (IsUnspent r) (sym f) unspent
          go (inr (inl f)) = f.0
          go (inr (inr f)) = (u.0, sym f ∙ u.1, u.2)

      -- the ends that are counted keep their residuals, where x isn't counted, nor what isn't held
      abbrev Kept : Pause → Type 0
      Kept w = (n : EndName → ℕ) → n x ≡ 0 → ((z : EndName) → held_pause z w ≡ 0 → n z ≡ 0) → Still m r r' n

      are_kept : Kept (pause m.families s)
      are_kept n e f = unchanged m r r' n (λ z u g k. go z u g k (keeps z))
        where
          go : (z : EndName) (u : Tree) → r z ≡ Some u → (n z ≡ 0 → ⊥) →
              (z ≡ x) ⊎ ((IsUnspent r z × (held_state z s ≡ 0)) ⊎ (r' z ≡ r z)) → r' z ≡ Some u
          go z u g k (inl i) = absurd (k (ap n i ∙ e))
          go z u g k (inr (inl i)) = absurd (k (f z (there.1 z i.0 ∙ i.1)))
          go z u g k (inr (inr i)) = i ∙ g

      held_once : held_pause x (pause m.families s) ≡ 1
      held_once = there.1 x unspent ∙ one

      gone : Goes m r' s' t (λ z. held_pause z (pause m.families s)) → Goes m r' s' t (λ z. held_state z s)
      gone g = (g.0, λ z u. g.1 z u ∙ there.1 z (was_unspent z u))

    -- once it has put something in at an end that it holds once it is typed over the residuals of which that end's has gone on,
    -- and holds the same unspent ends
    pub sent_typed : (r r' : Residuals) (x : EndName) (ev : Event) (now next : Tree) → IsTyped m r s t →
        machine.request m.families s ≡ Some (request.Put x ev) → held_state x s ≡ 1 → r x ≡ Some now →
        step now (sending ev) ≡ Some next → r' x ≡ Some next → KeepsBut r r' x s →
        answered (program_in m) s Sent ≡ Some s' → Goes m r' s' t (λ z. held_state z s)
    sent_typed r r' x ev now next h asks one before moves later keeps e =
        gone r r' x (sending ev) now next h one before moves keeps
        (put_pause
        (λ w. Allowed m r w t → held_pause x w ≡ 1 → Kept r r' x (sending ev) now next h one before moves keeps w →
        after (program_in m) w Sent ≡ Some s' → Goes m r' s' t (λ z. held_pause z w))
        (pause m.families s) x ev asks
        (λ fs a f k g. sent_goes m well r r' x ev now next before moves later (program_in m) fs t s' a
        (k (λ z. held_frames z fs) (let o = own_once x in omega (arith, f, o)) (λ z q. omega (arith, q))) g)
        (λ fs i a f k g. closed_goes m well r r' x ev now next before i moves later (program_in m) fs t s' a
        (k (λ z. held_frames z fs) (let o = own_once x in omega (arith, f, o)) (λ z q. omega (arith, q))) g)
        (there r r' x (sending ev) now next h one before moves keeps).0
        (held_once r r' x (sending ev) now next h one before moves keeps)
        (are_kept r r' x (sending ev) now next h one before moves keeps) e)

    -- so it is once it has received something there
    pub got_typed : (r r' : Residuals) (x : EndName) (ev : Event) (now next : Tree) → IsTyped m r s t →
        machine.request m.families s ≡ Some (request.Get x) → held_state x s ≡ 1 → r x ≡ Some now →
        step now (receiving ev) ≡ Some next → r' x ≡ Some next → KeepsBut r r' x s →
        answered (program_in m) s (Got ev) ≡ Some s' → Goes m r' s' t (λ z. held_state z s)
    got_typed r r' x ev now next h asks one before moves later keeps e =
        gone r r' x (receiving ev) now next h one before moves keeps
        (get_pause
        (λ w. Allowed m r w t → held_pause x w ≡ 1 → Kept r r' x (receiving ev) now next h one before moves keeps w →
        after (program_in m) w (Got ev) ≡ Some s' → Goes m r' s' t (λ z. held_pause z w))
        (pause m.families s) x asks
        (λ fs a f k g. received_goes m well r r' x ev now next before moves later (program_in m) fs t s' a
        (k (λ z. held_frames z fs) (let o = own_once x in omega (arith, f, o)) (λ z q. omega (arith, q))) g)
        (λ fs a f k g. waited_goes m well r r' x ev now next before moves later (program_in m) fs t s' a
        (k (λ z. held_frames z fs) (let o = own_once x in omega (arith, f, o)) (λ z q. omega (arith, q))) g)
        (λ bs env fs a f k g. chosen_goes m well r r' x ev now next before moves later (program_in m) bs env fs t s' a
        (k (λ z. held_env z env + held_frames z fs) (let o = own_once x in omega (arith, f, o)) (λ z q. omega (arith, q))) g)
        (there r r' x (receiving ev) now next h one before moves keeps).0
        (held_once r r' x (receiving ev) now next h one before moves keeps)
        (are_kept r r' x (receiving ev) now next h one before moves keeps) e)
