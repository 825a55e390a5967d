-- Two different things that are possible commute, where nothing has gone wrong and names are fresh.
use Rattle.std.proofs.Common.{◌≡◌, ◌∙◌, ◌⊎◌, inl, inr, ℕ, suc, List, length, Bool, true, false, Option, Some, None, refl, sym, ap, subst, arith}
use Rattle.std.specs.Prelude.{option_map, option_and_then, slice_get, if◌then◌else◌}
use Rattle.std.proofs.lemmas.Option.{none-some, same_Some}
use Rattle.fst_base.proofs.Lists.{get-kept}
use Rattle.fst_types.specs.Tree.{Tree}
use Rattle.fst_types.specs.declared.side.Side.{Side}
use Rattle.fst_types.specs.declared.side.Side.TheVariants.{Left, Right}
use Rattle.fst_lts.specs.Step.{step}
use Rattle.fst_lts.specs.Dual.{dual}
use Rattle.fst_lts.specs.Histories.{over, sending, after_history, side_type, opposite}
use Rattle.fst_types.specs.declared.ends.ChannelName.{ChannelName}
use Rattle.fst_types.specs.declared.ends.EndName.{EndName}
use Rattle.fst_types.specs.declared.event.Event.{Event}
use Rattle.fst_machine.specs.Machine.{Program}
use Rattle.fst_machine.specs.declared.request.Request.{Request}
use Rattle.fst_machine.specs.declared.request.Request.TheVariants as request
use Rattle.fst_runs.specs.Configs.{Path, Task, same_path, same_channel, child_path, channel_name}
use Rattle.fst_runs.specs.Events.{task_at}
use Rattle.fst_runs.specs.Names.{HasMakers, HasParents}
use Rattle.fst_runs.specs.Wrong.{end_of}
use Rattle.fst_runs.proofs.Laws.{same_path-same, same_channel-same, one_parent, new_free, fork_free, no_two_sends}
use Rattle.fst_buffered.specs.Channels.{Message, Channel, Config, entries, seen, side_residual, IsWhole, HasRoom, IsNext, further, extended, after_put, placed, opened, core}
use Rattle.fst_buffered.specs.Events.{Occurrence, local, new, fork, put, takes, path_of, Asks, Does}
use Rattle.fst_buffered.specs.Wrong.{IsRight}
use Rattle.fst_buffered.specs.Diamond.{BufferedDiamond}
use Rattle.fst_buffered.proofs.ChannelLaws.{either_side, opposite_after, same_history, whole_view}
use Rattle.fst_buffered.proofs.Effects.{Effect, affected, changed, Has, Keeps, does_has, has_does, stays}
use Rattle.fst_buffered.proofs.Least.{does_one}
use Rattle.fst_buffered.proofs.Rights.{right_allowed, right_one}
use Rattle.fst_buffered.proofs.Updates.{no_channel}

-- ---- one channel

-- how much a side has seen doesn't change where the other one goes on
seen_apart : (s : Side) (k : Channel) → seen s (further (opposite s) k) ≡ seen s k
seen_apart Left k = refl
seen_apart Right k = refl

seen_more : (s : Side) (k : Channel) → seen s (further s k) ≡ suc (seen s k)
seen_more Left k = refl
seen_more Right k = refl

seen_put : (s : Side) (k : Channel) (e : Message) → seen s (extended k e) ≡ seen s k
seen_put Left k e = refl
seen_put Right k e = refl

module _ (s : Side) (k : Channel) where
  -- a view stays whole where the other side takes something
  whole_stays : IsWhole s k → IsWhole s (further (opposite s) k)
  whole_stays w = seen_apart s k ∙ w ∙ ap length (sym (same_history (opposite s) k))

  -- and there is more room
  room_stays : (capacity : ℕ) → HasRoom capacity s k → HasRoom capacity s (further (opposite s) k)
  room_stays capacity r =
      let h = ap length (same_history (opposite s) k) in
      let n = seen_more (opposite s) k in
      omega (arith, r, h, n)

  -- what is next stays so where the other side puts something in
  next_put : (ev : Event) (e : Message) → IsNext s k e → IsNext s (after_put (opposite s) ev k) e
  next_put ev e n =
      let d : Message = record { side = opposite s; event = ev } in
      let j = extended k d in
      (λ i. slice_get (same_history (opposite s) j i) ((seen_apart s j ∙ seen_put s k d) i)) ∙ get-kept k.history d e (seen s k) n

  -- or takes something
  next_taken : (e : Message) → IsNext s k e → IsNext s (further (opposite s) k) e
  next_taken e n = (λ i. slice_get (same_history (opposite s) k i) (seen_apart s k i)) ∙ n

-- the order in which the two sides put something in and take something doesn't matter
put_take : (s : Side) (ev : Event) (k : Channel) →
    after_put (opposite s) ev (further s k) ≡ further s (after_put (opposite s) ev k)
put_take Left ev k = refl
put_take Right ev k = refl

take_take : (s : Side) (k : Channel) → further (opposite s) (further s k) ≡ further s (further (opposite s) k)
take_take Left k = refl
take_take Right k = refl

-- ---- a configuration

module _ (m : Program) (types : List Tree) (capacity : ℕ) (c : Config) (right : IsRight m c) (makers : HasMakers (core c))
    (parents : HasParents (core c)) where
  -- the name of the next channel is free
  free_name : (p : Path) (t : Task) → c.tasks p ≡ Some t → c.channels (channel_name p t.made) ≡ None
  free_name p t e = no_channel (c.channels (channel_name p t.made)) (new_free (core c) p t makers e)

  -- how something is done at an end: by a put or by a take, which changes its channel so
  data Way (p : Path) (x : EndName) (k : Channel) (f : Channel → Channel) : Type 0 where
    puts : (t : Task) (ev : Event) → Asks m c p t (request.Put x ev) → IsWhole x.side k → f ≡ after_put x.side ev → Way p x k f
    gets : (t : Task) → Asks m c p t (request.Get x) → f ≡ further x.side → Way p x k f

  -- what it asks at this end
  record AsksAt (p : Path) (x : EndName) : Type 0 where
    task : Task
    asked : Request
    asks : Asks m c p task asked
    at : end_of asked ≡ Some x

  asks_at : (p : Path) (x : EndName) (k : Channel) (f : Channel → Channel) → Way p x k f → AsksAt p x
  asks_at p x k f (puts t ev a w e) = record { task = t; asked = request.Put x ev; asks = a; at = refl }
  asks_at p x k f (gets t a e) = record { task = t; asked = request.Get x; asks = a; at = refl }

  -- tasks with different paths ask at different ends, so where these are of one channel, at its two sides
  sides_apart : (p q : Path) (y x : EndName) → (p ≡ q → ⊥) → AsksAt p y → AsksAt q x → y.channel ≡ x.channel →
      y.side ≡ opposite x.side
  sides_apart p q y x n a b e = go (either_side y.side x.side)
    where
      go : (y.side ≡ x.side) ⊎ (y.side ≡ opposite x.side) → y.side ≡ opposite x.side
      go (inr s) = s
      go (inl s) =
          let same : y ≡ x = λ i. record { channel = e i; side = s i } in
          absurd (n (right_one m c right p q a.task b.task a.asked b.asked x a.asks b.asks
          (subst (λ z. end_of a.asked ≡ Some z) same a.at) b.at))

  -- the residual of a side whose view is whole is what the history leaves
  whole_residual : (x : EndName) (k : Channel) (s : Tree) → c.channels x.channel ≡ Some k → IsWhole x.side k →
      option_and_then (side_residual x.side) (c.channels x.channel) ≡ Some s →
      after_history (side_type x.side k.declared) (entries k.history) ≡ Some s
  whole_residual x k s there w r =
      ap (λ h. after_history (side_type x.side k.declared) (entries h)) (sym (whole_view x.side k w))
      ∙ sym (ap (option_and_then (side_residual x.side)) there) ∙ r

  -- no two sides put something in whose views are whole
  one_puts : (p q : Path) (t u : Task) (y x : EndName) (ew ev : Event) (k : Channel) → Asks m c p t (request.Put y ew) →
      Asks m c q u (request.Put x ev) → c.channels x.channel ≡ Some k → y.channel ≡ x.channel → y.side ≡ opposite x.side →
      IsWhole y.side k → IsWhole x.side k → ⊥
  one_puts p q t u y x ew ev k f g there same apart w v =
      let a = right_allowed m c right p t (request.Put y ew) f in
      let b = right_allowed m c right q u (request.Put x ev) g in
      let here = whole_residual x k b.0 there v b.2 in
      let other = whole_residual y k a.0 (ap c.channels same ∙ there) w a.2 in
      let dual_is : a.0 ≡ dual b.0 = same_Some a.0 (dual b.0) (sym other
      ∙ ap (λ s. after_history (side_type s k.declared) (entries k.history)) apart
      ∙ opposite_after x.side k.declared (entries k.history) ∙ ap (option_map dual) here) in
      no_two_sends b.0 b.1 a.1 ev ew b.3 (subst (λ z. step z (sending ew) ≡ Some a.1) dual_is a.3)

  -- ---- what an effect is at a channel

  -- the channel is a new one
  record Opens (e : Occurrence) (v : Effect) (h : ChannelName) : Type 0 where
    task : Task
    there : c.tasks (path_of e) ≡ Some task
    named : channel_name (path_of e) task.made ≡ h

  -- something is put in or taken there
  record Uses (e : Occurrence) (v : Effect) (h : ChannelName) : Type 0 where
    change : Channel → Channel
    is : (o : Option Channel) → v.channels h o ≡ option_map change o
    end : EndName
    named : end.channel ≡ h
    channel : Channel
    there : c.channels h ≡ Some channel
    way : Way (path_of e) end channel change

  -- it stays as it is, is new, or something is put in or taken there
  abbrev Touches : Occurrence → Effect → ChannelName → Type 0
  Touches e v h = ((o : Option Channel) → v.channels h o ≡ o) ⊎ (Opens e v h ⊎ Uses e v h)

  used_or_not : (e : Occurrence) (v : Effect) (x : EndName) (h : ChannelName) (k : Channel) (f : Channel → Channel) →
      ((o : Option Channel) → v.channels h o ≡ changed (same_channel x.channel h) f o) → c.channels x.channel ≡ Some k →
      Way (path_of e) x k f → Touches e v h
  used_or_not e v x h k f is there way = go (same_channel x.channel h) refl
    where
      go : (b : Bool) → same_channel x.channel h ≡ b → Touches e v h
      go false s = inl (λ o. is o ∙ ap (λ b. changed b f o) s)
      go true s = let q = same_channel-same x.channel h s in inr (inr (record {
        change = f;
        is = λ o. is o ∙ ap (λ b. changed b f o) s;
        end = x;
        named = q;
        channel = k;
        there = ap c.channels (sym q) ∙ there;
        way = way;
      }))

  touches : (e : Occurrence) (v : Effect) → Has m types capacity c e v → (h : ChannelName) → Touches e v h
  touches (local p) v d h = inl (λ o. ap (λ (z : Effect). z.channels h o) d.4)
  touches (fork p) v d h = inl (λ o. ap (λ (z : Effect). z.channels h o) d.6)
  touches (new p) v d h = go (same_channel (channel_name p d.0.made) h) refl
    where
      go : (b : Bool) → same_channel (channel_name p d.0.made) h ≡ b → Touches (new p) v h
      go false s = inl (λ o. ap (λ (z : Effect). z.channels h o) d.7 ∙ ap (λ b. placed b (opened d.3) o) s)
      go true s = inr (inl (record {
        task = d.0;
        there = d.4.0;
        named = same_channel-same (channel_name p d.0.made) h s;
      }))
  touches (put p x ev) v d h =
      used_or_not (put p x ev) v x h d.2 (after_put x.side ev) (λ o. ap (λ (z : Effect). z.channels h o) d.8) d.4
      (puts d.0 ev d.3 d.5 refl)
  touches (takes p x ev) v d h =
      used_or_not (takes p x ev) v x h d.2 (further x.side) (λ o. ap (λ (z : Effect). z.channels h o) d.9) d.5
      (gets d.0 d.4 refl)

  -- a channel that is there isn't new
  not_new : (e : Occurrence) (v : Effect) (h : ChannelName) (k : Channel) → Opens e v h → c.channels h ≡ Some k → ⊥
  not_new e v h k o there =
      none-some k (sym (ap c.channels (sym o.named) ∙ free_name (path_of e) o.task o.there) ∙ there)

  module _ (a b : Occurrence) (v w : Effect) (da : Has m types capacity c a v) (db : Has m types capacity c b w)
      (apart : path_of a ≡ path_of b → ⊥) where
    -- ---- the channels

    -- two that use one channel do so at its two sides
    of_sides : (h : ChannelName) (r : Uses a v h) (s : Uses b w h) → r.end.side ≡ opposite s.end.side
    of_sides h r s = sides_apart (path_of a) (path_of b) r.end s.end apart
        (asks_at (path_of a) r.end r.channel r.change r.way) (asks_at (path_of b) s.end s.channel s.change s.way)
        (r.named ∙ sym s.named)

    -- both orders change a channel alike
    same_change : (h : ChannelName) (k : Channel) (y x : EndName) (f g : Channel → Channel) → y.channel ≡ h → x.channel ≡ h →
        c.channels h ≡ Some k → y.side ≡ opposite x.side → Way (path_of a) y k f → Way (path_of b) x k g →
        f (g k) ≡ g (f k)
    same_change h k y x f g i j there s (puts t ew r u e) (puts t' ev r' u' e') =
        absurd (one_puts (path_of a) (path_of b) t t' y x ew ev k r r' (ap c.channels j ∙ there) (i ∙ sym j) s u u')
    same_change h k y x f g i j there s (puts t ew r u e) (gets t' r' e') =
        (λ n. (e ∙ ap (λ z. after_put z ew) s) n (e' n k)) ∙ put_take x.side ew k
        ∙ sym (λ n. e' n ((e ∙ ap (λ z. after_put z ew) s) n k))
    same_change h k y x f g i j there s (gets t r e) (puts t' ev r' u' e') =
        let o : x.side ≡ opposite y.side = sym (opposite_back x.side) ∙ ap opposite (sym s) in
        (λ n. e n ((e' ∙ ap (λ z. after_put z ev) o) n k)) ∙ sym (put_take y.side ev k)
        ∙ sym (λ n. (e' ∙ ap (λ z. after_put z ev) o) n (e n k))
      where
        opposite_back : (z : Side) → opposite (opposite z) ≡ z
        opposite_back Left = refl
        opposite_back Right = refl
    same_change h k y x f g i j there s (gets t r e) (gets t' r' e') =
        (λ n. (e ∙ ap further s) n (e' n k)) ∙ take_take x.side k ∙ sym (λ n. e' n ((e ∙ ap further s) n k))

    same_channels : (h : ChannelName) → v.channels h (w.channels h (c.channels h)) ≡ w.channels h (v.channels h (c.channels h))
    same_channels h = go (touches a v da h) (touches b w db h)
      where
        go : Touches a v h → Touches b w h → v.channels h (w.channels h (c.channels h)) ≡ w.channels h
            (v.channels h (c.channels h))
        go (inl i) s = i (w.channels h (c.channels h)) ∙ ap (w.channels h) (sym (i (c.channels h)))
        go (inr r) (inl j) = ap (v.channels h) (j (c.channels h)) ∙ sym (j (v.channels h (c.channels h)))
        go (inr (inl r)) (inr (inl s)) = absurd (apart (ap (λ (z : ChannelName). z.maker) (r.named ∙ sym s.named)))
        go (inr (inl r)) (inr (inr s)) = absurd (not_new a v h s.channel r s.there)
        go (inr (inr r)) (inr (inl s)) = absurd (not_new b w h r.channel s r.there)
        go (inr (inr r)) (inr (inr s)) =
            let one : s.channel ≡ r.channel = same_Some s.channel r.channel (sym s.there ∙ r.there) in
            let both = same_change h r.channel r.end s.end r.change s.change r.named s.named r.there (of_sides h r s) r.way
            (subst (λ z. Way (path_of b) s.end z s.change) one s.way) in
            r.is (w.channels h (c.channels h)) ∙ ap (option_map r.change) (s.is (c.channels h))
            ∙ ap (λ o. option_map r.change (option_map s.change o)) r.there ∙ ap Some both
            ∙ sym (s.is (v.channels h (c.channels h)) ∙ ap (option_map s.change) (r.is (c.channels h))
            ∙ ap (λ o. option_map s.change (option_map r.change o)) r.there)

  -- ---- the tasks

  -- the task that does something is there
  doer : (e : Occurrence) (v : Effect) → Has m types capacity c e v → (t : Task) × (c.tasks (path_of e) ≡ Some t)
  doer (local p) v d = (d.0, d.2.0)
  doer (new p) v d = (d.0, d.4.0)
  doer (fork p) v d = (d.0, d.3.0)
  doer (put p x ev) v d = (d.0, d.3.0)
  doer (takes p x ev) v d = (d.0, d.4.0)

  -- the path is that of the task that is made
  abbrev Makes : Occurrence → Path → Type 0
  Makes e o = (t : Task) × (c.tasks (path_of e) ≡ Some t) × (child_path (path_of e) t.forked ≡ o)

  test_none : {X : Type 0} (b : Bool) (x : X) (P : Type 0) → (b ≡ true → P) → ((if b then Some x else None) ≡ None) ⊎ P
  test_none true x P f = inr (f refl)
  test_none false x P f = inl refl

  own_task : (p o : Path) (u : Task) (P : Type 0) → (task_at p u o ≡ None) ⊎ ((p ≡ o) ⊎ P)
  own_task p o u P = test_none (same_path p o) u ((p ≡ o) ⊎ P) (λ s. inl (same_path-same p o s))

  either_task : (a b : Option Task) (P : Type 0) → (a ≡ None) ⊎ P → (b ≡ None) ⊎ P → (over a b ≡ None) ⊎ P
  either_task a b P (inr f) g = inr f
  either_task a b P (inl f) (inr g) = inr g
  either_task a b P (inl f) (inl g) = inl (ap (λ z. over z b) f ∙ g)

  -- what is written is the task that does it, and the one that it makes
  tasks_at : (e : Occurrence) (v : Effect) → Has m types capacity c e v → (o : Path) →
      (v.tasks o ≡ None) ⊎ ((path_of e ≡ o) ⊎ Makes e o)
  tasks_at (local p) v d o = subst (λ (z : Effect). (z.tasks o ≡ None) ⊎ ((p ≡ o) ⊎ Makes (local p) o)) (sym d.4)
      (own_task p o _ _)
  tasks_at (new p) v d o = subst (λ (z : Effect). (z.tasks o ≡ None) ⊎ ((p ≡ o) ⊎ Makes (new p) o)) (sym d.7) (own_task p o _ _)
  tasks_at (fork p) v d o = subst (λ (z : Effect). (z.tasks o ≡ None) ⊎ ((p ≡ o) ⊎ Makes (fork p) o)) (sym d.6)
      (either_task _ _ _
      (test_none (same_path (child_path p d.0.forked) o) _ ((p ≡ o) ⊎ Makes (fork p) o)
      (λ s. inr (d.0, d.3.0, same_path-same (child_path p d.0.forked) o s)))
      (own_task p o _ _))
  tasks_at (put p x ev) v d o = subst (λ (z : Effect). (z.tasks o ≡ None) ⊎ ((p ≡ o) ⊎ Makes (put p x ev) o)) (sym d.8)
      (own_task p o _ _)
  tasks_at (takes p x ev) v d o = subst (λ (z : Effect). (z.tasks o ≡ None) ⊎ ((p ≡ o) ⊎ Makes (takes p x ev) o)) (sym d.9)
      (own_task p o _ _)

  -- no task is there before it is made
  no_child : (e : Occurrence) (o : Path) (t : Task) → Makes e o → c.tasks o ≡ Some t → ⊥
  no_child e o t f g = none-some t (sym (fork_free (core c) (path_of e) f.0 parents f.1) ∙ ap c.tasks f.2 ∙ g)

  module _ (a b : Occurrence) (v w : Effect) (da : Has m types capacity c a v) (db : Has m types capacity c b w)
      (apart : path_of a ≡ path_of b → ⊥) where
    -- a task is written by one of both
    tasks_apart : (o : Path) → (v.tasks o ≡ None) ⊎ (w.tasks o ≡ None)
    tasks_apart o = go (tasks_at a v da o) (tasks_at b w db o)
      where
        go : (v.tasks o ≡ None) ⊎ ((path_of a ≡ o) ⊎ Makes a o) → (w.tasks o ≡ None) ⊎ ((path_of b ≡ o) ⊎ Makes b o) →
            (v.tasks o ≡ None) ⊎ (w.tasks o ≡ None)
        go (inl n) s = inl n
        go (inr r) (inl n) = inr n
        go (inr (inl r)) (inr (inl s)) = absurd (apart (r ∙ sym s))
        go (inr (inl r)) (inr (inr s)) = let t = doer a v da in absurd (no_child b o t.0 s (ap c.tasks (sym r) ∙ t.1))
        go (inr (inr r)) (inr (inl s)) = let t = doer b w db in absurd (no_child a o t.0 r (ap c.tasks (sym s) ∙ t.1))
        go (inr (inr r)) (inr (inr s)) = absurd (apart (one_parent (path_of a) (path_of b) r.0.forked s.0.forked
            (r.2 ∙ sym s.2)).0)

    -- the first one leaves the other's task as it is
    other_task : v.tasks (path_of b) ≡ None
    other_task = go (tasks_at a v da (path_of b))
      where
        go : (v.tasks (path_of b) ≡ None) ⊎ ((path_of a ≡ path_of b) ⊎ Makes a (path_of b)) → v.tasks (path_of b) ≡ None
        go (inl n) = n
        go (inr (inl r)) = absurd (apart r)
        go (inr (inr r)) = let t = doer b w db in absurd (no_child a (path_of b) t.0 r t.1)

    -- and its channel such that it is still possible
    keeps_put : (q : Path) (x : EndName) (ev : Event) (t : Task) (k : Channel) → path_of b ≡ q →
        Asks m c q t (request.Put x ev) → c.channels x.channel ≡ Some k → IsWhole x.side k → HasRoom capacity x.side k →
        Touches a v x.channel →
        (j : Channel) × (v.channels x.channel (Some k) ≡ Some j) × IsWhole x.side j × HasRoom capacity x.side j
    keeps_put q x ev t k e asks there whole room (inl i) = (k, i (Some k), whole, room)
    keeps_put q x ev t k e asks there whole room (inr (inl r)) = absurd (not_new a v x.channel k r there)
    keeps_put q x ev t k e asks there whole room (inr (inr r)) = by r.change r.is r.way
      where
        side : AsksAt (path_of a) r.end → r.end.side ≡ opposite x.side
        side s = sides_apart (path_of a) q r.end x (λ n. apart (n ∙ sym e)) s
            (record { task = t; asked = request.Put x ev; asks = asks; at = refl }) r.named

        by : (f : Channel → Channel) → ((o : Option Channel) → v.channels x.channel o ≡ option_map f o) →
            Way (path_of a) r.end r.channel f →
            (j : Channel) × (v.channels x.channel (Some k) ≡ Some j) × IsWhole x.side j × HasRoom capacity x.side j
        by f is (puts u ew g w n) =
            absurd (one_puts (path_of a) q u t r.end x ew ev k g asks there r.named
            (side (record { task = u; asked = request.Put r.end ew; asks = g; at = refl }))
            (subst (IsWhole r.end.side) (same_Some r.channel k (sym r.there ∙ there)) w) whole)
        by f is (gets u g n) =
            let s = side (record { task = u; asked = request.Get r.end; asks = g; at = refl }) in (
              further (opposite x.side) k,
              is (Some k) ∙ ap (λ z. Some (z k)) (n ∙ ap further s),
              whole_stays x.side k whole,
              room_stays x.side k capacity room,
            )

    keeps_take : (q : Path) (x : EndName) (t : Task) (k : Channel) (d : Message) → path_of b ≡ q →
        Asks m c q t (request.Get x) → c.channels x.channel ≡ Some k → IsNext x.side k d → Touches a v x.channel →
        (j : Channel) × (v.channels x.channel (Some k) ≡ Some j) × IsNext x.side j d
    keeps_take q x t k d e asks there next (inl i) = (k, i (Some k), next)
    keeps_take q x t k d e asks there next (inr (inl r)) = absurd (not_new a v x.channel k r there)
    keeps_take q x t k d e asks there next (inr (inr r)) = by r.change r.is r.way
      where
        side : AsksAt (path_of a) r.end → r.end.side ≡ opposite x.side
        side s = sides_apart (path_of a) q r.end x (λ n. apart (n ∙ sym e)) s
            (record { task = t; asked = request.Get x; asks = asks; at = refl }) r.named

        by : (f : Channel → Channel) → ((o : Option Channel) → v.channels x.channel o ≡ option_map f o) →
            Way (path_of a) r.end r.channel f →
            (j : Channel) × (v.channels x.channel (Some k) ≡ Some j) × IsNext x.side j d
        by f is (puts u ew g w n) =
            let s = side (record { task = u; asked = request.Put r.end ew; asks = g; at = refl }) in (
              after_put (opposite x.side) ew k,
              is (Some k) ∙ ap (λ z. Some (z k)) (n ∙ ap (λ z. after_put z ew) s),
              next_put x.side k ew d next,
            )
        by f is (gets u g n) =
            let s = side (record { task = u; asked = request.Get r.end; asks = g; at = refl }) in (
              further (opposite x.side) k,
              is (Some k) ∙ ap (λ z. Some (z k)) (n ∙ ap further s),
              next_taken x.side k d next,
            )

  keeps : (a b : Occurrence) (v w : Effect) → Has m types capacity c a v → Has m types capacity c b w →
      (path_of a ≡ path_of b → ⊥) → Keeps m types capacity c b v
  keeps a (local q) v w da db n = tt
  keeps a (new q) v w da db n = tt
  keeps a (fork q) v w da db n = tt
  keeps a (put q x ev) v w da db n = λ k there whole room.
      keeps_put a (put q x ev) v w da db n q x ev db.0 k refl db.3 there whole room (touches a v da x.channel)
  keeps a (takes q x ev) v w da db n = λ k d there next.
      keeps_take a (takes q x ev) v w da db n q x db.0 k d refl db.4 there next (touches a v da x.channel)

  -- where not both write, the order of writing doesn't matter
  swap : {X : Type 0} (a b o : Option X) → (a ≡ None) ⊎ (b ≡ None) → over b (over a o) ≡ over a (over b o)
  swap None b o h = refl
  swap (Some x) None o h = refl
  swap (Some x) (Some y) o (inl e) = absurd (none-some x (sym e))
  swap (Some x) (Some y) o (inr e) = absurd (none-some y (sym e))

  -- two things that different tasks do commute
  effects_commute : (a b : Occurrence) (v w : Effect) → Has m types capacity c a v → Has m types capacity c b w →
      (path_of a ≡ path_of b → ⊥) → (z : Config) × Does m types capacity (affected c v) b z ×
      Does m types capacity (affected c w) a z
  effects_commute a b v w da db n =
      let back : path_of b ≡ path_of a → ⊥ = λ e. n (sym e) in
      let first = has_does m types capacity (affected c v) b w
      (stays m types capacity c v b w db (other_task a b v w da db n) (keeps a b v w da db n)) in
      let second = has_does m types capacity (affected c w) a v
      (stays m types capacity c w a v da (other_task b a w v db da back) (keeps b a w v db da back)) in
      let same : affected (affected c w) v ≡ affected (affected c v) w = λ i. record {
        tasks = λ o. sym (swap (v.tasks o) (w.tasks o) (c.tasks o) (tasks_apart a b v w da db n o)) i;
        channels = λ h. same_channels a b v w da db n h i;
      } in
      (affected (affected c v) w, first, subst (Does m types capacity (affected c w) a) same second)

-- two different things that are possible commute
pub commute : BufferedDiamond
commute m types capacity c right makers parents a b d e f g n =
    let (v, da, q) = does_has m types capacity c d a f in
    let (w, db, r) = does_has m types capacity c e b g in
    let apart : path_of a ≡ path_of b → ⊥ = λ s. n (does_one m types capacity c a b d e f g s).0 in
    let z = effects_commute m types capacity c right makers parents a b v w da db apart in
    (z.0, subst (λ x. Does m types capacity x b z.0) (sym q) z.1, subst (λ x. Does m types capacity x a z.0) (sym r) z.2)
