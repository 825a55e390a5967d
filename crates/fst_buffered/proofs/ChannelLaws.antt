-- What a channel keeps that is used as it says, where a side puts something in or takes something.
use Rattle.std.proofs.Common.{◌≡◌, ◌∙◌, ◌⊎◌, inl, inr, ℕ, zero, suc, ◌+◌, ◌≤◌, List, [], ◌∷◌, ◌++◌, length, length-append, Option, Some, None, refl, sym, ap, subst, arith}
use Rattle.std.specs.Prelude.{option_map, option_and_then, slice_get, take}
use Rattle.std.proofs.lemmas.List.{append_assoc, take_at, take_all, take-append-le}
use Rattle.std.proofs.lemmas.Option.{none-some, same_Some, slice_get_past}
use Rattle.fst_types.specs.Tree.{Tree}
use Rattle.fst_types.specs.declared.side.Side.{Side}
use Rattle.fst_types.specs.declared.side.Side.TheVariants.{Left, Right}
use Rattle.fst_kinds.specs.WellFormed.{IsSession}
use Rattle.fst_lts.specs.Step.{step}
use Rattle.fst_lts.specs.Dual.{dual}
use Rattle.fst_lts.specs.Histories.{sending, receiving, after_event, after_history, side_type, opposite}
use Rattle.fst_lts.proofs.Laws.{dual-dual, after_sent, after_history-dual, dual_receives, dual_session}
use Rattle.fst_types.specs.declared.event.Entry.{Entry}
use Rattle.fst_types.specs.declared.event.Event.{Event}
use Rattle.fst_safety.proofs.Laws.{session_step}
use Rattle.fst_buffered.specs.Channels.{Message, Channel, entry, entries, seen, view, side_residual, IsWhole, IsNext, further, extended, after_put}
use Rattle.fst_buffered.specs.Use.{Sends, IsUsed}

-- ---- sides

-- a side is this one or the opposite one
pub either_side : (s a : Side) → (s ≡ a) ⊎ (s ≡ opposite a)
either_side Left Left = inl refl
either_side Left Right = inr refl
either_side Right Left = inr refl
either_side Right Right = inl refl

pub opposite_twice : (s : Side) → opposite (opposite s) ≡ s
opposite_twice Left = refl
opposite_twice Right = refl

seen_further : (s : Side) (k : Channel) → seen s (further s k) ≡ suc (seen s k)
seen_further Left k = refl
seen_further Right k = refl

other_further : (s : Side) (k : Channel) → seen (opposite s) (further s k) ≡ seen (opposite s) k
other_further Left k = refl
other_further Right k = refl

pub same_history : (s : Side) (k : Channel) → (further s k).history ≡ k.history
same_history Left k = refl
same_history Right k = refl

same_declared : (s : Side) (k : Channel) → (further s k).declared ≡ k.declared
same_declared Left k = refl
same_declared Right k = refl

seen_extended : (s : Side) (k : Channel) (e : Message) → seen s (extended k e) ≡ seen s k
seen_extended Left k e = refl
seen_extended Right k e = refl

-- ---- histories

pub entries-append : (g h : List Message) → entries (g ++ h) ≡ entries g ++ entries h
entries-append [] h = refl
entries-append (e ∷ g) h = ap (λ z. entry e ∷ z) (entries-append g h)

-- the type after two histories
after-append : (t : Tree) (g h : List Entry) → after_history t (g ++ h) ≡ option_and_then
    (λ y. after_history y h) (after_history t g)
after-append t [] h = refl
after-append t (d ∷ g) h = go (after_event t d.event) (λ y. after-append y g h)
  where
    go : (o : Option Tree) → ((y : Tree) → after_history y (g ++ h) ≡ option_and_then
        (λ z. after_history z h) (after_history y g)) →
        option_and_then (λ y. after_history y (g ++ h)) o ≡ option_and_then
        (λ z. after_history z h) (option_and_then (λ y. after_history y g) o)
    go None f = refl
    go (Some y) f = f y

-- the type after what was put in, first these and then those
then_after : (t s : Tree) (g h : List Message) → after_history t (entries g) ≡ Some s →
    after_history t (entries (g ++ h)) ≡ after_history s (entries h)
then_after t s g h e =
    ap (after_history t) (entries-append g h) ∙ after-append t (entries g) (entries h)
    ∙ ap (option_and_then (λ y. after_history y (entries h))) e

-- the type after one more
one_after : (t s u : Tree) (g : List Message) (e : Message) → after_history t (entries g) ≡ Some s →
    step s (sending e.event) ≡ Some u → after_history t (entries (g ++ e ∷ [])) ≡ Some u
one_after t s u g e h f =
    then_after t s g (e ∷ []) h ∙ ap (option_and_then (λ y. after_history y [])) (after_sent s u e.event f)

-- the other side's type after a history is the dual
pub opposite_after : (s : Side) (d : Tree) (h : List Entry) →
    after_history (side_type (opposite s) d) h ≡ option_map dual (after_history (side_type s d) h)
opposite_after Left d h = after_history-dual d h
opposite_after Right d h = ap (λ t. after_history t h) (sym (dual-dual d)) ∙ after_history-dual (dual d) h

-- ---- what one side has put in

-- with it the type goes on
sends_after : (a : Side) (s t : Tree) (es : List Message) → Sends a s es t → after_history s (entries es) ≡ Some t
sends_after a s t [] h = ap Some (sym h)
sends_after a s t (e ∷ es) h =
    ap (option_and_then (λ y. after_history y (entries es))) (after_sent s h.1 e.event h.2) ∙ sends_after a h.1 t es h.3

sends_session : (a : Side) (s t : Tree) (es : List Message) → Sends a s es t → IsSession [] s → IsSession [] t
sends_session a s t [] h w = subst (IsSession []) (sym h) w
sends_session a s t (e ∷ es) h w = sends_session a h.1 t es h.3 (session_step s h.1 (sending e.event) w h.2)

sends_more : (a : Side) (s t u : Tree) (es : List Message) (e : Message) → Sends a s es t → e.side ≡ a →
    step t (sending e.event) ≡ Some u → Sends a s (es ++ e ∷ []) u
sends_more a s t u [] e h f g = (f, u, subst (λ z. step z (sending e.event) ≡ Some u) h g, refl)
sends_more a s t u (d ∷ es) e h f g = (h.0, h.1, h.2, sends_more a h.1 t u es e h.3 f g)

-- ---- a channel that is used as it says

at-append : (b r : List Message) → slice_get (b ++ r) (length b) ≡ slice_get r zero
at-append [] r = refl
at-append (x ∷ b) r = at-append b r

first_is : (r : List Message) (e : Message) → slice_get r zero ≡ Some e → (rest : List Message) × (r ≡ e ∷ rest)
first_is [] e q = absurd (none-some e q)
first_is (x ∷ r) e q = (r, λ i. same_Some x e q i ∷ r)

-- a side's view that is the whole history
pub whole_view : (s : Side) (k : Channel) → IsWhole s k → view s k ≡ k.history
whole_view s k w = take_all (seen s k) k.history (least (length k.history) (seen s k) w)
  where
    least : (m n : ℕ) → n ≡ m → m ≤ n
    least m n q = omega (arith, q)

-- the residual of the side that is behind
behind_is : (k : Channel) (a : Side) (both rest : List Message) (now : Tree) → k.history ≡ both ++ rest →
    seen (opposite a) k ≡ length both →
    after_history (side_type a k.declared) (entries both) ≡ Some now → side_residual (opposite a) k ≡ Some (dual now)
behind_is k a both rest now is behind comes =
    ap (λ h. after_history (side_type (opposite a) k.declared) (entries h))
    (ap (take (seen (opposite a) k)) is ∙ take_at both rest (seen (opposite a) k) (sym behind))
    ∙ opposite_after a k.declared (entries both) ∙ ap (option_map dual) comes

module _ (k : Channel) (u : IsUsed k) where
  -- the residual of the side that is ahead
  ahead_residual : side_residual u.ahead k ≡ Some u.next
  ahead_residual =
      ap (λ h. after_history (side_type u.ahead k.declared) (entries h)) (whole_view u.ahead k u.whole ∙ u.is)
      ∙ then_after (side_type u.ahead k.declared) u.now u.both u.rest u.comes ∙ sends_after u.ahead u.now u.next u.rest u.sends

  -- and of the other one
  behind_residual : side_residual (opposite u.ahead) k ≡ Some (dual u.now)
  behind_residual = behind_is k u.ahead u.both u.rest u.now u.is u.behind u.comes

  -- no side's view is longer than the history
  pub few_seen : (s : Side) → seen s k ≤ length k.history
  few_seen s = go (either_side s u.ahead)
    where
      same : (m n : ℕ) → m ≡ n → m ≤ n
      same m n q = omega (arith, q)

      less : (m n r l : ℕ) → m ≡ n → l ≡ n + r → m ≤ l
      less m n r l q p = omega (arith, q, p)

      go : (s ≡ u.ahead) ⊎ (s ≡ opposite u.ahead) → seen s k ≤ length k.history
      go (inl e) = same (seen s k) (length k.history) (ap (λ z. seen z k) e ∙ u.whole)
      go (inr e) =
          less (seen s k) (length u.both) (length u.rest) (length k.history) (ap (λ z. seen z k) e ∙ u.behind)
          (ap length u.is ∙ length-append u.both u.rest)

  -- the history is a trace of the declared type
  pub used_trace : (t : Tree) × (after_history k.declared (entries k.history) ≡ Some t)
  used_trace = go u.ahead (ap (λ h. after_history (side_type u.ahead k.declared) (entries h)) (sym (whole_view u.ahead k u.whole))
      ∙ ahead_residual)
    where
      go : (a : Side) → after_history (side_type a k.declared) (entries k.history) ≡ Some u.next → (t : Tree) ×
          (after_history k.declared (entries k.history) ≡ Some t)
      go Left e = (u.next, e)
      go Right e = (dual u.next, opposite_after Right k.declared (entries k.history) ∙ ap (option_map dual) e)

  -- the side whose view lacks something is behind
  is_behind : (s : Side) (e : Message) → IsNext s k e → s ≡ opposite u.ahead
  is_behind s e n = go (either_side s u.ahead)
    where
      same : (m n : ℕ) → m ≡ n → n ≤ m
      same m n q = omega (arith, q)

      go : (s ≡ u.ahead) ⊎ (s ≡ opposite u.ahead) → s ≡ opposite u.ahead
      go (inr f) = f
      go (inl f) = absurd (none-some e (sym (slice_get_past k.history (seen s k)
          (same (seen s k) (length k.history) (ap (λ z. seen z k) f ∙ u.whole))) ∙ n))

  -- the first entry of what it lacks is the next one
  is_first : (e : Message) → IsNext (opposite u.ahead) k e → (rest : List Message) × (u.rest ≡ e ∷ rest)
  is_first e n =
      first_is u.rest e (sym (at-append u.both u.rest) ∙ (λ i. slice_get (sym u.is i) (sym u.behind i)) ∙ n)

  -- what a side takes the other side has put in
  pub used_others : (s : Side) (e : Message) → IsNext s k e → e.side ≡ opposite s
  used_others s e n =
      let b = is_behind s e n in
      let f = is_first e (subst (λ z. IsNext z k e) b n) in
      (subst (λ r. Sends u.ahead u.now r u.next) f.1 u.sends).0 ∙ sym (opposite_twice u.ahead) ∙ ap opposite (sym b)

-- ---- a side puts something in

module _ (k : Channel) (s : Side) (ev : Event) where
  abbrev message : Message
  message = record { side = s; event = ev }

  abbrev after : Channel
  after = after_put s ev k

  its_history : after.history ≡ k.history ++ message ∷ []
  its_history = same_history s (extended k message)

  its_declared : after.declared ≡ k.declared
  its_declared = same_declared s (extended k message)

  seen_own : seen s after ≡ suc (seen s k)
  seen_own = seen_further s (extended k message) ∙ ap suc (seen_extended s k message)

  seen_other : seen (opposite s) after ≡ seen (opposite s) k
  seen_other = other_further s (extended k message) ∙ seen_extended (opposite s) k message

  one_longer : length after.history ≡ suc (length k.history)
  one_longer = ap length its_history ∙ length-append k.history (message ∷ []) ∙ plus (length k.history)
    where
      plus : (n : ℕ) → n + 1 ≡ suc n
      plus n = omega arith

  still_whole : IsWhole s k → IsWhole s after
  still_whole w = seen_own ∙ ap suc w ∙ sym one_longer

  -- its residual goes on
  pub put_residual : (n t : Tree) → IsWhole s k → side_residual s k ≡ Some n → step n (sending ev) ≡ Some t →
      side_residual s after ≡ Some t
  put_residual n t w e f =
      (λ i. after_history (side_type s (its_declared i)) (entries (whole_view s after (still_whole w) i)))
      ∙ ap (λ h. after_history (side_type s k.declared) (entries h)) its_history
      ∙ one_after (side_type s k.declared) n t k.history message
      (ap (λ h. after_history (side_type s k.declared) (entries h)) (sym (whole_view s k w)) ∙ e) f

  -- that of the other side doesn't
  pub put_other : IsUsed k → side_residual (opposite s) after ≡ side_residual (opposite s) k
  put_other u =
      (λ i. after_history (side_type (opposite s) (its_declared i)) (entries (take (seen_other i) (its_history i))))
      ∙ ap (λ h. after_history (side_type (opposite s) k.declared) (entries h))
      (take-append-le (seen (opposite s) k) k.history (message ∷ []) (few_seen k u (opposite s)))

  -- and the channel is still used as it says
  pub put_used : (n t : Tree) → IsUsed k → IsWhole s k → side_residual s k ≡ Some n → step n (sending ev) ≡ Some t → IsUsed after
  put_used n t u w e f = go (either_side s u.ahead)
    where
      goes_on : s ≡ u.ahead → IsUsed after
      goes_on q = record {
        ahead = u.ahead;
        both = u.both;
        rest = u.rest ++ message ∷ [];
        is = its_history ∙ ap (λ h. h ++ message ∷ []) u.is ∙ append_assoc u.both u.rest (message ∷ []);
        whole = subst (λ z. IsWhole z after) q (still_whole w);
        behind = subst (λ z. seen (opposite z) after ≡ length u.both) q
            (seen_other ∙ subst (λ z. seen (opposite z) k ≡ length u.both) (sym q) u.behind);
        now = u.now;
        next = t;
        comes = ap (λ d. after_history (side_type u.ahead d) (entries u.both)) its_declared ∙ u.comes;
        sends = sends_more u.ahead u.now u.next t u.rest message u.sends q (subst (λ z. step z (sending ev) ≡ Some t) is_next f);
        declared = subst (IsSession []) (sym its_declared) u.declared;
        session = u.session;
      }
        where
          is_next : n ≡ u.next
          is_next = same_Some n u.next (sym e ∙ ap (λ z. side_residual z k) q ∙ ahead_residual k u)

      comes_ahead : s ≡ opposite u.ahead → IsUsed after
      comes_ahead q = record {
        ahead = s;
        both = k.history;
        rest = message ∷ [];
        is = its_history;
        whole = still_whole w;
        behind = seen_other ∙ ap (λ z. seen z k) (ap opposite q ∙ opposite_twice u.ahead) ∙ u.whole;
        now = n;
        next = t;
        comes = ap (λ d. after_history (side_type s d) (entries k.history)) its_declared
            ∙ ap (λ h. after_history (side_type s k.declared) (entries h)) (sym (whole_view s k w)) ∙ e;
        sends = (refl, t, f, refl);
        declared = subst (IsSession []) (sym its_declared) u.declared;
        session = subst (IsSession []) (sym is_now) (dual_session [] u.now u.session);
      }
        where
          is_now : n ≡ dual u.now
          is_now = same_Some n (dual u.now) (sym e ∙ ap (λ z. side_residual z k) q ∙ behind_residual k u)

      go : (s ≡ u.ahead) ⊎ (s ≡ opposite u.ahead) → IsUsed after
      go (inl q) = goes_on q
      go (inr q) = comes_ahead q

-- ---- a side takes something

other_keeps : (s : Side) (k : Channel) → side_residual (opposite s) (further s k) ≡ side_residual (opposite s) k
other_keeps Left k = refl
other_keeps Right k = refl

module _ (k : Channel) (s : Side) (e : Message) (u : IsUsed k) (n : IsNext s k e) where
  it_is_behind : s ≡ opposite u.ahead
  it_is_behind = is_behind k u s e n

  other_is_ahead : opposite s ≡ u.ahead
  other_is_ahead = ap opposite it_is_behind ∙ opposite_twice u.ahead

  abbrev split : (rest : List Message) × (u.rest ≡ e ∷ rest)
  split = is_first k u e (subst (λ z. IsNext z k e) it_is_behind n)

  abbrev sent : Sends u.ahead u.now (e ∷ split.0) u.next
  sent = subst (λ r. Sends u.ahead u.now r u.next) split.1 u.sends

  still_ahead : seen u.ahead (further s k) ≡ length (further s k).history
  still_ahead =
      subst (λ z. seen z (further s k) ≡ length (further s k).history) other_is_ahead
      (other_further s k ∙ ap (λ z. seen z k) other_is_ahead ∙ u.whole ∙ ap length (sym (same_history s k)))

  less_behind : seen (opposite u.ahead) (further s k) ≡ length (u.both ++ e ∷ [])
  less_behind =
      subst (λ z. seen z (further s k) ≡ length (u.both ++ e ∷ [])) it_is_behind
      (seen_further s k ∙ ap suc (ap (λ z. seen z k) it_is_behind ∙ u.behind) ∙ plus (length u.both)
      ∙ sym (length-append u.both (e ∷ [])))
    where
      plus : (m : ℕ) → suc m ≡ m + 1
      plus m = omega arith

  then_is : (further s k).history ≡ (u.both ++ e ∷ []) ++ split.0
  then_is = same_history s k ∙ u.is ∙ ap (λ r. u.both ++ r) split.1 ∙ sym (append_assoc u.both (e ∷ []) split.0)

  then_comes : after_history (side_type u.ahead (further s k).declared) (entries (u.both ++ e ∷ [])) ≡ Some sent.1
  then_comes =
      ap (λ d. after_history (side_type u.ahead d) (entries (u.both ++ e ∷ []))) (same_declared s k)
      ∙ one_after (side_type u.ahead k.declared) u.now sent.1 u.both e u.comes sent.2

  -- the channel is still used as it says
  pub take_used : IsUsed (further s k)
  take_used = record {
    ahead = u.ahead;
    both = u.both ++ e ∷ [];
    rest = split.0;
    is = then_is;
    whole = still_ahead;
    behind = less_behind;
    now = sent.1;
    next = u.next;
    comes = then_comes;
    sends = sent.3;
    declared = subst (IsSession []) (sym (same_declared s k)) u.declared;
    session = session_step u.now sent.1 (sending e.event) u.session sent.2;
  }

  -- its residual receives what it takes, and goes on so
  pub take_residual : (now : Tree) × (next : Tree) × (side_residual s k ≡ Some now) × (step now (receiving e.event) ≡ Some next) ×
      (side_residual s (further s k) ≡ Some next)
  take_residual = (
    dual u.now,
    dual sent.1,
    ap (λ z. side_residual z k) it_is_behind ∙ behind_residual k u,
    dual_receives u.now e.event ∙ ap (option_map dual) sent.2,
    ap (λ z. side_residual z (further s k)) it_is_behind
        ∙ behind_is (further s k) u.ahead (u.both ++ e ∷ []) split.0 sent.1 then_is less_behind then_comes,
  )

  -- that of the other side doesn't
  pub take_other : side_residual (opposite s) (further s k) ≡ side_residual (opposite s) k
  take_other = other_keeps s k
