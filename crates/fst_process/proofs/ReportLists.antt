-- What a report lists is what is there, in order.
use Rattle.std.proofs.Common.{◌≡◌, ◌∙◌, inl, inr, ℕ, zero, suc, ◌+◌, Bool, true, false, List, [], ◌∷◌, ◌++◌, Option, Some, None, map, refl, sym, ap, subst, arith}
use Rattle.std.specs.Prelude.{Contains, option_map, slice_get}
use Rattle.std.specs.Cmp.Lexicographic.{slice_cmp}
use Rattle.std.specs.List.{AllByRecursion}
use Rattle.std.specs.Map.{keys_of, lookup}
use Rattle.std.specs.Ordering.{nat_cmp}
use Rattle.std.specs.declared.cmp.Ordering.TheVariants.{Less}
use Rattle.std.proofs.Common.{cond}
use Rattle.std.proofs.lemmas.List.{map-append}
use Rattle.std.proofs.lemmas.List.Elements.{Contains-append_left, Contains-append_right, Contains-append_cases}
use Rattle.fst_base.proofs.Options.{some_same, none_some}
use Rattle.fst_types.specs.declared.ends.ChannelName.{ChannelName}
use Rattle.fst_types.specs.declared.ends.EndName.{EndName}
use Rattle.fst_types.specs.declared.event.ChannelHistory.{ChannelHistory}
use Rattle.fst_machine.specs.declared.request.Request.{Request}
use Rattle.fst_machine.specs.declared.request.Request.TheVariants.{Step, New, Fork, Put, Get, Ended}
use Rattle.fst_paths.specs.Paths.{AreInOrder, Key, at_path}
use Rattle.fst_paths.specs.ChannelLists.{ChannelLists, named_in, numbered}
use Rattle.fst_paths.proofs.Laws.{apart_behind, at_itself, at_key, in_order, made_else, made_here, none_numbered}
use Rattle.fst_vm.specs.declared.kept.Slot as rust_slot
use Rattle.fst_vm.specs.declared.report.Waiting.{Waiting}
use Rattle.fst_vm.specs.Slot.{Slot}
use Rattle.fst_vm.specs.SlotOf.{Slots, one_waiting, slot_in, slot_of, waiting_in}
use Rattle.fst_runs.specs.Configs as runs
use Rattle.fst_runs.specs.Configs.{Path, channel_name}
use Rattle.fst_runs.specs.Least.{IsBefore}
use Rattle.fst_runs.specs.Order.{AreRising}
use Rattle.fst_process.specs.declared.kept.Channel as rust_channel
use Rattle.fst_process.specs.Kept.{end_of}
use Rattle.fst_process.specs.KeptOf.{Channels, channel_of}
use Rattle.fst_process.specs.Reflects.{bare}
use Rattle.fst_process.specs.Reports.{ComesBefore}
use Rattle.fst_process.specs.Listed.{channels_in, channels_of, histories_in, histories_of, shown}
use Rattle.fst_process.proofs.Rising.{first_or_rest, first_in, rest_in, none_in, rising_both}

-- ---- tasks that wait

-- one that waits does so at the end that is asked for
one_waits : (p : Path) (r : Request) (w : Waiting) → Contains (one_waiting p r) w → (p ≡ w.task) × (end_of r ≡ Some w.end)
one_waits p Step w h = absurd (none_in w h)
one_waits p (New n) w h = absurd (none_in w h)
one_waits p Fork w h = absurd (none_in w h)
one_waits p (Put x ev) w h = elim (first_or_rest (record { task = p; end = x }) [] w h) [
  | inl f ↦ (ap (λ (z : Waiting). z.task) f, ap (λ (z : Waiting). Some z.end) f)
  | inr f ↦ absurd (none_in w f)
]
one_waits p (Get x) w h = elim (first_or_rest (record { task = p; end = x }) [] w h) [
  | inl f ↦ (ap (λ (z : Waiting). z.task) f, ap (λ (z : Waiting). Some z.end) f)
  | inr f ↦ absurd (none_in w f)
]
one_waits p Ended w h = absurd (none_in w h)

-- and what asks at an end waits
waits_one : (p : Path) (r : Request) (x : EndName) → end_of r ≡ Some x → Contains (one_waiting p r) (record { task = p; end = x })
waits_one p Step x e = absurd (none_some e)
waits_one p (New n) x e = absurd (none_some e)
waits_one p Fork x e = absurd (none_some e)
waits_one p (Put y ev) x e =
    subst (λ z. Contains {X = Waiting} (record { task = p; end = y } ∷ []) (record { task = p; end = z })) (some_same e)
    (first_in (record { task = p; end = y }) [])
waits_one p (Get y) x e =
    subst (λ z. Contains {X = Waiting} (record { task = p; end = y } ∷ []) (record { task = p; end = z })) (some_same e)
    (first_in (record { task = p; end = y }) [])
waits_one p Ended x e = absurd (none_some e)

one_rises : (p : Path) (r : Request) → AreRising (λ (v w : Waiting). IsBefore v.task w.task) (one_waiting p r)
one_rises p Step = tt
one_rises p (New n) = tt
one_rises p Fork = tt
one_rises p (Put x ev) = (λ y c. absurd (none_in y c), tt)
one_rises p (Get x) = (λ y c. absurd (none_in y c), tt)
one_rises p Ended = tt

-- what holds of the paths of all keys holds of those of the tasks that wait
waiting_keys : (P : Path → Type 0) (es : Slots) (w : Waiting) → AllByRecursion (λ (k : Key). P k.items) (keys_of es) →
    Contains (waiting_in es) w → P w.task
waiting_keys P [] w a h = absurd (none_in w h)
waiting_keys P (e ∷ es) w a h = elim (Contains-append_cases (one_waiting e.0.items e.1.request) (waiting_in es) w h) [
  | inl b ↦ subst P (one_waits e.0.items e.1.request w b).0 a.0
  | inr b ↦ waiting_keys P es w a.1 b
]

-- the tasks that wait are in the order of their paths
pub waiting_rises : (es : Slots) → AreInOrder es → AreRising (λ (v w : Waiting). IsBefore v.task w.task) (waiting_in es)
waiting_rises [] o = tt
waiting_rises (e ∷ es) o =
    let both = in_order e es o in
    rising_both (λ (v w : Waiting). IsBefore v.task w.task) (one_waiting e.0.items e.1.request) (waiting_in es)
    (one_rises e.0.items e.1.request) (waiting_rises es both.1)
    (λ v w a b. subst (λ q. IsBefore q w.task) (one_waits e.0.items e.1.request v a).0
    (waiting_keys (λ q. IsBefore e.0.items q) es w both.0 b))

-- a task of the first key is found by its path
slot_here : (e : Key × rust_slot.Slot) (es : Slots) (p : Path) → at_path p e.0 ≡ true → slot_in (e ∷ es) p ≡ Some (slot_of e.1)
slot_here e es p f = ap (λ b. option_map slot_of (cond b (Some e.1) (lookup (at_path p) es))) f

slot_else : (e : Key × rust_slot.Slot) (es : Slots) (p : Path) → at_path p e.0 ≡ false → slot_in (e ∷ es) p ≡ slot_in es p
slot_else e es p f = ap (λ b. option_map slot_of (cond b (Some e.1) (lookup (at_path p) es))) f

-- a task that is listed is there, and asks at the end
pub listed_waits : (es : Slots) (p : Path) (x : EndName) → AreInOrder es →
    Contains (waiting_in es) (record { task = p; end = x }) →
    (s : Slot) × (slot_in es p ≡ Some s) × (end_of s.request ≡ Some x)
listed_waits [] p x o h = absurd (none_in (record { task = p; end = x }) h)
listed_waits (e ∷ es) p x o h = elim (Contains-append_cases (one_waiting e.0.items e.1.request) (waiting_in es)
    (record { task = p; end = x }) h) [
      | inl b ↦
          let one = one_waits e.0.items e.1.request (record { task = p; end = x }) b in
          (slot_of e.1, slot_here e es p (ap (λ q. at_path q e.0) (sym one.0) ∙ at_itself e.0), one.1)
      | inr b ↦
          let both = in_order e es o in
          let r = listed_waits es p x both.1 b in
          let less = waiting_keys (λ q. slice_cmp nat_cmp e.0.items q ≡ Less) es (record { task = p; end = x }) both.0 b in
          (r.0, slot_else e es p (apart_behind e.0.items p e.0 refl less) ∙ r.1, r.2)
    ]

-- a task that is there and asks at an end is listed
pub waits_listed : (es : Slots) (p : Path) (x : EndName) (s : Slot) → slot_in es p ≡ Some s → end_of s.request ≡ Some x →
    Contains (waiting_in es) (record { task = p; end = x })
waits_listed [] p x s e f = absurd (none_some e)
waits_listed (e ∷ es) p x s at f = go (λ (a : slot_in es p ≡ Some s). waits_listed es p x s a f) (at_path p e.0) refl
  where
    go : (slot_in es p ≡ Some s → Contains (waiting_in es) (record { task = p; end = x })) → (b : Bool) → at_path p e.0 ≡ b →
        Contains (waiting_in (e ∷ es)) (record { task = p; end = x })
    go rest true g =
        let slot : slot_of e.1 ≡ s = some_same (sym (slot_here e es p g) ∙ at) in
        let end : end_of e.1.request ≡ Some x = ap (λ (z : Slot). end_of z.request) slot ∙ f in
        Contains-append_left (one_waiting e.0.items e.1.request) (waiting_in es) (record { task = p; end = x })
        (subst (λ q. Contains (one_waiting e.0.items e.1.request) (record { task = q; end = x })) (sym (at_key p e.0 g))
        (waits_one e.0.items e.1.request x end))
    go rest false g =
        Contains-append_right (one_waiting e.0.items e.1.request) (waiting_in es) (record { task = p; end = x })
        (rest (sym (slot_else e es p g) ∙ at))

-- ---- channels

module _ {X V : Type 0} (view : X → V) where
  -- the channel at a place in a list of one maker
  placed : (p : Path) (n : ℕ) (js : List X) (g : ChannelName × V) → Contains (channels_of view p n js) g →
      (k : ℕ) × (j : X) × (slice_get js k ≡ Some j) × (g ≡ (channel_name p (k + n), view j))
  placed p n [] g c = absurd (none_in g c)
  placed p n (j ∷ js) g c = elim (first_or_rest (channel_name p n, view j) (channels_of view p (suc n) js) g c) [
    | inl f ↦ (0, j, refl, sym f ∙ ap (λ l. (channel_name p l, view j)) (omega arith))
    | inr f ↦
        let r = placed p (suc n) js g f in
        (suc r.0, r.1, r.2, r.3 ∙ ap (λ l. (channel_name p l, view r.1)) (omega arith))
  ]

  at_place : (p : Path) (n : ℕ) (js : List X) (k : ℕ) (j : X) → slice_get js k ≡ Some j →
      Contains (channels_of view p n js) (channel_name p (k + n), view j)
  at_place p n [] k j e = absurd (none_some e)
  at_place p n (i ∷ js) zero j e =
      let same : (channel_name p n, view i) ≡ (channel_name p (zero + n), view j) =
      λ o. (channel_name p (zeros o), view (some_same e o)) in
      subst (Contains (channels_of view p n (i ∷ js))) same (first_in (channel_name p n, view i) (channels_of view p (suc n) js))
    where
      zeros : n ≡ zero + n
      zeros = omega arith
  at_place p n (i ∷ js) (suc k) j e =
      subst (λ l. Contains (channels_of view p n (i ∷ js)) (channel_name p l, view j)) more
      (rest_in (channel_name p n, view i) (channels_of view p (suc n) js) (channel_name p (k + suc n), view j)
      (at_place p (suc n) js k j e))
    where
      more : k + suc n ≡ suc k + n
      more = omega arith

  channel_keys : (P : Path → Type 0) (es : ChannelLists X) (g : ChannelName × V) →
      AllByRecursion (λ (k : Key). P k.items) (keys_of es) → Contains (channels_in view es) g → P g.0.maker
  channel_keys P [] g a c = absurd (none_in g c)
  channel_keys P (e ∷ es) g a c = elim (Contains-append_cases (channels_of view e.0.items zero e.1.items) (channels_in view es) g
      c) [
        | inl b ↦
            let r = placed e.0.items zero e.1.items g b in
            subst (λ (z : ChannelName × V). P z.0.maker) (sym r.3) a.0
        | inr b ↦ channel_keys P es g a.1 b
      ]

  -- a channel that is listed is there
  pub listed_there : (es : ChannelLists X) (g : ChannelName × V) → AreInOrder es → Contains (channels_in view es) g →
      named_in view es g.0 ≡ Some g.1
  listed_there [] g o c = absurd (none_in g c)
  listed_there (e ∷ es) g o c = elim (Contains-append_cases (channels_of view e.0.items zero e.1.items) (channels_in view es) g
      c) [
        | inl b ↦
            let r = placed e.0.items zero e.1.items g b in
            let name : g.0 ≡ channel_name e.0.items r.0 = ap (λ (z : ChannelName × V). z.0) r.3
            ∙ ap (channel_name e.0.items) (plain r.0) in
            ap (named_in view (e ∷ es)) name
            ∙ ap (λ v. option_map view (numbered v (suc r.0))) (made_here e es e.0.items (at_itself e.0))
            ∙ ap (option_map view) r.2
            ∙ ap (λ (z : ChannelName × V). Some z.1) (sym r.3)
        | inr b ↦
            let both = in_order e es o in
            let less = channel_keys (λ q. slice_cmp nat_cmp e.0.items q ≡ Less) es g both.0 b in
            ap (λ v. option_map view (numbered v g.0.count))
            (made_else e es g.0.maker (apart_behind e.0.items g.0.maker e.0 refl less))
            ∙ listed_there es g both.1 b
      ]
    where
      plain : (k : ℕ) → k + zero ≡ k
      plain k = omega arith

  numbered_some : (js : List X) (n : ℕ) (c : V) → option_map view (numbered js n) ≡ Some c →
      (k : ℕ) × (j : X) × (n ≡ suc k) × (slice_get js k ≡ Some j) × (view j ≡ c)
  numbered_some js zero c e = absurd (none_some e)
  numbered_some js (suc k) c e = go (slice_get js k) refl e
    where
      go : (o : Option X) → slice_get js k ≡ o → option_map view o ≡ Some c →
          (l : ℕ) × (j : X) × (suc k ≡ suc l) × (slice_get js l ≡ Some j) × (view j ≡ c)
      go None f g = absurd (none_some g)
      go (Some j) f g = (k, j, refl, f, some_same g)

  -- a channel that is there is listed
  pub there_listed : (es : ChannelLists X) (h : ChannelName) (c : V) → named_in view es h ≡ Some c →
      Contains (channels_in view es) (h, c)
  there_listed [] h c e = absurd (none_some (sym (ap (option_map view) (none_numbered h.count)) ∙ e))
  there_listed (e ∷ es) h c at = go (λ (a : named_in view es h ≡ Some c). there_listed es h c a) (at_path h.maker e.0) refl
    where
      plain : (k : ℕ) → suc (k + zero) ≡ suc k
      plain k = omega arith

      go : (named_in view es h ≡ Some c → Contains (channels_in view es) (h, c)) →
          (b : Bool) → at_path h.maker e.0 ≡ b → Contains (channels_in view (e ∷ es)) (h, c)
      go rest true f =
          let r = numbered_some e.1.items h.count c
          (sym (ap (λ v. option_map view (numbered v h.count)) (made_here e es h.maker f)) ∙ at) in
          let same : (channel_name e.0.items (r.0 + zero), view r.1) ≡ (h, c) =
          λ i. (record { maker = sym (at_key h.maker e.0 f) i; count = (plain r.0 ∙ sym r.2) i }, r.4 i) in
          Contains-append_left (channels_of view e.0.items zero e.1.items) (channels_in view es) (h, c)
          (subst (Contains (channels_of view e.0.items zero e.1.items)) same (at_place e.0.items zero e.1.items r.0 r.1 r.3))
      go rest false f =
          Contains-append_right (channels_of view e.0.items zero e.1.items) (channels_in view es) (h, c)
          (rest (sym (ap (λ v. option_map view (numbered v h.count)) (made_else e es h.maker f)) ∙ at))

  -- the channels of one maker are in the order of their numbers
  makers_rise : (p : Path) (n : ℕ) (js : List X) → AreRising
      (λ (g h : ChannelName × V). ComesBefore g.0 h.0) (channels_of view p n js)
  makers_rise p n [] = tt
  makers_rise p n (j ∷ js) = (
    λ g c.
        let r = placed p (suc n) js g c in
        subst (λ (z : ChannelName × V). ComesBefore (channel_name p n) z.0) (sym r.3) (inr (refl, omega arith)),
    makers_rise p (suc n) js,
  )

  -- all channels are in order
  pub channels_rise : (es : ChannelLists X) → AreInOrder es → AreRising
      (λ (g h : ChannelName × V). ComesBefore g.0 h.0) (channels_in view es)
  channels_rise [] o = tt
  channels_rise (e ∷ es) o =
      let both = in_order e es o in
      rising_both (λ (g h : ChannelName × V). ComesBefore g.0 h.0) (channels_of view e.0.items zero e.1.items)
      (channels_in view es) (makers_rise e.0.items zero e.1.items) (channels_rise es both.1)
      (λ g h a b.
      let r = placed e.0.items zero e.1.items g a in
      let less = channel_keys (λ q. IsBefore e.0.items q) es h both.0 b in
      subst (λ (z : ChannelName × V). ComesBefore z.0 h.0) (sym r.3) (inl less))

-- ---- what histories show

-- a history shows its channel
pub in_shown : (hs : List ChannelHistory) (h : ChannelHistory) → Contains hs h → Contains (map shown hs) (shown h)
in_shown [] h c = absurd (none_in h c)
in_shown (x ∷ hs) h c = elim (first_or_rest x hs h c) [
  | inl f ↦ subst (λ z. Contains (map shown (x ∷ hs)) (shown z)) f (first_in (shown x) (map shown hs))
  | inr f ↦ rest_in (shown x) (map shown hs) (shown h) (in_shown hs h f)
]

-- and each channel that is shown has a history
pub shown_in : (hs : List ChannelHistory) (g : ChannelName × runs.Channel) → Contains (map shown hs) g → (h : ChannelHistory) ×
    Contains hs h × (shown h ≡ g)
shown_in [] g c = absurd (none_in g c)
shown_in (x ∷ hs) g c = elim (first_or_rest (shown x) (map shown hs) g c) [
  | inl f ↦ (x, first_in x hs, f)
  | inr f ↦ let r = shown_in hs g f in (r.0, rest_in x hs r.0 r.1, r.2)
]

-- histories are in order where the channels that they show are
pub histories_rise : (hs : List ChannelHistory) → AreRising (λ (g h : ChannelName × runs.Channel). ComesBefore g.0 h.0)
    (map shown hs) →
    AreRising (λ (i j : ChannelHistory). ComesBefore i.name j.name) hs
histories_rise [] r = tt
histories_rise (x ∷ hs) r = (λ h c. r.0 (shown h) (in_shown hs h c), histories_rise hs r.1)

one_shown : (p : Path) (n : ℕ) (js : List rust_channel.Channel) → map shown (histories_of p n js)
    ≡ channels_of (λ j. bare (channel_of j)) p n js
one_shown p n [] = refl
one_shown p n (j ∷ js) = ap (λ l. (channel_name p n, bare (channel_of j)) ∷ l) (one_shown p (suc n) js)

-- the histories of all channels show them without who asks at them
pub all_shown : (es : Channels) → map shown (histories_in es) ≡ channels_in (λ j. bare (channel_of j)) es
all_shown [] = refl
all_shown (e ∷ es) =
    map-append shown (histories_of e.0.items zero e.1.items) (histories_in es)
    ∙ (λ i. one_shown e.0.items zero e.1.items i ++ all_shown es i)
