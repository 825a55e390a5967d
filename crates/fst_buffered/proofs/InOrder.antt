-- What is taken at an end is what was put in at the other one, in its order and each once.
use Rattle.std.proofs.Common.{◌≡◌, ◌∙◌, ◌⊎◌, inl, inr, ℕ, zero, suc, ◌≤◌, List, [], ◌∷◌, ◌++◌, length, length-append, Bool, true, false, ◌&&◌, Option, Some, None, refl, sym, ap, arith}
use Rattle.std.specs.Prelude.{slice_get, take, drop, if◌then◌else◌}
use Rattle.std.proofs.lemmas.List.{append-nil, take-append-drop, take-append-le, take_all}
use Rattle.std.proofs.lemmas.Option.{none-some, same_Some}
use Rattle.fst_types.specs.Tree.{Tree}
use Rattle.fst_types.specs.declared.side.Side.{Side}
use Rattle.fst_types.specs.declared.side.Side.TheVariants.{Left, Right}
use Rattle.fst_lts.specs.Histories.{opposite}
use Rattle.fst_types.specs.declared.ends.EndName.{EndName}
use Rattle.fst_types.specs.declared.event.Event.{Event}
use Rattle.fst_runs.specs.Configs.{same_channel, same_side, same_end}
use Rattle.fst_runs.proofs.Laws.{same_channel-itself, same_channel-same}
use Rattle.fst_buffered.specs.Channels.{Message, Channel, Config, seen, view, IsWhole, IsNext, further, after_put, opened}
use Rattle.fst_buffered.specs.Events.{Occurrence}
use Rattle.fst_buffered.specs.Order.{put_in, taken}
use Rattle.fst_buffered.proofs.ChannelLaws.{either_side}

-- ---- one side's part in a history

abbrev pub of_side : Side → List Message → List Event
of_side s [] = []
of_side s (e ∷ es) = if same_side s e.side then e.event ∷ of_side s es else of_side s es

-- that of one entry
abbrev pub its : Side → Message → List Event
its s e = if same_side s e.side then e.event ∷ [] else []

pub of_side-append : (s : Side) (g h : List Message) → of_side s (g ++ h) ≡ of_side s g ++ of_side s h
of_side-append s [] h = refl
of_side-append s (e ∷ g) h = go (same_side s e.side) (of_side-append s g h)
  where
    go : (b : Bool) → of_side s (g ++ h) ≡ of_side s g ++ of_side s h →
        (if b then e.event ∷ of_side s (g ++ h) else of_side s (g ++ h)) ≡ (if b then e.event ∷ of_side s g else of_side s g)
        ++ of_side s h
    go true q = ap (λ z. e.event ∷ z) q
    go false q = q

-- with one entry more
one_more : (s : Side) (g : List Message) (e : Message) → of_side s (g ++ e ∷ []) ≡ of_side s g ++ its s e
one_more s g e = of_side-append s g (e ∷ [])

same_itself : (s : Side) → same_side s s ≡ true
same_itself Left = refl
same_itself Right = refl

other_apart : (s : Side) → same_side (opposite s) s ≡ false
other_apart Left = refl
other_apart Right = refl

apart_other : (s : Side) → same_side s (opposite s) ≡ false
apart_other Left = refl
apart_other Right = refl

take_suc : (h : List Message) (n : ℕ) (e : Message) → slice_get h n ≡ Some e → take (suc n) h ≡ take n h ++ e ∷ []
take_suc [] n e q = absurd (none-some e q)
take_suc (x ∷ h) zero e q = λ i. same_Some x e q i ∷ []
take_suc (x ∷ h) (suc n) e q = ap (λ z. x ∷ z) (take_suc h n e q)

-- ---- what is known of one end

-- all that was put into a channel, if it is there
abbrev pub history_at : Option Channel → List Message
history_at None = []
history_at (Some k) = k.history

-- and what a side has in view
abbrev pub view_at : Side → Option Channel → List Message
view_at s None = []
view_at s (Some k) = view s k

-- what was put in at an end, by the history
abbrev pub told_put : EndName → Config → List Event
told_put x c = of_side x.side (history_at (c.channels x.channel))

-- and what was taken there, by the view
abbrev pub told_taken : EndName → Config → List Event
told_taken x c = of_side (opposite x.side) (view_at x.side (c.channels x.channel))

-- both go on with what happens
abbrev pub Told : EndName → Config → Occurrence → Config → Type 0
Told x c e d = (told_put x d ≡ told_put x c ++ put_in x e) × (told_taken x d ≡ told_taken x c ++ taken x e)

-- an entry of an end is picked where the channel is its own, by its side
pub picked : (x y : EndName) (ev : Event) → y.channel ≡ x.channel →
    (if same_end x y then ev ∷ [] else []) ≡ (if same_side x.side y.side then ev ∷ [] else [])
picked x y ev q =
    ap (λ b. if b && same_side x.side y.side then ev ∷ [] else []) (ap (same_channel x.channel) q ∙ same_channel-itself x.channel)

-- and not where it is another
pub unpicked : (x y : EndName) (ev : Event) → same_channel y.channel x.channel ≡ false →
    (if same_end x y then ev ∷ [] else []) ≡ []
unpicked x y ev f = go (same_channel x.channel y.channel) refl
  where
    go : (b : Bool) → same_channel x.channel y.channel ≡ b → (if b && same_side x.side y.side then ev ∷ [] else []) ≡ []
    go false e = refl
    go true e =
        let g : false ≡ true = sym f ∙ ap (λ z. same_channel z x.channel) (sym (same_channel-same x.channel y.channel e))
        ∙ same_channel-itself x.channel in
        absurd (cc g)

-- nothing more, where nothing happens at the end
pub nothing_more : (xs : List Event) (ys : List Event) → ys ≡ [] → xs ≡ xs ++ ys
nothing_more xs ys e = sym (append-nil xs) ∙ ap (λ z. xs ++ z) (sym e)

-- ---- putting in

module _ (x y : EndName) (ev : Event) (k : Channel) (w : IsWhole y.side k) (few : (s : Side) → seen s k ≤ length k.history) where
  abbrev it : Message
  it = record { side = y.side; event = ev }

  history_put : (s : Side) → (after_put s ev k).history ≡ k.history ++ record { side = s; event = ev } ∷ []
  history_put Left = refl
  history_put Right = refl

  own_view : (s : Side) → IsWhole s k → view s (after_put s ev k) ≡ k.history ++ record { side = s; event = ev } ∷ []
  own_view Left e = take_all (suc k.left) (k.history ++ record { side = Left; event = ev } ∷ []) (long k.left e)
    where
      long : (n : ℕ) → n ≡ length k.history → length (k.history ++ record { side = Left; event = ev } ∷ []) ≤ suc n
      long n e = let l = length-append k.history (record { side = Left; event = ev } ∷ []) in omega (arith, e, l)
  own_view Right e = take_all (suc k.right) (k.history ++ record { side = Right; event = ev } ∷ []) (long k.right e)
    where
      long : (n : ℕ) → n ≡ length k.history → length (k.history ++ record { side = Right; event = ev } ∷ []) ≤ suc n
      long n e = let l = length-append k.history (record { side = Right; event = ev } ∷ []) in omega (arith, e, l)

  other_view : (s : Side) → view (opposite s) (after_put s ev k) ≡ view (opposite s) k
  other_view Left = take-append-le k.right k.history (record { side = Left; event = ev } ∷ []) (few Right)
  other_view Right = take-append-le k.left k.history (record { side = Right; event = ev } ∷ []) (few Left)

  whole_before : view y.side k ≡ k.history
  whole_before = take_all (seen y.side k) k.history (least (seen y.side k) w)
    where
      least : (n : ℕ) → n ≡ length k.history → length k.history ≤ n
      least n e = omega (arith, e)

  -- by the history there is one more of this side
  pub put_told : of_side x.side (after_put y.side ev k).history ≡ of_side x.side k.history ++ its x.side it
  put_told = ap (of_side x.side) (history_put y.side) ∙ one_more x.side k.history it

  -- and no view has more of the other side
  pub taken_told : of_side (opposite x.side) (view x.side (after_put y.side ev k)) ≡ of_side (opposite x.side) (view x.side k)
  taken_told = go (either_side x.side y.side)
    where
      go : (x.side ≡ y.side) ⊎ (x.side ≡ opposite y.side) →
          of_side (opposite x.side) (view x.side (after_put y.side ev k)) ≡ of_side (opposite x.side) (view x.side k)
      go (inl q) =
          ap (λ z. of_side (opposite x.side) (view z (after_put y.side ev k))) q
          ∙ ap (of_side (opposite x.side)) (own_view y.side w)
          ∙ one_more (opposite x.side) k.history it
          ∙ ap (λ z. of_side (opposite x.side) k.history ++ (if z then ev ∷ [] else []))
          (ap (same_side (opposite x.side)) (sym q) ∙ other_apart x.side)
          ∙ append-nil (of_side (opposite x.side) k.history)
          ∙ ap (of_side (opposite x.side)) (sym (ap (λ z. view z k) q ∙ whole_before))
      go (inr q) =
          ap (λ z. of_side (opposite x.side) (view z (after_put y.side ev k))) q
          ∙ ap (of_side (opposite x.side)) (other_view y.side)
          ∙ ap (λ z. of_side (opposite x.side) (view z k)) (sym q)

-- ---- taking

module _ (x y : EndName) (k : Channel) (e : Message) (n : IsNext y.side k e) (from : e.side ≡ opposite y.side) where
  more_view : (s : Side) → IsNext s k e → view s (further s k) ≡ view s k ++ e ∷ []
  more_view Left q = take_suc k.history k.left e q
  more_view Right q = take_suc k.history k.right e q

  same_view : (s : Side) → view (opposite s) (further s k) ≡ view (opposite s) k
  same_view Left = refl
  same_view Right = refl

  -- the view of the side has one more of the other side
  pub take_told : of_side (opposite x.side) (view x.side (further y.side k)) ≡ of_side (opposite x.side)
      (view x.side k) ++ (if same_side x.side y.side then e.event ∷ [] else [])
  take_told = go (either_side x.side y.side)
    where
      go : (x.side ≡ y.side) ⊎ (x.side ≡ opposite y.side) →
          of_side (opposite x.side) (view x.side (further y.side k)) ≡ of_side (opposite x.side)
          (view x.side k) ++ (if same_side x.side y.side then e.event ∷ [] else [])
      go (inl q) =
          ap (λ z. of_side (opposite x.side) (view z (further y.side k))) q
          ∙ ap (of_side (opposite x.side)) (more_view y.side n)
          ∙ one_more (opposite x.side) (view y.side k) e
          ∙ ap (λ z. of_side (opposite x.side) (view z k) ++ its (opposite x.side) e) (sym q)
          ∙ ap (λ b. of_side (opposite x.side) (view x.side k) ++ (if b then e.event ∷ [] else []))
          (ap (same_side (opposite x.side)) (from ∙ ap opposite (sym q)) ∙ same_itself (opposite x.side)
          ∙ sym (ap (same_side x.side) (sym q) ∙ same_itself x.side))
      go (inr q) =
          ap (λ z. of_side (opposite x.side) (view z (further y.side k))) q
          ∙ ap (of_side (opposite x.side)) (same_view y.side)
          ∙ ap (λ z. of_side (opposite x.side) (view z k)) (sym q)
          ∙ nothing_more (of_side (opposite x.side) (view x.side k)) (if same_side x.side y.side then e.event ∷ [] else [])
          (ap (λ b. if b then e.event ∷ [] else []) (ap (λ z. same_side z y.side) q ∙ other_apart y.side))

-- ---- what is left

-- a side's view has the beginning of what was put in
pub part_told : (x : EndName) (o : Option Channel) → (left : List Event) ×
    (of_side (opposite x.side) (history_at o) ≡ of_side (opposite x.side) (view_at x.side o) ++ left)
part_told x None = ([], refl)
part_told x (Some k) = (
  of_side (opposite x.side) (drop (seen x.side k) k.history),
  ap (of_side (opposite x.side)) (sym (take-append-drop (seen x.side k) k.history))
      ∙ of_side-append (opposite x.side) (take (seen x.side k) k.history) (drop (seen x.side k) k.history),
)

-- a new channel has nothing in view
pub none_in_view : (s : Side) (a : Tree) → view s (opened a) ≡ []
none_in_view Left a = refl
none_in_view Right a = refl
