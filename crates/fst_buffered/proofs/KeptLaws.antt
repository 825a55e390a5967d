-- How what is kept changes with the maps that keep it.
use Rattle.std.proofs.Common.{◌≡◌, ◌∙◌, ℕ, zero, Bool, true, false, Option, Some, None, List, [], ◌∷◌, ◌++◌, refl, sym, ap}
use Rattle.std.specs.Prelude.{option_map, option_and_then, length, ◌&&◌, if◌then◌else◌}
use Rattle.std.specs.Option.{option_or}
use Rattle.std.specs.Map.{lookup, KeepsOthers}
use Rattle.std.specs.declared.alloc.Global.{Global}
use Rattle.std.specs.declared.vec.Vec.{Vec}
use Rattle.fst_types.specs.declared.side.Side.{Side}
use Rattle.fst_types.specs.declared.side.Side.TheVariants.{Left, Right}
use Rattle.fst_types.specs.declared.ends.ChannelName.{ChannelName}
use Rattle.fst_types.specs.declared.ends.EndName.{EndName}
use Rattle.fst_machine.specs.declared.code.Code.{Code}
use Rattle.fst_machine.specs.declared.request.Answer.{Answer}
use Rattle.fst_machine.specs.declared.request.Request.TheVariants.{Ended}
use Rattle.fst_paths.specs.Paths.{Keys, at_path, has_path, put_at, same_key}
use Rattle.fst_paths.specs.ChannelLists.{IsChangedAt, change_channel, listed, made_in, many_in}
use Rattle.fst_paths.proofs.Laws.{put_back, put_twice, changed_in, as_many, unchanged_none, added_in, one_more_in, none_numbered}
use Rattle.fst_vm.specs.Slot.{Slot}
use Rattle.fst_vm.specs.SlotOf.{ended_in, slot_of}
use Rattle.fst_vm.specs.Going.{MovesOn}
use Rattle.fst_vm.specs.declared.kept.EndedTask.{EndedTask}
use Rattle.fst_vm.proofs.Laws.{ended_asks}
use Rattle.fst_runs.specs.Configs.{Path, same_channel, same_side, channel_name}
use Rattle.fst_runs.proofs.Laws.{same_channel-same}
use Rattle.fst_buffered.specs.declared.kept.Channel as rust_channel
use Rattle.fst_buffered.specs.declared.config.Config.{Config}
use Rattle.fst_buffered.specs.Channels.{Channel}
use Rattle.fst_buffered.specs.Kept.{HasGoneOn, nothing, changed, added, asking, moves, moves_so, noted, settled}
use Rattle.fst_buffered.specs.KeptOf.{Channels, Held, asker_at, asker_in, channel_in, channel_of, held_in, held_of, kept_besides, kept_in, kept_of, with_asker, with_changed}

-- what is put at a path where it was
pub put_same : {X : Type 0} (p : Path) (x : X) (f : Path → X) → f p ≡ x → f ≡ put_at p x f
put_same p x f e = put_back p x x f e ∙ sym (put_twice p x x f)

-- ---- channels

-- the channel alone, where it is changed
channel_alone : (b : Bool) (f : Channel → Channel) (o : Option Held) →
    option_map (λ (j : Held). j.channel) (if b then option_map (with_changed f) o else o)
    ≡ (if b then option_map f (option_map (λ (j : Held). j.channel) o) else option_map (λ (j : Held). j.channel) o)
channel_alone true f None = refl
channel_alone true f (Some j) = refl
channel_alone false f o = refl

-- who asked last at its ends then
asker_alone : (b : Bool) (f : Channel → Channel) (s : Side) (o : Option Held) →
    option_and_then (asker_at s) (if b then option_map (with_changed f) o else o) ≡ option_and_then (asker_at s) o
asker_alone true f s None = refl
asker_alone true f Left (Some j) = refl
asker_alone true f Right (Some j) = refl
asker_alone false f s o = refl

-- the channel alone, where somebody asks at an end of it
channel_asked : (b : Bool) (s : Side) (p : Path) (o : Option Held) →
    option_map (λ (j : Held). j.channel) (if b then option_map (with_asker s (Some p)) o else o)
    ≡ option_map (λ (j : Held). j.channel) o
channel_asked true s p None = refl
channel_asked true Left p (Some j) = refl
channel_asked true Right p (Some j) = refl
channel_asked false s p o = refl

-- who asked last at its ends then
asker_asked : (s t : Side) (p : Path) (o : Option Held) →
    option_and_then (asker_at t) (option_map (with_asker s (Some p)) o)
    ≡ (if same_side s t then option_map (λ k. p) (option_map (λ (j : Held). j.channel) o) else option_and_then (asker_at t) o)
asker_asked Left Left p None = refl
asker_asked Left Left p (Some j) = refl
asker_asked Left Right p None = refl
asker_asked Left Right p (Some j) = refl
asker_asked Right Left p None = refl
asker_asked Right Left p (Some j) = refl
asker_asked Right Right p None = refl
asker_asked Right Right p (Some j) = refl

module _ (tasks : Path → Option Slot) (ks : Keys) (old new : Channels) where
  -- a channel is changed where what is held of it is
  kept_changed : (h : ChannelName) (f : Channel → Channel) → held_in new ≡ change_channel h (with_changed f) (held_in old) →
      many_in new ≡ many_in old → kept_in tasks new ks ≡ changed h f (kept_in tasks old ks)
  kept_changed h f held made = λ i. record {
    tasks = tasks;
    channels = λ g. (ap (λ (z : ChannelName → Option Held). option_map (λ (j : Held). j.channel) (z g)) held
        ∙ channel_alone (same_channel h g) f (held_in old g)) i;
    made = made i;
    ready = has_path ks;
    asker = λ x. (ap (λ (z : ChannelName → Option Held). option_and_then (asker_at x.side) (z x.channel)) held
        ∙ asker_alone (same_channel h x.channel) f x.side (held_in old x.channel)) i;
  }

  -- somebody asks at an end where that is noted at the channel
  kept_asked : (x : EndName) (p : Path) → held_in new ≡ change_channel x.channel (with_asker x.side (Some p)) (held_in old) →
      many_in new ≡ many_in old → kept_in tasks new ks ≡ asking p x (kept_in tasks old ks)
  kept_asked x p held made = λ i. record {
    tasks = tasks;
    channels = λ g. (ap (λ (z : ChannelName → Option Held). option_map (λ (j : Held). j.channel) (z g)) held
        ∙ channel_asked (same_channel x.channel g) x.side p (held_in old g)) i;
    made = made i;
    ready = has_path ks;
    asker = λ y. (ap (λ (z : ChannelName → Option Held). option_and_then (asker_at y.side) (z y.channel)) held
        ∙ at y (same_channel x.channel y.channel) refl) i;
  }
    where
      at : (y : EndName) (b : Bool) → same_channel x.channel y.channel ≡ b →
          option_and_then (asker_at y.side)
          (if b then option_map (with_asker x.side (Some p)) (held_in old y.channel) else held_in old y.channel)
          ≡ (if b && same_side x.side y.side then option_map (λ k. p) (channel_in old x.channel) else asker_in old y)
      at y true e =
          asker_asked x.side y.side p (held_in old y.channel)
          ∙ ap (λ z. if same_side x.side y.side then option_map (λ k. p) (channel_in old z) else asker_in old y)
          (sym (same_channel-same x.channel y.channel e))
      at y false e = refl

  module _ (p : Path) (v w : Vec rust_channel.Channel Global) (there : lookup (at_path p) old ≡ Some v)
      (here : lookup (at_path p) new ≡ Some w) (others : KeepsOthers same_key (at_path p) old new) where
    -- a channel is changed where it is in the list of its maker
    pub channel_changed : (h : ChannelName) (f : Channel → Channel) → p ≡ h.maker →
        IsChangedAt held_of h.count (with_changed f) v.items w.items →
        kept_in tasks new ks ≡ changed h f (kept_in tasks old ks)
    channel_changed h f is c =
        kept_changed h f (changed_in held_of h (with_changed f) old new p v w is there here others c)
        (as_many held_of h (with_changed f) old new p v w is there here others c)

    -- and somebody asks at an end of it
    pub end_asked : (x : EndName) (q : Path) → p ≡ x.channel.maker →
        IsChangedAt held_of x.channel.count (with_asker x.side (Some q)) v.items w.items →
        kept_in tasks new ks ≡ asking q x (kept_in tasks old ks)
    end_asked x q is c =
        let f = with_asker x.side (Some q) in
        kept_asked x q (changed_in held_of x.channel f old new p v w is there here others c)
        (as_many held_of x.channel f old new p v w is there here others c)

  module _ (p : Path) (none : lookup (at_path p) old ≡ None) (same : new ≡ old) where
    no_list : (h : ChannelName) → p ≡ h.maker → made_in old h.maker ≡ []
    no_list h is = ap (made_in old) (sym is) ∙ ap listed none

    -- nothing is changed where its maker has no list
    pub channel_unchanged : (h : ChannelName) (f : Channel → Channel) → p ≡ h.maker →
        kept_in tasks new ks ≡ changed h f (kept_in tasks old ks)
    channel_unchanged h f is =
        kept_changed h f (unchanged_none held_of h (with_changed f) old new (no_list h is) same)
        (ap (λ (js : Channels). many_in js) same)

    -- and nobody asks at an end of it
    pub end_unasked : (x : EndName) (q : Path) → p ≡ x.channel.maker → kept_in tasks new ks ≡ asking q x (kept_in tasks old ks)
    end_unasked x q is =
        kept_asked x q (unchanged_none held_of x.channel (with_asker x.side (Some q)) old new (no_list x.channel is) same)
        (ap (λ (js : Channels). many_in js) same)

-- who asked last at an end of a channel that is put in, at which nobody asked
none_asked : (b : Bool) (x : rust_channel.Channel) (s : Side) (o : Option Held) → x.left_asker ≡ None → x.right_asker ≡ None →
    option_and_then (asker_at s) (if b then Some (held_of x) else o) ≡ (if b then None else option_and_then (asker_at s) o)
none_asked true x Left o l r = l
none_asked true x Right o l r = r
none_asked false x s o l r = refl

channel_put : (b : Bool) (x : rust_channel.Channel) (o : Option Held) →
    option_map (λ (j : Held). j.channel) (if b then Some (held_of x) else o)
    ≡ (if b then Some (channel_of x) else option_map (λ (j : Held). j.channel) o)
channel_put true x o = refl
channel_put false x o = refl

-- a channel is there besides the others where it is put behind those of its maker
pub channel_added : (tasks : Path → Option Slot) (ks : Keys) (old new : Channels) (p : Path) (x : rust_channel.Channel) →
    x.left_asker ≡ None → x.right_asker ≡ None → made_in new ≡ put_at p (made_in old p ++ x ∷ []) (made_in old) →
    kept_in tasks new ks ≡ added (channel_name p (many_in old p)) (channel_of x) (kept_in tasks old ks)
channel_added tasks ks old new p x left right pushed =
    let h = channel_name p (many_in old p) in
    let held = added_in held_of p x old new pushed in
    λ i. record {
      tasks = tasks;
      channels = λ g. (ap (λ (z : ChannelName → Option Held). option_map (λ (j : Held). j.channel) (z g)) held
          ∙ channel_put (same_channel h g) x (held_in old g)) i;
      made = one_more_in held_of p x old new pushed i;
      ready = has_path ks;
      asker = λ y. (ap (λ (z : ChannelName → Option Held). option_and_then (asker_at y.side) (z y.channel)) held
          ∙ none_asked (same_channel h y.channel) x y.side (held_in old y.channel) left right) i;
    }

-- nothing is kept where there is no task, no channel and no path
pub kept_nothing : kept_in (λ p. None) [] [] ≡ nothing
kept_nothing = λ i. record {
  tasks = λ p. None;
  channels = λ h. ap (λ o. option_map (λ (j : Held). j.channel) (option_map held_of o)) (none_numbered h.count) i;
  made = λ p. zero;
  ready = λ p. false;
  asker = λ x. ap (λ o. option_and_then (asker_at x.side) (option_map held_of o)) (none_numbered x.channel.count) i;
}

-- ---- tasks

-- no task that has ended can move
no_move : (types capacity : ℕ) (channels : ChannelName → Option Channel) (ts : List EndedTask) (p : Path) →
    moves_so types capacity channels (ended_in ts p) ≡ false
no_move types capacity channels ts p = by (ended_in ts p) (ended_asks ts p)
  where
    by : (o : Option Slot) → ((s : Slot) → o ≡ Some s → s.request ≡ Ended) → moves_so types capacity channels o ≡ false
    by None f = refl
    by (Some s) f = ap (λ r. moves_so types capacity channels (Some (record s { request = r }))) (f s refl)

-- nor one that isn't found among the others
pub none_moves : (types capacity : ℕ) (k : Config) (p : Path) → None ≡ lookup (at_path p) k.tasks.live.entries →
    false ≡ moves types capacity (kept_of k) p
none_moves types capacity k p none =
    let able : Option Slot → Bool = moves_so types capacity (kept_of k).channels in
    sym (no_move types capacity (kept_of k).channels k.tasks.ended.items p)
    ∙ ap (λ o. able (option_or (option_map slot_of o) (ended_in k.tasks.ended.items p))) none

-- what is kept once what the task with this path asks for is noted, and it is put in
pub settled_now : (code : Code) (capacity types : ℕ) (p q : Path) (s : Slot) (k new : Config) → types ≡ length code.types.items →
    q ≡ p → (kept_of new).tasks ≡ put_at p (Some s) (kept_of k).tasks →
    kept_besides new.channels.by_maker.entries new.ready.keys
    ≡ noted types capacity q s.request (kept_besides k.channels.by_maker.entries k.ready.keys) →
    kept_of new ≡ settled (length code.types.items) capacity p s (kept_of k)
settled_now code capacity types p q s k new len is putting noting =
    let all = noting ∙ (λ i. noted (len i) capacity (is i) s.request (kept_besides k.channels.by_maker.entries k.ready.keys)) in
    λ i. record {
      tasks = putting i;
      channels = (all i).channels;
      made = (all i).made;
      ready = (all i).ready;
      asker = (all i).asker;
    }

-- so it is where it has gone on after an answer
pub gone_on : (code : Code) (capacity : ℕ) (p : Path) (a : Answer) (types : ℕ) (k new : Config) (s t : Slot) →
    (kept_of k).tasks p ≡ Some s → MovesOn code a zero s t → types ≡ length code.types.items →
    (kept_of new).tasks ≡ put_at p (Some t) (kept_of k).tasks →
    kept_besides new.channels.by_maker.entries new.ready.keys
    ≡ noted types capacity p t.request (kept_besides k.channels.by_maker.entries k.ready.keys) →
    HasGoneOn code capacity p a (kept_of k) (kept_of new)
gone_on code capacity p a types k new s t there moves len putting noting = record {
  slot = s;
  there = there;
  now = t;
  moves_on = moves;
  after = settled_now code capacity types p p t k new len refl putting noting;
}
