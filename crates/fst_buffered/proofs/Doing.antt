-- The task with a path does the one thing that it asks for.
use Rattle.std.proofs.Common.{◌≡◌, ◌∙◌, ◌≤◌, ◌<◌, ℕ, suc, length, List, true, false, Option, Some, None, refl, sym, ap, subst, arith}
use Rattle.std.specs.Prelude.{not, slice_get}
use Rattle.std.specs.Coded.{le_prop}
use Rattle.std.proofs.Math.Logic.{∥∥₁_elim}
use Rattle.std.proofs.lemmas.Bool.{false≢true}
use Rattle.std.proofs.lemmas.Option.{same_Some}
use Rattle.fst_types.specs.Tree.{Tree}
use Rattle.fst_terms.specs.declared.core_module.Module.{Module}
use Rattle.fst_types.specs.declared.ends.ChannelName.{ChannelName}
use Rattle.fst_types.specs.declared.ends.EndName.{EndName}
use Rattle.fst_types.specs.declared.event.Event.{Event}
use Rattle.fst_machine.specs.declared.code.Code.{Code}
use Rattle.fst_machine.specs.declared.request.Request.{Request}
use Rattle.fst_machine.specs.declared.request.Request.TheVariants as request
use Rattle.fst_machine.specs.declared.request.Answer.{Answer}
use Rattle.fst_machine.specs.declared.request.Answer.TheVariants.{Go, Made, Forked, Sent, Got}
use Rattle.fst_machine.specs.Machine.{Program, answered}
use Rattle.fst_vm.specs.TaskView.{TaskView}
use Rattle.fst_vm.specs.Tasks.{HasNext, Forks, IsChild}
use Rattle.fst_vm.specs.Slot.{Slot, has_ended, is_live}
use Rattle.fst_runs.specs.Configs.{Path, Task, same_path, channel_name, child_path, new_task, other, program}
use Rattle.fst_runs.proofs.Laws.{same_path-itself, fork_free, put_there, stays_there, stays_free}
use Rattle.fst_buffered.specs.Channels.{Message, Channel, Config, IsWhole, IsNext, seen, further, after_put, placed, with_task, with_channel, opened, core}
use Rattle.fst_buffered.specs.Events.{Occurrence, local, new, fork, put, takes, in_state, path_of, Asks, Does}
use Rattle.fst_buffered.specs.Moving.{can_take, can}
use Rattle.fst_buffered.specs.Kept.{Kept, IsTask, Reflects, IsPossible, Happens, CanGoOn, HasGoneOn, SettlesIn, added, changed, tested}
use Rattle.fst_buffered.specs.Running.{IsAsking, CanDo, Steps}
use Rattle.fst_buffered.proofs.Keeping.{is_kept, its_task, right_alive, local_happens, new_happens, fork_happens, put_happens, take_happens}
use Rattle.fst_buffered.proofs.Moving.{moves_exactly, one_request, put_room, less_number, who_does}
use Rattle.fst_buffered.proofs.Rights.{is_there}

-- what a task that asks for this does
abbrev Doing : Request → Path → Occurrence → Type 0
Doing request.Step p o = o ≡ local p
Doing (request.New n) p o = o ≡ new p
Doing request.Fork p o = o ≡ fork p
Doing (request.Put x ev) p o = o ≡ put p x ev
Doing (request.Get x) p o = (ev : Event) × (o ≡ takes p x ev)
Doing request.Ended p o = ⊥

-- it does nothing else
doing : (m : Program) (types : List Tree) (capacity : ℕ) (c : Config) (o : Occurrence) (b : Config) (p : Path) (t : Task)
    (q : Request) → Does m types capacity c o b → path_of o ≡ p → Asks m c p t q → Doing q p o
doing m types capacity c (local o) b p t q f at a =
    subst (λ r. Doing r p (local o)) (one_request m types capacity c p t q request.Step o f.0 a at f.2) (ap local at)
doing m types capacity c (new o) b p t q f at a =
    subst (λ r. Doing r p (new o)) (one_request m types capacity c p t q (request.New f.2) o f.0 a at f.4) (ap new at)
doing m types capacity c (fork o) b p t q f at a =
    subst (λ r. Doing r p (fork o)) (one_request m types capacity c p t q request.Fork o f.0 a at f.3) (ap fork at)
doing m types capacity c (put o x ev) b p t q f at a =
    subst (λ r. Doing r p (put o x ev)) (one_request m types capacity c p t q (request.Put x ev) o f.0 a at f.3)
    (ap (λ z. put z x ev) at)
doing m types capacity c (takes o x ev) b p t q f at a =
    subst (λ r. Doing r p (takes o x ev)) (one_request m types capacity c p t q (request.Get x) o f.0 a at f.4)
    (ev, ap (λ z. takes z x ev) at)

module _ (k : Code) (capacity : ℕ) (d : Kept) (p : Path) (s : Slot) (there : d.tasks p ≡ Some s) where
  -- so it is with what is kept
  doing_kept : (m : Module) (n : ℕ) (c : Config) (o : Occurrence) (b : Config) → Reflects m k capacity n d c →
      Does (program m) m.types.items capacity c o b → path_of o ≡ p → Doing s.request p o
  doing_kept m n c o b r f at =
      let (t, e, is) = is_there m k p (d.tasks p) (c.tasks p) s (r.tasks p) there in
      doing (program m) m.types.items capacity c o b p t s.request f at (e, is.asks)

  -- what is kept after the one thing that it does is so after whatever it does
  steps_one : (w : Occurrence) (e : Kept) → ((o : Occurrence) → Doing s.request p o → o ≡ w) → Happens k capacity d w e →
      Steps k capacity d p e
  steps_one w e one happens = λ o at m n c b r f.
      happens m n c b r (subst (λ z. Does (program m) m.types.items capacity c z b) (one o (doing_kept m n c o b r f at)) f)

  -- so it is where it takes what was read before
  steps_take : (x : EndName) (ev : Event) (e : Kept) → s.request ≡ request.Get x →
      ((j : Channel) (e : Message) → d.channels x.channel ≡ Some j → IsNext x.side j e → e.event ≡ ev) →
      Happens k capacity d (takes p x ev) e → Steps k capacity d p e
  steps_take x ev e asks read happens = λ o at m n c b r f.
      let (ew, is) = subst (λ q. Doing q p o) asks (doing_kept m n c o b r f at) in
      let g = subst (λ z. Does (program m) m.types.items capacity c z b) is f in
      let same : ew ≡ ev = sym g.7 ∙ read g.2 g.3 (r.channels x.channel ∙ g.5) g.6 in
      happens m n c b r (subst (λ z. Does (program m) m.types.items capacity c (takes p x z) b) same g)

  -- a task that can do something passes the test
  pub can_kept : CanDo k capacity d p → can (length k.types.items) capacity d.channels s.request ≡ true
  can_kept (o, at, x) =
      let m = x.source in
      let (t, e, is) = is_there m k p (d.tasks p) (x.before.tasks p) s (x.reflects.tasks p) there in
      (λ i. can (length (x.reflects.from.same_types i)) capacity (λ h. x.reflects.channels h i) s.request)
      ∙ (moves_exactly (program m) m.types.items capacity x.before p t s.request (e, is.asks)).1 (o, x.after, at, x.does)

  -- how a task takes an answer, and goes on after it
  module _ (o : Occurrence) (x : IsPossible k capacity d o) (t : Task) (is : x.before.tasks p ≡ Some t) (a : Answer) (u : Task)
      (told : answered (program x.source) t.state a ≡ Some u.state) (now : x.after.tasks p ≡ Some u)
      (few : a ≡ Forked → s.task.forked < 4294967295) (goes : has_ended s.request ≡ false) where
    its : IsTask x.source k p s t
    its = its_task x.source k capacity x.events d x.before p s t x.reflects there is

    early_clock : s.clock < 4294967295
    early_clock = let c = x.reflects.clocks p s there in let e = x.few in omega (arith, c, e)

    goes_on : (mid : Kept) → mid.tasks ≡ d.tasks → CanGoOn k mid p a
    goes_on mid same =
        let alive = right_alive x.source x.after p u x.right_after now in
        let asks = x.right_after.asks p u now in
        record {
          slot = s;
          there = ap (λ f. f p) same ∙ there;
          path = its.path;
          goes = goes;
          takes = record {
            rests = its.rests;
            source = x.source;
            from = x.reflects.from;
            state = t.state;
            is_in = its.is_in;
            after = u.state;
            told = told;
            asks = alive;
            few = few;
          };
          next = λ v g. record {
            source = x.source;
            from = x.reflects.from;
            state = u.state;
            is_in = g.states x.source t.state u.state x.reflects.from its.is_in told alive;
            next = (asks.0, asks.1);
          };
          few = early_clock;
        }

  -- what is possible, where it is this
  does_so : (o w : Occurrence) (x : IsPossible k capacity d o) → o ≡ w →
      Does (program x.source) x.source.types.items capacity x.before w x.after
  does_so o w x is = subst (λ z. Does (program x.source) x.source.types.items capacity x.before z x.after) is x.does

  what : (o : Occurrence) (x : IsPossible k capacity d o) → path_of o ≡ p → Doing s.request p o
  what o x at = doing_kept x.source x.events x.before o x.after x.reflects x.does at

  -- the task is there after it
  now_there : (c b : Config) (f : ChannelName → Option Channel) (u : Task) →
      b ≡ record { tasks = λ q. placed (same_path p q) u (c.tasks q); channels = f } → b.tasks p ≡ Some u
  now_there c b f u is = ap (λ (z : Config). z.tasks p) is ∙ ap (λ z. placed z u (c.tasks p)) (same_path-itself p)

  -- it can go on after a step
  pub local_can : s.request ≡ request.Step → CanDo k capacity d p → CanGoOn k d p Go
  local_can asks (o, at, x) =
      let f = does_so o (local p) x (subst (λ q. Doing q p o) asks (what o x at)) in
      goes_on o x f.0 f.2.0 Go (in_state f.0 f.1) f.3
      (now_there x.before x.after x.before.channels (in_state f.0 f.1) f.4) (λ z. absurd (cc z))
      (ap has_ended asks) d refl

  -- after it has put something in
  pub put_can : (y : EndName) (ev : Event) → s.request ≡ request.Put y ev → (mid : Kept) → mid.tasks ≡ d.tasks →
      CanDo k capacity d p → CanGoOn k mid p Sent
  put_can y ev asks mid same (o, at, x) =
      let f = does_so o (put p y ev) x (subst (λ q. Doing q p o) asks (what o x at)) in
      goes_on o x f.0 f.3.0 Sent (in_state f.0 f.1) f.7
      (now_there x.before x.after (with_channel x.before y.channel (after_put y.side ev f.2)).channels (in_state f.0 f.1) f.8)
      (λ z. absurd (cc z)) (ap has_ended asks) mid same

  -- after it has taken something
  pub take_can : (y : EndName) (ev : Event) → s.request ≡ request.Get y →
      ((j : Channel) (e : Message) → d.channels y.channel ≡ Some j → IsNext y.side j e → e.event ≡ ev) →
      (mid : Kept) → mid.tasks ≡ d.tasks → CanDo k capacity d p → CanGoOn k mid p (Got ev)
  take_can y ev asks read mid same (o, at, x) =
      let (ew, is) = subst (λ q. Doing q p o) asks (what o x at) in
      let f = does_so o (takes p y ew) x is in
      let event : ew ≡ ev = sym f.7 ∙ read f.2 f.3 (x.reflects.channels y.channel ∙ f.5) f.6 in
      goes_on o x f.0 f.4.0 (Got ev) (in_state f.0 f.1)
      (ap (λ z. answered (program x.source) f.0.state (Got z)) (sym event) ∙ f.8)
      (now_there x.before x.after (with_channel x.before y.channel (further y.side f.2)).channels (in_state f.0 f.1) f.9)
      (λ z. absurd (cc z)) (ap has_ended asks) mid same

  -- after it has made a channel
  pub new_can : (n : ℕ) → s.request ≡ request.New n → (h : ChannelName) → h ≡ channel_name p (d.made p) →
      (mid : Kept) → mid.tasks ≡ d.tasks → CanDo k capacity d p → CanGoOn k mid p (Made h)
  new_can n asks h name mid same (o, at, x) =
      let f = does_so o (new p) x (subst (λ q. Doing q p o) asks (what o x at)) in
      let u : Task = record { state = f.1; made = suc f.0.made; forked = f.0.forked; clock = f.0.clock } in
      let is : h ≡ channel_name p f.0.made = name ∙ ap (channel_name p) (x.reflects.made p f.0 f.4.0) in
      goes_on o x f.0 f.4.0 (Made h) u (ap (λ z. answered (program x.source) f.0.state (Made z)) is ∙ f.6)
      (now_there x.before x.after (with_channel x.before (channel_name p f.0.made) (opened f.3)).channels u f.7)
      (λ z. absurd (cc z)) (ap has_ended asks) mid same

  -- the type of the channel that it makes is there, and it hasn't made too many
  pub type_there : (n : ℕ) → s.request ≡ request.New n → CanDo k capacity d p → n < length k.types.items
  type_there n asks x = less_number n (length k.types.items)
      (sym (ap (can (length k.types.items) capacity d.channels) asks) ∙ can_kept x)

  -- a side that is to put something in has all in view
  pub whole_kept : (y : EndName) (ev : Event) → s.request ≡ request.Put y ev → CanDo k capacity d p →
      (j : Channel) → d.channels y.channel ≡ Some j → IsWhole y.side j
  whole_kept y ev asks x j is =
      let test = sym (ap (can (length k.types.items) capacity d.channels) asks) ∙ can_kept x in
      let (i, e, whole, room) = put_room y.side capacity (d.channels y.channel) test in
      subst (IsWhole y.side) (same_Some i j (sym e ∙ is)) whole

  -- and one that is to take something lacks it
  pub next_kept : (y : EndName) → s.request ≡ request.Get y → CanDo k capacity d p →
      can_take y.side (d.channels y.channel) ≡ true
  next_kept y asks x = sym (ap (can (length k.types.items) capacity d.channels) asks) ∙ can_kept x

  -- so it has no more in view than there is
  pub seen_kept : (y : EndName) → s.request ≡ request.Get y → ∥ CanDo k capacity d p ∥₁ → (j : Channel) →
      d.channels y.channel ≡ Some j → seen y.side j ≤ length j.history
  seen_kept y asks x j is =
      ∥∥₁_elim x le_prop (λ z.
      let less = less_number (seen y.side j) (length j.history) (sym (ap (can_take y.side) is) ∙ next_kept y asks z) in
      omega (arith, less))

  forked_few : (o : Occurrence) → IsPossible k capacity d o → s.task.forked < 4294967295
  forked_few o x = let a = x.reflects.forks p s there in let f = x.few in omega (arith, a, f)

  -- it asks for a fork
  pub forks_now : s.request ≡ request.Fork → CanDo k capacity d p → Forks k s.task
  forks_now asks (o, at, x) =
      let f = does_so o (fork p) x (subst (λ q. Doing q p o) asks (what o x at)) in
      let is = its_task x.source k capacity x.events d x.before p s f.0 x.reflects there f.3.0 in
      record {
        rests = is.rests;
        source = x.source;
        from = x.reflects.from;
        state = f.0.state;
        is_in = is.is_in;
        asks = f.3.1;
        few = forked_few o x;
      }

  -- the tasks after a fork
  module _ (o : Occurrence) (x : IsPossible k capacity d o)
      (f : Does (program x.source) x.source.types.items capacity x.before (fork p) x.after) where
    abbrev parent : Task
    parent = record { state = f.1; made = f.0.made; forked = suc f.0.forked; clock = f.0.clock }

    abbrev child : Path
    child = child_path p f.0.forked

    abbrev half : Config
    half = with_task x.before p parent

    free : x.before.tasks child ≡ None
    free = fork_free (core x.before) p f.0 x.parents f.3.0

    parent_there : x.after.tasks p ≡ Some parent
    parent_there =
        ap (λ (z : Config). z.tasks p) f.6
        ∙ stays_there (core half) child p (new_task f.2 0) parent (stays_free (core x.before) p child f.0 parent f.3.0 free)
        (put_there (core x.before) p parent)

    child_there : x.after.tasks child ≡ Some (new_task f.2 0)
    child_there = ap (λ (z : Config). z.tasks child) f.6 ∙ ap (λ z. placed z (new_task f.2 0) (half.tasks child))
        (same_path-itself child)

  -- it can go on after a fork
  pub fork_can : s.request ≡ request.Fork → CanDo k capacity d p → CanGoOn k d p Forked
  fork_can asks (o, at, x) =
      let f = does_so o (fork p) x (subst (λ q. Doing q p o) asks (what o x at)) in
      goes_on o x f.0 f.3.0 Forked (parent o x f) f.5 (parent_there o x f) (λ z. forked_few o x)
      (ap has_ended asks) d refl

  -- and so can the task that is forked
  pub child_next : (v : TaskView) → IsChild k s.task v → s.request ≡ request.Fork → CanDo k capacity d p → HasNext k v
  child_next v born asks (o, at, x) =
      let f = does_so o (fork p) x (subst (λ q. Doing q p o) asks (what o x at)) in
      let is = its_task x.source k capacity x.events d x.before p s f.0 x.reflects there f.3.0 in
      let next = x.right_after.asks (child o x f) (new_task f.2 0) (child_there o x f) in
      record {
        source = x.source;
        from = x.reflects.from;
        state = f.2;
        is_in = born.states x.source f.0.state f.2 x.reflects.from is.is_in f.4;
        next = (next.0, next.1);
      }

  -- what is kept after it has done it is so after whatever it does: after a step
  pub local_steps : s.request ≡ request.Step → (e : Kept) → HasGoneOn k capacity p Go d e → Steps k capacity d p e
  local_steps asks e g = steps_one (local p) e (λ o z. subst (λ q. Doing q p o) asks z) (local_happens k capacity d p e g)

  -- after a channel is made
  pub new_steps : (n : ℕ) (a : Tree) → s.request ≡ request.New n → slice_get k.types.items n ≡ Some a → (h : ChannelName) →
      h ≡ channel_name p (d.made p) → (mid e : Kept) → mid ≡ added h (opened a) d → HasGoneOn k capacity p (Made h) mid e →
      Steps k capacity d p e
  new_steps n a asks type h name mid e is g =
      steps_one (new p) e (λ o z. subst (λ q. Doing q p o) asks z)
      (new_happens k capacity d p s there h name n a asks type mid e is g)

  -- after a task is forked
  pub fork_steps : s.request ≡ request.Fork → (u : TaskView) (e g : Kept) → HasGoneOn k capacity p Forked d e →
      IsChild k s.task u → SettlesIn k capacity u e g → Steps k capacity d p g
  fork_steps asks u e g h born y =
      steps_one (fork p) g (λ o z. subst (λ q. Doing q p o) asks z)
      (fork_happens k capacity d p s there u y.slot e g h born y.settles y.clock y.after)

  -- after something is put in
  pub put_steps : (x : EndName) (ev : Event) → s.request ≡ request.Put x ev → (mid e0 e : Kept) →
      mid ≡ changed x.channel (after_put x.side ev) d → HasGoneOn k capacity p Sent mid e0 →
      e ≡ tested (length k.types.items) capacity (d.asker (other x)) e0 → Steps k capacity d p e
  put_steps x ev asks mid e0 e is g again =
      steps_one (put p x ev) e (λ o z. subst (λ q. Doing q p o) asks z)
      (put_happens k capacity d p s there x ev asks mid e0 e is g again)

  -- after something is taken
  pub take_steps : (x : EndName) (ev : Event) → s.request ≡ request.Get x →
      ((j : Channel) (e : Message) → d.channels x.channel ≡ Some j → IsNext x.side j e → e.event ≡ ev) → (mid e0 e : Kept) →
      mid ≡ changed x.channel (further x.side) d → HasGoneOn k capacity p (Got ev) mid e0 →
      e ≡ tested (length k.types.items) capacity (d.asker (other x)) e0 → Steps k capacity d p e
  take_steps x ev asks read mid e0 e is g again =
      steps_take x ev e asks read (take_happens k capacity d p s there x ev asks mid e0 e is g again)

-- what is kept of a task that asks for this asks for it
pub asks_it : (d : Kept) (p : Path) (q : Request) (s : Slot) → IsAsking d p q → d.tasks p ≡ Some s → s.request ≡ q
asks_it d p q s (t, there, is) e = ap (λ (z : Slot). z.request) (same_Some s t (sym e ∙ there)) ∙ is

-- what passes the test has not ended
moving_goes : (types capacity : ℕ) (channels : ChannelName → Option Channel) (q : Request) →
    can types capacity channels q ≡ true →
    has_ended q ≡ false
moving_goes types capacity channels request.Step e = refl
moving_goes types capacity channels (request.New n) e = refl
moving_goes types capacity channels request.Fork e = refl
moving_goes types capacity channels (request.Put x ev) e = refl
moving_goes types capacity channels (request.Get x) e = refl
moving_goes types capacity channels request.Ended e = absurd (false≢true e)

-- a task that can do something is there, and has not ended
pub mover_live : (k : Code) (capacity : ℕ) (d : Kept) (p : Path) → CanDo k capacity d p → is_live (d.tasks p) ≡ true
mover_live k capacity d p (o, at, x) =
    let (t, e) = who_does (program x.source) x.source.types.items capacity x.before o x.after p x.does at in
    let (s, f, is) = is_kept x.source k p (d.tasks p) (x.before.tasks p) t (x.reflects.tasks p) e in
    let able = can_kept k capacity d p s f (o, at, x) in
    ap (λ z. is_live z) f ∙ ap not (moving_goes (length k.types.items) capacity d.channels s.request able)

-- so is one that asks for a fork
pub forker_live : (d : Kept) (p : Path) → IsAsking d p request.Fork → is_live (d.tasks p) ≡ true
forker_live d p (s, there, asks) = ap (λ z. is_live z) there ∙ ap (λ q. not (has_ended q)) asks

-- a task that can do something hasn't made too many channels
pub few_made : (k : Code) (capacity : ℕ) (d : Kept) (p : Path) → CanDo k capacity d p → d.made p < 4294967295
few_made k capacity d p (o, at, x) = let a = x.reflects.makes p in let f = x.few in omega (arith, a, f)
