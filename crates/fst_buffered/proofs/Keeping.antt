-- What is kept stays the configuration, whatever happens.
use Rattle.std.proofs.Common.{◌≡◌, ◌∙◌, ◌≤◌, ℕ, zero, suc, [], ◌∷◌, ◌++◌, Bool, true, false, Option, Some, None, refl, sym, ap, subst, arith}
use Rattle.std.specs.Prelude.{option_map, slice_get, length, max, if◌then◌else◌}
use Rattle.std.proofs.lemmas.Option.{none-some, same_Some}
use Rattle.fst_types.specs.Tree.{Tree}
use Rattle.fst_terms.specs.CoreTree.{CoreTree}
use Rattle.fst_terms.specs.declared.core_module.Module.{Module}
use Rattle.fst_types.specs.declared.ends.ChannelName.{ChannelName}
use Rattle.fst_types.specs.declared.ends.EndName.{EndName}
use Rattle.fst_types.specs.declared.event.Event.{Event}
use Rattle.fst_machine.specs.declared.code.Code.{Code}
use Rattle.fst_machine.specs.declared.request.Request.TheVariants as request
use Rattle.fst_machine.specs.declared.request.Answer.{Answer}
use Rattle.fst_machine.specs.declared.request.Answer.TheVariants.{Go, Made, Forked, Sent, Got}
use Rattle.fst_machine.specs.Machine.{State, stuck, begins, pause, asked, answered}
use Rattle.fst_vm.specs.TaskView.{TaskView}
use Rattle.fst_vm.specs.Tasks.{IsFrom, IsIn, HasNext, IsStart, IsChild, forked_after}
use Rattle.fst_vm.specs.Slot.{Slot}
use Rattle.fst_vm.specs.Going.{MovesOn}
use Rattle.fst_runs.specs.Configs.{Path, Task, same_path, same_channel, channel_name, child_path, new_task, program, main_path, other}
use Rattle.fst_runs.specs.Names.{HasMakers}
use Rattle.fst_runs.specs.Wrong.{end_of}
use Rattle.fst_runs.proofs.Laws.{same_path-itself, same_path-same, same_channel-itself, same_channel-same, new_free, fork_free, put_there, stays_there, stays_free}
use Rattle.fst_paths.specs.Paths.{put_at}
use Rattle.fst_paths.proofs.Laws.{put_here, put_else}
use Rattle.fst_buffered.specs.Channels.{Channel, Config, further, after_put, placed, with_task, with_channel, opened, plain, core, started}
use Rattle.fst_buffered.specs.Events.{local, new, fork, put, takes, in_state}
use Rattle.fst_buffered.specs.Wrong.{IsRight}
use Rattle.fst_buffered.specs.Kept.{Kept, nothing, settled, tested, moves_so, changed, added, IsTask, AreTask, Reflects, Happens, Settles, HasGoneOn, IsBegun, CanStart}
use Rattle.fst_buffered.proofs.Noting.{tested_ready, settled_askers, changed_ready, added_ready, added_askers}
use Rattle.fst_buffered.proofs.Rights.{AreFair, right_fair, fewer_fair}
use Rattle.fst_buffered.proofs.Updates.{no_channel}

-- a task that is there is kept
pub is_kept : (m : Module) (k : Code) (p : Path) (o : Option Slot) (q : Option Task) (t : Task) → AreTask m k p o q → q ≡ Some t →
    (s : Slot) × (o ≡ Some s) × IsTask m k p s t
is_kept m k p None None t h e = absurd (none-some t e)
is_kept m k p None (Some u) t h e = absurd h
is_kept m k p (Some s) None t h e = absurd h
is_kept m k p (Some s) (Some u) t h e = (s, refl, subst (IsTask m k p s) (same_Some u t e) h)

-- where none is there, none is kept
none_kept : (m : Module) (k : Code) (p : Path) (o : Option Slot) (u : Option Task) → AreTask m k p o u → u ≡ None → o ≡ None
none_kept m k p None u h e = refl
none_kept m k p (Some s) None h e = absurd h
none_kept m k p (Some s) (Some t) h e = absurd (none-some t (sym e))

-- a task that is there stays there where another one is put at a path that was free
among : (f : Path → Option Slot) (q : Path) (y : Slot) → f q ≡ None → (p : Path) (s : Slot) → f p ≡ Some s →
    put_at q (Some y) f p ≡ Some s
among f q y free p s there = go (same_path q p) refl
  where
    go : (b : Bool) → same_path q p ≡ b → (if b then Some y else f p) ≡ Some s
    go true e = absurd (none-some s (sym free ∙ ap f (same_path-same q p e) ∙ there))
    go false e = there

-- and what is kept is it
pub its_task : (m : Module) (k : Code) (capacity n : ℕ) (d : Kept) (c : Config) (p : Path) (s : Slot) (t : Task) →
    Reflects m k capacity n d c → d.tasks p ≡ Some s → c.tasks p ≡ Some t → IsTask m k p s t
its_task m k capacity n d c p s t r there e =
    let f = is_kept m k p (d.tasks p) (c.tasks p) t (r.tasks p) e in
    subst (λ z. IsTask m k p z t) (same_Some f.0 s (sym f.1 ∙ there)) f.2

-- one that is there isn't stuck, where nothing is wrong
pub right_alive : (m : Module) (c : Config) (p : Path) (t : Task) → IsRight (program m) c → c.tasks p ≡ Some t →
    pause m.families.items t.state ≡ stuck → ⊥
right_alive m c p t right e z =
    let f = right.asks p t e in
    none-some f.0 (sym (ap asked z) ∙ f.1)

-- what a task has come to is the task with this state
settled_task : (m : Module) (k : Code) (v : TaskView) (s : Slot) (p : Path) (t : Task) → Settles k v s → v.path ≡ p →
    IsIn m k v t.state → v.forked ≡ t.forked →
    (pause m.families.items t.state ≡ stuck → ⊥) → IsTask m k p s t
settled_task m k v s p t z path inside forked alive = record {
  path = z.stays.path ∙ path;
  rests = z.rests;
  is_in = z.stays.states m t.state inside;
  asks = z.asked m t.state inside alive;
  forked = z.stays.forked ∙ forked;
}

-- a task that has gone on is the task after the answer
gone_task : (m : Module) (k : Code) (p : Path) (a : Answer) (s now : Slot) (t u : Task) → IsFrom m k → IsTask m k p s t →
    MovesOn k a zero s now → answered (program m) t.state a ≡ Some u.state →
    forked_after a t.forked ≡ u.forked → (pause m.families.items u.state ≡ stuck → ⊥) → IsTask m k p now u
gone_task m k p a s now t u from is g told forked alive =
    settled_task m k g.task now p u (record { stays = g.stays; asked = g.asked; rests = g.rests }) (g.goes_on.path ∙ is.path)
    (g.goes_on.states m t.state u.state from is.is_in told alive)
    (g.goes_on.forked ∙ ap (forked_after a) is.forked ∙ forked) alive

-- tasks are still those that are kept where one is written
tasks_written : (m : Module) (k : Code) (f : Path → Option Slot) (g : Path → Option Task) (p : Path) (s : Slot) (t : Task) →
    ((q : Path) → AreTask m k q (f q) (g q)) → IsTask m k p s t →
    (q : Path) → AreTask m k q (put_at p (Some s) f q) (placed (same_path p q) t (g q))
tasks_written m k f g p s t are is q = go (same_path p q) refl
  where
    go : (b : Bool) → same_path p q ≡ b → AreTask m k q (if b then Some s else f q) (placed b t (g q))
    go true e = subst (λ z. IsTask m k z s t) (same_path-same p q e) is
    go false e = are q

-- a task and a channel are written, one task is tested again, and the numbers rise to l at most
module _ (m : Module) (k : Code) (capacity n l : ℕ) (d : Kept) (c : Config) (p : Path) (s : Slot) (t : Task)
    (r : Reflects m k capacity n d c)
    (more : n ≤ l) (is : IsTask m k p s t) (early : s.clock ≤ l) (few : s.task.forked ≤ l)
    (dj cj : ChannelName → Option Channel) (made : Path → ℕ) (asker : EndName → Option Path)
    (same : (h : ChannelName) → dj h ≡ cj h) (own : made p ≡ t.made)
    (else_made : (q : Path) → same_path p q ≡ false → made q ≡ d.made q)
    (makers : (q : Path) (i : ℕ) → made q ≡ suc i → (j : Channel) × (dj (channel_name q i) ≡ Some j))
    (makes : (q : Path) → made q ≤ l)
    (again : Option Path) (fair : AreFair (put_at p (Some s) d.tasks) dj)
    (ready : (q : Path) → same_path p q ≡ false → (again ≡ Some q → ⊥) →
    d.ready q ≡ moves_so (length k.types.items) capacity dj (d.tasks q))
    (askers : (q : Path) (u : Slot) (x : EndName) → d.tasks q ≡ Some u → end_of u.request ≡ Some x → asker x ≡ Some q) where
  abbrev many : ℕ
  many = length k.types.items

  abbrev mid : Kept
  mid = record { tasks = d.tasks; channels = dj; made = made; ready = d.ready; asker = asker }

  made_written : (q : Path) (b : Bool) (u : Task) → same_path p q ≡ b → placed b t (c.tasks q) ≡ Some u → made q ≡ u.made
  made_written q true u e f = ap made (sym (same_path-same p q e)) ∙ own ∙ ap (λ (z : Task). z.made) (same_Some t u f)
  made_written q false u e f = else_made q e ∙ r.made q u f

  forks_written : (q : Path) (b : Bool) (u : Slot) → (if b then Some s else d.tasks q) ≡ Some u → u.task.forked ≤ l
  forks_written q true u f = subst (λ (z : Slot). z.task.forked ≤ l) (same_Some s u f) few
  forks_written q false u f = let g = r.forks q u f in omega (arith, g, more)

  clocks_written : (q : Path) (b : Bool) (u : Slot) → (if b then Some s else d.tasks q) ≡ Some u → u.clock ≤ l
  clocks_written q true u f = subst (λ (z : Slot). z.clock ≤ l) (same_Some s u f) early
  clocks_written q false u f = let g = r.clocks q u f in omega (arith, g, more)

  pub written : Reflects m k capacity l (tested many capacity again (settled many capacity p s mid))
      (record { tasks = λ q. placed (same_path p q) t (c.tasks q); channels = cj })
  written = record {
    from = r.from;
    tasks = tasks_written m k d.tasks c.tasks p s t r.tasks is;
    channels = same;
    made = λ q u f. made_written q (same_path p q) u refl f;
    makers = makers;
    ready = tested_ready many capacity p s mid again ready;
    askers = settled_askers many capacity p s mid fair askers;
    clocks = λ q u f. clocks_written q (same_path p q) u f;
    forks = λ q u f. forks_written q (same_path p q) u f;
    makes = makes;
  }

up : (n : ℕ) → n ≤ suc n
up n = omega arith

raised : (i n : ℕ) → i ≤ n → i ≤ suc n
raised i n h = omega (arith, h)

within : (i j n : ℕ) → i ≡ j → j ≤ n → i ≤ suc n
within i j n e h = omega (arith, e, h)

counted_within : (i j n : ℕ) → i ≡ max (suc j) zero → j ≤ n → i ≤ suc n
counted_within i j n e h = omega (arith, e, h)

none_within : (i n : ℕ) → i ≡ zero → i ≤ n
none_within i n e = omega (arith, e)

-- a channel that is changed on both sides is the same
changed_same : (b : Bool) (f : Channel → Channel) (k : Channel) (o q : Option Channel) → o ≡ q → (b ≡ true → q ≡ Some k) →
    (if b then option_map f o else o) ≡ placed b (f k) q
changed_same true f k o q e there = ap (option_map f) (e ∙ there refl)
changed_same false f k o q e there = e

added_same : (b : Bool) (k : Channel) (o q : Option Channel) → o ≡ q → (if b then Some k else o) ≡ placed b k q
added_same true k o q e = refl
added_same false k o q e = e

changed_there : (b : Bool) (f : Channel → Channel) (o : Option Channel) (j : Channel) → o ≡ Some j → (i : Channel) ×
    ((if b then option_map f o else o) ≡ Some i)
changed_there true f o j e = (f j, ap (option_map f) e)
changed_there false f o j e = (j, e)

added_there : (b : Bool) (k : Channel) (o : Option Channel) (j : Channel) → o ≡ Some j → (i : Channel) ×
    ((if b then Some k else o) ≡ Some i)
added_there true k o j e = (k, refl)
added_there false k o j e = (j, e)

-- the last channel that a task has made is there where one is changed
changed_makers : (m : Module) (k : Code) (capacity n : ℕ) (d : Kept) (c : Config) → Reflects m k capacity n d c →
    (h : ChannelName) (f : Channel → Channel) (q : Path) (i : ℕ) → d.made q ≡ suc i →
    (j : Channel) × ((changed h f d).channels (channel_name q i) ≡ Some j)
changed_makers m k capacity n d c r h f q i e =
    let w = r.makers q i e in
    changed_there (same_channel h (channel_name q i)) f (d.channels (channel_name q i)) w.0 w.1

next_of : (i j : ℕ) → suc i ≡ suc j → i ≡ j
next_of i j e = omega (arith, e)

-- and where one is added
added_makers : (m : Module) (k : Code) (capacity n : ℕ) (d : Kept) (c : Config) → Reflects m k capacity n d c →
    (p : Path) (a : Channel) (q : Path) (i : ℕ) →
    (added (channel_name p (d.made p)) a d).made q ≡ suc i → (j : Channel) ×
    ((added (channel_name p (d.made p)) a d).channels (channel_name q i) ≡ Some j)
added_makers m k capacity n d c r p a q i = go (same_path p q) refl
  where
    go : (b : Bool) → same_path p q ≡ b → (if b then suc (d.made p) else d.made q) ≡ suc i → (j : Channel) ×
        ((added (channel_name p (d.made p)) a d).channels (channel_name q i) ≡ Some j)
    go true s e =
        let is : channel_name p (d.made p) ≡ channel_name q i =
        λ z. channel_name (same_path-same p q s z) (next_of (d.made p) i e z) in (
          a,
          ap (λ z. if z then Some a else d.channels (channel_name q i))
              (ap (same_channel (channel_name p (d.made p))) (sym is) ∙ same_channel-itself (channel_name p (d.made p))),
        )
    go false s e = let w = r.makers q i e in added_there (same_channel (channel_name p (d.made p)) (channel_name q i)) a
        (d.channels (channel_name q i)) w.0 w.1

-- a task that isn't there has made no channel
unmade : (m : Module) (k : Code) (capacity n : ℕ) (d : Kept) (c : Config) (q : Path) → Reflects m k capacity n d c →
    c.tasks q ≡ None → HasMakers (core c) → d.made q ≡ zero
unmade m k capacity n d c q r none makers = go (d.made q) refl
  where
    go : (i : ℕ) → d.made q ≡ i → i ≡ zero
    go zero e = refl
    go (suc i) e =
        let w = r.makers q i e in
        let t = makers (channel_name q i) (plain w.0) (ap (option_map plain) (sym (r.channels (channel_name q i)) ∙ w.1)) in
        absurd (none-some t.0 (sym none ∙ t.1))

module _ (k : Code) (capacity : ℕ) (d : Kept) (p : Path) where
  abbrev types : ℕ
  types = length k.types.items

  module _ (m : Module) (n : ℕ) (c : Config) (r : Reflects m k capacity n d c) (a : Answer) (mid : Kept)
      (tasks_same : mid.tasks ≡ d.tasks) (e : Kept) (g : HasGoneOn k capacity p a mid e) (t : Task)
      (there : c.tasks p ≡ Some t) where
    its : IsTask m k p g.slot t
    its = its_task m k capacity n d c p g.slot t r (sym (ap (λ f. f p) tasks_same) ∙ g.there) there

    now_is : (u : Task) → answered (program m) t.state a ≡ Some u.state → forked_after a t.forked ≡ u.forked →
        (pause m.families.items u.state ≡ stuck → ⊥) → IsTask m k p g.now u
    now_is u told forked alive = gone_task m k p a g.slot g.now t u r.from its g.moves_on told forked alive

    forked_within : (u : Task) → IsTask m k p g.now u → forked_after a t.forked ≡ t.forked → u.forked ≡ t.forked →
        g.now.task.forked ≤ suc n
    forked_within u is f e =
        within g.now.task.forked g.slot.task.forked n (is.forked ∙ e ∙ sym its.forked)
        (r.forks p g.slot (sym (ap (λ f. f p) tasks_same) ∙ g.there))

    clock_within : g.now.clock ≤ suc n
    clock_within = counted_within g.now.clock g.slot.clock n g.moves_on.clock
        (r.clocks p g.slot (sym (ap (λ f. f p) tasks_same) ∙ g.there))

  module _ (m : Module) (n : ℕ) (c : Config) (r : Reflects m k capacity n d c) where
    fair_before : IsRight (program m) c → AreFair d.tasks d.channels
    fair_before before = right_fair m k d.tasks d.channels c r.tasks r.channels before

    fair_after : (s : Slot) (t : Task) → IsTask m k p s t → (dj cj : ChannelName → Option Channel) →
        ((h : ChannelName) → dj h ≡ cj h) →
        IsRight (program m) (record { tasks = λ q. placed (same_path p q) t (c.tasks q); channels = cj }) →
        AreFair (put_at p (Some s) d.tasks) dj
    fair_after s t is dj cj same right =
        right_fair m k (put_at p (Some s) d.tasks) dj (record
        { tasks = λ q. placed (same_path p q) t (c.tasks q); channels = cj })
        (tasks_written m k d.tasks c.tasks p s t r.tasks is) same right

  -- after a step
  pub local_happens : (e : Kept) → HasGoneOn k capacity p Go d e → Happens k capacity d (local p) e
  local_happens e g = λ m n c b r f before right makers parents.
      let u = in_state f.0 f.1 in
      let there : b.tasks p ≡ Some u = ap (λ (z : Config). z.tasks p) f.4 ∙ ap
      (λ z. placed z u (c.tasks p)) (same_path-itself p) in
      let is = now_is m n c r Go d refl e g f.0 f.2.0 u f.3 refl (right_alive m b p u right there) in
      let fair = fair_after m n c r g.now u is d.channels c.channels r.channels (subst (IsRight (program m)) f.4 right) in
      subst (λ z. Reflects m k capacity (suc n) z b) (sym g.after)
      (subst (Reflects m k capacity (suc n) (settled types capacity p g.now d)) (sym f.4)
      (written m k capacity n (suc n) d c p g.now u r (up n) is (clock_within m n c r Go d refl e g f.0 f.2.0)
      (forked_within m n c r Go d refl e g f.0 f.2.0 u is refl refl) d.channels c.channels d.made d.asker r.channels
      (r.made p f.0 f.2.0) (λ q h. refl) r.makers (λ q. raised (d.made q) n (r.makes q))
      None fair (λ q h i. r.ready q) r.askers))

  -- after a channel is changed at an end at which the task asks, and who asked last at the other one is tested again
  module _ (m : Module) (n : ℕ) (c b : Config) (r : Reflects m k capacity n d c) (before : IsRight (program m) c)
      (right : IsRight (program m) b) (a : Answer) (x : EndName) (f : Channel → Channel) (mid e0 e : Kept)
      (is_mid : mid ≡ changed x.channel f d) (g : HasGoneOn k capacity p a mid e0)
      (is_e : e ≡ tested types capacity (d.asker (other x)) e0) (t : Task) (there : c.tasks p ≡ Some t)
      (asks : (s : Slot) → d.tasks p ≡ Some s → end_of s.request ≡ Some x) (s : State) (j : Channel)
      (channel : c.channels x.channel ≡ Some j) (told : answered (program m) t.state a ≡ Some s)
      (same_forked : forked_after a t.forked ≡ t.forked)
      (is_b : b ≡ with_task (with_channel c x.channel (f j)) p (in_state t s)) where
    abbrev u : Task
    u = in_state t s

    abbrev dj : ChannelName → Option Channel
    dj = (changed x.channel f d).channels

    abbrev cj : ChannelName → Option Channel
    cj = (with_channel c x.channel (f j)).channels

    now_there : b.tasks p ≡ Some u
    now_there = ap (λ (z : Config). z.tasks p) is_b ∙ ap (λ z. placed z u (c.tasks p)) (same_path-itself p)

    tasks_same : mid.tasks ≡ d.tasks
    tasks_same = ap (λ (z : Kept). z.tasks) is_mid

    was_there : d.tasks p ≡ Some g.slot
    was_there = sym (ap (λ h. h p) tasks_same) ∙ g.there

    is : IsTask m k p g.now u
    is = now_is m n c r a mid tasks_same e0 g t there u told same_forked (right_alive m b p u right now_there)

    same : (h : ChannelName) → dj h ≡ cj h
    same h = changed_same (same_channel x.channel h) f j (d.channels h) (c.channels h) (r.channels h)
        (λ q. ap c.channels (sym (same_channel-same x.channel h q)) ∙ channel)

    pub exchanged : Reflects m k capacity (suc n) e b
    exchanged =
        subst (λ z. Reflects m k capacity (suc n) z b)
        (sym (is_e ∙ ap (tested types capacity (d.asker (other x))) (g.after ∙ ap (settled types capacity p g.now) is_mid)))
        (subst (Reflects m k capacity (suc n) (tested types capacity (d.asker (other x))
        (settled types capacity p g.now (changed x.channel f d)))) (sym is_b)
        (written m k capacity n (suc n) d c p g.now u r (up n) is (clock_within m n c r a mid tasks_same e0 g t there)
        (forked_within m n c r a mid tasks_same e0 g t there u is same_forked refl) dj cj d.made d.asker same
        (r.made p t there) (λ q h. refl) (changed_makers m k capacity n d c r x.channel f)
        (λ q. raised (d.made q) n (r.makes q))
        (d.asker (other x)) (fair_after m n c r g.now u is dj cj same (subst (IsRight (program m)) is_b right))
        (changed_ready m k capacity n d c r (fair_before m n c r before) p g.slot x f was_there (asks g.slot was_there))
        r.askers))

  -- after something is put in
  pub put_happens : (s : Slot) → d.tasks p ≡ Some s → (x : EndName) (ev : Event) → s.request ≡ request.Put x ev →
      (mid e0 e : Kept) → mid ≡ changed x.channel (after_put x.side ev) d → HasGoneOn k capacity p Sent mid e0 →
      e ≡ tested types capacity (d.asker (other x)) e0 → Happens k capacity d (put p x ev) e
  put_happens s here x ev asks mid e0 e is_mid g is_e = λ m n c b r f before right makers parents.
      exchanged m n c b r before right Sent x (after_put x.side ev) mid e0 e is_mid g is_e f.0 f.3.0 (at_end s here x ev asks)
      f.1 f.2 f.4 f.7 refl f.8
    where
      at_end : (s : Slot) → d.tasks p ≡ Some s → (x : EndName) (ev : Event) → s.request ≡ request.Put x ev →
          (o : Slot) → d.tasks p ≡ Some o → end_of o.request ≡ Some x
      at_end s here x ev asks o there = ap (λ (z : Slot). end_of z.request) (same_Some o s (sym there ∙ here)) ∙ ap end_of asks

  -- after something is taken
  pub take_happens : (s : Slot) → d.tasks p ≡ Some s → (x : EndName) (ev : Event) → s.request ≡ request.Get x →
      (mid e0 e : Kept) → mid ≡ changed x.channel (further x.side) d → HasGoneOn k capacity p (Got ev) mid e0 →
      e ≡ tested types capacity (d.asker (other x)) e0 → Happens k capacity d (takes p x ev) e
  take_happens s here x ev asks mid e0 e is_mid g is_e = λ m n c b r f before right makers parents.
      exchanged m n c b r before right (Got ev) x (further x.side) mid e0 e is_mid g is_e f.0 f.4.0 (at_end s here x asks)
      f.1 f.2 f.5 f.8 refl f.9
    where
      at_end : (s : Slot) → d.tasks p ≡ Some s → (x : EndName) → s.request ≡ request.Get x →
          (o : Slot) → d.tasks p ≡ Some o → end_of o.request ≡ Some x
      at_end s here x asks o there = ap (λ (z : Slot). end_of z.request) (same_Some o s (sym there ∙ here)) ∙ ap end_of asks

  -- after a channel is made
  pub new_happens : (s : Slot) → d.tasks p ≡ Some s → (h : ChannelName) → h ≡ channel_name p (d.made p) →
      (number : ℕ) (a : Tree) → s.request ≡ request.New number →
      slice_get k.types.items number ≡ Some a → (mid e : Kept) → mid ≡ added h (opened a) d →
      HasGoneOn k capacity p (Made h) mid e → Happens k capacity d (new p) e
  new_happens s here h is_h number a asks type mid e is_mid g = λ m n c b r f before right makers parents.
      let u : Task = record { state = f.1; made = suc f.0.made; forked = f.0.forked; clock = f.0.clock } in
      let there : b.tasks p ≡ Some u = ap (λ (z : Config). z.tasks p) f.7 ∙ ap
      (λ z. placed z u (c.tasks p)) (same_path-itself p) in
      let made_is : d.made p ≡ f.0.made = r.made p f.0 f.4.0 in
      let it = its_task m k capacity n d c p s f.0 r here f.4.0 in
      let number_is : number ≡ f.2 = new_number number f.2
      (sym asks ∙ same_Some s.request (request.New f.2) (sym it.asks ∙ f.4.1)) in
      let type_is : a ≡ f.3 = same_Some a f.3 (sym type ∙ (λ j. slice_get (r.from.same_types j) (number_is j)) ∙ f.5) in
      let told : answered (program m) f.0.state (Made h) ≡ Some f.1 = ap
      (λ z. answered (program m) f.0.state (Made z)) (is_h ∙ ap (channel_name p) made_is) ∙ f.6 in
      let is = now_is m n c r (Made h) mid (ap (λ (z : Kept). z.tasks) is_mid) e g f.0 f.4.0 u told refl
      (right_alive m b p u right there) in
      let name = channel_name p (d.made p) in
      let kept : mid ≡ added name (opened f.3) d = is_mid ∙ (λ j. added (is_h j) (opened (type_is j)) d) in
      let same : with_task (with_channel c name (opened f.3)) p u ≡ b = ap
      (λ z. with_task (with_channel c (channel_name p z) (opened f.3)) p u) made_is ∙ sym f.7 in
      let free : d.channels name ≡ None = r.channels name ∙ ap c.channels (ap (channel_name p) made_is)
      ∙ no_channel (c.channels (channel_name p f.0.made)) (new_free (core c) p f.0 makers f.4.0) in
      let dj = (added name (opened f.3) d).channels in
      let cj = (with_channel c name (opened f.3)).channels in
      let channels : (g : ChannelName) → dj g ≡ cj g =
      λ g. added_same (same_channel name g) (opened f.3) (d.channels g) (c.channels g) (r.channels g) in
      let held = fair_before m n c r before in
      subst (λ z. Reflects m k capacity (suc n) z b) (sym (g.after ∙ ap (settled types capacity p g.now) kept))
      (subst (Reflects m k capacity (suc n) (settled types capacity p g.now (added name (opened f.3) d))) same
      (written m k capacity n (suc n) d c p g.now u r (up n) is
      (clock_within m n c r (Made h) mid (ap (λ (z : Kept). z.tasks) is_mid) e g f.0 f.4.0)
      (forked_within m n c r (Made h) mid (ap (λ (z : Kept). z.tasks) is_mid) e g f.0 f.4.0 u is refl refl)
      dj cj (added name (opened f.3) d).made (added name (opened f.3) d).asker channels
      (put_here p (suc (d.made p)) d.made ∙ ap suc made_is)
      (λ q h. put_else p q (suc (d.made p)) d.made h) (added_makers m k capacity n d c r p (opened f.3))
      (λ q. made_within m n c r q)
      None (fair_after m n c r g.now u is dj cj channels (subst (IsRight (program m)) (sym same) right))
      (λ q h i. added_ready m k capacity n d c r held name (opened f.3) free q)
      (added_askers m k capacity n d c r held name (opened f.3) free)))
    where
      new_number : (i j : ℕ) → request.New i ≡ request.New j → i ≡ j
      new_number i j e = cc e

      made_within : (m : Module) (n : ℕ) (c : Config) → Reflects m k capacity n d c →
          (q : Path) → put_at p (suc (d.made p)) d.made q ≤ suc n
      made_within m n c r q = go (same_path p q)
        where
          go : (b : Bool) → (if b then suc (d.made p) else d.made q) ≤ suc n
          go true = let l = r.makes p in omega (arith, l)
          go false = let l = r.makes q in omega (arith, l)

  -- after a task is forked
  pub fork_happens : (s : Slot) → d.tasks p ≡ Some s →
      (u : TaskView) (y : Slot) (e g : Kept) → HasGoneOn k capacity p Forked d e → IsChild k s.task u → Settles k u y →
      y.clock ≡ zero → g ≡ settled types capacity y.task.path y e →
      Happens k capacity d (fork p) g
  fork_happens s here u y e g h child z clock after = λ m n c b r f before right makers parents.
      let parent : Task = record { state = f.1; made = f.0.made; forked = suc f.0.forked; clock = f.0.clock } in
      let q = child_path p f.0.forked in
      let born_task = new_task f.2 0 in
      let free = fork_free (core c) p f.0 parents f.3.0 in
      let half = with_task c p parent in
      let whole = with_task half q born_task in
      let at_q : whole.tasks q ≡ Some born_task = ap
      (λ z. placed z born_task (half.tasks q)) (same_path-itself q) in
      let half_free : half.tasks q ≡ None = stays_free (core c) p q f.0 parent f.3.0 free in
      let at_p : whole.tasks p ≡ Some parent =
      stays_there (core half) q p born_task parent half_free (put_there (core c) p parent) in
      let child_there : b.tasks q ≡ Some born_task = ap (λ (z : Config). z.tasks q) f.6 ∙ at_q in
      let parent_there : b.tasks p ≡ Some parent = ap (λ (z : Config). z.tasks p) f.6 ∙ at_p in
      let is = now_is m n c r Forked d refl e h f.0 f.3.0 parent f.5 refl (right_alive m b p parent right parent_there) in
      let it = its_task m k capacity n d c p s f.0 r here f.3.0 in
      let path : u.path ≡ q = child.path ∙ (λ a. it.path a ++ suc (it.forked a) ∷ []) in
      let born = settled_task m k u y q born_task z path (child.states m f.0.state f.2 r.from it.is_in f.4) child.forked
      (right_alive m b q born_task right child_there) in
      let halves = tasks_written m k d.tasks c.tasks p h.now parent r.tasks is in
      let half_tasks = put_at p (Some h.now) d.tasks in
      let fair = right_fair m k (put_at q (Some y) half_tasks) d.channels whole
      (tasks_written m k half_tasks half.tasks q y born_task halves born) r.channels (subst (IsRight (program m)) f.6 right) in
      let none : half_tasks q ≡ None = none_kept m k q (half_tasks q) (half.tasks q) (halves q) half_free in
      let half_fair = fewer_fair half_tasks (put_at q (Some y) half_tasks) d.channels (among half_tasks q y none) fair in
      let first = written m k capacity n (suc n) d c p h.now parent r (up n) is (clock_within m n c r Forked d refl e h f.0 f.3.0)
      (parent_within h.now.task.forked f.0.forked n is.forked (within_bound m n c r s here it))
      d.channels c.channels d.made d.asker r.channels (r.made p f.0 f.3.0) (λ q h. refl) r.makers
      (λ q. raised (d.made q) n (r.makes q)) None half_fair (λ q h i. r.ready q) r.askers in
      let second = written m k capacity (suc n) (suc n) (settled types capacity p h.now d) half q y born_task first
      (omega arith) born (none_within y.clock (suc n) clock) (none_within y.task.forked (suc n) born.forked)
      d.channels c.channels d.made (settled types capacity p h.now d).asker r.channels
      (unmade m k capacity n d c q r free makers) (λ q h. refl) r.makers
      (λ q. raised (d.made q) n (r.makes q)) None fair (λ q h i. first.ready q) first.askers in
      let kept : g ≡ settled types capacity q y (settled types capacity p h.now d) =
      after ∙ (λ a. settled types capacity ((z.stays.path ∙ path) a) y (h.after a)) in
      subst (λ w. Reflects m k capacity (suc n) w b) (sym kept)
      (subst (Reflects m k capacity (suc n) (settled types capacity q y (settled types capacity p h.now d))) (sym f.6) second)
    where
      within_bound : (m : Module) (n : ℕ) (c : Config) → Reflects m k capacity n d c →
          (s : Slot) → d.tasks p ≡ Some s → {t : Task} → IsTask m k p s t → t.forked ≤ n
      within_bound m n c r s here it = subst (λ z. z ≤ n) it.forked (r.forks p s here)

      parent_within : (i j n : ℕ) → i ≡ suc j → j ≤ n → i ≤ suc n
      parent_within i j n e h = omega (arith, e, h)

-- at the beginning
pub start_happens : (k : Code) (capacity : ℕ) (t : TaskView) (y : Slot) (e : Kept) → IsStart k t → Settles k t y →
    y.clock ≡ zero → e ≡ settled (length k.types.items) capacity y.task.path y nothing → IsBegun k capacity e
start_happens k capacity t y e start z clock after = λ m main from body right.
    let there : (started main).tasks main_path ≡ Some (new_task (begins main []) zero) = refl in
    let is = settled_task m k t y main_path (new_task (begins main []) zero) z start.path
    (start.begun m main from body) start.forked
    (right_alive m (started main) main_path (new_task (begins main []) zero) right there) in
    let types = length k.types.items in
    let kept : e ≡ settled types capacity main_path y nothing =
    after ∙ ap (λ p. settled types capacity p y nothing) (z.stays.path ∙ start.path) in
    let tasks : (q : Path) → AreTask m k q (put_at main_path (Some y) nothing.tasks q) ((started main).tasks q) =
    λ q. first m main is q (same_path main_path q) refl in
    let fair = right_fair m k (put_at main_path (Some y) nothing.tasks) nothing.channels (started main) tasks (λ h. refl) right in
    subst (λ w. Reflects m k capacity zero w (started main)) (sym kept) (record {
      from = from;
      tasks = tasks;
      channels = λ h. refl;
      made = λ q u f. none_made main q u (same_path main_path q) f;
      makers = λ q i f. absurd (omega (arith, f));
      ready = tested_ready types capacity main_path y nothing None (λ q f g. refl);
      askers = settled_askers types capacity main_path y nothing fair (λ q u x f g. absurd (none-some u f));
      clocks = λ q u f. no_number (λ (z : Slot). z.clock) u clock (same_path main_path q) f;
      forks = λ q u f. no_number (λ (z : Slot). z.task.forked) u is.forked (same_path main_path q) f;
      makes = λ q. omega arith;
    })
  where
    first : (m : Module) (main : CoreTree) → IsTask m k main_path y (new_task (begins main []) zero) →
        (q : Path) (b : Bool) → same_path main_path q ≡ b →
        AreTask m k q (if b then Some y else None) (if b then Some (new_task (begins main []) zero) else None)
    first m main is q true e = subst (λ z. IsTask m k z y (new_task (begins main []) zero)) (same_path-same main_path q e) is
    first m main is q false e = tt

    none_made : (main : CoreTree) (q : Path) (u : Task) (b : Bool) →
        (if b then Some (new_task (begins main []) zero) else None) ≡ Some u → zero ≡ u.made
    none_made main q u true f = ap (λ (z : Task). z.made) (same_Some (new_task (begins main []) zero) u f)
    none_made main q u false f = absurd (none-some u f)

    no_number : (f : Slot → ℕ) (u : Slot) → f y ≡ zero → (b : Bool) → (if b then Some y else None) ≡ Some u → f u ≤ zero
    no_number f u e true g = let h = ap f (same_Some y u g) in omega (arith, e, h)
    no_number f u e false g = absurd (none-some u g)

-- the task of main asks for something at the beginning
pub start_next : (k : Code) (t : TaskView) → IsStart k t → CanStart k → HasNext k t
start_next k t start x = record {
  source = x.source;
  from = x.from;
  state = begins x.main [];
  is_in = start.begun x.source x.main x.from x.body;
  next = let a = x.right.asks main_path (new_task (begins x.main []) zero) refl in (a.0, a.1);
}
