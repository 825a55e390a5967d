-- Names are fresh: those of channels and the paths of tasks stay the ones that counts have given.
use Rattle.std.proofs.Common.{◌≡◌, ◌∙◌, ℕ, zero, suc, ◌<◌, ◌≤◌, List, [], ◌∷◌, ◌++◌, length, length-append}
use Rattle.std.proofs.Common.{Bool, true, false, Option, Some, None, refl, sym, ap, subst, arith}
use Rattle.std.proofs.lemmas.Option.{none-some, same_Some}
use Rattle.fst_types.specs.Tree.{Tree}
use Rattle.fst_terms.specs.CoreTree.{CoreTree}
use Rattle.fst_types.specs.declared.ends.ChannelName.{ChannelName}
use Rattle.fst_types.specs.declared.ends.EndName.{EndName}
use Rattle.fst_types.specs.declared.event.Event.{Event}
use Rattle.fst_machine.specs.declared.request.Request.TheVariants as request
use Rattle.fst_machine.specs.Machine as machine
use Rattle.fst_machine.specs.Machine.{Program, State, begins}
use Rattle.fst_runs.specs.declared.event.CoreEvent.{CoreEvent}
use Rattle.fst_runs.specs.declared.event.CoreEvent.TheVariants.{Local, New, Fork, Meet}
use Rattle.fst_runs.specs.Configs.{Path, Task, Channel, Config, same_path, same_channel, other, child_path, channel_name, new_task, main_path, started}
use Rattle.fst_runs.specs.Events.{Write, written, moved, meeting_stamp, extended, Asks, Does, has_made, has_forked, has_met, passed}
use Rattle.fst_runs.specs.Names.{HasMakers, HasParents}
use Rattle.fst_runs.proofs.NameLaws.{same_path-same, same_channel-same}
use Rattle.fst_runs.proofs.Updates.{put, with_task, with_channel, in_test, in_put}
use Rattle.fst_runs.proofs.Updates.{local_puts, new_puts, fork_puts, meet_puts, put_there, stays_apart, stays_there, stays_free}

last_same : (p q : List ℕ) (j k : ℕ) → p ++ j ∷ [] ≡ q ++ k ∷ [] → (p ≡ q) × (j ≡ k)
last_same [] [] j k e =
    let f : j ≡ k = cc in
    (refl, f)
last_same [] (b ∷ q) j k e =
    let f : [] ≡ q ++ k ∷ [] = cc in
    let n = ap length f in
    let l = length-append q (k ∷ []) in
    absurd (omega (arith, n, l))
last_same (a ∷ p) [] j k e =
    let f : p ++ j ∷ [] ≡ [] = cc in
    let n = ap length f in
    let l = length-append p (j ∷ []) in
    absurd (omega (arith, n, l))
last_same (a ∷ p) (b ∷ q) j k e =
    let f : a ≡ b = cc in
    let g : p ++ j ∷ [] ≡ q ++ k ∷ [] = cc in
    let h = last_same p q j k g in
    (λ i. f i ∷ h.0 i, h.1)

-- a task's path says who forked it, and as which
pub one_parent : (p q : Path) (j k : ℕ) → child_path p j ≡ child_path q k → (p ≡ q) × (j ≡ k)
one_parent p q j k e =
    let h = last_same p q (suc j) (suc k) e in
    let f = h.1 in
    (h.0, omega (arith, f))

-- main has no parent
pub no_parent : (p : Path) (k : ℕ) → child_path p k ≡ main_path → ⊥
no_parent p k e =
    let h = last_same p [] (suc k) zero e in
    let f = h.1 in
    omega (arith, f)

-- at the start names are fresh
pub named_start : (e : CoreTree) → HasMakers (started e) × HasParents (started e)
named_start e = (
  λ h k f. absurd (none-some k f),
  λ p k t f. in_test (same_path main_path (child_path p k)) (new_task (begins e []) zero) t
      (λ g q. absurd (no_parent p k (sym (same_path-same main_path (child_path p k) g)))) f,
)

not_less : (n : ℕ) → n < n → ⊥
not_less n h = omega (arith, h)

-- the name of a task's next channel is new
pub new_free : (c : Config) (p : Path) (t : Task) → HasMakers c → c.tasks p ≡ Some t → c.channels (channel_name p t.made) ≡ None
new_free c p t h e = go (c.channels (channel_name p t.made)) refl
  where
    go : (o : Option Channel) → c.channels (channel_name p t.made) ≡ o → o ≡ None
    go None f = refl
    go (Some k) f =
        let g = h (channel_name p t.made) k f in
        absurd (not_less t.made (subst (λ w. t.made < w.made) (same_Some g.0 t (sym g.1 ∙ e)) g.3))

-- so is the path of the next task that it forks
pub fork_free : (c : Config) (p : Path) (t : Task) → HasParents c → c.tasks p ≡ Some t → c.tasks (child_path p t.forked) ≡ None
fork_free c p t h e = go (c.tasks (child_path p t.forked)) refl
  where
    go : (o : Option Task) → c.tasks (child_path p t.forked) ≡ o → o ≡ None
    go None f = refl
    go (Some u) f =
        let g = h p t.forked u f in
        absurd (not_less t.forked (subst (λ w. t.forked < w.forked) (same_Some g.0 t (sym g.1 ∙ e)) g.2))

-- a task has made and forked no less
abbrev pub Grows : Task → Task → Type 0
Grows t u = (t.made ≤ u.made) × (t.forked ≤ u.forked)

grows_itself : (t : Task) → Grows t t
grows_itself t = (omega arith, omega arith)

-- a task that was there is, or one in its place that has grown
still_there : (c : Config) (p q : Path) (t s u : Task) → c.tasks p ≡ Some t → Grows t s → c.tasks q ≡ Some u → (v : Task) ×
    ((with_task c p s).tasks q ≡ Some v) × Grows u v
still_there c p q t s u e g f = go (same_path p q) refl
  where
    go : (b : Bool) → same_path p q ≡ b → (v : Task) × (put b s (c.tasks q) ≡ Some v) × Grows u v
    go false h = (u, f, grows_itself u)
    go true h = (s, refl, subst (λ w. Grows w s) (same_Some t u (sym e ∙ ap c.tasks (same_path-same p q h) ∙ f)) g)

-- where a task is, one was
was_there : (c : Config) (p q : Path) (t s u : Task) → c.tasks p ≡ Some t → (with_task c p s).tasks q ≡ Some u → (v : Task) ×
    (c.tasks q ≡ Some v)
was_there c p q t s u e f = in_put (same_path p q) s u (c.tasks q) (λ h z. (t, ap c.tasks (sym (same_path-same p q h)) ∙ e))
    (λ h z. (u, z)) f

more_made : (k : ℕ) (u w : Task) → k ≤ u.made → Grows u w → k ≤ w.made
more_made k u w l g = omega (arith, l, g.0)

more_forked : (k : ℕ) (u w : Task) → k < u.forked → Grows u w → k < w.forked
more_forked k u w l g = omega (arith, l, g.1)

-- the makers of channels are there after a task has grown
pub makers_with : (c : Config) (p : Path) (t s : Task) → HasMakers c → c.tasks p ≡ Some t → Grows t s →
    HasMakers (with_task c p s)
makers_with c p t s h e g k j f =
    let o = h k j f in
    let w = still_there c p k.maker t s o.0 e g o.1 in
    (w.0, w.1, o.2, more_made k.count o.0 w.0 o.3 w.2)

-- and so are the parents of tasks
pub parents_with : (c : Config) (p : Path) (t s : Task) → HasParents c → c.tasks p ≡ Some t → Grows t s →
    HasParents (with_task c p s)
parents_with c p t s h e g q k u f =
    let b = was_there c p (child_path q k) t s u e f in
    let o = h q k b.0 b.1 in
    let w = still_there c p q t s o.0 e g o.1 in
    (w.0, w.1, more_forked k o.0 w.0 o.2 w.2)

-- names stay fresh where a task makes a channel; n is its clock after it
module _ (c : Config) (p : Path) (t : Task) (s : State) (n : ℕ) (k : Channel) (hm : HasMakers c) (hp : HasParents c)
    (e : c.tasks p ≡ Some t) where
  abbrev maker : Task
  maker = has_made t s n

  abbrev name : ChannelName
  name = channel_name p t.made

  abbrev made : Config
  made = with_task (with_channel c name k) p maker

  pub named_new : HasMakers made × HasParents made
  named_new = (
    λ g j f. in_put (same_channel name g) k j (c.channels g)
        (λ a b. subst (λ g. (w : Task) × (made.tasks g.maker ≡ Some w) × (0 < g.count) × (g.count ≤ w.made))
        (same_channel-same name g a)
        (maker, put_there c p maker, omega arith, omega arith))
        (λ a b. makers_with c p t maker hm e (omega arith, omega arith) g j b) f,
    parents_with c p t maker hp e (omega arith, omega arith),
  )

-- and where it makes a task
module _ (c : Config) (p : Path) (t : Task) (s : State) (n : ℕ) (k : Task) (hm : HasMakers c) (hp : HasParents c)
    (e : c.tasks p ≡ Some t) where
  abbrev parent : Task
  parent = has_forked t s n

  abbrev before : Config
  before = with_task c p parent

  abbrev path : Path
  path = child_path p t.forked

  abbrev forked : Config
  forked = with_task before path k

  there : (o : Path) (w : Task) → before.tasks o ≡ Some w → forked.tasks o ≡ Some w
  there o w f = stays_there before path o k w (stays_free c p path t parent e (fork_free c p t hp e)) f

  last : (j : ℕ) → t.forked ≡ j → j < suc t.forked
  last j f = omega (arith, f)

  pub named_fork : HasMakers forked × HasParents forked
  named_fork = (
    λ g h f.
        let b = makers_with c p t parent hm e (omega arith, omega arith) g h f in
        (b.0, there g.maker b.0 b.1, b.2, b.3),
    λ o j w f. in_put (same_path path (child_path o j)) k w (before.tasks (child_path o j))
        (λ a b.
        let one = one_parent p o t.forked j (same_path-same path (child_path o j) a) in
        (parent, there o parent (subst (λ x. before.tasks x ≡ Some parent) one.0 (put_there c p parent)), last j one.1))
        (λ a b.
        let z = parents_with c p t parent hp e (omega arith, omega arith) o j w b in
        (z.0, there o z.0 z.1, z.2)) f,
  )

-- a task doesn't send and receive at once
pub asks_apart : (m : Program) (c : Config) (p q : Path) (t u : Task) (x y : EndName) (ev : Event) →
    Asks m c p t (request.Put x ev) → Asks m c q u (request.Get y) → p ≡ q → ⊥
asks_apart m c p q t u x y ev f g e =
    let same : u ≡ t = same_Some u t (sym g.0 ∙ ap c.tasks (sym e) ∙ f.0) in
    let asked : Some (request.Get y) ≡ Some (request.Put x ev) = sym g.1 ∙ ap (λ z. machine.request m.families z.state) same
    ∙ f.1 in
    cc asked

-- a channel that goes on keeps its maker
makers_grow : (c : Config) (h : ChannelName) (k j : Channel) → HasMakers c → c.channels h ≡ Some k →
    HasMakers (with_channel c h j)
makers_grow c h k j hm e g i f = in_put (same_channel h g) j i (c.channels g)
    (λ a b. subst (λ g. (t : Task) × (c.tasks g.maker ≡ Some t) × (0 < g.count) × (g.count ≤ t.made)) (same_channel-same h g a)
    (hm h k e))
    (λ a b. hm g i b) f

-- names stay fresh where two tasks meet
module _ (c : Config) (p q : Path) (t u : Task) (s v : State) (n : ℕ) (h : ChannelName) (k j : Channel) (hm : HasMakers c)
    (hp : HasParents c)
    (ep : c.tasks p ≡ Some t) (eq : c.tasks q ≡ Some u) (apart : p ≡ q → ⊥) (ek : c.channels h ≡ Some k) where
  abbrev first : Config
  first = with_task (with_channel c h j) p (has_met t s n)

  abbrev both : Config
  both = with_task first q (has_met u v n)

  at_q : first.tasks q ≡ Some u
  at_q = stays_apart (with_channel c h j) p q (has_met t s n) apart ∙ eq

  pub named_meet : HasMakers both × HasParents both
  named_meet = (
    makers_with first q u (has_met u v n)
        (makers_with (with_channel c h j) p t (has_met t s n) (makers_grow c h k j hm ek) ep (omega arith, omega arith)) at_q
        (omega arith, omega arith),
    parents_with first q u (has_met u v n) (parents_with (with_channel c h j) p t (has_met t s n) hp ep
        (omega arith, omega arith)) at_q (omega arith, omega arith),
  )

-- names stay fresh whatever happens
pub named_after : (m : Program) (types : List Tree) (c : Config) (e : CoreEvent) (w : Write) → Does m types c e w → HasMakers c →
    HasParents c →
    HasMakers (written c w) × HasParents (written c w)
named_after m types c (Local p) w d hm hp =
    subst (λ z. HasMakers z × HasParents z) (sym (local_puts m types c p w d)) (
      makers_with c p d.task (moved d.task d.state) hm d.asks.0 (omega arith, omega arith),
      parents_with c p d.task (moved d.task d.state) hp d.asks.0 (omega arith, omega arith),
    )
named_after m types c (New p) w d hm hp =
    subst (λ z. HasMakers z × HasParents z) (sym (new_puts m types c p w d))
    (named_new c p d.task d.state (suc d.task.clock) (record { declared = d.declared; history = [] }) hm hp d.asks.0)
named_after m types c (Fork p) w d hm hp =
    subst (λ z. HasMakers z × HasParents z) (sym (fork_puts m types c p w d))
    (named_fork c p d.task d.state (suc d.task.clock) (new_task d.begun (suc d.task.clock)) hm hp d.asks.0)
named_after m types c (Meet p q h) w d hm hp =
    subst (λ z. HasMakers z × HasParents z) (sym (meet_puts m types c p q h w d))
    (named_meet c p q d.sender d.receiver d.sent d.got (meeting_stamp d.sender d.receiver d.channel) h d.channel
    (extended d.channel (passed d.event d.sender d.receiver d.channel)) hm hp d.puts.0 d.gets.0
    (asks_apart m c p q d.sender d.receiver d.end (other d.end) d.event d.puts d.gets) d.there)
