-- The least buffered run is one: a task does one thing at most, and of two tasks that can move one comes before the other.
use Rattle.std.proofs.Common.{◌≡◌, ◌∙◌, ◌⊎◌, inl, inr, ℕ, suc, ◌≤◌, List, [], ◌∷◌, length, Option, Some, None, refl, sym, ap, subst, arith}
use Rattle.std.specs.Prelude.{option_map, option_and_then, slice_get}
use Rattle.std.specs.Cmp.Lexicographic.{slice_cmp}
use Rattle.std.specs.Ordering.{is_eq, nat_cmp, ordering_reverse}
use Rattle.std.specs.declared.cmp.Ordering.{Ordering}
use Rattle.std.specs.declared.cmp.Ordering.TheVariants.{Less, Equal, Greater}
use Rattle.std.proofs.lemmas.Cmp.{nat_list_cmp_total}
use Rattle.std.proofs.lemmas.Option.{same_Some}
use Rattle.fst_types.specs.Tree.{Tree}
use Rattle.fst_machine.specs.declared.request.Request.{Request}
use Rattle.fst_machine.specs.declared.request.Request.TheVariants as request
use Rattle.fst_machine.specs.declared.request.Answer.TheVariants.{Go, Made, Forked, Sent, Got}
use Rattle.fst_machine.specs.Machine as machine
use Rattle.fst_machine.specs.Machine.{Program, State, pause, answered, child}
use Rattle.fst_runs.specs.Configs.{Path, Task, child_path, channel_name, new_task}
use Rattle.fst_runs.specs.Least.{IsBefore}
use Rattle.fst_runs.proofs.Laws.{same_path-same}
use Rattle.fst_paths.proofs.Laws.{at_same}
use Rattle.fst_buffered.specs.Channels.{Message, Channel, Config, seen, further, after_put, with_task, with_channel, opened}
use Rattle.fst_buffered.specs.Events.{Occurrence, local, new, fork, put, takes, in_state, Does, path_of, IsLeast, RunsLeast, IsLast, LeastIsOne}

-- one path is before another, or they are one
before_or_one : (p q : Path) → IsBefore p q ⊎ ((p ≡ q) ⊎ IsBefore q p)
before_or_one p q = go (slice_cmp nat_cmp p q) refl
  where
    go : (o : Ordering) → slice_cmp nat_cmp p q ≡ o → IsBefore p q ⊎ ((p ≡ q) ⊎ IsBefore q p)
    go Less e = inl e
    go Equal e = inr (inl (same_path-same p q (sym (at_same p q) ∙ ap is_eq e)))
    go Greater e = inr (inr (nat_list_cmp_total.antisymm q p ∙ ap ordering_reverse e))

-- what happens, and what it leads to
abbrev What : Type 0
What = Occurrence × Config

module _ (m : Program) (types : List Tree) (c : Config) (p : Path) where
  -- what a task does that asks for this
  abbrev done_for : Task → Request → Option What
  done_for t request.Step = option_map (λ s. (local p, with_task c p (in_state t s))) (answered m t.state Go)
  done_for t (request.New n) =
      option_and_then (λ a. option_map
      (λ s. (
        new p,
        with_task (with_channel c (channel_name p t.made) (opened a)) p
            (record { state = s; made = suc t.made; forked = t.forked; clock = t.clock }),
      ))
      (answered m t.state (Made (channel_name p t.made)))) (slice_get types n)
  done_for t request.Fork =
      option_and_then (λ b. option_map
      (λ s. (
        fork p,
        with_task (with_task c p (record { state = s; made = t.made; forked = suc t.forked; clock = t.clock }))
            (child_path p t.forked) (new_task b 0),
      ))
      (answered m t.state Forked)) (child (pause m.families t.state))
  done_for t (request.Put x ev) =
      option_and_then (λ k. option_map
      (λ s. (put p x ev, with_task (with_channel c x.channel (after_put x.side ev k)) p (in_state t s)))
      (answered m t.state Sent)) (c.channels x.channel)
  done_for t (request.Get x) =
      option_and_then (λ k. option_and_then (λ (e : Message). option_map
      (λ s. (takes p x e.event, with_task (with_channel c x.channel (further x.side k)) p (in_state t s)))
      (answered m t.state (Got e.event))) (slice_get k.history (seen x.side k))) (c.channels x.channel)
  done_for t request.Ended = None

  -- what the task does, if it can
  abbrev done : Option What
  done = option_and_then (λ t. option_and_then (done_for t) (machine.request m.families t.state)) (c.tasks p)

  -- so it does for what it asks
  asks_done : (t : Task) (q : Request) (o : Option What) → c.tasks p ≡ Some t → machine.request m.families t.state ≡ Some q →
      done_for t q ≡ o → done ≡ o
  asks_done t q o e f g =
      ap (option_and_then (λ t. option_and_then (done_for t) (machine.request m.families t.state))) e
      ∙ ap (option_and_then (done_for t)) f ∙ g

-- what is possible is what the task does
does_done : (m : Program) (types : List Tree) (capacity : ℕ) (c : Config) (e : Occurrence) (d : Config) →
    Does m types capacity c e d → done m types c (path_of e) ≡ Some (e, d)
does_done m types capacity c (local p) d g =
    asks_done m types c p g.0 request.Step (Some (local p, d)) g.2.0 g.2.1
    (ap (option_map (λ s. (local p, with_task c p (in_state g.0 s)))) g.3 ∙ ap (λ z. Some (local p, z)) (sym g.4))
does_done m types capacity c (new p) d g =
    asks_done m types c p g.0 (request.New g.2) (Some (new p, d)) g.4.0 g.4.1
    ((λ i. option_and_then (λ a. option_map
    (λ s. (
      new p,
      with_task (with_channel c (channel_name p g.0.made) (opened a)) p
          (record { state = s; made = suc g.0.made; forked = g.0.forked; clock = g.0.clock }),
    ))
    (g.6 i)) (g.5 i)) ∙ ap (λ z. Some (new p, z)) (sym g.7))
does_done m types capacity c (fork p) d g =
    asks_done m types c p g.0 request.Fork (Some (fork p, d)) g.3.0 g.3.1
    ((λ i. option_and_then (λ b. option_map
    (λ s. (
      fork p,
      with_task (with_task c p (record { state = s; made = g.0.made; forked = suc g.0.forked; clock = g.0.clock }))
          (child_path p g.0.forked) (new_task b 0),
    ))
    (g.5 i)) (g.4 i)) ∙ ap (λ z. Some (fork p, z)) (sym g.6))
does_done m types capacity c (put p x ev) d g =
    asks_done m types c p g.0 (request.Put x ev) (Some (put p x ev, d)) g.3.0 g.3.1
    ((λ i. option_and_then (λ k. option_map
    (λ s. (put p x ev, with_task (with_channel c x.channel (after_put x.side ev k)) p (in_state g.0 s)))
    (g.7 i)) (g.4 i)) ∙ ap (λ z. Some (put p x ev, z)) (sym g.8))
does_done m types capacity c (takes p x ev) d g =
    asks_done m types c p g.0 (request.Get x) (Some (takes p x ev, d)) g.4.0 g.4.1
    (ap (option_and_then next) g.5 ∙ ap (option_and_then after) g.6
    ∙ ap (option_map then_is) (ap (λ z. answered m g.0.state (Got z)) g.7 ∙ g.8)
    ∙ (λ i. Some (takes p x (g.7 i), sym g.9 i)))
  where
    then_is : State → What
    then_is s = (takes p x g.3.event, with_task (with_channel c x.channel (further x.side g.2)) p (in_state g.0 s))

    after : Message → Option What
    after e = option_map (λ s. (takes p x e.event, with_task (with_channel c x.channel (further x.side g.2)) p (in_state g.0 s)))
        (answered m g.0.state (Got e.event))

    next : Channel → Option What
    next k = option_and_then (λ (e : Message). option_map
        (λ s. (takes p x e.event, with_task (with_channel c x.channel (further x.side k)) p (in_state g.0 s)))
        (answered m g.0.state (Got e.event))) (slice_get k.history (seen x.side k))

module _ (m : Program) (types : List Tree) (capacity : ℕ) where
  -- a task does one thing at most
  pub does_one : (c : Config) (e f : Occurrence) (d g : Config) → Does m types capacity c e d → Does m types capacity c f g →
      path_of e ≡ path_of f → (e ≡ f) × (d ≡ g)
  does_one c e f d g h k q =
      let s = same_Some (e, d) (f, g) (sym (does_done m types capacity c e d h) ∙ ap (done m types c) q
      ∙ does_done m types capacity c f g k) in
      (ap (λ (z : What). z.0) s, ap (λ (z : What). z.1) s)

  -- the least thing that is possible is one
  pub least_one : (c : Config) (e f : Occurrence) (d g : Config) → Does m types capacity c e d →
      IsLeast m types capacity c (path_of e) → Does m types capacity c f g → IsLeast m types capacity c (path_of f) →
      (e ≡ f) × (d ≡ g)
  least_one c e f d g h l k n = go (before_or_one (path_of e) (path_of f))
    where
      go : IsBefore (path_of e) (path_of f) ⊎ ((path_of e ≡ path_of f) ⊎ IsBefore (path_of f) (path_of e)) → (e ≡ f) × (d ≡ g)
      go (inl b) = absurd (n (path_of e) b (e, d, refl, h))
      go (inr (inl q)) = does_one c e f d g h k q
      go (inr (inr b)) = absurd (l (path_of f) b (f, g, refl, k))

  -- two least runs with as many events are one
  pub runs_one : (c d e : Config) (es fs : List Occurrence) → RunsLeast m types capacity c es d →
      RunsLeast m types capacity c fs e → length es ≡ length fs → (es ≡ fs) × (d ≡ e)
  runs_one c d e [] [] r s n = (refl, r ∙ sym s)
  runs_one c d e [] (f ∷ fs) r s n = absurd (omega (arith, n))
  runs_one c d e (o ∷ es) [] r s n = absurd (omega (arith, n))
  runs_one c d e (o ∷ es) (f ∷ fs) r s n =
      let same = least_one c o f r.0 s.0 r.1 r.2 s.1 s.2 in
      let more = runs_one s.0 d e es fs (subst (λ z. RunsLeast m types capacity z es d) same.1 r.3) s.3 (omega (arith, n)) in
      (λ i. same.0 i ∷ more.0 i, more.1)

  -- where nothing is possible after one, no other has more
  pub runs_longest : (c d e : Config) (es fs : List Occurrence) → RunsLeast m types capacity c es d → IsLast m types capacity d →
      RunsLeast m types capacity c fs e → length fs ≤ length es
  runs_longest c d e es [] r l s = omega arith
  runs_longest c d e [] (f ∷ fs) r l s = absurd (l f s.0 (subst (λ z. Does m types capacity z f s.0) (sym r) s.1))
  runs_longest c d e (o ∷ es) (f ∷ fs) r l s =
      let same = least_one c o f r.0 s.0 r.1 r.2 s.1 s.2 in
      let more = runs_longest s.0 d e es fs (subst (λ z. RunsLeast m types capacity z es d) same.1 r.3) l s.3 in
      omega (arith, more)

pub least_is_one : LeastIsOne
least_is_one = record { one = runs_one; longest = runs_longest }
