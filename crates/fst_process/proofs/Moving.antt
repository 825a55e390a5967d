-- Which tasks can move, and by which events.
use Rattle.std.proofs.Common.{◌≡◌, ◌∙◌, ◌⊎◌, inl, inr, ◌<◌, ◌↔◌, ℕ, true, false, Option, Some, None, List, refl, sym, ap, subst, arith}
use Rattle.std.specs.Prelude.{option_map, option_and_then, is_some, length, nat_lt, slice_get}
use Rattle.std.proofs.lemmas.Option.{slice_get_within, slice_get_cases}
use Rattle.std.proofs.lemmas.Bool.Decides.{nat_tests}
use Rattle.std.proofs.lemmas.Bool.{false≢true}
use Rattle.fst_base.proofs.Options.{some_same}
use Rattle.fst_base.proofs.Bools.{is_less}
use Rattle.fst_types.specs.Tree.{Tree}
use Rattle.fst_terms.specs.declared.core_module.Module.{Module}
use Rattle.fst_types.specs.declared.ends.EndName.{EndName}
use Rattle.fst_types.specs.declared.event.Event.{Event}
use Rattle.fst_machine.specs.declared.code.Code.{Code}
use Rattle.fst_machine.specs.declared.request.Request.{Request}
use Rattle.fst_machine.specs.declared.request.Request.TheVariants as request
use Rattle.fst_machine.specs.Machine.{pause}
use Rattle.fst_runs.specs.declared.event.CoreEvent.{CoreEvent}
use Rattle.fst_runs.specs.declared.event.CoreEvent.TheVariants.{Local, New, Fork, Meet}
use Rattle.fst_runs.specs.Configs.{Path, Config, Task, other, channel_name, program}
use Rattle.fst_runs.specs.Events.{Write, Asks, Does, IsLast}
use Rattle.fst_runs.specs.Least.{TakesPart, CanMove}
use Rattle.fst_vm.specs.Slot.{Slot}
use Rattle.fst_process.specs.Kept.{Kept, asker, partner, end_of, moves_with, moves_so}
use Rattle.fst_process.specs.Reflects.{IsTask, Reflects}
use Rattle.fst_process.specs.Nexts.{event_with, event_of}
use Rattle.fst_process.proofs.PathLaws.{other-twice}
use Rattle.fst_process.proofs.Taking.{is_kept, is_there}
use Rattle.fst_process.proofs.Fewer.{Fine}
use Rattle.fst_process.proofs.Nexts.{step_next, new_next, fork_next, at_end}

-- a number below the length of a list has its element
element : (xs : List Tree) (n : ℕ) → nat_lt n (length xs) ≡ true → (x : Tree) × (slice_get xs n ≡ Some x)
element xs n e =
    let l : n < length xs = is_less n (length xs) e in
    elim (slice_get_cases xs n).1 [
      | inl f ↦ (f.0, f.2)
      | inr f ↦ let g = f.0 in absurd (omega (arith, l, g))
    ]

-- a number that is less passes the test
pub below : (n l : ℕ) → n < l → nat_lt n l ≡ true
below n l h = grind (arith, nat_tests)

module _ (m : Module) (k : Code) (n : ℕ) (d : Kept) (c : Config) (r : Reflects m k n d c) where
  abbrev types : List Tree
  types = m.types.items

  -- a task that asks for something is kept with it
  pub kept_asks : (p : Path) (t : Task) (a : Request) → Asks (program m) c p t a → (s : Slot) × (d.tasks p ≡ Some s) ×
      (s.request ≡ a) × IsTask m k d p s t
  kept_asks p t a i =
      let f = is_kept m k d p (d.tasks p) (c.tasks p) t (r.tasks p) i.0 in
      (f.0, f.1, some_same (sym f.2.asks ∙ i.1), f.2)

  -- a task that is kept asks for what is kept
  pub asks_kept : (p : Path) (s : Slot) → d.tasks p ≡ Some s → (t : Task) × Asks (program m) c p t s.request
  asks_kept p s e =
      let f = is_there m k d p (d.tasks p) (c.tasks p) s (r.tasks p) e in
      (f.0, (f.1, f.2.asks))

  -- a task that asks at an end is who asks there
  at_it : (p : Path) (t : Task) (a : Request) (x : EndName) → Asks (program m) c p t a → end_of a ≡ Some x → asker d x ≡ Some p
  at_it p t a x i e =
      let f = kept_asks p t a i in
      (r.askers x p).1 (f.0, f.1, ap end_of f.2 ∙ e)

  ready_with : (p : Path) (t : Task) (a : Request) → Asks (program m) c p t a → moves_with (length types) d a ≡ true →
      d.ready p ≡ true
  ready_with p t a i e =
      let f = kept_asks p t a i in
      r.ready p ∙ ap (moves_so (length types) d) f.1 ∙ ap (moves_with (length types) d) f.2 ∙ e

  -- a task that takes part in an event that is possible is marked
  pub moves_ready : (p : Path) (e : CoreEvent) (w : Write) → TakesPart p e → Does (program m) types c e w → d.ready p ≡ true
  moves_ready p (Local q) w h f = ap d.ready h ∙ ready_with q f.task request.Step f.asks refl
  moves_ready p (New q) w h f = ap d.ready h ∙ ready_with q f.task (request.New f.number) f.asks
      (below f.number (length types) (slice_get_within types f.number f.declared f.typed))
  moves_ready p (Fork q) w h f = ap d.ready h ∙ ready_with q f.task request.Fork f.asks refl
  moves_ready p (Meet q o g) w (inl h) f =
      ap d.ready h ∙ ready_with q f.sender (request.Put f.end f.event) f.puts
      (ap (λ (z : Option Path). is_some z) (at_it o f.receiver (request.Get (other f.end)) (other f.end) f.gets refl))
  moves_ready p (Meet q o g) w (inr h) f =
      ap d.ready h ∙ ready_with o f.receiver (request.Get (other f.end)) f.gets
      (ap (λ (z : Option Path). is_some z) (ap (asker d) (other-twice f.end)
      ∙ at_it q f.sender (request.Put f.end f.event) f.end f.puts refl))

  -- where no task is marked, no event is possible
  pub nothing_ready : ((p : Path) → d.ready p ≡ false) → IsLast (program m) types c
  nothing_ready h (Local p) w f = false≢true (sym (h p) ∙ moves_ready p (Local p) w refl f)
  nothing_ready h (New p) w f = false≢true (sym (h p) ∙ moves_ready p (New p) w refl f)
  nothing_ready h (Fork p) w f = false≢true (sym (h p) ∙ moves_ready p (Fork p) w refl f)
  nothing_ready h (Meet p q g) w f = false≢true (sym (h p) ∙ moves_ready p (Meet p q g) w (inl refl) f)

  -- the event of a task that is marked is possible
  module _ (fine : Fine m c) where
    -- an event, where the task takes part in it and it is possible
    abbrev Moves : Path → Option CoreEvent → Type 0
    Moves p o = (e : CoreEvent) × (o ≡ Some e) × TakesPart p e × (w : Write) × Does (program m) types c e w

    meeting : (p q : Path) (t u : Task) (x : EndName) (ev : Event) → Asks (program m) c p t (request.Put x ev) →
        Asks (program m) c q u (request.Get (other x)) →
        (w : Write) × Does (program m) types c (Meet p q x.channel) w
    meeting p q t u x ev i j =
        let f = fine.meets p q t u x ev i j in
        let g = fine.there p t (request.Put x ev) x i refl in (
          _,
          record {
            sender = t;
            receiver = u;
            end = x;
            event = ev;
            sent = f.0;
            got = f.1;
            channel = g.0;
            puts = i;
            gets = j;
            named = refl;
            there = g.1;
            sender_leads = f.2;
            receiver_leads = f.3;
            writes = refl;
          },
        )

    -- who asks at an end, with what it asks for
    asks_there : (p : Path) (x : EndName) → asker d x ≡ Some p →
        (t : Task) × (((ev : Event) × Asks (program m) c p t (request.Put x ev)) ⊎ Asks (program m) c p t (request.Get x))
    asks_there p x e =
        let f = (r.askers x p).0 e in
        let g = asks_kept p f.0 f.1 in (
          g.0,
          elim (at_end f.0.request x f.2) [
            | inl h ↦ inl (h.0, subst (Asks (program m) c p g.0) h.1 g.1)
            | inr h ↦ inr (subst (Asks (program m) c p g.0) h g.1)
          ],
        )

    put_moves : (p : Path) (t : Task) (x : EndName) (ev : Event) → Asks (program m) c p t (request.Put x ev) →
        (o : Option Path) → partner d x ≡ o → is_some o ≡ true →
        Moves p (option_map (λ q. Meet p q x.channel) o)
    put_moves p t x ev i None e h = absurd (false≢true h)
    put_moves p t x ev i (Some q) e h =
        let u = asks_there q (other x) e in
        elim u.1 [
          | inl g ↦ absurd (fine.puts_apart p q t u.0 x ev g.0 i g.1)
          | inr g ↦ let f = meeting p q t u.0 x ev i g in (Meet p q x.channel, refl, inl refl, f.0, f.1)
        ]

    get_moves : (p : Path) (t : Task) (x : EndName) → Asks (program m) c p t (request.Get x) →
        (o : Option Path) → partner d x ≡ o → is_some o ≡ true →
        Moves p (option_map (λ q. Meet q p x.channel) o)
    get_moves p t x i None e h = absurd (false≢true h)
    get_moves p t x i (Some q) e h =
        let u = asks_there q (other x) e in
        elim u.1 [
          | inl g ↦
              let f = meeting q p u.0 t (other x) g.0 g.1
              (subst (λ y. Asks (program m) c p t (request.Get y)) (sym (other-twice x)) i) in
              (Meet q p x.channel, refl, inr refl, f.0, f.1)
          | inr g ↦ absurd (fine.gets_apart p q t u.0 x i g)
        ]

    with_request : (p : Path) (t : Task) (a : Request) → Asks (program m) c p t a → moves_with (length types) d a ≡ true →
        Moves p (event_with d p a)
    with_request p t request.Step i h =
        let f = step_next (program m) (pause m.families.items t.state) i.1 in
        (Local p, refl, refl, _, record { task = t; state = f.0; asks = i; leads = f.1; writes = refl })
    with_request p t (request.New l) i h =
        let f = new_next (program m) (pause m.families.items t.state) l (channel_name p t.made) i.1 in
        let g = element types l h in (
          New p,
          refl,
          refl,
          _,
          record {
            task = t;
            state = f.0;
            number = l;
            declared = g.0;
            asks = i;
            typed = g.1;
            leads = f.1;
            writes = refl;
          },
        )
    with_request p t request.Fork i h =
        let f = fork_next (program m) (pause m.families.items t.state) i.1 in
        (Fork p, refl, refl, _, record { task = t; state = f.0; begun = f.1; asks = i; begins = f.3; leads = f.2; writes = refl })
    with_request p t (request.Put x ev) i h = put_moves p t x ev i (partner d x) refl h
    with_request p t (request.Get x) i h = get_moves p t x i (partner d x) refl h
    with_request p t request.Ended i h = absurd (false≢true h)

    -- the event of a task that is marked is possible, and the task takes part in it
    pub ready_moves : (p : Path) → d.ready p ≡ true → (e : CoreEvent) × (event_of d p ≡ Some e) × TakesPart p e ×
        (w : Write) × Does (program m) types c e w
    ready_moves p h = go (d.tasks p) refl (sym (r.ready p) ∙ h)
      where
        go : (o : Option Slot) → d.tasks p ≡ o → moves_so (length types) d o ≡ true →
            Moves p (option_and_then (λ (s : Slot). event_with d p s.request) o)
        go None e f = absurd (false≢true f)
        go (Some s) e f = let g = asks_kept p s e in with_request p g.0 s.request g.1 f

    -- the tasks that are marked are those that can move
    pub can_move_exactly : (p : Path) → (d.ready p ≡ true) ↔ CanMove (program m) types c p
    can_move_exactly p = (
      λ h. let f = ready_moves p h in (f.0, f.3, f.2, f.4),
      λ f. moves_ready p f.0 f.1 f.2 f.3,
    )
