-- In the configuration of a record it is decided whether an event is possible, and which is the least.
use Rattle.std.proofs.Common.{◌≡◌, ◌∙◌, ◌⊎◌, inl, inr, ℕ, List, [], ◌∷◌, Bool, true, false, Some, refl, sym, ap, subst}
use Rattle.std.specs.Prelude.{Contains, ⊤, slice_get}
use Rattle.std.specs.Ordering.{nat_cmp}
use Rattle.std.specs.declared.cmp.Ordering.{Ordering}
use Rattle.std.specs.declared.cmp.Ordering.TheVariants.{Less, Equal, Greater}
use Rattle.std.specs.Cmp.Lexicographic.{slice_cmp}
use Rattle.std.proofs.lemmas.Cmp.{nat_list_cmp_total}
use Rattle.fst_base.proofs.Lists.{contains_head, contains_tail, contains_none, from_contains}
use Rattle.fst_types.specs.Tree.{Tree}
use Rattle.fst_types.specs.declared.ends.EndName.{EndName}
use Rattle.fst_types.specs.declared.event.ChannelHistory.{ChannelHistory}
use Rattle.fst_types.specs.declared.event.Event.{Event}
use Rattle.fst_derivations.specs.Rules.{Surroundings}
use Rattle.fst_machine.specs.declared.request.Request.{Request}
use Rattle.fst_machine.specs.declared.request.Request.TheVariants.{Step, New, Fork, Put, Get, Ended}
use Rattle.fst_machine.specs.Machine.{request, pause}
use Rattle.fst_runs.specs.declared.event.CoreEvent.{CoreEvent}
use Rattle.fst_runs.specs.declared.event.CoreEvent.TheVariants as event
use Rattle.fst_runs.specs.Configs.{Path, Task, Config, same_end, residual_in, other, channel_name}
use Rattle.fst_runs.specs.Events.{Write, Does, Asks, IsLast}
use Rattle.fst_runs.specs.Least.{IsBefore, TakesPart, CanMove, IsLeast}
use Rattle.fst_runs.specs.Logs.{Birth}
use Rattle.fst_runs.specs.Wrong.{IsRight}
use Rattle.fst_runs.proofs.Laws.{same_end-same, same_end-itself, right_there, right_meets, not_both}
use Rattle.fst_process.proofs.Laws.{other-twice, step_next, new_next, fork_next}
use Rattle.fst_records.specs.Records.{Course, FitsRecord, config_of}
use Rattle.fst_records.proofs.Laws.{corresponds, has_task, task_there}
use Rattle.fst_safety.specs.Sound.{IsSound}
use Rattle.fst_safety.specs.WellTyped.{IsWellTyped, program_in}
use Rattle.fst_safety.proofs.Laws.{is_declared, pause_goes, same_asks, sound_right}

-- ---- the least of some

-- one path is before the other, or it isn't
before_or : (p q : Path) → IsBefore p q ⊎ (IsBefore p q → ⊥)
before_or p q = by (slice_cmp nat_cmp p q) refl
  where
    by : (o : Ordering) → slice_cmp nat_cmp p q ≡ o → (slice_cmp nat_cmp p q ≡ Less) ⊎ (slice_cmp nat_cmp p q ≡ Less → ⊥)
    by Less e = inl e
    by Equal e = inr (λ f. let z : Less ≡ Equal = sym f ∙ e in absurd (cc z))
    by Greater e = inr (λ f. let z : Less ≡ Greater = sym f ∙ e in absurd (cc z))

module _ (P : Course → Type 0) where
  -- what is so holds of a course, and of none of these whose path is before its
  record IsBest (ys : List Course) : Type 0 where
    course : Course
    there : Contains ys course
    so : P course
    least : (z : Course) → Contains ys z → IsBefore z.path course.path → P z → ⊥

  -- what holds of the first and of the others holds of each
  among : (Q : Course → Type 0) (y : Course) (ys : List Course) → Q y → ((z : Course) → Contains ys z → Q z) → (z : Course) →
      Contains (y ∷ ys) z → Q z
  among Q y ys h more z c = by (from_contains ys z y c)
    where
      by : (y ≡ z) ⊎ Contains ys z → Q z
      by (inl e) = subst Q e h
      by (inr d) = more z d

  -- where it is decided of each of these courses, it holds of one whose path is the least, or of none
  best_of : (ys : List Course) → ((y : Course) → Contains ys y → P y ⊎ (P y → ⊥)) → IsBest ys ⊎ ((y : Course) → Contains ys y →
      P y → ⊥)
  best_of [] test = inr (λ y c. absurd (contains_none y c))
  best_of (y ∷ ys) test =
      by (test y (contains_head ys y y refl)) (best_of ys (λ z c. test z (contains_tail ys z y c)))
    where
      by : P y ⊎ (P y → ⊥) → IsBest ys ⊎ ((z : Course) → Contains ys z → P z → ⊥) →
          IsBest (y ∷ ys) ⊎ ((z : Course) → Contains (y ∷ ys) z → P z → ⊥)
      by (inr n) (inr none) = inr (among (λ z. P z → ⊥) y ys n none)
      by (inr n) (inl b) = inl (record {
        course = b.course;
        there = contains_tail ys b.course y b.there;
        so = b.so;
        least = among (λ z. IsBefore z.path b.course.path → P z → ⊥) y ys (λ l k. n k) b.least;
      })
      by (inl h) (inr none) = inl (record {
        course = y;
        there = contains_head ys y y refl;
        so = h;
        least = among (λ z. IsBefore z.path y.path → P z → ⊥) y ys (λ l k. not_both y.path y.path l l) (λ z c l k. none z c k);
      })
      by (inl h) (inl b) = choose (before_or y.path b.course.path)
        where
          choose : IsBefore y.path b.course.path ⊎ (IsBefore y.path b.course.path → ⊥) →
              IsBest (y ∷ ys) ⊎ ((z : Course) → Contains (y ∷ ys) z → P z → ⊥)
          choose (inl l) = inl (record {
            course = y;
            there = contains_head ys y y refl;
            so = h;
            least = among (λ z. IsBefore z.path y.path → P z → ⊥) y ys (λ k j. not_both y.path y.path k k)
                (λ z c k j. b.least z c (nat_list_cmp_total.trans z.path y.path b.course.path k l) j);
          })
          choose (inr n) = inl (record {
            course = b.course;
            there = contains_tail ys b.course y b.there;
            so = b.so;
            least = among (λ z. IsBefore z.path b.course.path → P z → ⊥) y ys (λ l k. n l) b.least;
          })

-- ---- requests

-- two ends are one, or they aren't
end_or : (x y : EndName) → (x ≡ y) ⊎ (x ≡ y → ⊥)
end_or x y = by (same_end x y) refl
  where
    by : (b : Bool) → same_end x y ≡ b → (x ≡ y) ⊎ (x ≡ y → ⊥)
    by true e = inl (same_end-same x y e)
    by false e = inr (λ q. let z : true ≡ false = sym (same_end-itself x) ∙ ap (same_end x) q ∙ e in absurd (cc z))

-- to receive at the end is asked for
abbrev Gets : EndName → Request → Type 0
Gets x q = q ≡ Get x

-- to send on it is
abbrev Puts : EndName → Request → Type 0
Puts x q = (ev : Event) × (q ≡ Put x ev)

gets_or : (x : EndName) (q : Request) → Gets x q ⊎ (Gets x q → ⊥)
gets_or x Step = inr (λ e. absurd (cc e))
gets_or x (New n) = inr (λ e. absurd (cc e))
gets_or x Fork = inr (λ e. absurd (cc e))
gets_or x (Put y ev) = inr (λ e. absurd (cc e))
gets_or x Ended = inr (λ e. absurd (cc e))
gets_or x (Get y) = by (end_or y x)
  where
    by : (y ≡ x) ⊎ (y ≡ x → ⊥) → Gets x (Get y) ⊎ (Gets x (Get y) → ⊥)
    by (inl e) = inl (ap Get e)
    by (inr n) = inr (λ e. n (cc e))

puts_or : (x : EndName) (q : Request) → Puts x q ⊎ (Puts x q → ⊥)
puts_or x Step = inr (λ e. let f = e.1 in absurd (cc f))
puts_or x (New n) = inr (λ e. let f = e.1 in absurd (cc f))
puts_or x Fork = inr (λ e. let f = e.1 in absurd (cc f))
puts_or x (Get y) = inr (λ e. let f = e.1 in absurd (cc f))
puts_or x Ended = inr (λ e. let f = e.1 in absurd (cc f))
puts_or x (Put y ev) = by (end_or y x)
  where
    by : (y ≡ x) ⊎ (y ≡ x → ⊥) → Puts x (Put y ev) ⊎ (Puts x (Put y ev) → ⊥)
    by (inl e) = inl (ev, ap (λ z. Put z ev) e)
    by (inr n) = inr (λ e. let f = e.1 in n (cc f))

-- ---- a record

-- an event is the least one that is possible, or none is
abbrev pub LeastOrLast : Surroundings → Config → Type 0
LeastOrLast m c =
    ((e : CoreEvent) × (w : Write) × Does (program_in m) m.types c e w × IsLeast (program_in m) m.types c e)
    ⊎ IsLast (program_in m) m.types c

module _ (m : Surroundings) (well : IsWellTyped m) (a : Tree) (main : Birth) (ys : List Course) (ks : List ChannelHistory)
    (fits : FitsRecord (program_in m) m.types main ys ks) (sound : IsSound m a (config_of ys ks)) where
  abbrev here : Config
  here = config_of ys ks

  right : IsRight (program_in m) here
  right = sound_right m well a here sound

  -- a task of the configuration asks for this
  abbrev At : Path → Task → Request → Type 0
  At p t q = Asks (program_in m) here p t q

  -- the task of a course does
  abbrev Asking : Course → Request → Type 0
  Asking y q = At y.path y.now q

  one_asked : (p : Path) (t u : Task) (q r : Request) → At p t q → At p u r → q ≡ r
  one_asked p t u q r f g = (same_asks (program_in m) here p t u q r f g).1

  task_is : (y : Course) → Contains ys y → here.tasks y.path ≡ Some y.now
  task_is y i = task_there ys y i ((corresponds (program_in m) m.types main ys ks fits).paths y.path)

  -- what it asks for
  asked : (y : Course) → Contains ys y → (q : Request) × Asking y q
  asked y i = let e = task_is y i in let r = right.asks y.path y.now e in (r.0, (e, r.1))

  -- the course whose task asks for something
  record AskedBy (p : Path) (q : Request) : Type 0 where
    course : Course
    there : Contains ys course
    path : course.path ≡ p
    asking : Asking course q

  asked_by : (p : Path) (t : Task) (q : Request) → At p t q → AskedBy p q
  asked_by p t q f =
      let g = has_task ys p t f.0 in
      record {
        course = g.course;
        there = g.there;
        path = g.path;
        asking = (task_is g.course g.there, ap (λ (t : Task). request m.families t.state) g.now ∙ f.1);
      }

  -- ---- partners

  -- a task asks for what passes the test
  abbrev SomeAsks : (Request → Type 0) → Type 0
  SomeAsks P = (y : Course) × (q : Request) × Contains ys y × Asking y q × P q

  -- one does or none does
  some_asks_or : (P : Request → Type 0) → ((q : Request) → P q ⊎ (P q → ⊥)) → SomeAsks P ⊎ (SomeAsks P → ⊥)
  some_asks_or P test = by (best_of (λ y. (q : Request) × Asking y q × P q) ys (λ y i. of_one y (asked y i)))
    where
      of_one : (y : Course) → (q : Request) × Asking y q → ((q : Request) × Asking y q × P q) ⊎
          ((q : Request) × Asking y q × P q → ⊥)
      of_one y (q, f) = by (test q)
        where
          by : P q ⊎ (P q → ⊥) → ((q : Request) × Asking y q × P q) ⊎ ((q : Request) × Asking y q × P q → ⊥)
          by (inl h) = inl (q, f, h)
          by (inr n) = inr (λ g. n (subst P (one_asked y.path y.now y.now g.0 q g.1 f) g.2))

      by : IsBest (λ y. (q : Request) × Asking y q × P q) ys ⊎
          ((y : Course) → Contains ys y → (q : Request) × Asking y q × P q → ⊥) → SomeAsks P ⊎ (SomeAsks P → ⊥)
      by (inl b) = inl (b.course, b.so.0, b.there, b.so.1, b.so.2)
      by (inr n) = inr (λ h. n h.0 h.2 (h.1, h.3, h.4))

  -- what is asked for needs no one, or there is one who asks at the other end
  abbrev Partnered : Request → Type 0
  Partnered Step = ⊤
  Partnered (New n) = ⊤
  Partnered Fork = ⊤
  Partnered (Put x ev) = SomeAsks (Gets (other x))
  Partnered (Get x) = SomeAsks (Puts (other x))
  Partnered Ended = ⊥

  partnered_or : (q : Request) → Partnered q ⊎ (Partnered q → ⊥)
  partnered_or Step = inl tt
  partnered_or (New n) = inl tt
  partnered_or Fork = inl tt
  partnered_or Ended = inr (λ e. e)
  partnered_or (Put x ev) = some_asks_or (Gets (other x)) (gets_or (other x))
  partnered_or (Get x) = some_asks_or (Puts (other x)) (puts_or (other x))

  -- ---- who can move

  abbrev Moves : Path → Type 0
  Moves p = CanMove (program_in m) m.types here p

  meets : (p q : Path) (t u : Task) (x : EndName) (ev : Event) → At p t (Put x ev) → At q u (Get (other x)) →
      (w : Write) × Does (program_in m) m.types here (event.Meet p q x.channel) w
  meets p q t u x ev f g =
      let k = right_there (program_in m) here right p t (Put x ev) x f refl in
      let r = right_meets (program_in m) here right p q t u x ev f g in (
        _,
        record {
          sender = t;
          receiver = u;
          end = x;
          event = ev;
          sent = r.0;
          got = r.1;
          channel = k.0;
          puts = f;
          gets = g;
          named = refl;
          there = k.1;
          sender_leads = r.2;
          receiver_leads = r.3;
          writes = refl;
        },
      )

  -- where a channel is asked for, it has a type
  new_typed : (p : Path) (t : Task) (n : ℕ) → At p t (New n) → (d : Tree) × (slice_get m.types n ≡ Some d)
  new_typed p t n f =
      let g = sound.tasks p t f.0 in
      let d = is_declared m (residual_in here) (pause m.families t.state) g.0 n
      (pause_goes m well (residual_in here) t.state g.0 g.1).0 f.1 in
      (d.0, d.1)

  mover : (p : Path) (t : Task) (q : Request) → At p t q → Partnered q → Moves p
  mover p t Step f h =
      let s = step_next (program_in m) (pause m.families t.state) f.1 in
      (event.Local p, _, refl, record { task = t; state = s.0; asks = f; leads = s.1; writes = refl })
  mover p t (New n) f h =
      let s = new_next (program_in m) (pause m.families t.state) n (channel_name p t.made) f.1 in
      let d = new_typed p t n f in (
        event.New p,
        _,
        refl,
        record { task = t; state = s.0; number = n; declared = d.0; asks = f; typed = d.1; leads = s.1; writes = refl },
      )
  mover p t Fork f h =
      let s = fork_next (program_in m) (pause m.families t.state) f.1 in
      (event.Fork p, _, refl, record { task = t; state = s.0; begun = s.1; asks = f; begins = s.3; leads = s.2; writes = refl })
  mover p t (Put x ev) f h =
      let y = h.0 in
      let r = meets p y.path t y.now x ev f (subst (Asking y) h.4 h.3) in
      (event.Meet p y.path x.channel, r.0, inl refl, r.1)
  mover p t (Get x) f h =
      let y = h.0 in
      let r = meets y.path p y.now t (other x) h.4.0 (subst (Asking y) h.4.1 h.3)
      (subst (λ x. At p t (Get x)) (sym (other-twice x)) f) in
      (event.Meet y.path p x.channel, r.0, inr refl, r.1)
  mover p t Ended f h = absurd h

  -- the task asks for something with a partner
  abbrev Takes : Path → Type 0
  Takes p = (t : Task) × (q : Request) × At p t q × Partnered q

  -- so does each that takes part in an event
  takes : (p : Path) (e : CoreEvent) (w : Write) → TakesPart p e → Does (program_in m) m.types here e w → Takes p
  takes p (event.Local r) w h d = subst Takes (sym h) (d.task, Step, d.asks, tt)
  takes p (event.New r) w h d = subst Takes (sym h) (d.task, New d.number, d.asks, tt)
  takes p (event.Fork r) w h d = subst Takes (sym h) (d.task, Fork, d.asks, tt)
  takes p (event.Meet r s g) w (inl h) d =
      let k = asked_by s d.receiver (Get (other d.end)) d.gets in
      subst Takes (sym h) (d.sender, Put d.end d.event, d.puts, (k.course, Get (other d.end), k.there, k.asking, refl))
  takes p (event.Meet r s g) w (inr h) d =
      let k = asked_by r d.sender (Put d.end d.event) d.puts in
      subst Takes (sym h) (
        d.receiver,
        Get (other d.end),
        d.gets,
        (k.course, Put d.end d.event, k.there, k.asking, (d.event, ap (λ x. Put x d.event) (sym (other-twice d.end)))),
      )

  -- a task can move or it can't
  moves_or : (y : Course) → Contains ys y → Moves y.path ⊎ (Moves y.path → ⊥)
  moves_or y i = let r = asked y i in by r.0 r.1 (partnered_or r.0)
    where
      by : (q : Request) → Asking y q → Partnered q ⊎ (Partnered q → ⊥) → Moves y.path ⊎ (Moves y.path → ⊥)
      by q f (inl h) = inl (mover y.path y.now q f h)
      by q f (inr n) = inr (λ c.
          let g = takes y.path c.0 c.1 c.2 c.3 in
          n (subst Partnered (one_asked y.path g.0 y.now g.1 q g.2 f) g.3))

  one_takes : (e : CoreEvent) → (p : Path) × TakesPart p e
  one_takes (event.Local p) = (p, refl)
  one_takes (event.New p) = (p, refl)
  one_takes (event.Fork p) = (p, refl)
  one_takes (event.Meet p q h) = (p, inl refl)

  -- a task that can move is that of a course
  record IsMover (p : Path) : Type 0 where
    course : Course
    there : Contains ys course
    path : course.path ≡ p

  is_mover : (p : Path) → Moves p → IsMover p
  is_mover p c =
      let g = takes p c.0 c.1 c.2 c.3 in
      let y = has_task ys p g.0 g.2.0 in
      record { course = y.course; there = y.there; path = y.path }

  -- it is decided
  pub least_or_last : LeastOrLast m here
  least_or_last = by (best_of (λ y. Moves y.path) ys moves_or)
    where
      by : IsBest (λ y. Moves y.path) ys ⊎ ((y : Course) → Contains ys y → Moves y.path → ⊥) → LeastOrLast m here
      by (inl b) =
          let c = b.so in
          inl (
            c.0,
            c.1,
            c.3,
            record {
              path = b.course.path;
              takes_part = c.2;
              none_before = λ q l k.
                  let y = is_mover q k in
                  b.least y.course y.there (subst (λ p. IsBefore p b.course.path) (sym y.path) l) (subst Moves (sym y.path) k);
            },
          )
      by (inr n) = inr (λ e w d.
          let p = one_takes e in
          let k : Moves p.0 = (e, w, p.1, d) in
          let y = is_mover p.0 k in
          n y.course y.there (subst Moves (sym y.path) k))
