-- What tasks have made in a run.
use Rattle.std.proofs.Common.{◌≡◌, ◌∙◌, ℕ, suc, ◌+◌, List, [], ◌∷◌, Bool, true, false, Option, Some, None, refl, sym, ap, arith}
use Rattle.std.specs.Prelude.{if◌then◌else◌, sum_by}
use Rattle.std.proofs.lemmas.List.Sums.{sum_by-cons}
use Rattle.fst_types.specs.Tree.{Tree}
use Rattle.fst_terms.specs.CoreTree.{CoreTree}
use Rattle.fst_machine.specs.Machine.{Program, State, begins}
use Rattle.fst_runs.specs.declared.event.CoreEvent.{CoreEvent}
use Rattle.fst_runs.specs.declared.event.CoreEvent.TheVariants.{Local, New, Fork, Meet}
use Rattle.fst_runs.specs.declared.event.Stamped.{Stamped}
use Rattle.fst_runs.specs.Configs.{Path, Task, Config, same_path, other, child_path, channel_name, new_task, main_path, started}
use Rattle.fst_runs.specs.Events.{Write, Does, written, moved, meeting_stamp, extended, has_made, has_forked, has_met, passed}
use Rattle.fst_runs.specs.Names.{HasMakers, HasParents}
use Rattle.fst_runs.specs.StampedRuns.{RunsAt}
use Rattle.fst_runs.specs.Wrong.{once}
use Rattle.fst_runs.proofs.Laws.{same_path-same, put, with_task, with_channel, local_puts, new_puts, fork_puts, meet_puts, stays_apart, stays_free, fork_free, named_start, named_after, asks_apart}
use Rattle.fst_merge.specs.EventTexts.{makes, forks}
use Rattle.fst_merge.specs.RunNames.{NamesLaw}

-- what a task has made, or 0 where none is
abbrev pub had : (Task → ℕ) → Option Task → ℕ
had f None = 0
had f (Some t) = f t

-- what a test adds to a number
abbrev more_if : Bool → ℕ → ℕ
more_if true k = k
more_if false k = 0

more_none : (b : Bool) → more_if b 0 ≡ 0
more_none true = refl
more_none false = refl

more_one : (b : Bool) → more_if b 1 ≡ once b
more_one true = refl
more_one false = refl

module _ (f : Task → ℕ) (c : Config) where
  -- a task that goes on and has made k more
  put_more : (p : Path) (t s : Task) (k : ℕ) → c.tasks p ≡ Some t → f s ≡ k + f t → (q : Path) →
      had f ((with_task c p s).tasks q) ≡ more_if (same_path p q) k + had f (c.tasks q)
  put_more p t s k e g q = by (same_path p q) refl
    where
      by : (b : Bool) → same_path p q ≡ b → had f (put b s (c.tasks q)) ≡ more_if b k + had f (c.tasks q)
      by false h = omega arith
      by true h =
          let there : had f (c.tasks q) ≡ f t = ap (had f) (ap c.tasks (sym (same_path-same p q h)) ∙ e) in
          omega (arith, there, g)

  -- a new task has made nothing
  put_new : (p : Path) (t : Task) → c.tasks p ≡ None → f t ≡ 0 → (q : Path) →
      had f ((with_task c p t).tasks q) ≡ had f (c.tasks q)
  put_new p t e g q = by (same_path p q) refl
    where
      by : (b : Bool) → same_path p q ≡ b → had f (put b t (c.tasks q)) ≡ had f (c.tasks q)
      by false h = refl
      by true h = g ∙ sym (ap (had f) (ap c.tasks (sym (same_path-same p q h)) ∙ e))

  -- a task that goes on and has made nothing more
  put_same : (p : Path) (t s : Task) → c.tasks p ≡ Some t → f s ≡ f t → (q : Path) →
      had f ((with_task c p s).tasks q) ≡ had f (c.tasks q)
  put_same p t s e g q =
      let a = put_more p t s 0 e (omega (arith, g)) q in
      let b = more_none (same_path p q) in
      omega (arith, a, b)

-- ---- along a run

-- a number of a task that only some events change: one more where it makes a channel, or where it makes a task
record IsNumber (f : Task → ℕ) (news fork : ℕ) : Type 0 where
  makes : (t : Task) (s : State) (n : ℕ) → f (has_made t s n) ≡ news + f t
  forks : (t : Task) (s : State) (n : ℕ) → f (has_forked t s n) ≡ fork + f t
  moves : (t : Task) (s : State) → f (moved t s) ≡ f t
  meets : (t : Task) (s : State) (n : ℕ) → f (has_met t s n) ≡ f t
  begins : (s : State) (n : ℕ) → f (new_task s n) ≡ 0

-- what an event adds to it
abbrev gains : ℕ → ℕ → Path → CoreEvent → ℕ
gains news fork q (Local p) = 0
gains news fork q (New p) = more_if (same_path p q) news
gains news fork q (Fork p) = more_if (same_path p q) fork
gains news fork q (Meet p o h) = 0

module _ (f : Task → ℕ) (news fork : ℕ) (is : IsNumber f news fork) (m : Program) (types : List Tree) where
  -- it is so much more after an event
  after : (c : Config) (e : CoreEvent) (w : Write) → Does m types c e w → HasParents c → (q : Path) →
      had f ((written c w).tasks q) ≡ gains news fork q e + had f (c.tasks q)
  after c (Local p) w d hp q =
      let a = put_same f c p d.task (moved d.task d.state) d.asks.0 (is.moves d.task d.state) q in
      let b = ap (λ (z : Config). had f (z.tasks q)) (local_puts m types c p w d) in
      omega (arith, a, b)
  after c (New p) w d hp q =
      let n = suc d.task.clock in
      let k = with_channel c (channel_name p d.task.made) (record { declared = d.declared; history = [] }) in
      let a = put_more f k p d.task (has_made d.task d.state n) news d.asks.0 (is.makes d.task d.state n) q in
      let b = ap (λ (z : Config). had f (z.tasks q)) (new_puts m types c p w d) in
      omega (arith, a, b)
  after c (Fork p) w d hp q =
      let n = suc d.task.clock in
      let t = has_forked d.task d.state n in
      let o = child_path p d.task.forked in
      let free = stays_free c p o d.task t d.asks.0 (fork_free c p d.task hp d.asks.0) in
      let a = put_more f c p d.task t fork d.asks.0 (is.forks d.task d.state n) q in
      let z = put_new f (with_task c p t) o (new_task d.begun n) free (is.begins d.begun n) q in
      let b = ap (λ (z : Config). had f (z.tasks q)) (fork_puts m types c p w d) in
      omega (arith, a, b, z)
  after c (Meet p o h) w d hp q =
      let n = meeting_stamp d.sender d.receiver d.channel in
      let k = with_channel c h (extended d.channel (passed d.event d.sender d.receiver d.channel)) in
      let t = has_met d.sender d.sent n in
      let apart = asks_apart m c p o d.sender d.receiver d.end (other d.end) d.event d.puts d.gets in
      let a = put_same f k p d.sender t d.puts.0 (is.meets d.sender d.sent n) q in
      let z = put_same f (with_task k p t) o d.receiver (has_met d.receiver d.got n) (stays_apart k p o t apart ∙ d.gets.0)
      (is.meets d.receiver d.got n) q in
      let b = ap (λ (z : Config). had f (z.tasks q)) (meet_puts m types c p o h w d) in
      omega (arith, a, b, z)

  -- so it is along a run
  along : (es : List Stamped) (c d : Config) → HasMakers c → HasParents c → RunsAt m types c es d → (q : Path) →
      had f (d.tasks q) ≡ sum_by (λ (e : Stamped). gains news fork q e.event) es + had f (c.tasks q)
  along [] c d hm hp r q = let a = ap (λ (z : Config). had f (z.tasks q)) r in omega (arith, a)
  along (e ∷ es) c d hm hp r q =
      let named = named_after m types c e.event r.0 r.1 hm hp in
      let a = after c e.event r.0 r.1 hp q in
      let b = along es (written c r.0) d named.0 named.1 r.3 q in
      let more = sum_by-cons (λ (e : Stamped). gains news fork q e.event) e es in
      omega (arith, a, b, more)

  -- and from the start, where main has made nothing
  from_start : (e : CoreTree) (es : List Stamped) (c : Config) → RunsAt m types (started e) es c → (q : Path) (t : Task) →
      c.tasks q ≡ Some t → f t ≡ sum_by (λ (e : Stamped). gains news fork q e.event) es
  from_start e es c r q t h =
      let named = named_start e in
      let a = along es (started e) c named.0 named.1 r q in
      let b = main_none (same_path main_path q) in
      let there = ap (had f) h in
      omega (arith, a, b, there)
    where
      main_none : (b : Bool) → had f (if b then Some (new_task (begins e []) 0) else None) ≡ 0
      main_none true = is.begins (begins e []) 0
      main_none false = refl

-- ---- channels and tasks

channels_made : IsNumber (λ t. t.made) 1 0
channels_made = record {
  makes = λ t s n. omega arith;
  forks = λ t s n. omega arith;
  moves = λ t s. refl;
  meets = λ t s n. refl;
  begins = λ s n. refl;
}

tasks_made : IsNumber (λ t. t.forked) 0 1
tasks_made = record {
  makes = λ t s n. omega arith;
  forks = λ t s n. omega arith;
  moves = λ t s. refl;
  meets = λ t s n. refl;
  begins = λ s n. refl;
}

gains_made : (p : Path) (e : CoreEvent) → gains 1 0 p e ≡ once (makes p e)
gains_made p (Local q) = refl
gains_made p (New q) = more_one (same_path q p)
gains_made p (Fork q) = more_none (same_path q p)
gains_made p (Meet q o h) = refl

gains_forked : (p : Path) (e : CoreEvent) → gains 0 1 p e ≡ once (forks p e)
gains_forked p (Local q) = refl
gains_forked p (New q) = more_none (same_path q p)
gains_forked p (Fork q) = more_one (same_path q p)
gains_forked p (Meet q o h) = refl

-- the names in the text of a run are those that the run gives
pub run_names : NamesLaw
run_names m types e es c r p t h = (
  from_start (λ t. t.made) 1 0 channels_made m types e es c r p t h
      ∙ (λ i. sum_by (λ (e : Stamped). gains_made p e.event i) es),
  from_start (λ t. t.forked) 0 1 tasks_made m types e es c r p t h
      ∙ (λ i. sum_by (λ (e : Stamped). gains_forked p e.event i) es),
)
