-- What is kept along the least run.
use Rattle.std.proofs.Common.{◌≡◌, ◌∙◌, inl, inr, ◌<◌, ◌≤◌, ◌+◌, ℕ, zero, suc, List, [], ◌∷◌, ◌++◌, Some, None, length, length-append, refl, sym, ap, subst, arith}
use Rattle.fst_base.proofs.Options.{some_same, none_some}
use Rattle.fst_types.specs.Tree.{Tree}
use Rattle.fst_terms.specs.CoreTree.{CoreTree}
use Rattle.fst_terms.specs.declared.core_module.Module.{Module}
use Rattle.fst_machine.specs.declared.code.Code.{Code}
use Rattle.fst_machine.specs.Machine.{Program}
use Rattle.fst_runs.specs.declared.event.CoreEvent.{CoreEvent}
use Rattle.fst_runs.specs.Configs.{Path, Config, program, started}
use Rattle.fst_runs.specs.Events.{Write, Does, Runs, IsLast, written}
use Rattle.fst_runs.specs.Least.{TakesPart, IsLeast, RunsLeast}
use Rattle.fst_runs.specs.Wrong.{IsRight}
use Rattle.fst_runs.proofs.Laws.{named_start, named_after, least_runs}
use Rattle.fst_vm.specs.declared.report.Report.{Report}
use Rattle.fst_vm.specs.declared.report.Outcome.{Outcome}
use Rattle.fst_vm.specs.declared.report.Outcome.TheVariants.{Done, OutOfSteps}
use Rattle.fst_process.specs.Kept.{Kept}
use Rattle.fst_process.specs.Firing.{IsPossible, Happens, CanStart, IsBegun}
use Rattle.fst_process.specs.Nexts.{IsNext}
use Rattle.fst_process.specs.Reports.{IsReport, IsConfig, IsReported, IsAnswer, IsAnswerFrom}
use Rattle.fst_process.specs.Runs.{RunsRightFrom, CanRun, IsOutcome, CanRunFrom, IsOutcomeFrom, IsReached, RunsTo}
use Rattle.fst_process.proofs.Moving.{nothing_ready, ready_moves}
use Rattle.fst_process.proofs.Least.{is_least}
use Rattle.fst_process.proofs.Rights.{right_fine}

-- a run, and one that goes on from where it has come to
runs_then : (m : Program) (types : List Tree) (c : Config) (es fs : List CoreEvent) (d e : Config) → Runs m types c es d →
    Runs m types d fs e → Runs m types c (es ++ fs) e
runs_then m types c [] fs d e r s = subst (λ z. Runs m types z fs e) r s
runs_then m types c (g ∷ es) fs d e r s = (r.0, r.1, runs_then m types (written c r.0) es fs d e r.2 s)

-- so it is with the least run
pub least_then : (m : Program) (types : List Tree) (c : Config) (es fs : List CoreEvent) (d e : Config) →
    RunsLeast m types c es d → RunsLeast m types d fs e → RunsLeast m types c (es ++ fs) e
least_then m types c [] fs d e r s = subst (λ z. RunsLeast m types z fs e) r s
least_then m types c (g ∷ es) fs d e r s = (r.0, r.1, r.2, least_then m types (written c r.0) es fs d e r.3 s)

-- the least run as far as so many events
shorter : (m : Program) (types : List Tree) (n : ℕ) (c : Config) (es : List CoreEvent) (d : Config) → RunsLeast m types c es d →
    n ≤ length es →
    (fs : List CoreEvent) × (b : Config) × RunsLeast m types c fs b × (length fs ≡ n)
shorter m types zero c es d r h = ([], c, refl, refl)
shorter m types (suc n) c [] d r h = absurd (omega (arith, h))
shorter m types (suc n) c (e ∷ es) d r h =
    let s = shorter m types n (written c r.0) es d r.3 (omega (arith, h)) in
    (e ∷ s.0, s.1, (r.0, r.1, r.2, s.2), ap suc s.3)

-- where no run goes wrong, the first configuration is right
pub can_start : (k : Code) → CanRun k → CanStart k
can_start k x = record {
  source = x.source;
  main = x.main;
  from = x.from;
  body = x.body;
  right =
      x.right [] (started x.main) refl;
}

-- and no run from it goes wrong
pub can_run_from : (k : Code) (d : Kept) → IsBegun k d → CanRun k → CanRunFrom k zero d
can_run_from k d b x =
    let named = named_start x.main in
    record {
      source = x.source;
      config = started x.main;
      reflects = b x.source x.main x.from x.body (x.right [] (started x.main) refl);
      makers = named.0;
      parents = named.1;
      right = x.right;
    }

-- an answer from the first configuration is one of the module
first_answer : (m : Module) (e : CoreTree) (steps : ℕ) (o : Outcome) → IsAnswerFrom m (started e) zero steps o →
    IsAnswer m e steps o
first_answer m e steps (Done r) x =
    let none : zero + length x.0 ≡ length x.0 = omega arith in
    (x.0, x.1, x.2, x.3, subst (λ l. l ≤ steps) none x.4, subst (λ l. IsReport (program m) x.1 l r) none x.5)
first_answer m e steps OutOfSteps x =
    let over = x.3 in
    shorter (program m) m.types.items (suc steps) (started e) x.0 x.1 x.2 (omega (arith, over))

-- so the answer of a run that has begun is the answer of the run
pub answers_begun : (k : Code) (steps : ℕ) (d : Kept) (o : Outcome) → IsBegun k d → IsOutcomeFrom k zero steps d o →
    IsOutcome k steps o
answers_begun k steps d o b answer = λ m e from body right.
    let named = named_start e in
    first_answer m e steps o (answer m (started e) (b m e from body (right [] (started e) refl)) named.0 named.1 right)

-- at first what is kept is what was
abbrev pub kept_first : (k : Code) (n : ℕ) (d : Kept) → RunsTo k n d n d
kept_first k n d = λ m b reflects makers parents right.
    record {
      events = [];
      config = b;
      runs = refl;
      many = omega arith;
      reflects = reflects;
      fresh = (makers, parents);
    }

module _ (m : Module) (k : Code) (b : Config) (before n : ℕ) (d : Kept) (x : IsReached m k b before n d)
    (right : RunsRightFrom m b) where
  right_here : IsRight (program m) x.config
  right_here = right x.events x.config (least_runs (program m) m.types.items b x.events x.config x.runs)

  -- the next event is possible, and the least one
  abbrev pub Goes : CoreEvent → Type 0
  Goes ev = (p : Path) × TakesPart p ev × IsLeast (program m) m.types.items x.config ev ×
      (w : Write) × Does (program m) m.types.items x.config ev w

  -- the next event is one of the least task that can move
  pub goes : (ev : CoreEvent) → IsNext d (Some ev) → Goes ev
  goes ev (inl f) = absurd (none_some (sym f.1))
  goes ev (inr f) =
      let g = ready_moves m k n d x.config x.reflects (right_fine m x.config right_here) f.0 f.1.moves in
      let same : g.0 ≡ ev = some_same (sym g.1 ∙ sym f.2) in
      subst Goes same (f.0, g.2, is_least m k n d x.config f.0 g.0 x.reflects g.2 f.1.none_before, g.3, g.4)

  -- and what it leads to is right
  pub right_after : (ev : CoreEvent) (w : Write) → Does (program m) m.types.items x.config ev w →
      IsRight (program m) (written x.config w)
  right_after ev w f =
      right (x.events ++ ev ∷ []) (written x.config w)
      (runs_then (program m) m.types.items b x.events (ev ∷ []) x.config (written x.config w)
      (least_runs (program m) m.types.items b x.events x.config x.runs) (w, f, refl))

  -- the next event is possible
  pub next_possible : (ev : CoreEvent) → IsNext d (Some ev) → n < 4294967295 → IsPossible k d ev
  next_possible ev f few =
      let g = goes ev f in
      record {
        source = m;
        events = n;
        before = x.config;
        write = g.3;
        reflects = x.reflects;
        does = g.4;
        right_before = right_here;
        right_after = right_after ev g.3 g.4;
        makers = x.fresh.0;
        parents = x.fresh.1;
        few = few;
      }

  -- what is kept after the next event
  abbrev pub reached_next : (ev : CoreEvent) (f : Kept) → IsNext d (Some ev) → Happens k d ev f → IsReached m k b before (suc n) f
  reached_next ev f next happens =
      let g = goes ev next in
      record {
        events = x.events ++ ev ∷ [];
        config = written x.config g.3;
        runs =
            least_then (program m) m.types.items b x.events (ev ∷ []) x.config (written x.config g.3) x.runs
            (g.3, g.4, g.2, refl);
        many = let more = length-append x.events (ev ∷ []) in let many = x.many in omega (arith, more, many);
        reflects = happens m n x.config g.3 x.reflects g.4 (right_after ev g.3 g.4) x.fresh.0 x.fresh.1;
        fresh = named_after (program m) m.types.items x.config ev g.3 g.4 x.fresh.0 x.fresh.1;
      }

  -- where there is no next event, none is possible
  pub reached_last : IsNext d None → IsLast (program m) m.types.items x.config
  reached_last (inl f) = nothing_ready m k n d x.config x.reflects f.0
  reached_last (inr f) =
      let g = ready_moves m k n d x.config x.reflects (right_fine m x.config right_here) f.0 f.1.moves in
      absurd (none_some (f.2 ∙ g.1))

  -- no run from here goes wrong
  pub right_on : RunsRightFrom m x.config
  right_on es c r =
      right (x.events ++ es) c (runs_then (program m) m.types.items b x.events es x.config c
      (least_runs (program m) m.types.items b x.events x.config x.runs) r)

-- the run goes on from where it has come to
pub kept_then : (k : Code) (before : ℕ) (o : Kept) (n l : ℕ) (d f : Kept) → RunsTo k before o n d → RunsTo k n d l f →
    RunsTo k before o l f
kept_then k before o n l d f first then = λ m b reflects makers parents right.
    let x = first m b reflects makers parents right in
    let y = then m x.config x.reflects x.fresh.0 x.fresh.1 (right_on m k b before n d x right) in
    let sum = length-append x.events y.events in
    let many = x.many in
    let more = y.many in
    record {
      events = x.events ++ y.events;
      config = y.config;
      runs = least_then (program m) m.types.items b x.events y.events x.config y.config x.runs y.runs;
      many = omega (arith, sum, many, more);
      reflects = y.reflects;
      fresh = y.fresh;
    }

-- where no run went wrong at first, none goes wrong from there
pub can_run_on : (k : Code) (before : ℕ) (o : Kept) (n : ℕ) (d : Kept) → RunsTo k before o n d → CanRunFrom k before o →
    CanRunFrom k n d
can_run_on k before o n d kept x =
    let y = kept x.source x.config x.reflects x.makers x.parents x.right in
    record {
      source = x.source;
      config = y.config;
      reflects = y.reflects;
      makers = y.fresh.0;
      parents = y.fresh.1;
      right = right_on x.source k x.config before n d y x.right;
    }

-- the next event is possible where no run is known to go wrong
pub possible_next : (k : Code) (before : ℕ) (o : Kept) (n : ℕ) (d : Kept) (ev : CoreEvent) → RunsTo k before o n d →
    IsNext d (Some ev) → n < 4294967295 →
    CanRunFrom k before o → IsPossible k d ev
possible_next k before o n d ev kept next few x =
    next_possible x.source k x.config before n d (kept x.source x.config x.reflects x.makers x.parents x.right) x.right ev next
    few

-- and what is kept after it is what the run has come to
pub kept_next : (k : Code) (before : ℕ) (o : Kept) (n l : ℕ) (d f : Kept) (ev : CoreEvent) → RunsTo k before o n d →
    IsNext d (Some ev) → Happens k d ev f → suc n ≡ l →
    RunsTo k before o l f
kept_next k before o n l d f ev kept next happens more = λ m b reflects makers parents right.
    subst (λ z. IsReached m k b before z f) more (reached_next m k b before n d
    (kept m b reflects makers parents right) right ev f next happens)

-- the report of what is kept is the answer where there is no next event
pub answers_done : (k : Code) (before : ℕ) (o : Kept) (steps n : ℕ) (d : Kept) (r : Report) → RunsTo k before o n d →
    IsNext d None → n ≤ steps → IsReported d n r →
    IsOutcomeFrom k before steps o (Done r)
answers_done k before o steps n d r kept next few reported = λ m b reflects makers parents right.
    let x = kept m b reflects makers parents right in (
      x.events,
      x.config,
      x.runs,
      reached_last m k b before n d x right next,
      subst (λ l. l ≤ steps) (sym x.many) few,
      subst (λ l. IsReport (program m) x.config l r) (sym x.many) (reported m k n x.config x.reflects),
    )

-- and the answer after one event too many
pub answers_out : (k : Code) (before : ℕ) (o : Kept) (steps n : ℕ) (d : Kept) → RunsTo k before o n d → steps < n →
    IsOutcomeFrom k before steps o OutOfSteps
answers_out k before o steps n d kept over = λ m b reflects makers parents right.
    let x = kept m b reflects makers parents right in
    (x.events, x.config, x.runs, subst (λ l. steps < l) (sym x.many) over)

-- what is kept is some configuration
pub some_config : (k : Code) (before : ℕ) (o : Kept) (n : ℕ) (d : Kept) → RunsTo k before o n d → n < 4294967295 →
    CanRunFrom k before o → IsConfig d
some_config k before o n d kept few x =
    let y = kept x.source x.config x.reflects x.makers x.parents x.right in
    record { source = x.source; code = k; events = n; config = y.config; reflects = y.reflects; few = few }
