-- What `run` and `make` write of a module that is accepted.
use Rattle.std.proofs.Common.{◌≡◌, ℕ, List, [], ◌∷◌, Some, Result, length, get_or, Bool, true, false, refl, sym, subst, arith}
use Rattle.std.specs.Prelude.{◌==◌, Contains, IfOk}
use Rattle.std.specs.declared.alloc.AllocError.{AllocError}
use Rattle.std.proofs.lemmas.Result.{IfOk-weaker}
use Rattle.std.proofs.lemmas.Bool.Decides.{nat_tests}
use Rattle.std.proofs.lemmas.List.Elements.{All-contains_itself}
use Rattle.fst_types.specs.declared.event.ChannelHistory.{ChannelHistory}
use Rattle.fst_kinds.specs.WellFormed.{IsSession}
use Rattle.fst_terms.specs.declared.core_module.Module.{Module}
use Rattle.fst_machine.specs.declared.code.Code.{Code}
use Rattle.fst_runs.specs.declared.event.Stamped.{Stamped}
use Rattle.fst_runs.specs.Configs.{main_body, program}
use Rattle.fst_vm.specs.declared.report.Outcome.{Outcome}
use Rattle.fst_process.specs.declared.marks.TaskMarks.{TaskMarks}
use Rattle.fst_vm.specs.declared.report.Outcome.TheVariants.{Done, OutOfSteps}
use Rattle.fst_vm.specs.declared.report.Report.{Report}
use Rattle.fst_vm.specs.declared.report.Waiting.{Waiting}
use Rattle.fst_process.specs.Reports.{IsAnswer}
use Rattle.fst_safety.specs.Safety.{IsSafe}
use Rattle.fst_records.specs.Records.{config_of}
use Rattle.fst_worker.specs.declared.workers.Logged.{Logged}
use Rattle.fst_worker.specs.declared.workers.Logged.TheVariants as logged
use Rattle.fst_worker.specs.Working.{IsLoggedOut, IsMarkedRecord, IsWorkedOut}
use Rattle.fst_merge.specs.LeastEvents.{AreEventsOf, SortedLaw}
use Rattle.fst_merge.specs.Merging.{AreOfRecord, AreMerged}
use Rattle.fst_execution.specs.Execution.{IsDerived, IsExecuted, IsPrepared, AnswersAreSound}
use Rattle.fst_report.specs.DeclaredTypes.{AreScoped, AreNamedWithin}
use Rattle.fst_report.proofs.Laws.{of_sessions}
use Rattle.fst_command.specs.declared.status.Status.TheVariants as status
use Rattle.fst_command.specs.Meanings.{IsSoundOutcome}
use Rattle.fst_command.specs.Output.{IsOutcomeOf, waiting_status}
use Rattle.fst_command.specs.Views.{HasLines}

-- no task waits
pub none_waits : (ws : List Waiting) (b : Bool) → b ≡ (length ws == 0) → b ≡ true → status.Done ≡ waiting_status ws
none_waits [] b test is = refl
none_waits (w ∷ ws) b test is = absurd (grind (arith, nat_tests))

-- channels that have session types can be written
pub can_be_written : (n : ℕ) (hs : List ChannelHistory) → ((j : ChannelHistory) → Contains hs j → IsSession [] j.declared) →
    AreScoped hs × AreNamedWithin n hs
can_be_written n hs sessions = of_sessions n hs (λ k d i. sessions (get_or hs k d) (All-contains_itself hs k d i))

-- ---- what a run comes to

-- on one worker, without its events
pub least_outcome : (steps : ℕ) (m : Module) (o : Outcome) → IsExecuted m steps o → IsOutcomeOf false steps m o []
least_outcome steps m o x = record { main = x.main; body = x.body; answer = x.answer; behind = refl }

-- main's body
pub prepared_main : (m : Module) (k : Code) (ready : IsPrepared m k) → main_body m.globals.items ≡ Some ready.begins.main
prepared_main m k ready =
    subst (λ (n : Module). main_body n.globals.items ≡ Some ready.begins.main) ready.is_of ready.begins.body

module _ (steps : ℕ) (m : Module) (k : Code) (ready : IsPrepared m k) where
  -- on several
  worked : (o : Outcome) → IsWorkedOut k steps o → IsOutcomeOf false steps m o []
  worked o w = record {
    main = ready.begins.main;
    body = prepared_main m k ready;
    answer = subst (λ n. IsAnswer n ready.begins.main steps o) ready.is_of (w ready.begins);
    behind = refl;
  }

  pub worked_outcome : (r : Result Outcome AllocError) → IfOk r (IsWorkedOut k steps) →
      IfOk r (λ o. IsOutcomeOf false steps m o [])
  worked_outcome r h = IfOk-weaker r (IsWorkedOut k steps) (λ o. IsOutcomeOf false steps m o []) worked h

  module _ (sorted : SortedLaw) (d : IsDerived m) where
    -- the events of a record that allows no other are those of the module
    record_events : (r : Report) (ts : List TaskMarks) (es : List Stamped) → IsAnswer m ready.begins.main steps (Done r) →
        (b : IsMarkedRecord m ready.begins.main steps r ts) → ((a : AreOfRecord ts) → AreMerged ts a es) →
        AreEventsOf m ready.begins.main es
    record_events r ts es (fs, c, least, last, few, is) b merged =
        let a : AreOfRecord ts = record {
          program = program m;
          types = m.types.items;
          main = ready.begins.main;
          tasks = b.tasks;
          channels = b.channels;
          fits = b.fits;
          marks = b.marks;
        } in
        let g = merged a in
        sorted m d.derivations d.derived ready.begins.main (prepared_main m k ready) es
        (config_of b.tasks b.channels) g.run b.last
        g.sorted fs c least last

    -- with its events
    pub logged_outcome : (l : Logged) (o : Outcome) (lines : List ℕ) → IsLoggedOut k steps l → HasLines l o lines →
        IsOutcomeOf true steps m o lines
    logged_outcome (logged.Done r ts) o lines h (is, es, merged, written) =
        let b = h ready.begins in
        let answer = subst (λ n. IsAnswer n ready.begins.main steps (Done r)) ready.is_of b.0 in
        let marked = subst (λ n. IsMarkedRecord n ready.begins.main steps r ts.items) ready.is_of b.1 in
        subst (λ q. IsOutcomeOf true steps m q lines) (sym is) (record {
          main = ready.begins.main;
          body = prepared_main m k ready;
          answer = answer;
          behind = (es, record_events r ts.items es answer marked merged, written);
        })
    logged_outcome logged.OutOfSteps o lines h (is, written) =
        subst (λ q. IsOutcomeOf true steps m q lines) (sym is) (record {
          main = ready.begins.main;
          body = prepared_main m k ready;
          answer = subst (λ n. IsAnswer n ready.begins.main steps OutOfSteps) ready.is_of (h ready.begins).0;
          behind = written;
        })

-- the report of an outcome of a safe module is sound
pub outcome_sound : AnswersAreSound → (m : Module) → IsSafe m →
    (events : Bool) (steps : ℕ) (o : Outcome) (lines : List ℕ) → IsOutcomeOf events steps m o lines → IsSoundOutcome m o
outcome_sound law m safe events steps o lines h r is =
    law m safe h.main h.body steps r (subst (IsAnswer m h.main steps) is h.answer)
