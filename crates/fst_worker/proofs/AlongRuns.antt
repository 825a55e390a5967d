-- Along a run a record that fits stays one, and what the run answers is the answer of one.
use Rattle.std.proofs.Common.{◌≡◌, ◌+◌, ◌-◌, ◌^◌, ◌<◌, ◌≤◌, ℕ, zero, suc, List, [], ◌∷◌, length, refl, sym, subst, arith}
use Rattle.fst_types.specs.Tree.{Tree}
use Rattle.fst_terms.specs.declared.core_module.Module.{Module}
use Rattle.fst_types.specs.declared.event.ChannelHistory.{ChannelHistory}
use Rattle.fst_machine.specs.Machine.{Program}
use Rattle.fst_vm.specs.declared.report.Outcome.{Outcome}
use Rattle.fst_vm.specs.declared.report.Outcome.TheVariants.{Done, OutOfSteps}
use Rattle.fst_vm.specs.declared.report.Report.{Report}
use Rattle.fst_runs.specs.declared.event.CoreEvent.{CoreEvent}
use Rattle.fst_runs.specs.declared.log.LogEntry.{LogEntry}
use Rattle.fst_runs.specs.Configs.{Path, Config, program}
use Rattle.fst_runs.specs.Events.{written, Runs, IsLast}
use Rattle.fst_runs.proofs.Laws.{least_runs, run_notes}
use Rattle.fst_process.specs.Reports.{IsReport, IsAnswerFrom}
use Rattle.fst_safety.specs.Safety.{IsSafeAt, StaysSafe}
use Rattle.fst_runs.specs.Logs.{Birth}
use Rattle.fst_records.specs.Records.{Course, config_of, FitsRecord}
use Rattle.fst_records.specs.Growing.{events_of, StaysFine, IsRecordOf}
use Rattle.fst_records.proofs.Laws.{runs}
use Rattle.fst_worker.specs.Events.{IsRecordAnswer, AnswerLaw}

-- ---- answers

-- what stays safe stays fine
pub stays_fine : (m : Module) (c : Config) → StaysSafe m c → StaysFine (program m) m.types.items c
stays_fine m c stays es d r = let s = stays es d r in record { right = s.right; sessions = s.sessions }

-- the first events of a run
first_events : (m : Program) (types : List Tree) (n : ℕ) (c : Config) (es : List CoreEvent) (d : Config) → Runs m types c es d →
    n ≤ length es →
    (fs : List CoreEvent) × (b : Config) × Runs m types c fs b × (length fs ≡ n)
first_events m types zero c es d r l = ([], c, refl, refl)
first_events m types (suc n) c [] d r l = absurd (omega (arith, l))
first_events m types (suc n) c (e ∷ es) d r l =
    let k = first_events m types n (written c r.0) es d r.2 (omega (arith, l)) in
    let is = k.3 in
    (e ∷ k.0, k.1, (r.0, r.1, k.2), omega (arith, is))

module _ (m : Module) (main : Birth) (ys : List Course) (ks : List ChannelHistory) (steps : ℕ) (early : main.first.clock ≡ 0)
    (fits : FitsRecord (program m) m.types.items main ys ks) (stays : StaysSafe m (config_of ys ks)) (few : steps < 2 ^ 32) where
  -- a record with this configuration, so many events and some logs
  abbrev IsRecord : Config → ℕ → Type 0
  IsRecord c n = (logs : Path → List LogEntry) × IsRecordOf (program m) m.types.items main c n logs

  -- a record's configuration in which no event is possible is reported
  done : (c : Config) (n : ℕ) (r : Report) → IsRecord c n → IsSafeAt m c → IsLast (program m) m.types.items c → n ≤ steps →
      IsReport (program m) c n r → IsRecordAnswer m main steps (Done r)
  done c n r (logs, k) safe last le report = (
    k.tasks,
    k.channels,
    k.fits,
    subst (IsSafeAt m) (sym k.config) safe,
    subst (IsLast (program m) m.types.items) (sym k.config) last,
    subst (λ l. l ≤ steps) (sym k.events) le,
    subst (λ d. IsReport (program m) d (events_of k.tasks k.channels) r) (sym k.config)
        (subst (λ l. IsReport (program m) c l r) (sym k.events) report),
  )

  -- one with more events isn't
  out : (c : Config) (n : ℕ) → IsRecord c n → steps < n → IsRecordAnswer m main steps OutOfSteps
  out c n (logs, k) more = (k.tasks, k.channels, k.fits, subst (λ l. steps < l) (sym k.events) more)

  -- what a run leads to
  leads : (es : List CoreEvent) (c : Config) → Runs (program m) m.types.items (config_of ys ks) es c →
      events_of ys ks + length es ≤ 2 ^ 32 → IsRecord c (events_of ys ks + length es)
  leads es c r le =
      let n = run_notes (program m) m.types.items (config_of ys ks) es c r in
      (_, runs (program m) m.types.items main ys ks fits es c n.0 early le (stays_fine m (config_of ys ks) stays) n.1)

  answers : (o : Outcome) → IsAnswerFrom m (config_of ys ks) (events_of ys ks) steps o → IsRecordAnswer m main steps o
  answers (Done r) a =
      let le = a.4 in
      let run = least_runs (program m) m.types.items (config_of ys ks) a.0 a.1 a.2 in
      done a.1 (events_of ys ks + length a.0) r (leads a.0 a.1 run (omega (arith, le, few))) (stays a.0 a.1 run) a.3 le a.5
  answers OutOfSteps a = by (suc steps - events_of ys ks) refl
    where
      by : (n : ℕ) → suc steps - events_of ys ks ≡ n → IsRecordAnswer m main steps OutOfSteps
      by zero z = (ys, ks, fits, omega (arith, z))
      by (suc n) z =
          let l = a.3 in
          let k = first_events (program m) m.types.items (suc n) (config_of ys ks) a.0 a.1
          (least_runs (program m) m.types.items (config_of ys ks) a.0 a.1 a.2) (omega (arith, l, z)) in
          let is = k.3 in
          out k.1 (events_of ys ks + length k.0) (leads k.0 k.1 k.2 (omega (arith, is, z, few))) (omega (arith, is, z))

-- what a run from a record's configuration answers
pub record_answers : AnswerLaw
record_answers m main ys ks steps o early fits stays few a = answers m main ys ks steps early fits stays few o a
