-- What a record answers is what the least run answers.
use Rattle.std.proofs.Common.{◌≡◌, ◌∙◌, ◌⊎◌, inl, inr, ◌<◌, ◌≤◌, ◌+◌, ◌^◌, ℕ, zero, suc, List, [], ◌∷◌, length, Bool, true, false, Some, refl, sym, ap, subst, arith}
use Rattle.std.specs.Prelude.{if◌then◌else◌}
use Rattle.std.proofs.lemmas.List.{length-map}
use Rattle.std.proofs.lemmas.List.Elements.{All-nil, All-cons}
use Rattle.fst_types.specs.Tree.{Tree}
use Rattle.fst_types.specs.declared.event.ChannelHistory.{ChannelHistory}
use Rattle.fst_terms.specs.CoreTree.{CoreTree}
use Rattle.fst_terms.specs.declared.core_module.Module.{Module}
use Rattle.fst_derivations.specs.Deriv.{Deriv}
use Rattle.fst_derivations.specs.Modules.{HasDerivations, surroundings}
use Rattle.fst_derivations.specs.Rules.{Surroundings}
use Rattle.fst_machine.specs.Machine.{Program}
use Rattle.fst_vm.specs.declared.report.Outcome.TheVariants.{Done, OutOfSteps}
use Rattle.fst_vm.specs.declared.report.Report.{Report}
use Rattle.fst_runs.specs.declared.event.CoreEvent.{CoreEvent}
use Rattle.fst_runs.specs.declared.event.Stamped.{Stamped}
use Rattle.fst_runs.specs.declared.log.LogEntry.{LogEntry}
use Rattle.fst_runs.specs.Configs.{Path, Config, same_path, main_path, program, main_body, started}
use Rattle.fst_runs.specs.Events.{Write, Does, Runs, IsLast, written}
use Rattle.fst_runs.specs.Least.{RunsLeast}
use Rattle.fst_runs.specs.StampedRuns.{events_in}
use Rattle.fst_runs.proofs.Laws.{least_runs, stamped_runs}
use Rattle.fst_process.specs.Reports.{IsReport, IsAnswer}
use Rattle.fst_records.specs.Records.{Course, FitsRecord, IsLogged, IsRecorded, config_of, main_birth}
use Rattle.fst_records.specs.Growing.{IsFine, IsRecordOf, events_of}
use Rattle.fst_records.proofs.Laws.{extends, has_events, as_many, sorted_run}
use Rattle.fst_safety.specs.Sound.{IsSound}
use Rattle.fst_safety.specs.WellTyped.{IsWellTyped, program_in}
use Rattle.fst_safety.proofs.Laws.{checked, does_sound, one_end, sound_right, start_sound}
use Rattle.fst_worker.specs.Events.{LeastLaw}
use Rattle.fst_worker.proofs.Deciding.{LeastOrLast, least_or_last}

-- ---- the run of a record

-- a run from main's beginning with as many events as the record
record RunOf (m : Program) (types : List Tree) (e : CoreTree) (ys : List Course) (ks : List ChannelHistory) : Type 0 where
  list : List CoreEvent
  runs : Runs m types (started e) list (config_of ys ks)
  count : length list ≡ events_of ys ks

run_of : (m : Program) (types : List Tree) (e : CoreTree) (ys : List Course) (ks : List ChannelHistory) →
    FitsRecord m types (main_birth e) ys ks → RunOf m types e ys ks
run_of m types e ys ks fits =
    let h = has_events m types e ys ks fits in
    record {
      list = events_in h.list;
      runs = stamped_runs m types (started e) h.list (config_of ys ks) (sorted_run m types e ys ks h.list fits h.are h.timed);
      count = length-map h.list (λ (e : Stamped). e.event) ∙ as_many m types (main_birth e) ys ks fits h.list h.are;
    }

-- ---- the least run

either_same : {X : Type 0} (b : Bool) (x : X) → (if b then x else x) ≡ x
either_same true x = refl
either_same false x = refl

-- the beginning is that of a record
begin_record : (m : Program) (types : List Tree) (e : CoreTree) → IsRecordOf m types (main_birth e) (started e) 0 (λ p. [])
begin_record m types e =
    let y : Course = record { path = (main_birth e).path; first = (main_birth e).first; log = []; now = (main_birth e).first } in
    record {
      tasks = y ∷ [];
      channels = [];
      fits = record {
        root = refl;
        births = λ w. omega arith;
        logs = All-cons (IsLogged m types) y []
            (record { none_made = refl; none_forked = refl; follows = refl; opened = refl }) (All-nil (IsLogged m types));
        channels = λ w. omega arith;
        exchanged = λ w. omega arith;
        histories = All-nil IsRecorded;
      };
      config = refl;
      events = omega arith;
      logged = λ p. either_same (same_path main_path p) [];
    }

module _ (m : Surroundings) (well : IsWellTyped m) (a : Tree) (main : CoreTree) where
  -- a configuration of a record with so many events
  abbrev IsRecord : Config → ℕ → Type 0
  IsRecord c n = (logs : Path → List LogEntry) × IsRecordOf (program_in m) m.types (main_birth main) c n logs

  fine : (c : Config) → IsSound m a c → IsFine (program_in m) c
  fine c s = record { right = sound_right m well a c s; sessions = λ h j i. (s.traces h j i).1 }

  -- one event more
  next_record : (c : Config) (k : ℕ) (e : CoreEvent) (w : Write) → IsRecord c k → k < 2 ^ 32 → IsSound m a c →
      Does (program_in m) m.types c e w → IsRecord (written c w) (suc k)
  next_record c k e w (logs, r) few s d =
      let b = config_of r.tasks r.channels in
      subst (λ (c : Config). IsSound m a c → Does (program_in m) m.types c e w → IsRecord (written c w) (suc k)) r.config
      (λ s d. subst (λ n. IsRecord (written b w) (suc n)) r.events (
        _,
        extends (program_in m) m.types (main_birth main) r.tasks r.channels r.fits e w refl
            (let q = r.events in omega (arith, few, q)) (sound_right m well a b s) d
            (fine (written b w) (does_sound m well a b e w s d)),
      )) s d

  -- the least run has so many events, or it ends with no more
  abbrev LeastTo : Config → ℕ → Type 0
  LeastTo c n = (es : List CoreEvent) × (d : Config) × RunsLeast (program_in m) m.types c es d ×
      ((length es ≡ n) ⊎ ((length es ≤ n) × IsLast (program_in m) m.types d))

  least_from : (n k : ℕ) (c : Config) → IsRecord c k → k + n ≤ 2 ^ 32 → IsSound m a c → LeastTo c n
  least_from zero k c r few s = ([], c, refl, inl refl)
  least_from (suc n) k c (logs, r) few s =
      by (subst (LeastOrLast m) r.config
      (least_or_last m well a (main_birth main) r.tasks r.channels r.fits (subst (IsSound m a) (sym r.config) s)))
      (λ e w d. least_from n (suc k) (written c w) (next_record c k e w (logs, r) (omega (arith, few)) s d) (omega (arith, few))
      (does_sound m well a c e w s d))
    where
      by : LeastOrLast m c → ((e : CoreEvent) (w : Write) → Does (program_in m) m.types c e w → LeastTo (written c w) n) →
          LeastTo c (suc n)
      by (inr l) more = ([], c, refl, inr (omega arith, l))
      by (inl (e, w, d, l)) more = add (more e w d)
        where
          add : LeastTo (written c w) n → LeastTo c (suc n)
          add (es, b, run, inl q) = (e ∷ es, b, (w, d, l, run), inl (ap suc q))
          add (es, b, run, inr q) = (e ∷ es, b, (w, d, l, run), inr ((let f = q.0 in omega (arith, f)), q.1))

-- ---- answers

module _ (m : Module) (ds : List Deriv) (h : HasDerivations m ds) (e : CoreTree) (q : main_body m.globals.items ≡ Some e)
    (steps : ℕ) where
  -- the least run as far as the steps go and one event more
  abbrev Least : Type 0
  Least = LeastTo (surroundings m []) (checked m ds h) (start_sound m ds h e q).0 e (started e) (suc steps)

  least : suc steps < 2 ^ 32 → Least
  least few =
      let s = start_sound m ds h e q in
      least_from (surroundings m []) (checked m ds h) s.0 e (suc steps) 0 (started e)
      (_, begin_record (program m) m.types.items e) (omega (arith, few)) s.1

  module _ (ys : List Course) (ks : List ChannelHistory) (fits : FitsRecord (program m) m.types.items (main_birth e) ys ks) where
    run : RunOf (program m) m.types.items e ys ks
    run = run_of (program m) m.types.items e ys ks fits

    -- a report of the record is one of the least run
    done : (report : Report) → IsLast (program m) m.types.items (config_of ys ks) → events_of ys ks ≤ steps →
        IsReport (program m) (config_of ys ks) (events_of ys ks) report → Least → IsAnswer m e steps (Done report)
    done report last le is (fs, d, r, inl len) =
        let a = (one_end m ds h e q run.list (config_of ys ks) run.runs last fs d
        (least_runs (program m) m.types.items (started e) fs d r)).0 in
        let b = run.count in
        absurd (omega (arith, a, b, len, le))
    done report last le is (fs, d, r, inr short) =
        let a = (one_end m ds h e q run.list (config_of ys ks) run.runs last fs d
        (least_runs (program m) m.types.items (started e) fs d r)).1 short.1 in
        let b = run.count in
        let c = a.0 in (
          fs,
          d,
          r,
          short.1,
          omega (arith, b, c, le),
          subst (λ (d : Config). IsReport (program m) d (length fs) report) (sym a.1)
              (subst (λ k. IsReport (program m) (config_of ys ks) k report) (sym (c ∙ b)) is),
        )

    -- where the record has more events than the steps, so has the least run
    over : steps < events_of ys ks → Least → IsAnswer m e steps OutOfSteps
    over more (fs, d, r, inl len) = (fs, d, r, len)
    over more (fs, d, r, inr short) =
        let a = (one_end m ds h e q fs d (least_runs (program m) m.types.items (started e) fs d r) short.1 run.list
        (config_of ys ks) run.runs).0 in
        let b = run.count in
        let c = short.0 in
        (fs, d, r, omega (arith, a, b, c, more))

-- what a record answers is what the least run answers
pub least_answers : LeastLaw
least_answers m ds h e q steps (Done report) few (ys, ks, fits, safe, last, le, is) =
    done m ds h e q steps ys ks fits report last le is (least m ds h e q steps few)
least_answers m ds h e q steps OutOfSteps few (ys, ks, fits, more) =
    over m ds h e q steps ys ks fits more (least m ds h e q steps few)
