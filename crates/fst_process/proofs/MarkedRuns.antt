-- The marks of what tasks do along the least run.
use Rattle.std.proofs.Common.{◌≡◌, ◌∙◌, ◌<◌, ◌≤◌, ℕ, suc, Some, None, List, [], ◌∷◌, ◌++◌, refl, sym, ap, subst}
use Rattle.std.proofs.lemmas.List.{append-nil}
use Rattle.fst_terms.specs.declared.core_module.Module.{Module}
use Rattle.fst_machine.specs.declared.code.Code.{Code}
use Rattle.fst_runs.specs.declared.event.CoreEvent.{CoreEvent}
use Rattle.fst_runs.specs.Configs.{Path, Config, program}
use Rattle.fst_runs.specs.Events.{written}
use Rattle.fst_runs.specs.Names.{HasMakers, HasParents}
use Rattle.fst_runs.specs.Notes.{Note, RunsNoting, entries_at, notes}
use Rattle.fst_runs.proofs.Laws.{entries_at-append}
use Rattle.fst_process.specs.declared.marks.Mark.{Mark}
use Rattle.fst_process.specs.declared.marks.TaskMarks.{TaskMarks}
use Rattle.fst_vm.specs.declared.report.Report.{Report}
use Rattle.fst_vm.specs.declared.report.Outcome.{Outcome}
use Rattle.fst_vm.specs.declared.report.Outcome.TheVariants.{Done, OutOfSteps}
use Rattle.fst_process.specs.Kept.{Kept}
use Rattle.fst_process.specs.Reflects.{Reflects}
use Rattle.fst_process.specs.Firing.{Happens}
use Rattle.fst_paths.specs.Paths.{AreInOrder}
use Rattle.fst_process.specs.Nexts.{IsNext}
use Rattle.fst_process.specs.Reports.{IsReported}
use Rattle.fst_process.specs.Runs.{RunsRightFrom, IsReached, RunsTo}
use Rattle.fst_process.specs.Marks.{marks_from, forks_behind, forked_by, IsEndAt, IsMarkedFrom, IsMarkedOutcomeFrom}
use Rattle.fst_process.specs.Marking.{MarkLists, marks_in, tasks_of, AddsMarks}
use Rattle.fst_process.proofs.Running.{kept_first, goes, reached_next, reached_last}
use Rattle.fst_process.proofs.NoteLaws.{noting_then, forks_on}
use Rattle.fst_process.proofs.MarkLaws.{marks_from-append}
use Rattle.fst_process.proofs.MarkLists.{are_marks}

-- what is kept after n events is what the least run from the configuration has come to, and these are the marks of what tasks did
pub record IsMarked (m : Module) (k : Code) (b : Config) (before n : ℕ) (d : Kept) (marks : Path → List Mark) : Type 0 where
  pub reached : IsReached m k b before n d
  pub gained : List Note
  pub noted : RunsNoting (program m) m.types.items b reached.events reached.config gained
  pub are : (p : Path) → marks p ≡ marks_from p (forked_by (b.tasks p)) (entries_at p gained)

-- so it is with each configuration that was kept at first and from which no run goes wrong
abbrev pub MarksTo : Code → ℕ → Kept → ℕ → Kept → (Path → List Mark) → Type 0
MarksTo k before o n d marks =
    (m : Module) (b : Config) → Reflects m k before o b → HasMakers b → HasParents b →
    RunsRightFrom m b → IsMarked m k b before n d marks

-- what is kept is what the run has come to
pub marked_runs : (k : Code) (before : ℕ) (o : Kept) (n : ℕ) (d : Kept) (marks : Path → List Mark) →
    MarksTo k before o n d marks → RunsTo k before o n d
marked_runs k before o n d marks kept = λ m b reflects makers parents right.
    let x = kept m b reflects makers parents right in x.reached

-- at first there are no marks
pub marked_first : (k : Code) (n : ℕ) (d : Kept) (marks : Path → List Mark) → ((p : Path) → marks p ≡ []) →
    MarksTo k n d n d marks
marked_first k n d marks none = λ m b reflects makers parents right.
    record {
      reached = kept_first k n d m b reflects makers parents right;
      gained = [];
      noted = (refl, refl);
      are = none;
    }

-- an event adds the marks of what tasks do in it
pub marked_next : (k : Code) (before : ℕ) (o : Kept) (n l : ℕ) (d e : Kept) (f g : Path → List Mark) (ev : CoreEvent) →
    MarksTo k before o n d f → IsNext d (Some ev) → AddsMarks d ev f g → Happens k d ev e → suc n ≡ l →
    MarksTo k before o l e g
marked_next k before o n l d e f g ev kept next adds happens more = λ m b reflects makers parents right.
    let x = kept m b reflects makers parents right in
    let y = x.reached in
    let to = goes m k b before n d y right ev next in
    let own = notes (program m) m.types.items y.config ev to.3 to.4 in
    let forks : (p : Path) → forked_by (y.config.tasks p)
    ≡ forks_behind (forked_by (b.tasks p)) (entries_at p x.gained) =
    forks_on (program m) m.types.items y.events b y.config x.gained makers parents x.noted in
    let marked : IsMarked m k b before (suc n) e g = record {
      reached = reached_next m k b before n d y right ev e next happens;
      gained = x.gained ++ own;
      noted =
          noting_then (program m) m.types.items b y.events (ev ∷ []) y.config (written y.config to.3) x.gained own x.noted
          (to.3, to.4, [], sym (append-nil own), (refl, refl));
      are = λ p.
          adds m k n y.config to.3 y.reflects to.4 p
          ∙ (λ i. x.are p i ++ marks_from p (forks p i) (entries_at p own))
          ∙ sym (marks_from-append p (forked_by (b.tasks p)) (entries_at p x.gained) (entries_at p own))
          ∙ ap (marks_from p (forked_by (b.tasks p))) (sym (entries_at-append p x.gained own));
    } in
    subst (λ z. IsMarked m k b before z e g) more marked

module _ (k : Code) (before : ℕ) (o : Kept) (steps n : ℕ) (d : Kept) (all : MarkLists) (ts : List TaskMarks)
    (kept : MarksTo k before o n d (marks_in all)) (ordered : AreInOrder all) (are : ts ≡ tasks_of all) where
  ends : (m : Module) (b : Config) (r : Outcome) → (x : IsMarked m k b before n d (marks_in all)) →
      IsEndAt m x.reached.config n steps r →
      IsMarkedFrom m b before steps r ts
  ends m b r x end =
      let y = x.reached in
      record {
        events = y.events;
        config = y.config;
        least = y.runs;
        end = subst (λ l. IsEndAt m y.config l steps r) (sym y.many) end;
        notes = x.gained;
        noted = x.noted;
        marks = are_marks all ts (λ p. marks_from p (forked_by (b.tasks p)) (entries_at p x.gained)) ordered are x.are;
      }

  -- the report of what is kept is the answer where there is no next event
  pub marked_done : (r : Report) → IsNext d None → n ≤ steps → IsReported d n r →
      IsMarkedOutcomeFrom k before steps o (Done r) ts
  marked_done r next few reported = λ m b reflects makers parents right.
      let x = kept m b reflects makers parents right in
      ends m b (Done r) x (
        reached_last m k b before n d x.reached right next,
        few,
        reported m k n x.reached.config x.reached.reflects,
      )

  -- and the answer after one event too many
  pub marked_out : steps < n → IsMarkedOutcomeFrom k before steps o OutOfSteps ts
  marked_out over = λ m b reflects makers parents right.
      ends m b OutOfSteps (kept m b reflects makers parents right) over
