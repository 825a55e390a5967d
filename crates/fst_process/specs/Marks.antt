-- What tasks have done in a run, as marks of the entries of their logs.
use Rattle.std.specs.Prelude.{◌≡◌, ◌+◌, ◌<◌, ◌≤◌, ℕ, zero, Option, Some, None, List, [], ◌∷◌, All, false, length, if◌then◌else◌, ⊤}
use Rattle.fst_terms.specs.declared.core_module.Module.{Module}
use Rattle.fst_machine.specs.declared.request.Request.{Request}
use Rattle.fst_machine.specs.declared.request.Request.TheVariants as request
use Rattle.fst_machine.specs.declared.request.Answer.{Answer}
use Rattle.fst_machine.specs.declared.request.Answer.TheVariants as answer
use Rattle.fst_machine.specs.declared.code.Code.{Code}
use Rattle.fst_runs.specs.declared.event.CoreEvent.{CoreEvent}
use Rattle.fst_runs.specs.declared.log.LogEntry.{LogEntry}
use Rattle.fst_runs.specs.Configs.{Path, Task, Config, same_path, child_path, program}
use Rattle.fst_runs.specs.Events.{IsLast}
use Rattle.fst_runs.specs.Least.{RunsLeast}
use Rattle.fst_runs.specs.Logs.{forks_after}
use Rattle.fst_runs.specs.Names.{HasMakers, HasParents}
use Rattle.fst_runs.specs.Notes.{Note, RunsNoting, entries_at}
use Rattle.fst_process.specs.declared.marks.Done.{Done}
use Rattle.fst_process.specs.declared.marks.Done.TheVariants.{Local, Made, Forked, Put, Got}
use Rattle.fst_process.specs.declared.marks.Mark.{Mark}
use Rattle.fst_process.specs.declared.marks.TaskMarks.{TaskMarks}
use Rattle.fst_vm.specs.declared.report.Outcome.{Outcome}
use Rattle.fst_vm.specs.declared.report.Outcome.TheVariants as outcome
use Rattle.fst_process.specs.Kept.{Kept}
use Rattle.fst_process.specs.Reflects.{Reflects}
use Rattle.fst_process.specs.Reports.{IsReport}
use Rattle.fst_process.specs.Runs.{RunsRightFrom}

-- what the task with this path has done that has forked so many tasks, asked for this and was told that; no entry of a log asks for
-- one thing and is told another
abbrev pub done_by : Path → ℕ → Request → Answer → Done
done_by p forked request.Step answer.Go = Local
done_by p forked (request.New n) (answer.Made h) = Made h
done_by p forked request.Fork answer.Forked = Forked (child_path p forked)
done_by p forked (request.Put x ev) answer.Sent = Put x ev
done_by p forked (request.Get x) (answer.Got ev) = Got x ev
done_by p forked q a = Local

-- the mark of an entry
abbrev pub mark_of : Path → ℕ → LogEntry → Mark
mark_of p forked e = record { done = done_by p forked e.asked e.answer; stamp = e.stamp }

-- the marks of a log, before which the task has forked so many
abbrev pub marks_from : Path → ℕ → List LogEntry → List Mark
marks_from p forked [] = []
marks_from p forked (e ∷ es) = mark_of p forked e ∷ marks_from p (forks_after e.answer forked) es

-- how many tasks a task has forked behind these entries, before which it has forked so many
abbrev pub forks_behind : ℕ → List LogEntry → ℕ
forks_behind n [] = n
forks_behind n (e ∷ es) = forks_behind (forks_after e.answer n) es

-- the marks of the first of these tasks that has this path
abbrev pub marks_at : List TaskMarks → Path → List Mark
marks_at [] p = []
marks_at (t ∷ ts) p = if same_path t.path p then t.marks.items else marks_at ts p

-- no two of these tasks have one path
abbrev pub AreOnce : List TaskMarks → Type 0
AreOnce [] = ⊤
AreOnce (t ∷ ts) = All (λ (u : TaskMarks). same_path t.path u.path ≡ false) ts × AreOnce ts

-- the marks of each task are these
pub record AreMarks (ts : List TaskMarks) (marks : Path → List Mark) : Type 0 where
  pub once : AreOnce ts
  pub are : (p : Path) → marks_at ts p ≡ marks p

-- how many tasks the one with this path has forked in a configuration
abbrev pub forked_by : Option Task → ℕ
forked_by None = zero
forked_by (Some t) = t.forked

-- a run has come to this configuration after so many events, and this is what so many steps come to
abbrev pub IsEndAt : Module → Config → ℕ → ℕ → Outcome → Type 0
IsEndAt m c n steps (outcome.Done r) = IsLast (program m) m.types.items c × (n ≤ steps) ×
    IsReport (program m) c n r
IsEndAt m c n steps outcome.OutOfSteps = steps < n

-- this is what the least run comes to from a configuration, where so many events before it count among the steps, and these are the
-- marks of what tasks do in it
pub record IsMarkedFrom (m : Module) (b : Config) (before steps : ℕ) (o : Outcome)
    (ts : List TaskMarks) : Type 0 where
  pub events : List CoreEvent
  pub config : Config
  pub least : RunsLeast (program m) m.types.items b events config
  pub end : IsEndAt m config (before + length events) steps o
  pub notes : List Note
  pub noted : RunsNoting (program m) m.types.items b events config notes
  pub marks : AreMarks ts (λ p. marks_from p (forked_by (b.tasks p)) (entries_at p notes))

-- so it is of each such configuration that is kept and from which no run goes wrong
abbrev pub IsMarkedOutcomeFrom : Code → ℕ → ℕ → Kept → Outcome → List TaskMarks → Type 0
IsMarkedOutcomeFrom k n steps d o ts =
    (m : Module) (c : Config) → Reflects m k n d c → HasMakers c → HasParents c →
    RunsRightFrom m c → IsMarkedFrom m c n steps o ts
