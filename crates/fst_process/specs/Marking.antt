-- How marks are kept, and what an event adds to them.
use Rattle.std.specs.Prelude.{◌≡◌, ◌+◌, ◌++◌, ℕ, zero, suc, List, [], ◌∷◌}
use Rattle.std.specs.Map.{lookup}
use Rattle.std.specs.declared.alloc.Global.{Global}
use Rattle.std.specs.declared.vec.Vec.{Vec}
use Rattle.fst_terms.specs.declared.core_module.Module.{Module}
use Rattle.fst_machine.specs.declared.code.Code.{Code}
use Rattle.fst_runs.specs.declared.event.CoreEvent.{CoreEvent}
use Rattle.fst_runs.specs.Configs.{Path, Config, program}
use Rattle.fst_runs.specs.Events.{Write, Does}
use Rattle.fst_runs.specs.Notes.{notes, entries_at}
use Rattle.fst_process.specs.declared.marks.Done.TheVariants.{Local}
use Rattle.fst_process.specs.declared.marks.Mark.{Mark}
use Rattle.fst_process.specs.declared.marks.TaskMarks.{TaskMarks}
use Rattle.fst_paths.specs.Paths.{put_at, at_path}
use Rattle.fst_process.specs.Kept.{Kept}
use Rattle.fst_paths.specs.ChannelLists.{listed}
use Rattle.fst_process.specs.Reflects.{Reflects}
use Rattle.fst_process.specs.Firing.{IsPossible}
use Rattle.fst_process.specs.Marks.{marks_from, forked_by}

-- marks by the paths of their tasks
abbrev pub MarkLists : Type 0
MarkLists = List (Vec ℕ Global × Vec Mark Global)

-- the marks of the task with this path
abbrev pub marks_in : MarkLists → Path → List Mark
marks_in ms p = listed (lookup (at_path p) ms)

-- the marks, and the tasks that have them
abbrev pub tasks_of : MarkLists → List TaskMarks
tasks_of [] = []
tasks_of (e ∷ es) = record { path = e.0.items; marks = e.1 } ∷ tasks_of es

-- a task has these marks more
abbrev pub with_marks : Path → List Mark → (Path → List Mark) → Path → List Mark
with_marks p xs f = put_at p (f p ++ xs) f

-- a task has one mark more
abbrev pub with_mark : Path → Mark → (Path → List Mark) → Path → List Mark
with_mark p x f = with_marks p (x ∷ []) f

-- the marks of so many steps, one after the other, of a task with this clock
abbrev pub step_marks : ℕ → ℕ → List Mark
step_marks clock zero = []
step_marks clock (suc i) = step_marks clock i ++ record { done = Local; stamp = suc (clock + i) }
    ∷ []

-- the event is possible in what is kept, with some code
abbrev pub CanHappen : Kept → CoreEvent → Type 0
CanHappen d e = (k : Code) × IsPossible k d e

-- the marks g are f with what each task does in the event behind its own, in each configuration that is kept
abbrev pub AddsMarks : Kept → CoreEvent → (Path → List Mark) → (Path → List Mark) → Type 0
AddsMarks d e f g =
    (m : Module) (k : Code) (n : ℕ) (c : Config) (w : Write) → Reflects m k n d c →
    (does : Does (program m) m.types.items c e w) → (p : Path) →
    g p ≡ f p ++ marks_from p (forked_by (c.tasks p))
    (entries_at p (notes (program m) m.types.items c e w does))
