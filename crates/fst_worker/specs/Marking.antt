-- The marks of tasks with one path.
use Rattle.std.specs.Prelude.{◌++◌, List, [], ◌∷◌, if◌then◌else◌}
use Rattle.fst_runs.specs.Configs.{Path, same_path}
use Rattle.fst_process.specs.declared.marks.Mark.{Mark}
use Rattle.fst_process.specs.declared.marks.TaskMarks.{TaskMarks}

-- the marks of this task, if it has this path
abbrev pub one_at : TaskMarks → Path → List Mark
one_at t p = if same_path t.path p then t.marks.items else []

-- the marks of all of these tasks that have this path
abbrev pub all_at : List TaskMarks → Path → List Mark
all_at [] p = []
all_at (t ∷ ts) p = one_at t p ++ all_at ts p
