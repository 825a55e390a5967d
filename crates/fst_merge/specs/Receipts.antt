-- What tasks have done, as the parts of the events of a record.
use Rattle.std.specs.Prelude.{List, map}
use Rattle.std.specs.List.{flat_map}
use Rattle.fst_runs.specs.Configs.{Path}
use Rattle.fst_process.specs.declared.marks.Done.{Done}
use Rattle.fst_process.specs.declared.marks.Done.TheVariants.{Local, Made, Forked, Put, Got}
use Rattle.fst_process.specs.declared.marks.Mark.{Mark}
use Rattle.fst_process.specs.declared.marks.TaskMarks.{TaskMarks}
use Rattle.fst_records.specs.Parts.{Deed, stepped, made, forked, sent, got, Part}

-- what a task has done, without what it made and what passed
abbrev pub deed_of : Done → Deed
deed_of Local = stepped
deed_of (Made h) = made
deed_of (Forked p) = forked
deed_of (Put x ev) = sent x.channel
deed_of (Got x ev) = got x.channel

-- the part of the task with this path that a mark is
abbrev pub part_of : Path → Mark → Part
part_of p k = record { path = p; deed = deed_of k.done; stamp = k.stamp }

-- the parts of a task
abbrev pub parts_of_task : TaskMarks → List Part
parts_of_task t = map (part_of t.path) t.marks.items

-- the parts of all tasks
abbrev pub parts_in : List TaskMarks → List Part
parts_in ts = flat_map parts_of_task ts
