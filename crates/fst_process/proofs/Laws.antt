-- What other crates cite of what tasks do, of reports, and of marks.
-- two paths are the same in either order
pub use Rattle.fst_process.proofs.NoteLaws.{same_path-swapped}
-- an end is the other one of its other one, and an end of a channel is one of both
pub use Rattle.fst_process.proofs.PathLaws.{other-twice, one_of_both}
-- where all paths of a set come from one on, none before it is in the set
pub use Rattle.fst_process.proofs.Firsts.{StandsFrom, none_before}
-- what asks for a step, a channel or a task has a next state after an answer to it
pub use Rattle.fst_process.proofs.Nexts.{step_next, new_next, fork_next}
-- where slots show the tasks of a configuration, one that asks for nothing has ended; where channels are its too, what lists say of both makes its report
pub use Rattle.fst_process.proofs.Reporting.{Shows, ShowTasks, ended_shown, is_report}
-- a channel is listed among those of a map in order exactly where it is found there
pub use Rattle.fst_process.proofs.ReportLists.{listed_there, there_listed}
-- the marks of two logs one behind the other; the tasks of a map in order have the marks that the map has
pub use Rattle.fst_process.proofs.MarkLaws.{marks_from-append}
pub use Rattle.fst_process.proofs.MarkLists.{are_marks}
