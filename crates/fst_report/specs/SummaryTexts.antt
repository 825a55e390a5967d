-- The summary of a run as text.
use Rattle.std.specs.Prelude.{ℕ, List, [], ◌++◌, codes, decimal, length}
use Rattle.fst_vm.specs.declared.report.Report.{Report}
use Rattle.fst_report.specs.ReportTexts.{result_line}

-- a line that says how many there are of something
abbrev pub count_line : List ℕ → ℕ → List ℕ
count_line name count = name ++ codes " " ++ decimal count ++ codes "\n"

-- the summary of the run of a module of so many bytes: these, the events, the channels, and main's value, as values are written
-- where there are no data types
abbrev pub summary_text : ℕ → Report → List ℕ
summary_text bytes r =
    count_line (codes "bytes") bytes ++ count_line (codes "events") r.events ++ count_line
    (codes "channels") (length r.channels.items) ++
    result_line [] r.result
