use Rattle.std.proofs.Common.{◌≡◌, ◌<◌, ◌++◌, length}
use Rattle.std.specs.List.{AllByRecursion}
use Rattle.fst_process.specs.Listed.{histories_in}
use Rattle.fst_process.proofs.report.histories.Given as goal

abbrev pub invariant-loop-maker : goal.invariant-loop-maker
invariant-loop-maker l = record {
  few : AllByRecursion (λ e. length e.1.items < 4294967296) l.maker-iterator;
  listed : l.all.items ++ histories_in l.maker-iterator ≡ histories_in l.fn.channels.entries;
}
