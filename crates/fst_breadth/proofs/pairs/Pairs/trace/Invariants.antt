use Rattle.std.proofs.Common.{◌≡◌, ◌<◌, ◌++◌, length, reverse}
use Rattle.fst_breadth.specs.Tables.{trace_at}
use Rattle.fst_breadth.proofs.pairs.Pairs.trace.Given as goal

abbrev pub invariant-loop-from : goal.invariant-loop-from
invariant-loop-from l = record {
  within : l.place < length l.self.found;
  rest : trace_at l.self.found l.place ++ reverse l.letters.items ≡ trace_at l.self.found l.at;
}

abbrev pub decreases-loop-from : goal.decreases-loop-from
decreases-loop-from l = l.place
