use Rattle.std.proofs.Common.{◌≡◌, length, drop}
use Rattle.fst_loops.specs.Searches.{set_all}
use Rattle.fst_loops.proofs.search.set_all.Given as goal

abbrev pub invariant-loop-n : goal.invariant-loop-n
invariant-loop-n g l = record {
  len : length l.values ≡ length l.initial.values;
  rest : set_all l.values (drop l.n-index l.places) l.value ≡ set_all l.initial.values l.places l.value;
}
