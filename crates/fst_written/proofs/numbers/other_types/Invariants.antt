use Rattle.std.proofs.Common.{◌≡◌, map}
use Rattle.fst_written.specs.Readings.{others}
use Rattle.fst_written.proofs.numbers.other_types.Given as goal

abbrev pub invariant-loop-k : goal.invariant-loop-k
invariant-loop-k l = l.out.items ≡ others (map (λ o. o.number) l.standing) l.k
