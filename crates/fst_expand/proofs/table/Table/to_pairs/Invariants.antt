use Rattle.std.proofs.Common.{◌≡◌, take}
use Rattle.fst_expand.proofs.table.Table.to_pairs.Given as goal

abbrev pub invariant-loop-at : goal.invariant-loop-at
invariant-loop-at l = l.pairs.items ≡ take l.at l.self.pairs
