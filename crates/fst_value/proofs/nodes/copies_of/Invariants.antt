use Rattle.std.proofs.Common.{◌≡◌, take}
use Rattle.fst_value.proofs.nodes.copies_of.Given as goal

abbrev pub invariant-loop-i : goal.invariant-loop-i
invariant-loop-i l = l.copies.items ≡ take l.i l.nodes.items
