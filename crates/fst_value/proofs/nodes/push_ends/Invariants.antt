use Rattle.std.proofs.Common.{◌≡◌, ◌++◌, drop}
use Rattle.std.specs.List.{flat_map}
use Rattle.fst_value.specs.Nodes.{cells_in}
use Rattle.fst_value.specs.OneCell.{ends_at}
use Rattle.fst_value.proofs.nodes.push_ends.Given as goal

abbrev pub invariant-loop-i : goal.invariant-loop-i
invariant-loop-i l = l.names.items ++ flat_map ends_at (cells_in (drop l.i l.nodes.items)) ≡ l.fn.names.items ++ flat_map ends_at
    (cells_in l.nodes.items)
