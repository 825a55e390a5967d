use Rattle.std.proofs.Common.{◌≡◌, ◌-◌, ◌++◌}
use Rattle.std.specs.List.{flat_map, range_with_len}
use Rattle.std.specs.String.{string_bytes}
use Rattle.fst_make.specs.Made.{channel_lines, main_lines}
use Rattle.fst_make.proofs.making.make.Given as goal

abbrev pub invariant-loop-i : goal.invariant-loop-i
invariant-loop-i l = string_bytes l.text ++ flat_map channel_lines
    (range_with_len l.i (l.last - l.i)) ≡ main_lines ++ flat_map channel_lines (range_with_len 1 l.n)
