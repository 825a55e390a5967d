use Rattle.std.proofs.Common.{◌≡◌, ◌+◌, ◌≤◌, take}
use Rattle.std.specs.Prelude.{not}
use Rattle.std.specs.List.{suffix_len}
use Rattle.fst_command.specs.Texts.{is_line_feed}
use Rattle.fst_command.proofs.texts.column_of.Given as goal

abbrev pub invariant-loop-byte : goal.invariant-loop-byte
invariant-loop-byte l = (l.column ≡ suffix_len (λ c. not (is_line_feed c)) (take l.byte-index l.front) + 1) ×
    (l.column ≤ l.byte-index + 1)
