use Rattle.std.proofs.Common.{◌≡◌, ◌*◌, ◌≤◌, ◌++◌, length, drop}
use Rattle.std.specs.Str.{chars}
use Rattle.fst_lexer.specs.Places.{place_all}
use Rattle.fst_lexer.proofs.placing.places.Given as goal

abbrev pub invariant-loop-c : goal.invariant-loop-c
invariant-loop-c l =
    (l.placed.items ++ place_all l.at (drop (length l.yielded) (chars l.text)) ≡ place_all 0 (chars l.text)) ×
    (l.at ≤ 4 * length l.yielded)
