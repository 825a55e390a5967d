use Rattle.std.proofs.Common.{◌≡◌, ◌++◌, drop}
use Rattle.fst_parts.specs.Labels.{names}
use Rattle.fst_parts.proofs.letters.names_among.Given as goal

abbrev pub invariant-loop-letter : goal.invariant-loop-letter
invariant-loop-letter l = l.found.items ++ names (drop l.letter-index l.letters) ≡ names l.letters
