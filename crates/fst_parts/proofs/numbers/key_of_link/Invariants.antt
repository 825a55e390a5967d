use Rattle.std.proofs.Common.{◌≡◌, ◌++◌, drop}
use Rattle.fst_parts.specs.Keys.{link_key}
use Rattle.fst_parts.proofs.numbers.key_of_link.Given as goal

abbrev pub invariant-loop-byte : goal.invariant-loop-byte
invariant-loop-byte l = l.key.items ++ drop l.byte-index l.bytes ≡ link_key l.bytes l.first l.second
