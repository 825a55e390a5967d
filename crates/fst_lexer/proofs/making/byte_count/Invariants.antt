use Rattle.std.proofs.Common.{◌≡◌, ◌*◌, ◌≤◌, take}
use Rattle.fst_lexer.specs.Tokens.{byte_count}
use Rattle.fst_lexer.proofs.making.byte_count.Given as goal

abbrev pub invariant-loop-p : goal.invariant-loop-p
invariant-loop-p l = (l.count ≡ byte_count (take l.p-index l.word)) × (l.count ≤ 4 * l.p-index)
