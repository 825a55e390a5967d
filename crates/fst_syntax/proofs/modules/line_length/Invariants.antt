use Rattle.std.proofs.Common.{◌≡◌, ◌+◌, drop}
use Rattle.fst_syntax.specs.Views.{line_length}
use Rattle.fst_syntax.proofs.modules.line_length.Given as goal

abbrev pub invariant-loop-i : goal.invariant-loop-i
invariant-loop-i l = l.i + line_length (drop l.i l.tokens) ≡ line_length l.tokens
