use Rattle.std.proofs.Common.{◌≡◌, drop}
use Rattle.fst_norms.specs.Lowering.{word_of_norm}
use Rattle.fst_norms.proofs.lowering.word_of_norm.Given as goal

abbrev pub invariant-loop-rule : goal.invariant-loop-rule
invariant-loop-rule l = word_of_norm l.norms l.norm (drop l.rule-index l.rules) ≡ word_of_norm l.norms l.norm l.rules
