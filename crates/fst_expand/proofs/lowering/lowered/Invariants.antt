use Rattle.std.proofs.Common.{◌≡◌, ◌-◌, ◌∷◌, [], length, reverse}
use Rattle.fst_words.specs.Words.{WordBelow}
use Rattle.fst_norms.specs.Lowering.{lowered}
use Rattle.fst_expand.proofs.lowering.lowered.Given as goal

abbrev pub invariant-loop-step : goal.invariant-loop-step
invariant-loop-step l = record {
  lowered : lowered l.words (l.steps - l._step) (reverse l.stack.items) ≡ lowered l.words l.steps (l.number ∷ []);
  range : WordBelow (length l.words) (reverse l.stack.items);
}
