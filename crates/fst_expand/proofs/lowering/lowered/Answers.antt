use Rattle.std.proofs.Common.{◌≡◌, ◌∙◌, ◌-◌, ap, arith, length, List, ℕ, reverse, sym, subst, suc, zero, ◌+◌}
use Rattle.fst_words.specs.Words.{WordBelow}
use Rattle.fst_norms.specs.Lowering.{lowered}
use Rattle.fst_expand.proofs.lowering.lowered.Goals as goal

pub lower-requires-clause-range : goal.lower-requires-clause-range
lower-requires-clause-range c = c.loop-step.invariant.range

pub returns-clause-lowered : goal.returns-clause-lowered
returns-clause-lowered c =
    let none : c.args.steps - c.loop-step._step ≡ zero = omega arith in
    let done = c.loop-step.invariant.lowered in
    c.reverse.ensures.items ∙ ap (λ (k : ℕ). lowered c.args.words.now k (reverse c.loop-step.stack.items)) (sym none) ∙ done

pub returns-clause-range : goal.returns-clause-range
returns-clause-range c =
    let R : List ℕ → Type 0 = WordBelow (length c.args.words.now) in
    subst R (sym c.reverse.ensures.items) c.loop-step.invariant.range

pub loop-step-preserved : goal.loop-step-preserved
loop-step-preserved c =
    let i = c.loop-step.invariant in
    let e = c.in_ok-lower.ensures in
    let less : c.args.steps - c.loop-step._step ≡ suc (c.args.steps - (c.loop-step._step + 1)) = omega arith in
    record {
      lowered = ap (lowered c.args.words.now (c.args.steps - (c.loop-step._step + 1))) e.lower
          ∙ sym (ap (λ (k : ℕ). lowered c.args.words.now k (reverse c.loop-step.stack.items)) less) ∙ i.lowered;
      range = e.range;
    }
