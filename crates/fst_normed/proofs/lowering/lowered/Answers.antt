use Rattle.std.proofs.Common.{◌≡◌, ◌∙◌, ap, arith, length, ℕ, reverse, sym, subst, zero}
use Rattle.fst_words.specs.Words.{WordBelow}
use Rattle.fst_norms.specs.Lowering.{lowered}
use Rattle.fst_normed.proofs.lowering.lowered.Goals as goal

pub returns-clause-lowered : goal.returns-clause-lowered
returns-clause-lowered c =
    let stop = c.loop-rest-test.false in
    let none : c.loop-rest.rest ≡ zero = omega arith in
    c.reverse.ensures.items ∙ sym (ap (λ (k : ℕ). lowered c.args.words.now k (reverse c.loop-rest.stack.items)) none)
    ∙ c.loop-rest.invariant.lowered

pub returns-clause-range : goal.returns-clause-range
returns-clause-range c = subst (WordBelow (length c.args.words.now)) (sym c.reverse.ensures.items) c.loop-rest.invariant.range
