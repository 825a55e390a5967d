use Rattle.std.proofs.Common.{◌≡◌, ◌+◌, ℕ, ap, ◌∙◌, take, ◌++◌, [], suc, arith}
use Rattle.fst_words.proofs.CutLaws.{cut_at, cut_none}
use Rattle.fst_words.proofs.marks.first_marked.Goals as goal

pub returns-then-marks-n-clause-some : goal.returns-then-marks-n-clause-some
returns-then-marks-n-clause-some c w =
    cut_at c.args.marks.now c.args.word.now w c.loop-i.i (omega arith) c.loop-i.invariant c.if-marks-n.true
    ∙ ap (λ (k : ℕ). take k c.args.word.now ++ []) (let e : suc c.loop-i.i ≡ c.loop-i.i + 1 = omega arith in e)

pub returns-clause-none : goal.returns-clause-none
returns-clause-none c w = cut_none c.args.marks.now c.args.word.now w (λ k l. c.loop-i.invariant k (omega arith))
