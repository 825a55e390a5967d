use Rattle.std.proofs.Common.{◌-◌, ℕ, ap, reverse, ◌∙◌}
use Rattle.fst_norms.specs.Lowering.{lowered}
use Rattle.fst_normed.proofs.LowerLaws.{head_skipped}
use Rattle.fst_normed.proofs.lowering.lower_head.Goals as goal

pub returns-then-norm-steps-clause-lowered : goal.returns-then-norm-steps-clause-lowered
returns-then-norm-steps-clause-lowered c =
    let is = c.norm_of-norm.ensures in
    let le = rw is at c.if-norm-steps.true in
    ap (λ (k : ℕ). lowered c.args.words.now (c.args.steps - k) (reverse c.args.stack.now.items)) is
    ∙ head_skipped c.args.norms.now c.args.words.now c.requires.words c.requires.lowering c.args.steps c.args.head
    (reverse c.args.stack.now.items) c.requires.head le
