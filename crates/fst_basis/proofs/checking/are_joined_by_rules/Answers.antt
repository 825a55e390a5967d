use Rattle.fst_basis.proofs.ChainLaws.{as_many}
use Rattle.fst_basis.proofs.checking.are_joined_by_rules.Goals as goal

pub returns-then-rules-chains : goal.returns-then-rules-chains
returns-then-rules-chains c = (
  (λ t. cc),
  (λ h. absurd
      (c.if-rules-chains.true (as_many c.args.g.now.rules.items c.args.marks.now c.args.basis.now c.args.t.now c.args.w.now
      c.args.rules.now c.args.chains.now h))),
)
