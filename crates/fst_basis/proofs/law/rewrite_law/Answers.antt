use Rattle.fst_basis.proofs.Joining.{rewrites_keep}
use Rattle.fst_basis.proofs.law.rewrite_law.Goals as goal

pub returns : goal.returns
returns c = rewrites_keep
