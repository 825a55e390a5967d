use Rattle.fst_normed.proofs.HeadFacts.{need_law}
use Rattle.fst_normed.proofs.law.need_law.Goals as goal

pub returns : goal.returns
returns c = need_law
