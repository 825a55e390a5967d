use Rattle.std.proofs.Common.{subst}
use Rattle.fst_expand.specs.Good.{AreDistinct}
use Rattle.fst_expand.specs.Table.{Store}
use Rattle.fst_expand.proofs.KeyLaws.{pairs_once}
use Rattle.fst_expand.proofs.table.Table.each_once.Goals as goal

pub returns-clause-pairs : goal.returns-clause-pairs
returns-clause-pairs c = subst (λ (s : Store). AreDistinct s.pairs) c.self.view_is
    (pairs_once c.self.inside.words c.self.inside.keys.keys c.each_once.ensures.once c.self.invariant)
