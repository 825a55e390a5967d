use Rattle.std.proofs.Common.{◌∙◌, ap, length}
use Rattle.fst_expand.specs.Table.{Store}
use Rattle.fst_expand.proofs.KeyLaws.{once_keep, pairs_keep}
use Rattle.fst_expand.proofs.table.Table.prepend.Goals as goal

pub invariant_of-self : goal.invariant_of-self
invariant_of-self c = once_keep (length c.self.inside.words)
    (length c.prepend.new.self) c.prepend.ensures.kept.longer c.self.inside.keys.keys c.self.invariant

pub returns-clause-pairs : goal.returns-clause-pairs
returns-clause-pairs c = pairs_keep c.self.inside.words c.prepend.new.self c.prepend.ensures.kept c.self.inside.keys.keys
    c.self.invariant.within ∙ ap (λ (s : Store). s.pairs) c.self.view_is
