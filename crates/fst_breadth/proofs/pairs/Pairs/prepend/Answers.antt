use Rattle.std.proofs.Common.{◌∙◌, ap, length, []}
use Rattle.fst_breadth.specs.Tables.{Store}
use Rattle.fst_breadth.proofs.PairLaws.{found-keeps, entries-keep}
use Rattle.fst_breadth.proofs.pairs.Pairs.prepend.Goals as goal

pub invariant_of-self : goal.invariant_of-self
invariant_of-self c = entries-keep (length c.self.inside.words)
    (length c.prepend.new.self) c.prepend.ensures.kept.longer c.self.inside.map.entries 0 c.self.invariant

pub returns-clause-found : goal.returns-clause-found
returns-clause-found c =
    found-keeps c.self.inside.words c.prepend.new.self c.prepend.ensures.kept c.self.inside.map.entries [] 0 c.self.invariant ∙ ap
    (λ (s : Store). s.found) c.self.view_is
