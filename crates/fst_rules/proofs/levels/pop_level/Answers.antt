use Rattle.fst_rules.proofs.LevelLaws.{lower_popped, rest_popped}
use Rattle.fst_rules.proofs.levels.pop_level.Goals as goal

pub returns-clause-low : goal.returns-clause-low
returns-clause-low c = λ n x. (lower_popped c.args.levels.now.items c.pop.new.self.items c.pop.result c.pop.ensures.items n x).1

pub returns-clause-lower : goal.returns-clause-lower
returns-clause-lower c = λ n x. (lower_popped c.args.levels.now.items c.pop.new.self.items c.pop.result c.pop.ensures.items n x).0

pub returns-clause-walk : goal.returns-clause-walk
returns-clause-walk c = rest_popped c.args.levels.now.items c.pop.new.self.items _ _ c.pop.result c.args.levels.now.ok.0
    c.pop.ensures.items c.pop.ensures.cases
