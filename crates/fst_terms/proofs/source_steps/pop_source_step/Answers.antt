use Rattle.fst_terms.proofs.SourceAround.{step_popped, second_low}
use Rattle.fst_terms.proofs.source_steps.pop_source_step.Goals as goal

pub returns-clause-whole : goal.returns-clause-whole
returns-clause-whole c = step_popped c.args.steps.now.items c.pop.new.self.items _ _ c.pop.result c.args.steps.now.ok.0
    c.pop.ensures.items c.pop.ensures.cases

pub returns-clause-low : goal.returns-clause-low
returns-clause-low c = second_low c.args.steps.now.items c.pop.new.self.items c.pop.result c.pop.ensures.items
