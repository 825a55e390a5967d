use Rattle.std.specs.Vec.{vec_len}
use Rattle.fst_print.proofs.StackLaws.{text_popped, weight_popped}
use Rattle.fst_print.proofs.stack.pop.Goals as goal

pub returns-clause-text : goal.returns-clause-text
returns-clause-text c = text_popped c.args.stack.now.items c.pop.new.self.items (vec_len c.args.stack.now)
    (vec_len c.pop.new.self) c.pop.result (c.args.stack.now).ok.0 c.pop.ensures.items c.pop.ensures.cases

pub returns-clause-weight : goal.returns-clause-weight
returns-clause-weight c = weight_popped c.args.stack.now.items c.pop.new.self.items c.pop.result c.pop.ensures.items
