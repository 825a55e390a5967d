use Rattle.fst_premises.specs.Scenes.{check_in}
use Rattle.fst_premises.proofs.Variables.{taken_typed}
use Rattle.fst_premises.proofs.leaves.variable.Goals as goal

pub returns-in_ok-copy-in-Here-clause-typed : goal.returns-in_ok-copy-in-Here-clause-typed
returns-in_ok-copy-in-Here-clause-typed c =
    taken_typed (check_in c.args.scene) c.args.at c.args.k c.args.context.now c.take.new.self _ c.in_ok-copy-in-Here.field-0
    c.type_of.result.now c.take.result c.requires.held c.take.ensures.found c.in-Here.is c.take.ensures.after
    c.type_of.ensures c.in_ok-copy-in-Here.ensures c.leaf.ensures
