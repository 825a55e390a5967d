use Rattle.std.proofs.Common.{Ok, reverse}
use Rattle.fst_value.specs.ValueTree.{function}
use Rattle.fst_value.specs.declared.cells.Cell.TheVariants as cell
use Rattle.fst_value.specs.Cells.{rooted}
use Rattle.fst_value.specs.Parts.{listed}
use Rattle.fst_value.proofs.Joining.{made_by, rooted_function}
use Rattle.fst_value.proofs.stack.Stack.join_function.Goals as goal

pub returns : goal.returns
returns c =
    made_by (λ vs. rooted (cell.Function c.args.lambda c.args.count) (listed vs)) (function c.args.lambda) c.args.count
    (reverse c.self.inside.values.items) c.args.self.now
    (reverse c.gather.new.values.items) (Ok c.in_ok-done.done) c.self.view_is
    (rooted_function c.args.lambda c.args.count) c.in_ok-done.ensures
