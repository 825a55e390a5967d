use Rattle.std.proofs.Common.{Ok, reverse}
use Rattle.fst_value.specs.ValueTree.{make}
use Rattle.fst_value.specs.declared.cells.Cell.TheVariants as cell
use Rattle.fst_value.specs.Cells.{rooted}
use Rattle.fst_value.specs.Parts.{listed}
use Rattle.fst_value.proofs.Joining.{made_by, rooted_make}
use Rattle.fst_value.proofs.stack.Stack.join_make.Goals as goal

pub returns : goal.returns
returns c =
    made_by (λ vs. rooted (cell.Make c.args.family c.args.maker c.args.count) (listed vs))
    (make c.args.family c.args.maker) c.args.count
    (reverse c.self.inside.values.items) c.args.self.now
    (reverse c.gather.new.values.items) (Ok c.in_ok-done.done) c.self.view_is
    (rooted_make c.args.family c.args.maker c.args.count) c.in_ok-done.ensures
