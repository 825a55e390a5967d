use Rattle.std.proofs.Common.{◌≡◌, drop, reverse}
use Rattle.fst_value.specs.Nodes.{AreNodes}
use Rattle.fst_value.specs.Texts.{value_text}
use Rattle.fst_value.specs.Pieces.{weight, whole_text}
use Rattle.fst_value.proofs.printing.print.Given as goal

abbrev pub invariant-loop-piece : goal.invariant-loop-piece
invariant-loop-piece l = record {
  nodes : AreNodes (drop l.at l.v-inside.body.items);
  text : whole_text l.families l.text (reverse l.stack.items) (drop l.at l.v-inside.body.items) ≡ value_text l.families l.v;
}

abbrev pub decreases-loop-piece : goal.decreases-loop-piece
decreases-loop-piece l = weight l.stack.items (drop l.at l.v-inside.body.items)
