use Rattle.std.proofs.Common.{reverse}
use Rattle.fst_report.specs.Parts.{MoveAlike, nodes_in}
use Rattle.fst_report.proofs.residual.next_part.Given as goal

abbrev pub invariant-loop-part : goal.invariant-loop-part
invariant-loop-part l = MoveAlike (reverse l.initial.parts.items) (reverse l.parts.items)

abbrev pub decreases-loop-part : goal.decreases-loop-part
decreases-loop-part l = nodes_in (reverse l.parts.items)
