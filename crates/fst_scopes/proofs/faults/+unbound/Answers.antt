use Rattle.std.proofs.Common.{◌∙◌, [], arith}
use Rattle.fst_scopes.specs.Scopes.{scope_around}
use Rattle.fst_scopes.proofs.BranchLaws.{branch_noted}
use Rattle.fst_scopes.proofs.faults.+unbound.Goals as goal

pub note_unbound_in-loop-branch-preserved : goal.note_unbound_in-loop-branch-preserved
note_unbound_in-loop-branch-preserved t c =
    branch_noted (scope_around c.args.names.now []) c.args.branches.now c.loop-branch.branch-index c.branch-item.result
    c.loop-branch.least c.note_unbound.new.least
    (omega arith) c.branch-item.is c.in_ok-note_unbound.ensures ∙ c.loop-branch.invariant
