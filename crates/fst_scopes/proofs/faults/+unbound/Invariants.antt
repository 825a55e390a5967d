use Rattle.std.proofs.Common.{◌≡◌, ◌+◌, ◌*◌, [], drop}
use Rattle.fst_types.specs.ModelWrittenHeight.{height, height_all}
use Rattle.fst_types.specs.ModelWrittenView.{written_branches}
use Rattle.fst_scopes.specs.Faults.{unbound_in}
use Rattle.fst_scopes.specs.First.{first_from}
use Rattle.fst_scopes.specs.Scopes.{scope_around}
use Rattle.fst_scopes.proofs.faults.+unbound.Given as goal

abbrev pub decreases-note_unbound : goal.decreases-note_unbound
decreases-note_unbound l = 2 * height l.w.now

abbrev pub decreases-note_unbound_in : goal.decreases-note_unbound_in
decreases-note_unbound_in l = 2 * height_all (written_branches l.branches.now) + 1

abbrev pub invariant-note_unbound_in-loop-branch : goal.invariant-note_unbound_in-loop-branch
invariant-note_unbound_in-loop-branch l = first_from l.least
    (unbound_in (scope_around l.names []) (written_branches (drop l.branch-index l.branches))) ≡ first_from l.initial.least
    (unbound_in (scope_around l.names []) (written_branches l.branches))
