use Rattle.std.proofs.Common.{take}
use Rattle.fst_scopes.specs.Twice.{variables}
use Rattle.fst_scopes.proofs.TwiceLaws.{IsNoted}
use Rattle.fst_scopes.proofs.table.variables_of.Given as goal

abbrev pub invariant-loop-binder : goal.invariant-loop-binder
invariant-loop-binder l = IsNoted l.initial.least (variables (take l.binder-index l.binders)) l.names l.least
