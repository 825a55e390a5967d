use Rattle.std.proofs.Common.{◌≤◌}
use Rattle.fst_terms.specs.CoreTree.{core_height}
use Rattle.fst_terms.proofs.+core.Given as goal

-- what is left is no higher than the whole
abbrev pub invariant-core_term::Term::drop-loop-left :
    goal.invariant-core_term::Term::drop-loop-left
invariant-core_term::Term::drop-loop-left l = core_height l.self ≤ core_height l.fn.self
