use Rattle.std.proofs.Common.{◌≡◌, ◌++◌, drop, take}
use Rattle.fst_scopes.specs.Arranging.{put}
use Rattle.fst_scopes.proofs.naming.place.Given as goal

abbrev pub invariant-loop-i : goal.invariant-loop-i
invariant-loop-i l = put l.branch l.other-items ≡ take l.i l.other-items ++ put l.branch (drop l.i l.other-items)
