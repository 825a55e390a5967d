use Rattle.std.proofs.Common.{◌≡◌, ◌≤◌, drop, length}
use Rattle.fst_basis.specs.Basis.{same_letters}
use Rattle.fst_basis.proofs.letters.same_letters.Given as goal

abbrev pub invariant-loop-i : goal.invariant-loop-i
invariant-loop-i l = record {
  rest : same_letters (drop l.i l.left) (drop l.i l.right) ≡ same_letters l.left l.right;
  room : l.i ≤ length l.right;
}
