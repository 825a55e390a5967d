use Rattle.std.proofs.Common.{◌≡◌, ◌++◌, drop}
use Rattle.fst_derivations.specs.Modules.{all_open}
use Rattle.fst_written.proofs.standing.add_open.Given as goal

abbrev pub invariant-loop-number : goal.invariant-loop-number
invariant-loop-number l = l.out.items ++ all_open (drop l.number-index l.numbers) ≡ l.fn.out.items ++ all_open l.numbers
