-- What is read are these numbers, and the rest gets shorter.
use Rattle.std.proofs.Common.{◌<◌, ◌^◌, decimal, length}
use Rattle.fst_cert.proofs.PieceLaws.{IsReadTo}
use Rattle.fst_cert.proofs.numbers.read_numbers.Given as goal

abbrev pub invariant-loop-rest : goal.invariant-loop-rest
invariant-loop-rest l = IsReadTo l.mark decimal (λ k. k < 2 ^ 32) l.text l.numbers.items l.rest

abbrev pub decreases-loop-rest : goal.decreases-loop-rest
decreases-loop-rest l = length l.rest
