-- What is read are these rewrites, and the rest gets shorter.
use Rattle.std.proofs.Common.{length}
use Rattle.fst_cert.specs.Certificates.{IsRewriteFit}
use Rattle.fst_cert.specs.Texts.{rewrite_text, space}
use Rattle.fst_cert.proofs.PieceLaws.{IsReadTo}
use Rattle.fst_cert.proofs.chains.read_rewrites.Given as goal

abbrev pub invariant-loop-rest : goal.invariant-loop-rest
invariant-loop-rest l = IsReadTo space rewrite_text IsRewriteFit l.text l.steps.items l.rest

abbrev pub decreases-loop-rest : goal.decreases-loop-rest
decreases-loop-rest l = length l.rest
