use Rattle.std.proofs.Common.{arith}
use Rattle.std.proofs.lemmas.Grind.{common_steps}
use Rattle.fst_cert.specs.Certificates.{IsRewriteFit}
use Rattle.fst_cert.proofs.FitLaws.{next}
use Rattle.fst_cert.proofs.writing.push_rewrites.Goals as goal

pub loop-step-preserved : goal.loop-step-preserved
loop-step-preserved c = record {
  text = grind (arith, common_steps);
  fit = next IsRewriteFit c.args.steps.now c.loop-step.step-index c.step-item.result c.loop-step-test.true c.step-item.is
      (c.in_ok-push_rewrite.ensures.fit) c.loop-step.invariant.fit;
}

pub returns-clause-fit : goal.returns-clause-fit
returns-clause-fit c = λ k d lt. c.loop-step.invariant.fit k d (omega arith)
