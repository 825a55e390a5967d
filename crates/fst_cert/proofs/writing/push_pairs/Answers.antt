use Rattle.std.proofs.Common.{arith}
use Rattle.std.proofs.lemmas.Grind.{common_steps}
use Rattle.fst_cert.specs.Certificates.{IsPairFit}
use Rattle.fst_cert.proofs.FitLaws.{next}
use Rattle.fst_cert.proofs.writing.push_pairs.Goals as goal

pub loop-pair-preserved : goal.loop-pair-preserved
loop-pair-preserved c = record {
  text = grind (arith, common_steps);
  fit = next IsPairFit c.args.pairs.now c.loop-pair.pair-index c.pair-item.result c.loop-pair-test.true c.pair-item.is
      (c.in_ok-push_pair.ensures.fit) c.loop-pair.invariant.fit;
}

pub returns-clause-fit : goal.returns-clause-fit
returns-clause-fit c = λ k d lt. c.loop-pair.invariant.fit k d (omega arith)
