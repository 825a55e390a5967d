use Rattle.std.proofs.Common.{arith}
use Rattle.std.proofs.lemmas.Grind.{common_steps}
use Rattle.std.proofs.lemmas.List.Elements.{All-map}
use Rattle.fst_basis.specs.declared.proof.Chain.{Chain}
use Rattle.fst_cert.specs.Certificates.{IsChainFit}
use Rattle.fst_cert.proofs.FitLaws.{next}
use Rattle.fst_cert.proofs.writing.push_chains.Goals as goal

pub loop-chain-preserved : goal.loop-chain-preserved
loop-chain-preserved c = record {
  text = grind (arith, common_steps);
  fit = next (λ (x : Chain). IsChainFit x.steps.items) c.args.chains.now c.loop-chain.chain-index c.chain-item.result
      c.loop-chain-test.true c.chain-item.is (c.in_ok-push_chain.ensures.fit) c.loop-chain.invariant.fit;
}

pub returns-clause-fit : goal.returns-clause-fit
returns-clause-fit c = All-map IsChainFit (λ (x : Chain). x.steps.items) c.args.chains.now
    (λ k d lt. c.loop-chain.invariant.fit k d (omega arith))
