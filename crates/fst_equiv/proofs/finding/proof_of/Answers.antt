use Rattle.fst_equiv.proofs.finding.proof_of.Goals as goal

pub returns-then-is_proof-clause-same : goal.returns-then-is_proof-clause-same
returns-then-is_proof-clause-same c = c.in_ok-is_proof-in-Some.ensures.same c.if-is_proof.true
