use Rattle.std.proofs.Common.{length}
use Rattle.fst_basis.proofs.Joining.{proof_same}
use Rattle.fst_basis.proofs.checking.check.Goals as goal

pub returns-clause-same : goal.returns-clause-same
returns-clause-same c = λ t. proof_same (length c.args.g.now.letters.items) c.args.g.now.rules.items c.args.unnormed.now
    c.args.u.now c.args.v.now c.args.basis.now c.args.chains.now
    (rw (c.as_slice.ensures, c.as_slice-2.ensures) at (c.in_ok-is_proof.ensures.0 t))
