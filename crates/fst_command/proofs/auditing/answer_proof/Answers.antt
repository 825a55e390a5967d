use Rattle.fst_command.proofs.AuditLaws.{no_basis_said, valid_said}
use Rattle.fst_command.proofs.auditing.answer_proof.Goals as goal

pub returns-then-valid-clause-says : goal.returns-then-valid-clause-says
returns-then-valid-clause-says c =
    valid_said c.args.bytes.now c.args.question.now c.args.proof.now.basis.items c.args.proof.now.chains.items c.fixed.result
    c.in-Ok.ensures.small c.requires.cert (c.in-Ok.ensures.valid.0 c.if-valid.true) (c.in-Ok.ensures.agree c.if-valid.true)
    c.fixed.ensures.text
    c.fixed.ensures.status

pub returns-else-valid-clause-says : goal.returns-else-valid-clause-says
returns-else-valid-clause-says c =
    no_basis_said c.args.bytes.now c.args.question.now c.args.proof.now.basis.items c.args.proof.now.chains.items
    c.fixed-else-valid.result
    c.in-Ok.ensures.small c.requires.cert (λ h. absurd (cc (c.if-valid.false, c.in-Ok.ensures.valid.1 h)))
    c.fixed-else-valid.ensures.text
    c.fixed-else-valid.ensures.status
