use Rattle.std.proofs.Common.{inr, length}
use Rattle.fst_basis.proofs.Laws.{proof_same}
use Rattle.fst_equiv.proofs.finding.decided.Goals as goal

pub returns-in-Ok-Alike : goal.returns-in-Ok-Alike
returns-in-Ok-Alike c =
    let told = rw c.in-Ok-Alike.field-0-is at c.in-Ok-Alike.ensures.proof in
    let proof = told c.args.unnormed.now c.requires.unnormed.count c.requires.unnormed.set in
    record {
      proof = proof;
      same = proof_same (length c.args.g.now.letters.items) c.args.g.now.rules.items c.args.unnormed.now c.args.u.now
          c.args.v.now c.in-Ok-Alike.proof.basis.items c.in-Ok-Alike.proof.chains.items proof;
      good = inr c.requires.normed;
    }
