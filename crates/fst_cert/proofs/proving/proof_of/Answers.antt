use Rattle.std.proofs.Common.{◌∙◌, All, length, subst, sym}
use Rattle.fst_basis.specs.Basis.{IsProof}
use Rattle.fst_breadth.specs.Answer.{IsEqual}
use Rattle.fst_cert.specs.Certificates.{HasNoEmpty}
use Rattle.fst_cert.specs.Proofs.{IsOfYes, IsProofOf}
use Rattle.fst_cert.specs.Visited.{basis_of}
use Rattle.fst_equiv.proofs.Laws.{same_marks}
use Rattle.fst_cert.proofs.ProofLaws.{own_proof, visited_left, visited_right, visited_words, with_marks}
use Rattle.fst_cert.proofs.proving.proof_of.Goals as goal

pub visited_proof-requires-clause-left : goal.visited_proof-requires-clause-left
visited_proof-requires-clause-left c =
    let yes = subst IsOfYes c.in-Visited.is c.requires in
    visited_left c.ends_law.ensures yes.vars yes.others yes.s yes.r yes.left yes.right yes.budget yes.small
    c.in-Visited.g.letters.items
    c.in-Visited.g.rules.items c.in-Visited.left c.in-Visited.right c.in-Visited.pairs.items yes.certifies

pub visited_proof-requires-clause-right : goal.visited_proof-requires-clause-right
visited_proof-requires-clause-right c =
    let yes = subst IsOfYes c.in-Visited.is c.requires in
    visited_right c.ends_law.ensures yes.vars yes.others yes.s yes.r yes.left yes.right yes.budget yes.small
    c.in-Visited.g.letters.items
    c.in-Visited.g.rules.items c.in-Visited.left c.in-Visited.right c.in-Visited.pairs.items yes.certifies

pub visited_proof-requires-clause-reached : goal.visited_proof-requires-clause-reached
visited_proof-requires-clause-reached c =
    let yes = subst IsOfYes c.in-Visited.is c.requires in
    let h = yes.certifies in
    let rows = c.in-Visited.g.rules.items in
    let same = same_marks rows h.marks c.in_ok-marks-in-Visited.marks.items h.problem.unnormed
    c.in_ok-marks-in-Visited.ensures.unnormed in (
      yes.budget,
      subst (λ m. IsEqual rows m c.in-Visited.left c.in-Visited.right yes.budget c.deref.result.now)
          (same ∙ sym c.as_slice.ensures.value)
          (subst (IsEqual rows h.marks c.in-Visited.left c.in-Visited.right yes.budget) (sym c.deref.ensures.value) h.all),
    )

pub visited_proof-requires-clause-words : goal.visited_proof-requires-clause-words
visited_proof-requires-clause-words c =
    let yes = subst IsOfYes c.in-Visited.is c.requires in
    subst (λ z. All HasNoEmpty (basis_of z)) (sym c.deref.ensures.value)
    (visited_words c.ends_law.ensures yes.vars yes.others yes.s yes.r yes.left yes.right yes.budget yes.small
    c.in-Visited.g.letters.items c.in-Visited.g.rules.items c.in-Visited.left c.in-Visited.right c.in-Visited.pairs.items
    yes.certifies)

pub returns-in-Basis-clause-proof : goal.returns-in-Basis-clause-proof
returns-in-Basis-clause-proof c =
    subst (λ z. IsProofOf z c.in-Basis.proof.basis.items c.in-Basis.proof.chains.items) (sym c.in-Basis.is)
    (own_proof c.in-Basis._g c.in-Basis._left c.in-Basis._right c.in-Basis.proof (subst IsOfYes c.in-Basis.is c.requires))

pub returns-in_ok-proof-in-Visited-clause-proof : goal.returns-in_ok-proof-in-Visited-clause-proof
returns-in_ok-proof-in-Visited-clause-proof c =
    let p = c.in_ok-proof-in-Visited.proof in
    let rows = c.in-Visited.g.rules.items in
    subst (λ z. IsProofOf z p.basis.items p.chains.items) (sym c.in-Visited.is)
    (with_marks c.in-Visited.g.letters.items rows c.in-Visited.left c.in-Visited.right c.in_ok-marks-in-Visited.marks.items
    p.basis.items p.chains.items c.in_ok-marks-in-Visited.ensures.unnormed
    (subst (λ m. IsProof (length c.in-Visited.g.letters.items) rows m c.in-Visited.left c.in-Visited.right p.basis.items
    p.chains.items) c.as_slice.ensures.value c.in_ok-proof-in-Visited.ensures.proof))
