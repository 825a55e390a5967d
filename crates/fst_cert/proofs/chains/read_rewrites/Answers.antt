-- No rewrite's text has a space: so the text up to the next space is that of one rewrite.
use Rattle.std.proofs.Common.{◌∙◌, arith}
use Rattle.fst_basis.specs.declared.proof.Rewrite.{Rewrite}
use Rattle.fst_cert.specs.Certificates.{IsRewriteFit}
use Rattle.fst_cert.specs.Texts.{rewrite_text, space}
use Rattle.fst_cert.proofs.CutLaws.{IsFree}
use Rattle.fst_cert.proofs.PieceLaws.{no_piece, no_thing, rewrites_pieces, thing_read}
use Rattle.fst_cert.proofs.TextLaws.{rewrite_free}
use Rattle.fst_cert.proofs.chains.read_rewrites.Goals as goal

free : (r : Rewrite) → IsRewriteFit r → IsFree space (rewrite_text r)
free = rewrite_free space (omega arith)

pub returns-in_default-clause-none : goal.returns-in_default-clause-none
returns-in_default-clause-none c rs fit is =
    no_piece c.loop-rest.invariant c.loop-rest-test.ensures c.in_default.ensures.none rs fit (is ∙ rewrites_pieces rs)

pub returns-in_default-2-clause-none : goal.returns-in_default-2-clause-none
returns-in_default-2-clause-none c rs fit is =
    no_thing c.loop-rest.invariant free c.in-Some.piece.now c.in-Some.more.now c.in-Some.ensures.some c.in-Some.ensures.apart
    c.in-Some.ensures.end (rw c.in_default-2.is at c.in_ok-step.ensures.none) rs fit (is ∙ rewrites_pieces rs)

pub loop-rest-preserved : goal.loop-rest-preserved
loop-rest-preserved c =
    let read = rw c.in-Some-2.is at c.in_ok-step.ensures.some in
    rw c.in_ok-push.ensures.items
    (thing_read c.loop-rest.invariant free c.in-Some.piece.now c.in-Some.more.now c.in-Some.ensures.some c.in-Some.ensures.apart
    c.in-Some.ensures.end c.in-Some-2.step read.0 read.1)
