-- No number's text has the mark: so the text up to the next mark is that of one number.
use Rattle.std.proofs.Common.{◌<◌, ◌^◌, ℕ, decimal, ◌∙◌, arith}
use Rattle.fst_cert.proofs.CutLaws.{IsFree}
use Rattle.fst_cert.proofs.NumberLaws.{decimal_free}
use Rattle.fst_cert.proofs.PieceLaws.{listed_pieces, no_piece, no_thing, thing_read}
use Rattle.fst_cert.proofs.numbers.read_numbers.Goals as goal

-- a byte below 48 is no digit
free : (mark : ℕ) → mark < 48 → (k : ℕ) → k < 2 ^ 32 → IsFree mark (decimal k)
free mark low k small = decimal_free mark k (λ d h e. omega arith) (omega arith)

pub returns-in_default-clause-none : goal.returns-in_default-clause-none
returns-in_default-clause-none c ks fit is =
    no_piece c.loop-rest.invariant c.loop-rest-test.ensures c.in_default.ensures.none ks fit (is ∙ listed_pieces c.args.mark ks)

pub returns-in_default-read_number-clause-none : goal.returns-in_default-read_number-clause-none
returns-in_default-read_number-clause-none c ks fit is =
    no_thing c.loop-rest.invariant (free c.args.mark c.requires) c.in-Some.piece.now c.in-Some.more.now c.in-Some.ensures.some
    c.in-Some.ensures.apart c.in-Some.ensures.end
    (λ k small e. c.in_default-read_number.ensures.none k (omega arith) e) ks fit
    (is ∙ listed_pieces c.args.mark ks)

pub loop-rest-preserved : goal.loop-rest-preserved
loop-rest-preserved c =
    rw c.in_ok-push.ensures.items
    (thing_read c.loop-rest.invariant (free c.args.mark c.requires) c.in-Some.piece.now c.in-Some.more.now c.in-Some.ensures.some
    c.in-Some.ensures.apart c.in-Some.ensures.end c.in-Some-read_number.number c.in-Some-read_number.ensures.some.0
    (omega (arith, c.in-Some-read_number.ensures.some.1)))
