use Rattle.std.proofs.Common.{◌≡◌, ◌<◌, ◌++◌, ◌^◌, ℕ, List, decimal, drop, take, ◌∙◌, arith}
use Rattle.std.proofs.Math.ListN.{take-append-drop}
use Rattle.fst_cert.specs.Texts.{IsEnd, listed, point}
use Rattle.fst_cert.proofs.CutLaws.{IsFree, cut_before}
use Rattle.fst_cert.proofs.NumberLaws.{decimal_free, listed_end}
use Rattle.fst_cert.proofs.chains.read_cut.Goals as goal

-- where the text is that of a cut, the place is what stands in front of the first point, and the tail is from there on
parts : (bs : List ℕ) (n : ℕ) → IsFree point (take n bs) → IsEnd point (drop n bs) → (at : ℕ) (tail : List ℕ) → at < 2 ^ 64 →
    bs ≡ decimal at ++ listed point tail → (take n bs ≡ decimal at) × (drop n bs ≡ listed point tail)
parts bs n free end at tail small is =
    cut_before point (take n bs) (drop n bs) (decimal at) (listed point tail) free
    (decimal_free point at (λ d h e. omega arith) small) end (listed_end point tail) (take-append-drop n bs ∙ is)

pub returns-in_default-clause-none : goal.returns-in_default-clause-none
returns-in_default-clause-none c at tail small fit is =
    let p = parts c.args.text.now c.end_of.result c.end_of.ensures.before c.end_of.ensures.behind at tail small is in
    c.in_default.ensures.none at (omega arith) (c.split_at.ensures.front ∙ p.0)

pub returns-in_default-2-clause-none : goal.returns-in_default-2-clause-none
returns-in_default-2-clause-none c at tail small fit is =
    let p = parts c.args.text.now c.end_of.result c.end_of.ensures.before c.end_of.ensures.behind at tail small is in
    rw c.in_default-2.is at c.in_ok-tail.ensures.none tail fit (c.split_at.ensures.back ∙ p.1)
