-- Neither a line of a chain nor what stands in front of a line feed has one: so a chain's line is what was cut off.
use Rattle.std.proofs.Common.{drop, sym, ap, ◌∙◌}
use Rattle.fst_cert.specs.Texts.{chain_line, line_feed}
use Rattle.fst_cert.proofs.CutLaws.{cut_around, no_cut}
use Rattle.fst_cert.proofs.TextLaws.{chain_free}
use Rattle.fst_cert.proofs.chains.next_chain.Goals as goal

pub returns-in_default-clause-none : goal.returns-in_default-clause-none
returns-in_default-clause-none c steps rest fit is =
    no_cut line_feed c.args.text.now (chain_line steps) rest c.in_default.ensures.none is

pub returns-in_default-2-clause-none : goal.returns-in_default-2-clause-none
returns-in_default-2-clause-none c steps rest fit is =
    let line = cut_around line_feed c.in-Some.line.now c.in-Some.rest.now (chain_line steps) rest c.in-Some.ensures.some.1
    (chain_free steps fit) (sym c.in-Some.ensures.some.0 ∙ is) in
    rw c.in_default-2.is at c.in_ok-steps.ensures.none steps fit
    (c.in-Some-strip_prefix.ensures.cases.1 ∙ ap (drop 5) line.0)
