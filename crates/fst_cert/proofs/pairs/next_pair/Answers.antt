-- Neither a line of a pair nor what stands in front of a line feed has one: so a pair's line is what was cut off.
use Rattle.std.proofs.Common.{sym, ◌∙◌}
use Rattle.fst_cert.specs.Texts.{line_feed, pair_line}
use Rattle.fst_cert.proofs.CutLaws.{cut_around, no_cut}
use Rattle.fst_cert.proofs.TextLaws.{pair_free}
use Rattle.fst_cert.proofs.pairs.next_pair.Goals as goal

pub returns-in_default-clause-none : goal.returns-in_default-clause-none
returns-in_default-clause-none c b rest fit is =
    no_cut line_feed c.args.text.now (pair_line b) rest c.in_default.ensures.none is

pub returns-in_default-2-clause-none : goal.returns-in_default-2-clause-none
returns-in_default-2-clause-none c b rest fit is =
    let line = cut_around line_feed c.in-Some.line.now c.in-Some.rest.now (pair_line b) rest c.in-Some.ensures.some.1
    (pair_free b fit) (sym c.in-Some.ensures.some.0 ∙ is) in
    rw c.in_default-2.is at c.in_ok-pair.ensures.none b fit line.0
