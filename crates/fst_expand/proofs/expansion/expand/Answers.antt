use Rattle.std.proofs.Common.{◌∙◌}
use Rattle.fst_expand.proofs.expansion.expand.Goals as goal

pub returns-clause-good : goal.returns-clause-good
returns-clause-good c =
    let good = c.in_ok-spread.ensures.good c.if-not-branch.false in
    let same = c.in_ok-basis.ensures ∙ c.in_ok-chains.ensures.same in
    let its = rw (c.as_slice.ensures, c.as_slice-2.ensures) at good in
    (its.0, same ∙ its.1)
