use Rattle.std.proofs.Common.{◌∙◌, map, is_some}
use Rattle.fst_terms.specs.ModelCoreView.{core_arms_of}
use Rattle.fst_arms.specs.Arms.{arm_labels}
use Rattle.fst_fits.proofs.ArmTestLaws.{once_answer}
use Rattle.fst_fits.proofs.arms.makers_fit.Goals as goal

pub returns : goal.returns
returns c =
    c.is_some.ensures
    ∙ once_answer (is_some c.in_ok-numbers.numbers) (map (λ o. o.name) c.args.makers.now)
    (arm_labels (core_arms_of c.args.arms.now)) c.in_ok-numbers.ensures.each_once
