use Rattle.std.proofs.Common.{◌∙◌, sym}
use Rattle.fst_terms.specs.ModelCoreView.{core_arms_of}
use Rattle.fst_lts.specs.Step.{labels}
use Rattle.fst_arms.specs.Arms.{arm_labels}
use Rattle.fst_fits.proofs.ArmTestLaws.{offers_answer, offers_none}
use Rattle.fst_fits.proofs.arms.labels_fit.Goals as goal

pub returns-then-not-has_any : goal.returns-then-not-has_any
returns-then-not-has_any c =
    offers_none (labels c.args.ty.now) (arm_labels (core_arms_of c.args.arms.now))
    (sym c.in_ok-moves.ensures.items ∙ sym c.deref.ensures.value ∙ c.has_any.ensures.none c.if-not-has_any.true)

pub returns : goal.returns
returns c =
    let same = c.deref-2.ensures.value ∙ c.in_ok-moves.ensures.items in
    offers_answer c.in_ok-fits.fits c.args.ty.now (arm_labels (core_arms_of c.args.arms.now))
    (λ e. c.has_any.ensures.some c.if-not-has_any.false (c.deref.ensures.value ∙ c.in_ok-moves.ensures.items ∙ e))
    (λ names h. c.in_ok-fits.ensures.each_once names (same ∙ h))
    (λ h. let n = c.in_ok-fits.ensures.offered h in (n.0, sym same ∙ n.1))
