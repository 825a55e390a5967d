use Rattle.std.proofs.Common.{rules, ◌≡◌, ◌∙◌, ◌-◌, suc, subst, arith, ◌↔◌}
use Rattle.std.specs.Prelude.{IfOk, IsTrue, All}
use Rattle.fst_lts.specs.Step.{step}
use Rattle.fst_base.specs.Agreement.{AgreeTo}
use Rattle.fst_lts.proofs.DepthLaws.{AgreeAfter, deeper_from_labels}
use Rattle.fst_lts.proofs.depth.+agree.Goals as goal

pub agree_deeper-returns : goal.agree_deeper-returns
agree_deeper-returns t c =
    let first : All (AgreeAfter c.args.depth c.args.s.now c.args.r.now) c.deref.result.now = search rules in
    deeper_from_labels c.agree_after_all-2.result c.args.depth c.args.s.now c.args.r.now c.deref.result.now c.deref-2.result.now
    (c.deref.ensures.value ∙ c.in_ok-first.ensures.items)
    (c.deref-2.ensures.value ∙ c.in_ok-second.ensures.items) first c.agree_after_all-2.ensures

pub agree_within-returns : goal.agree_within-returns
agree_within-returns t c =
    let whole : suc (c.args.depth - 1) ≡ c.args.depth = omega arith in
    subst (λ n. IfOk c.agree_deeper.result (λ agrees. IsTrue agrees ↔ AgreeTo step step n c.args.s.now c.args.r.now)) whole
    c.agree_deeper.ensures
