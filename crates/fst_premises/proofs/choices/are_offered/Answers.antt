use Rattle.std.proofs.Common.{◌∙◌, length, refl, sym}
use Rattle.std.proofs.lemmas.List.{take_all}
use Rattle.fst_premises.proofs.OfferLaws.{offered_at, offered_more, positive, some_offered}
use Rattle.fst_premises.proofs.choices.are_offered.Goals as goal

pub returns-then-not-is_offer : goal.returns-then-not-is_offer
returns-then-not-is_offer c = (
  λ h. absurd (cc h),
  λ h. let at = offered_at h.0 c.args.labels.now c.loop-label.label-index c.label-item.result h.1 c.loop-label-test.true
      c.label-item.is in
      let yes = c.is_offer.ensures.1 at in
      let no = c.if-not-is_offer.true in absurd (cc (sym no ∙ yes)),
)

pub loop-label-preserved : goal.loop-label-preserved
loop-label-preserved c =
    let x = c.is_offer.ensures.0 c.if-not-is_offer.false in
    offered_more c.args.labels.now c.loop-label.label-index c.label-item.result x.0 c.loop-label.invariant c.loop-label-test.true
    c.label-item.is x.1

pub returns : goal.returns
returns c =
    let names = c.loop-label.invariant.0 in
    let all = c.loop-label.invariant.1 ∙ take_all c.loop-label.label-index c.args.labels.now c.loop-label-test.false in (
      λ y. (names, sym all, some_offered names c.args.labels.now all (positive (length c.args.labels.now) c.if-is_empty.ensures)),
      λ h. refl,
    )
