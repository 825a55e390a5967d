use Rattle.std.proofs.Common.{inl, inr, get_or, sym, ap, ◌∙◌, arith, rules}
use Rattle.std.specs.declared.cmp.Ordering.TheVariants.{Less, Greater}
use Rattle.std.proofs.lemmas.Bool.{cases_lt}
use Rattle.std.proofs.lemmas.Fn.{always_returns_same}
use Rattle.std.proofs.lemmas.List.Sorted.{searchable_from_sorted}
use Rattle.fst_merge.specs.declared.receipts.Receipt.{Receipt}
use Rattle.fst_merge.specs.Getters.{Spot, spot_cmp, spot_of}
use Rattle.fst_merge.proofs.Orders.{apart_from, spot_same, spot_total}
use Rattle.fst_merge.proofs.receipts.getter.Goals as goal

pub returns-in-Ok : goal.returns-in-Ok
returns-in-Ok c =
    let at : Spot = (c.args.stamp, c.args.channel.now) in
    let item = c.index-receipts-index in
    let key = λ (r : Receipt). spot_cmp (spot_of r) at in
    let hit = c.in-Ok.ensures.position key (always_returns_same _ _ _ (λ a r q k. search rules)) item.result in
    let found = get_or c.args.receipts.now c.in-Ok.index item.result in (
      item.result,
      (c.in-Ok.index, c.in-Ok.ensures.bound, sym item.is),
      ap spot_of item.is ∙ spot_same (spot_of found) at hit,
      ap (λ (r : Receipt). r.path.now) item.is,
    )

pub returns-in-Err : goal.returns-in-Err
returns-in-Err c =
    let at : Spot = (c.args.stamp, c.args.channel.now) in
    let all = c.args.receipts.now in
    let key = λ (r : Receipt). spot_cmp (spot_of r) at in
    let sides = c.in-Err.ensures.position key (always_returns_same _ _ _ (λ a r q k. search rules))
    (searchable_from_sorted spot_total spot_of all at c.requires) in
    λ k d l e.
    elim (cases_lt k c.in-Err.field-0) [
      | inl m ↦ apart_from Less _ _ e (sides.0 k d (omega arith) m) (λ z. cc z)
      | inr m ↦ apart_from Greater _ _ e (sides.1 k d m l) (λ z. cc z)
    ]
