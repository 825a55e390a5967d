-- Receipts and events in order.
use Rattle.std.proofs.Common.{◌≡◌, ◌∙◌, ℕ, sym, ap}
use Rattle.std.specs.Cmp.{IsTotalOrder}
use Rattle.std.specs.Cmp.Lexicographic.{slice_cmp}
use Rattle.std.specs.Ordering.{nat_cmp, ordering_then}
use Rattle.std.specs.declared.cmp.Ordering.{Ordering}
use Rattle.std.specs.declared.cmp.Ordering.TheVariants.{Equal}
use Rattle.std.proofs.lemmas.Cmp.{ranked, on_total, then_total, nat_cmp_total, nat_list_cmp_total, tied_itself}
use Rattle.fst_runs.specs.declared.event.Stamped.{Stamped}
use Rattle.fst_runs.specs.Configs.{Path}
use Rattle.fst_runs.specs.Order.{path_of}
use Rattle.fst_records.specs.NameOrder.{name_cmp}
use Rattle.fst_records.proofs.Laws.{both_equal, name_same, name_total}
use Rattle.fst_merge.specs.Getters.{Spot, spot_cmp}

-- stamps with channels are in a total order
pub spot_total : IsTotalOrder spot_cmp
spot_total = then_total (on_total (λ (x : Spot). x.0) nat_cmp_total) (on_total (λ (x : Spot). x.1) name_total)

-- those that compare as equal are one
pub spot_same : (x y : Spot) → spot_cmp x y ≡ Equal → x ≡ y
spot_same x y e =
    let b = both_equal (nat_cmp x.0 y.0) (name_cmp x.1 y.1) e in
    let stamps = ranked x.0 y.0 Equal (sym b.0) in
    let names = name_same x.1 y.1 b.1 in
    λ i. (stamps i, names i)

-- a stamp with a path
abbrev pub Place : Type 0
Place = ℕ × Path

-- places compare by the stamps, and then by the paths
abbrev pub place_cmp : Place → Place → Ordering
place_cmp x y = ordering_then (nat_cmp x.0 y.0) (slice_cmp nat_cmp x.1 y.1)

-- they are in a total order
pub place_total : IsTotalOrder place_cmp
place_total = then_total (on_total (λ (x : Place). x.0) nat_cmp_total) (on_total (λ (x : Place). x.1) nat_list_cmp_total)

-- the stamp and the path of an event
abbrev pub place_of : Stamped → Place
place_of e = (e.stamp, path_of e.event)

-- a stamp with a channel isn't apart from one that is the same
pub apart_from : (o : Ordering) (x y : Spot) → x ≡ y → spot_cmp x y ≡ o → (o ≡ Equal → ⊥) → ⊥
apart_from o x y e l n = n (sym l ∙ ap (λ z. spot_cmp z y) e ∙ tied_itself spot_total y)
