use Rattle.std.proofs.Common.{◌≡◌, ◌∙◌, ◌<◌, ◌++◌, ◌∷◌, [], ℕ, ap, arith, length, List, refl, sym, true, false, Some}
use Rattle.std.specs.Prelude.{not, slice_get}
use Rattle.std.specs.List.{list_any}
use Rattle.std.proofs.lemmas.Option.{slice_get_within}
use Rattle.fst_base.proofs.Bools.{pair_eq, same_pair}
use Rattle.fst_expand.proofs.PlaceLaws.{got}
use Rattle.fst_expand.proofs.RepeatLaws.{inserted_new, inserted_old, origins_new, origins_old}
use Rattle.fst_expand.proofs.repeats.first_place.Goals as goal

pub returns-then-is_new : goal.returns-then-is_new
returns-then-is_new c left right h el er =
    let e = c.in_ok-at.ensures in
    let keys = c.args.seen.now.keys in
    let new : true ≡ not (list_any (pair_eq c.args.numbers) keys) = sym c.if-is_new.true ∙ e.added in
    let longer : c.insert_full.new.self.keys ≡ keys ++ c.args.numbers ∷ [] = e.keys ∙ inserted_new c.args.numbers keys new in (
      rw (longer, c.in_ok-push.ensures.items) (origins_new left right keys c.args.origins.now.items c.args.here h c.args.numbers.0
          c.args.numbers.1 el er),
      omega arith,
      record { left = refl; right = refl },
    )

pub returns : goal.returns
returns c left right h el er =
    let e = c.in_ok-at.ensures in
    let keys = c.args.seen.now.keys in
    let old : false ≡ not (list_any (pair_eq c.args.numbers) keys) = sym c.if-is_new.false ∙ e.added in
    let kept : c.insert_full.new.self.keys ≡ keys = e.keys ∙ inserted_old c.args.numbers keys old in
    let k = e.stored.0 in
    let there : slice_get keys c.in_ok-at.at ≡ Some k = ap (λ (z : List (ℕ × ℕ)). slice_get z c.in_ok-at.at) (sym kept)
    ∙ e.stored.1 in
    let same : c.args.numbers ≡ k = same_pair c.args.numbers k e.stored.2 in
    let within = slice_get_within keys c.in_ok-at.at k there in
    let count = h.count in
    let lt : c.in_ok-at.at < length c.args.origins.now.items = omega arith in
    let g = h.each c.in_ok-at.at c.index.result.now k
    (got c.args.origins.now.items c.in_ok-at.at c.index.result.now lt c.index.ensures) there in
    let before = g.0 in (
      rw kept (origins_old left right keys c.args.origins.now.items c.args.here h),
      omega arith,
      record {
        left = g.1 ∙ ap (λ (z : ℕ × ℕ). Some z.0) (sym same) ∙ sym el;
        right = g.2 ∙ ap (λ (z : ℕ × ℕ). Some z.1) (sym same) ∙ sym er;
      },
    )
