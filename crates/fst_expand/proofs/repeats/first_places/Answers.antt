use Rattle.std.proofs.Common.{◌≤◌, ℕ, ap, arith, length}
use Rattle.fst_base.proofs.Lists.{length-push}
use Rattle.fst_expand.specs.Repeats.{IsRepeat}
use Rattle.fst_expand.proofs.PlaceLaws.{read_at}
use Rattle.fst_expand.proofs.RepeatLaws.{each_push}
use Rattle.fst_expand.proofs.repeats.first_places.Goals as goal

pub loop-i-preserved : goal.loop-i-preserved
loop-i-preserved c =
    let i = c.loop-i.invariant in
    let wide = c.requires in
    let lt = c.loop-i-test.true in
    let ls = c.args.left.now in
    let rs = c.args.right.now in
    let n = c.loop-i.i in
    let f = c.in_ok-place.ensures ls rs i.origins (read_at ls n 0 lt) (read_at rs n 0 (omega arith)) in
    let longer = ap length c.in_ok-push.ensures.items in
    let one = length-push c.loop-i.places.items c.in_ok-place.place in
    let count = i.count in
    let R : ℕ → ℕ → Type 0 = λ a b. (b ≤ a) × IsRepeat ls rs b a in
    record {
      origins = f.0;
      count = omega arith;
      each = rw c.in_ok-push.ensures.items (each_push R c.loop-i.places.items c.in_ok-place.place n count i.each (f.1, f.2));
    }
