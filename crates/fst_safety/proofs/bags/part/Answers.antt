use Rattle.std.proofs.Common.{◌≡◌, ◌∙◌, ◌+◌, ◌++◌, ◌∷◌, [], take, ap, subst, arith}
use Rattle.std.specs.Prelude.{swap_remove}
use Rattle.fst_safety.specs.Bags.{IsPlaced}
use Rattle.fst_safety.specs.Threads.{count_of}
use Rattle.fst_safety.proofs.BagCalls.{parted_on, parted_same, handed_over}
use Rattle.fst_safety.proofs.bags.part.Goals.{in-Some, in_default}
use Rattle.fst_safety.proofs.bags.part.Goals as goal

pub loop-name-preserved : goal.loop-name-preserved
loop-name-preserved c =
    let names = c.args.names.now in
    let j = c.loop-name.name-index in
    let n = c.name-item.result in
    let bag = c.args.bag.now.items in
    let mine = c.loop-name.bag.items in
    let theirs = c.loop-name.theirs.items in
    elim c.match-place.branch [
      | in-Some w ↦
          let placed = subst (λ es. IsPlaced n es w.in-Some.i) c.as_slice.ensures.value w.in-Some.ensures.found in
          let e = w.swap_remove-end.result in
          let p = handed_over names j n bag mine theirs c.loop-name-test.true c.name-item.is c.loop-name.invariant.parted
          c.requires.once w.in-Some.i e placed w.swap_remove-end.ensures.value in
          record {
            few = omega (arith, c.loop-name.invariant.few, w.push_reserved.ensures.len, ap (λ v. v.len) w.theirs-is);
            room = ap (λ v. v.cap) w.theirs-is ∙ w.push_reserved.ensures.capacity ∙ c.loop-name.invariant.room;
            parted = parted_same (take (j + 1) names) bag (swap_remove mine w.in-Some.i e) c.match-place.bag.items
                (theirs ++ e ∷ []) c.match-place.theirs.items
                (ap (λ v. v.items) w.bag-is ∙ w.swap_remove-end.ensures.items)
                (ap (λ v. v.items) w.theirs-is ∙ w.push_reserved.ensures.items) p;
          }
      | in_default w ↦
          let none = subst (λ es. count_of n es ≡ 0) c.as_slice.ensures.value w.in_default.ensures.missing in
          record {
            few = omega (arith, c.loop-name.invariant.few, ap (λ v. v.len) w.theirs-is);
            room = ap (λ v. v.cap) w.theirs-is ∙ c.loop-name.invariant.room;
            parted = parted_same (take (j + 1) names) bag mine c.match-place.bag.items theirs c.match-place.theirs.items
                (ap (λ v. v.items) w.bag-is) (ap (λ v. v.items) w.theirs-is)
                (parted_on names j n bag mine theirs c.loop-name-test.true c.name-item.is none c.loop-name.invariant.parted);
          }
    ]
