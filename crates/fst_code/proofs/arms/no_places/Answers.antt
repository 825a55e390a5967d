use Rattle.std.proofs.Common.{◌∙◌, ◌+◌, ◌≤◌, length, sym, ap, subst, arith}
use Rattle.std.proofs.lemmas.List.{length_push}
use Rattle.fst_code.specs.Arms.{AreAtMost}
use Rattle.fst_code.proofs.ArmLaws.{at_most_more, at_most_none}
use Rattle.fst_code.proofs.arms.no_places.Goals as goal

pub loop-i-init : goal.loop-i-init
loop-i-init c = record {
  long = ap length c.new-places.ensures.items;
  low = λ j. subst (AreAtMost j) (sym c.new-places.ensures.items) (at_most_none j);
}

pub loop-i-preserved : goal.loop-i-preserved
loop-i-preserved c = record {
  long = ap length c.in_ok-push.ensures.items ∙ length_push c.loop-i.places.items _ ∙ ap (λ z. z + 1) c.loop-i.invariant.long;
  low = λ j. let same : j ≤ j = omega arith in let least : 0 ≤ j = omega arith in
      subst (AreAtMost j) (sym c.in_ok-push.ensures.items)
      (at_most_more j j c.loop-i.places.items 0 (c.loop-i.invariant.low j) same least);
}

pub returns : goal.returns
returns c = record { long = omega (arith, c.loop-i.invariant.long); low = c.loop-i.invariant.low }
