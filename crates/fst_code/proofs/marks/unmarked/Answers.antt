use Rattle.std.proofs.Common.{◌∙◌, ◌+◌, length, refl, ap}
use Rattle.std.proofs.Math.Path.{fun_ext}
use Rattle.std.proofs.lemmas.List.{length_push}
use Rattle.fst_machine.specs.Code.{within}
use Rattle.fst_code.specs.Marks.{marked}
use Rattle.fst_code.proofs.MarkLaws.{marked_within, within_none}
use Rattle.fst_code.proofs.marks.unmarked.Goals as goal

pub loop-i-init : goal.loop-i-init
loop-i-init c = record {
  marks = ap marked c.new-marks.ensures.items ∙ fun_ext (λ k. refl);
  deep =
      ap length c.new-marks.ensures.items;
}

pub loop-i-preserved : goal.loop-i-preserved
loop-i-preserved c = record {
  marks = ap marked c.in_ok-push.ensures.items ∙ marked_within c.loop-i.marks.items ∙ ap within c.loop-i.invariant.marks
      ∙ within_none;
  deep = ap length c.in_ok-push.ensures.items ∙ length_push c.loop-i.marks.items _ ∙ ap (λ z. z + 1) c.loop-i.invariant.deep;
}
