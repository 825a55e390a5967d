use Rattle.std.proofs.Common.{◌≤◌, ◌+◌, ◌∙◌, length, sym, ap, subst, arith}
use Rattle.fst_code.specs.Marks.{marked}
use Rattle.fst_code.proofs.MarkLaws.{marked_beyond}
use Rattle.fst_code.proofs.ListsLaws.{SoFar, so_far_lists, so_far_push, so_far_skip}
use Rattle.fst_code.proofs.marks.variables_in.Goals as goal
use Rattle.fst_code.proofs.marks.variables_in.Goals.{then-is_marked+in_ok-push, else-is_marked}

pub returns-clause-lists : goal.returns-clause-lists
returns-clause-lists c = so_far_lists c.loop-k.found.items (marked c.args.marks.now) c.loop-k.k
    (λ k h. let l : length c.args.marks.now ≤ k = omega arith in marked_beyond c.args.marks.now k l) c.loop-k.invariant

pub returns-clause-few : goal.returns-clause-few
returns-clause-few c = let n : length c.loop-k.found.items ≤ c.loop-k.k = c.loop-k.invariant.few in omega arith

pub loop-k-preserved : goal.loop-k-preserved
loop-k-preserved c =
    let p = marked c.args.marks.now in
    elim c.if-is_marked.branch [
      | then-is_marked+in_ok-push w ↦ subst (λ z. SoFar z p (c.loop-k.k + 1))
          (sym w.in_ok-push.ensures.items ∙ sym (ap (λ v. v.items) w.found-is))
          (so_far_push c.loop-k.found.items p c.loop-k.k (sym c.is_marked.ensures ∙ w.if-is_marked.true) c.loop-k.invariant)
      | else-is_marked w ↦ subst (λ z. SoFar z p (c.loop-k.k + 1)) (sym (ap (λ v. v.items) w.found-is))
          (so_far_skip c.loop-k.found.items p c.loop-k.k
          (sym c.is_marked.ensures ∙ w.if-is_marked.false) c.loop-k.invariant)
    ]
