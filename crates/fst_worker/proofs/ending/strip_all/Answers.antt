use Rattle.std.proofs.Common.{◌≡◌, ◌∙◌, [], ◌∷◌, ◌++◌, List, sym, ap, subst, arith}
use Rattle.std.specs.Vec.Iter.{into_iter_items}
use Rattle.std.proofs.lemmas.List.{append-nil, append_assoc, nil_from_length}
use Rattle.fst_safety.specs.declared.tasks.TypedTask.{TypedTask}
use Rattle.fst_worker.specs.Ending.{AreBare, ends_of}
use Rattle.fst_worker.proofs.ending.strip_all.Goals as goal

pub loop-task-preserved : goal.loop-task-preserved
loop-task-preserved c =
    let ts = c.args.tasks.items in
    let bs = c.loop-task.bare.items in
    let es = c.loop-task.ends.items in
    let t = c.in-Some.task in
    let b = c.in_ok-strip.field-0 in
    let left = into_iter_items c.next.new.self in
    let is : into_iter_items c.loop-task.task-iterator ≡ t ∷ left = c.in-Some.ensures.steps.0 in
    record {
      bare = λ more are. subst (λ now. AreBare ts (now ++ more)) (sym c.in_ok-push.ensures.items)
          (subst (AreBare ts) (sym (append_assoc bs (b ∷ []) more))
          (c.loop-task.invariant.bare (b ∷ more)
          (subst (λ ts. AreBare ts (b ∷ more)) (sym is) (c.in_ok-strip.ensures.bare, are))));
      ends =
          ap (λ now. now ++ ends_of left) c.in_ok-strip.ensures.ends
          ∙ append_assoc es (t.bag.items ++ t.retired.items) (ends_of left)
          ∙ ap (λ ts. es ++ ends_of ts) (sym is)
          ∙ c.loop-task.invariant.ends;
    }

pub returns-clause-bare : goal.returns-clause-bare
returns-clause-bare c =
    let left = c.loop-task.task-iterator in
    let none = nil_from_length (into_iter_items left) (omega (arith, c.in-None.ensures.steps.0, left.rest.ok.0)) in
    subst (AreBare c.args.tasks.items) (append-nil c.loop-task.bare.items)
    (c.loop-task.invariant.bare [] (subst (λ (ts : List TypedTask). AreBare ts []) (sym none) tt))
