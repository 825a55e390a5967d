use Rattle.std.proofs.Common.{◌≡◌, ◌<◌, [], ◌∷◌, ◌++◌, List, sym, subst, arith}
use Rattle.std.specs.Prelude.{All}
use Rattle.std.specs.Vec.Iter.{into_iter_items}
use Rattle.std.proofs.lemmas.List.{append-nil, append_assoc, nil_from_length}
use Rattle.std.proofs.lemmas.List.Elements.{All-tail}
use Rattle.fst_process.specs.Marks.{forks_behind}
use Rattle.fst_worker.specs.declared.ending.TaskLog.{TaskLog}
use Rattle.fst_worker.specs.Finishing.{AreMarksOf}
use Rattle.fst_worker.proofs.finishing.marks_of.Goals as goal

pub loop-log-preserved : goal.loop-log-preserved
loop-log-preserved c =
    let logs = c.args.logs.items in
    let ts = c.loop-log.tasks.items in
    let l = c.in-Some.log in
    let t = c.in_ok-log_marks.field-0 in
    let left = into_iter_items c.next.new.self in
    let IsFew = λ (l : TaskLog). forks_behind 0 l.entries.items < 4294967295 in
    let is : into_iter_items c.loop-log.log-iterator ≡ l ∷ left = c.in-Some.ensures.steps.0 in
    record {
      few = All-tail IsFew l left (subst (All IsFew) is c.loop-log.invariant.few);
      marks = λ more are. subst (λ now. AreMarksOf logs (now ++ more)) (sym c.in_ok-push.ensures.items)
          (subst (AreMarksOf logs) (sym (append_assoc ts (t ∷ []) more))
          (c.loop-log.invariant.marks (t ∷ more)
          (subst (λ ls. AreMarksOf ls (t ∷ more)) (sym is)
          (record { path = c.in_ok-log_marks.ensures.path; marks = c.in_ok-log_marks.ensures.marks }, are))));
    }

pub returns : goal.returns
returns c =
    let left = c.loop-log.log-iterator in
    let none = nil_from_length (into_iter_items left) (omega (arith, c.in-None.ensures.steps.0, left.rest.ok.0)) in
    subst (AreMarksOf c.args.logs.items) (append-nil c.loop-log.tasks.items)
    (c.loop-log.invariant.marks [] (subst (λ (ls : List TaskLog). AreMarksOf ls []) (sym none) tt))
