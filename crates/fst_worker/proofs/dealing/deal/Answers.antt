use Rattle.std.proofs.Common.{◌∙◌, ◌<◌, ◌++◌, List, length, set, refl, subst, arith}
use Rattle.std.specs.Prelude.{IsPermutation}
use Rattle.std.proofs.Math.ListN.{length-set}
use Rattle.std.specs.Vec.Iter.{into_iter_items}
use Rattle.fst_safety.specs.declared.tasks.TypedTask.{TypedTask}
use Rattle.fst_worker.specs.declared.shares.Share.{Share}
use Rattle.fst_worker.specs.Shares.{all_tasks}
use Rattle.fst_worker.proofs.Dealt.{all_left, none_in, fresh_in, fresh_set, dealt_in, deals_on}
use Rattle.fst_worker.proofs.dealing.deal.Goals as goal

pub loop-task-init : goal.loop-task-init
loop-task-init c = record {
  at = c.requires;
  len = c.in_ok-shares.ensures.len;
  tasks = all_left c.args.tasks.items (into_iter_items c.into_iter-task-iterator.result) (all_tasks c.in_ok-shares.shares.items)
      c.into_iter-task-iterator.ensures.into_iter_gives.0 (none_in c.in_ok-shares.shares.items c.in_ok-shares.ensures.empty);
  fresh = fresh_in c.in_ok-shares.shares.items c.in_ok-shares.ensures.empty;
}

pub loop-task-preserved-then-at-count : goal.loop-task-preserved-then-at-count
loop-task-preserved-then-at-count c =
    let ss = c.loop-task.shares.items in
    let i = c.loop-task.at in
    let s = c.index_mut-share.result.now in
    let v : Share = record s { tasks = c.push.new.self } in
    let here : i < length ss = omega (arith, c.loop-task.invariant.at, c.loop-task.invariant.len) in
    let first = c.in-Some.ensures.steps.0 in
    let all = c.args.tasks.items in
    let before = subst (λ (ts : List TypedTask). IsPermutation all (ts ++ all_tasks ss)) first c.loop-task.invariant.tasks in
    record {
      at = c.requires;
      len = length-set ss i v ∙ c.loop-task.invariant.len;
      tasks = deals_on all (into_iter_items c.next.new.self) c.in-Some.task (all_tasks ss) (all_tasks (set ss i v)) before
          (dealt_in ss i s v c.in-Some.task here c.index_mut-share.ensures.value c.in_ok-push.ensures.items refl refl);
      fresh = fresh_set ss i s v here c.index_mut-share.ensures.value refl refl c.loop-task.invariant.fresh;
    }

pub loop-task-preserved : goal.loop-task-preserved
loop-task-preserved c =
    let ss = c.loop-task.shares.items in
    let i = c.loop-task.at in
    let s = c.index_mut-share.result.now in
    let v : Share = record s { tasks = c.push.new.self } in
    let here : i < length ss = omega (arith, c.loop-task.invariant.at, c.loop-task.invariant.len) in
    let first = c.in-Some.ensures.steps.0 in
    let all = c.args.tasks.items in
    let before = subst (λ (ts : List TypedTask). IsPermutation all (ts ++ all_tasks ss)) first c.loop-task.invariant.tasks in
    record {
      at = omega (arith, c.loop-task.invariant.at, c.if-at-count.false);
      len = length-set ss i v ∙ c.loop-task.invariant.len;
      tasks = deals_on all (into_iter_items c.next.new.self) c.in-Some.task (all_tasks ss) (all_tasks (set ss i v)) before
          (dealt_in ss i s v c.in-Some.task here c.index_mut-share.ensures.value c.in_ok-push.ensures.items refl refl);
      fresh = fresh_set ss i s v here c.index_mut-share.ensures.value refl refl c.loop-task.invariant.fresh;
    }
