use Rattle.std.proofs.Common.{◌++◌, List, subst, arith}
use Rattle.std.specs.Prelude.{IsPermutation}
use Rattle.std.proofs.lemmas.List.Sorted.{IsPermutation-trans, IsPermutation-append_left}
use Rattle.std.specs.Vec.Iter.{into_iter_items}
use Rattle.fst_worker.specs.declared.shares.Share.{Share}
use Rattle.fst_worker.specs.Shares.{all_tasks}
use Rattle.fst_worker.proofs.Dealt.{one_more, nothing_left}
use Rattle.fst_worker.proofs.dealing.gather.Goals as goal

pub loop-share-preserved : goal.loop-share-preserved
loop-share-preserved c =
    let all = all_tasks c.args.shares.items ++ c.args.ended.now.items in
    let first = c.in-Some.ensures.steps.0 in
    let before = subst (λ (ss : List Share). IsPermutation all
    (all_tasks ss ++ (c.loop-share.tasks.items ++ c.loop-share.ended.items))) first c.loop-share.invariant in
    one_more c.in-Some.share (into_iter_items c.next.new.self) all c.loop-share.tasks.items c.loop-share.ended.items
    c.take_in.new.tasks.items c.take_in.new.ended.items before c.in_ok-take_in.ensures

pub returns : goal.returns
returns c =
    let all = all_tasks c.args.shares.items ++ c.args.ended.now.items in
    let left = c.loop-share.share-iterator in
    let none = nothing_left (into_iter_items left) (omega (arith, c.in-None.ensures.steps.0, left.rest.ok.0)) in
    let before = subst (λ (ss : List Share). IsPermutation all
    (all_tasks ss ++ (c.loop-share.tasks.items ++ c.loop-share.ended.items))) none c.loop-share.invariant in
    IsPermutation-trans all (c.loop-share.tasks.items ++ c.loop-share.ended.items)
    (c.sort_by.new.self.items ++ c.loop-share.ended.items) before
    (IsPermutation-append_left c.loop-share.ended.items c.loop-share.tasks.items c.sort_by.new.self.items
    c.in_ok-sort_by.ensures.permutation)
