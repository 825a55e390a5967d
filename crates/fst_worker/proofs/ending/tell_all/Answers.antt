use Rattle.std.proofs.Common.{[], ◌∷◌, ◌++◌, sym, subst, arith}
use Rattle.std.proofs.lemmas.List.{nil_from_length}
use Rattle.std.specs.Vec.Iter.{into_iter_items}
use Rattle.fst_worker.proofs.ToldAll.{IsToldAsFar, none_told, all_told, tellable, told_next}
use Rattle.fst_worker.proofs.ending.tell_all.Goals as goal

pub loop-one-init : goal.loop-one-init
loop-one-init c = λ d.
    let k = c.args.code.now in
    let bs = c.args.bare.items in
    let cs = c.args.closed.now in
    let us = c.new-tasks.result.items in
    subst (λ rs. IsToldAsFar k bs cs d rs us c.new-logs.result.items) (sym c.into_iter-one-iterator.ensures.into_iter_gives.0)
    (subst (λ us. IsToldAsFar k bs cs d bs us c.new-logs.result.items) (sym c.new-tasks.ensures.items)
    (subst (IsToldAsFar k bs cs d bs []) (sym c.new-logs.ensures.items) (none_told k bs cs d)))

pub tell-requires-clause-can : goal.tell-requires-clause-can
tell-requires-clause-can c =
    let k = c.args.code.now in
    let bs = c.args.bare.items in
    let cs = c.args.closed.now in
    let d = c.requires.can in
    let ts = c.loop-one.tasks.items in
    let ls = c.loop-one.logs.items in
    tellable k bs cs d c.in-Some.one (into_iter_items c.next.new.self) ts ls
    (subst (λ rs. IsToldAsFar k bs cs d rs ts ls) c.in-Some.ensures.steps.0 (c.loop-one.invariant d))

pub loop-one-preserved : goal.loop-one-preserved
loop-one-preserved c = λ d.
    let k = c.args.code.now in
    let bs = c.args.bare.items in
    let cs = c.args.closed.now in
    let ts = c.loop-one.tasks.items in
    let ls = c.loop-one.logs.items in
    let b = c.in-Some.one in
    let rs = into_iter_items c.next.new.self in
    let t = c.in_ok-task.task in
    let l = c.in_ok-task.log in
    let so = subst (λ rs. IsToldAsFar k bs cs d rs ts ls) c.in-Some.ensures.steps.0 (c.loop-one.invariant d) in
    subst (λ us. IsToldAsFar k bs cs d rs us c.push-in-loop-one.new.self.items) (sym c.in_ok-push.ensures.items)
    (subst (IsToldAsFar k bs cs d rs (ts ++ (t ∷ []))) (sym c.in_ok-push-2.ensures.items)
    (told_next k bs cs d b rs ts ls so t.0 t.1 l c.in_ok-task.ensures))

pub returns : goal.returns
returns c = λ d.
    let k = c.args.code.now in
    let bs = c.args.bare.items in
    let cs = c.args.closed.now in
    let ts = c.loop-one.tasks.items in
    let ls = c.loop-one.logs.items in
    all_told k bs cs d ts ls (subst (λ rs. IsToldAsFar k bs cs d rs ts ls)
    (nil_from_length (into_iter_items c.loop-one.one-iterator)
    (omega (arith, c.in-None.ensures.steps.0, c.loop-one.one-iterator.rest.ok.0))) (c.loop-one.invariant d))
