use Rattle.fst_worker.proofs.Working.{can_move, moves}
use Rattle.fst_worker.proofs.workers.one_round.Goals as goal

pub round-requires-clause-fit : goal.round-requires-clause-fit
round-requires-clause-fit g c κs within =
    let d = c.requires.right in
    can_move c.args.code.now d c.args.tasks.items c.args.ended.now.items
    (c.requires.run d) c.in_ok-shares.shares.items c.in_ok-shares.ensures

pub returns : goal.returns
returns g c = λ d.
    moves c.args.code.now d c.args.tasks.items c.args.ended.now.items
    (c.requires.run d) c.in_ok-shares.shares.items c.in_ok-shares.ensures
    c.round.new.shares.items c.in_ok-moved.ensures.went c.in_ok-tasks.tasks.items c.gather.new.ended.items
    c.in_ok-tasks.ensures
