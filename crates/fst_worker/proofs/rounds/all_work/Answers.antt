use Rattle.fst_worker.proofs.Together.{each_can, all_run, go_on, are_counted, are_lent, are_told}
use Rattle.fst_worker.proofs.rounds.all_work.Goals as goal

pub each_works-requires-clause-fit : goal.each_works-requires-clause-fit
each_works-requires-clause-fit g c κs within = each_can c.args.code.now c.args.shares.now c.requires.fit

pub returns-clause-went : goal.returns-clause-went
returns-clause-went g c =
    go_on c.args.code.now c.args.steps _ _ (all_run c.args.code.now c.args.steps _ _ c.each_works.ensures.len
    c.each_works.ensures.each)

pub returns-clause-runs : goal.returns-clause-runs
returns-clause-runs g c = all_run c.args.code.now c.args.steps _ _ c.each_works.ensures.len c.each_works.ensures.each

pub returns-clause-lent : goal.returns-clause-lent
returns-clause-lent g c =
    are_lent c.args.code.now c.args.steps _ _ c.each_works.ensures.len c.requires.fit
    (all_run c.args.code.now c.args.steps _ _ c.each_works.ensures.len c.each_works.ensures.each)
    c.requires.none_forked

pub returns-clause-counted : goal.returns-clause-counted
returns-clause-counted g c =
    are_counted c.args.code.now c.args.steps _ _ c.each_works.ensures.len c.requires.fit
    (all_run c.args.code.now c.args.steps _ _ c.each_works.ensures.len c.each_works.ensures.each)

pub returns-clause-told : goal.returns-clause-told
returns-clause-told g c =
    are_told c.args.code.now c.args.steps _ _ c.each_works.ensures.len c.requires.fit
    (all_run c.args.code.now c.args.steps _ _ c.each_works.ensures.len c.each_works.ensures.each)
