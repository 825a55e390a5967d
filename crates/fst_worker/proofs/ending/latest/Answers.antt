use Rattle.fst_lts.proofs.Laws.{last_at}
use Rattle.fst_worker.proofs.ending.latest.Goals as goal

pub returns-in-Some : goal.returns-in-Some
returns-in-Some c = last_at c.args.entries.now c.in-Some.entry.now c.in-Some.ensures.value
