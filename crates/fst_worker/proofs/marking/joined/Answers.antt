use Rattle.fst_worker.proofs.JoinedMarks.{joined_marks}
use Rattle.fst_worker.proofs.marking.joined.Goals as goal

pub returns : goal.returns
returns c =
    joined_marks c.new-all.result.entries c.add_all.new.all.entries c.add_all-2.new.all.entries c.args.first.items
    c.args.more.items c.in_ok-tasks.tasks.items c.new-all.ensures.empty c.in_ok-add_all.ensures c.in_ok-add_all-2.ensures
    c.in_ok-tasks.ensures.ordered c.in_ok-tasks.ensures.items
