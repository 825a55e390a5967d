use Rattle.fst_worker.proofs.Dealt.{as_taken}
use Rattle.fst_worker.proofs.dealing.take_in.Goals as goal

pub returns : goal.returns
returns c =
    as_taken c.args.share c.args.tasks.now.items c.args.ended.now.items c.append.new.self.items c.append-2.new.self.items
    c.append-3.new.self.items
    c.in_ok-append.ensures.items c.in_ok-append-2.ensures.items c.in_ok-append-3.ensures.items
