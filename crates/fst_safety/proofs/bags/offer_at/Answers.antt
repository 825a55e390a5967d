use Rattle.std.proofs.Common.{◌≡◌}
use Rattle.fst_cell.specs.Answers.{FoundHeld, IsOffered}
use Rattle.fst_safety.proofs.BagCalls.{changed}
use Rattle.fst_safety.proofs.bags.offer_at.Goals as goal

pub returns-in-Waiting : goal.returns-in-Waiting
returns-in-Waiting c =
    changed (λ e f. IsOffered e c.args.event c.args.clock f) c.args.bag.now.items c.swap_remove-end.new.self.items
    c.push_reserved.new.self.items c.args.i c.swap_remove-end.result c.in-Waiting.end
    c.requires.there c.swap_remove-end.ensures.value c.swap_remove-end.ensures.items c.push_reserved.ensures.items
    c.in-Waiting.ensures

pub returns-in-Busy : goal.returns-in-Busy
returns-in-Busy c =
    changed FoundHeld c.args.bag.now.items c.swap_remove-end.new.self.items c.push_reserved-in-Busy.new.self.items c.args.i
    c.swap_remove-end.result c.in-Busy.end
    c.requires.there c.swap_remove-end.ensures.value c.swap_remove-end.ensures.items c.push_reserved-in-Busy.ensures.items
    c.in-Busy.ensures.1

pub returns : goal.returns
returns c =
    changed (λ e f. f ≡ e) c.args.bag.now.items c.swap_remove-end.new.self.items c.push_reserved-in-Memory.new.self.items c.args.i
    c.swap_remove-end.result c.in-Memory.end
    c.requires.there c.swap_remove-end.ensures.value c.swap_remove-end.ensures.items c.push_reserved-in-Memory.ensures.items
    c.in-Memory.ensures.1
