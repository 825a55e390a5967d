use Rattle.std.proofs.Common.{◌≡◌, ◌∙◌, ◌+◌, ◌-◌, ap, sym, true, false, arith, length}
use Rattle.fst_context.specs.View.{scope_of}
use Rattle.fst_context.proofs.Places.{one_left, lengths}
use Rattle.fst_context.proofs.context.Context.leave.Goals as goal

pub returns-clause-after : goal.returns-clause-after
returns-clause-after c =
    let es = c.self.inside.entries.items in
    let bs = c.self.inside.there.items in
    let n = c.len-last.result - 1 in
    let wide : c.len-last.result ≡ length es = c.len-last.ensures ∙ c.self.inside.entries.ok.0 in
    let some : length c.args.self.now.variables ≡ length es =
    lengths es bs c.self.inside.bodies.items c.args.self.now c.self.view_is in
    let last : n + 1 ≡ length es = omega (arith, wide, some, c.requires) in
    (λ i. scope_of (c.truncate.ensures.items i) (c.truncate-2.ensures.items i) c.count_one_fewer.new.bodies.items)
    ∙ one_left es bs c.self.inside.bodies.items c.count_one_fewer.new.bodies.items c.args.self.now n c.self.view_is last
    c.self.invariant.marked c.count_one_fewer.ensures.counts
