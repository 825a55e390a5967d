use Rattle.std.proofs.Common.{◌≡◌, length, arith}
use Rattle.fst_vm.proofs.SlotLaws.{ends_more}
use Rattle.fst_vm.proofs.slots.Slots.ends.Goals as goal

pub loop-i-preserved : goal.loop-i-preserved
loop-i-preserved c =
    let n : c.len-len.result ≡ length c.self.inside.values.items = omega (arith, c.len-len.ensures, c.self.inside.values.ok) in
    ends_more c.self.inside.values.items c.args.self.now c.len-len.result c.loop-i.i c.index.result.now c.loop-i.ends.items
    c.append.new.self.items c.in_ok-own.own.items c.self.view_is n
    c.loop-i-test.true c.index.ensures c.in_ok-own.ensures c.in_ok-append.ensures.items c.loop-i.invariant
