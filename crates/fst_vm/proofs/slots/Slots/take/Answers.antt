use Rattle.std.proofs.Common.{◌≡◌, ◌∷◌, length, option_map, refl, ap, arith}
use Rattle.fst_machine.specs.Spots.{emptied}
use Rattle.fst_vm.proofs.SlotLaws.{slot_none, moved_out}
use Rattle.fst_vm.proofs.slots.Slots.take.Goals as goal

pub returns-then-len-k : goal.returns-then-len-k
returns-then-len-k c =
    let n : c.len-len.result ≡ length c.self.inside.values.items = omega (arith, c.len-len.ensures, c.self.inside.values.ok) in
    let none = slot_none c.self.inside.values.items c.args.self.now c.args.k c.len-len.result c.self.view_is n c.if-len-k.true in
    (ap (option_map (λ v. (emptied c.args.k c.args.self.now, v ∷ c.args.stack.now))) none, refl)

pub returns : goal.returns
returns c =
    let n : c.len-len.result ≡ length c.self.inside.values.items = omega (arith, c.len-len.ensures, c.self.inside.values.ok) in
    moved_out c.self.inside.values.items c.args.self.now c.args.k c.len-len.result c.index_mut.result.now c.push_from.new.slot
    c.args.stack.now c.push_from.new.self c.in_ok-done.done
    c.self.view_is n c.if-len-k.false c.index_mut.ensures.value c.in_ok-done.ensures
