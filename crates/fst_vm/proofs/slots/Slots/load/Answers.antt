use Rattle.std.proofs.Common.{◌≡◌, ◌∙◌, ◌∷◌, length, option_map, Some, refl, sym, ap, arith}
use Rattle.fst_vm.proofs.SlotLaws.{slot_turned, slot_none}
use Rattle.fst_vm.proofs.slots.Slots.load.Goals as goal

pub returns-then-len-k : goal.returns-then-len-k
returns-then-len-k c =
    let n : c.len-len.result ≡ length c.self.inside.values.items = omega (arith, c.len-len.ensures, c.self.inside.values.ok) in
    let none = slot_none c.self.inside.values.items c.args.self.now c.args.k c.len-len.result c.self.view_is n c.if-len-k.true in
    (ap (option_map (λ v. v ∷ c.args.stack.now)) none, refl)

pub returns-in_ok-replace-in-Some : goal.returns-in_ok-replace-in-Some
returns-in_ok-replace-in-Some c =
    let n : c.len-len.result ≡ length c.self.inside.values.items = omega (arith, c.len-len.ensures, c.self.inside.values.ok) in
    let at = slot_turned c.self.inside.values.items c.args.self.now c.args.k c.len-len.result c.index.result.now c.self.view_is n
    c.if-len-k.false c.index.ensures in
    ap (option_map (λ v. v ∷ c.args.stack.now)) (at ∙ c.in-Some.is ∙ ap Some (sym c.in_ok-copy-in-Some.ensures))
    ∙ ap Some (sym c.in_ok-replace-in-Some.ensures.replaced)

pub returns-in-None : goal.returns-in-None
returns-in-None c =
    let n : c.len-len.result ≡ length c.self.inside.values.items = omega (arith, c.len-len.ensures, c.self.inside.values.ok) in
    let at = slot_turned c.self.inside.values.items c.args.self.now c.args.k c.len-len.result c.index.result.now c.self.view_is n
    c.if-len-k.false c.index.ensures in
    (ap (option_map (λ v. v ∷ c.args.stack.now)) (at ∙ c.in-None.is), refl)
