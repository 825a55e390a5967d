use Rattle.std.proofs.Common.{◌≡◌, ◌∙◌, ℕ, length, drop, get_or, refl, sym, ap, arith}
use Rattle.std.specs.Prelude.{reverse}
use Rattle.std.proofs.lemmas.List.{length-take, take_all, drop_all, reverse-reverse}
use Rattle.fst_machine.specs.Spots.{spread}
use Rattle.fst_vm.specs.Moves.{trees_of}
use Rattle.fst_vm.proofs.SlotLaws.{spread_none, spread_few, spread_more, popped}
use Rattle.fst_vm.proofs.slots.spread.Goals as goal

pub loop-part-init : goal.loop-part-init
loop-part-init c =
    let vs = c.truncate.new.self.items in
    let ks = c.args.variables.now in
    record {
      few = omega (arith, ap length c.truncate.ensures.items, length-take (length ks) c.args.parts.items);
      left = sym (take_all (length vs) vs (omega arith));
      made = c.requires.none ∙ spread_none (drop (length vs) ks) ∙ ap
          (λ us. spread (drop (length vs) ks) (trees_of us)) (sym (drop_all (length vs) vs (omega arith)));
      capacity = refl;
    }

pub loop-part-preserved : goal.loop-part-preserved
loop-part-preserved c =
    let vs = c.truncate.new.self.items in
    let ps = c.loop-part.parts.items in
    let qs = c.pop.new.self.items in
    let i = c.loop-part.invariant in
    let n : c.len.result ≡ length qs = omega (arith, c.len.ensures, c.pop.new.self.ok) in
    record {
      few = omega (arith, i.few, ap length c.in-Some.ensures.items);
      left = (popped vs ps qs c.in-Some.part i.left c.in-Some.ensures.items).0;
      made = spread_more c.args.variables.now vs ps qs c.in-Some.part _ c.loop-part.room.items c.fill.new.values.items i.few
          i.left c.in-Some.ensures.items
          (ap (λ (k : ℕ). get_or c.args.variables.now k 0) n) i.made c.fill.ensures.values;
      capacity = c.fill.ensures.capacity ∙ i.capacity;
    }

pub returns : goal.returns
returns c =
    let vs = c.truncate.new.self.items in
    let ks = c.args.variables.now in
    let none : length c.loop-part.parts.items ≡ 0 = omega (arith, c.in_default.ensures.len, c.in_default.ensures.cases) in
    ap reverse c.reverse.ensures.items
    ∙ reverse-reverse c.loop-part.room.items
    ∙ c.loop-part.invariant.made
    ∙ ap (λ (n : ℕ). spread (drop n ks) (trees_of (drop n vs))) none
    ∙ ap (λ us. spread ks (trees_of us)) c.truncate.ensures.items
    ∙ spread_few ks c.args.parts.items
