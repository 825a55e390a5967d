use Rattle.std.proofs.Common.{◌∙◌, refl, sym, ap}
use Rattle.std.specs.Str.{bytes_eq}
use Rattle.fst_paths.specs.Paths.{main_path}
use Rattle.fst_vm.specs.SlotOf.{slot_of_ended}
use Rattle.fst_vm.proofs.KeptLaws.{last_here, last_else}
use Rattle.fst_vm.proofs.tasks.ended_result.Goals as goal

pub result-requires : goal.result-requires
result-requires c =
    let same = ap (λ p. bytes_eq p main_path) (sym (c.as_slice.ensures ∙ c.path.ensures)) ∙ sym c.eq.ensures ∙ c.if-eq.true in
    c.requires (slot_of_ended c.in-Some.last)
    (sym c.loop-last.invariant ∙ last_here c.loop-last.ended.items c.pop.new.self.items c.in-Some.last main_path
    c.in-Some.ensures.items same)

pub returns-then-eq : goal.returns-then-eq
returns-then-eq c =
    let same = ap (λ p. bytes_eq p main_path) (sym (c.as_slice.ensures ∙ c.path.ensures)) ∙ sym c.eq.ensures ∙ c.if-eq.true in (
      slot_of_ended c.in-Some.last,
      sym c.loop-last.invariant ∙ last_here c.loop-last.ended.items c.pop.new.self.items c.in-Some.last main_path
          c.in-Some.ensures.items same,
      refl,
      c.result.ensures,
    )

pub loop-last-preserved-else-eq : goal.loop-last-preserved-else-eq
loop-last-preserved-else-eq c =
    let other = ap (λ p. bytes_eq p main_path) (sym (c.as_slice.ensures ∙ c.path.ensures)) ∙ sym c.eq.ensures ∙ c.if-eq.false in
    sym (last_else c.loop-last.ended.items c.pop.new.self.items c.in-Some.last main_path c.in-Some.ensures.items other)
    ∙ c.loop-last.invariant

pub loop-last-preserved : goal.loop-last-preserved
loop-last-preserved c =
    let other = ap (λ p. bytes_eq p main_path) (sym (c.as_slice.ensures ∙ c.path.ensures)) ∙ sym c.eq.ensures ∙ c.if-eq.false in
    sym (last_else c.loop-last.ended.items c.pop.new.self.items c.in-Some.last main_path c.in-Some.ensures.items other)
    ∙ c.loop-last.invariant
