use Rattle.std.proofs.Common.{◌∙◌, length, sym, ap, subst, arith}
use Rattle.std.specs.Prelude.{codes}
use Rattle.std.specs.List.{count_by}
use Rattle.std.specs.Str.{bytes_eq}
use Rattle.std.proofs.lemmas.Grind.{merely}
use Rattle.fst_terms.specs.CoreCount.{globals_count}
use Rattle.fst_terms.specs.declared.global.GlobalEntry.{GlobalEntry}
use Rattle.fst_machine.specs.Programs.{IsCodeOf}
use Rattle.fst_machine.specs.Standing.{DistinctMakers}
use Rattle.fst_machine.proofs.Laws.{distinct_makers}
use Rattle.fst_code.specs.Writable.{AreGlobalsWritable}
use Rattle.fst_code.specs.Written.{compiled}
use Rattle.fst_code.proofs.GlobalLaws.{all_length, is_code_as, module_writable, none_down}
use Rattle.fst_code.proofs.generating.generate.Goals as goal

pub maker_places-requires : goal.maker_places-requires
maker_places-requires c = subst DistinctMakers (sym c.deref.ensures.value)
    (distinct_makers c.args.m.now.families.items c.args.m.now.whole.makers_differ)

pub write_program-requires : goal.write_program-requires
write_program-requires c = record {
  main = ap (count_by (λ (g : GlobalEntry). bytes_eq g.name (codes "main"))) c.deref-3.ensures.value
      ∙ c.args.m.now.whole.one_main;
  writable = subst (λ gs. AreGlobalsWritable (length c.new-2.result.items) gs) (sym c.deref-3.ensures.value)
      (subst (λ ls. AreGlobalsWritable (length ls) c.args.m.now.globals.items) (sym c.new-2.ensures.items)
      (module_writable c.args.m.now c.requires));
}

pub invariant_of-result : goal.invariant_of-result
invariant_of-result c =
    let written = is_code_as c.args.m.now c.deref-2.result.now c.deref-3.result.now c.write_program.new.out
    c.in_ok-globals.globals.items c.in_ok-types.types.items c.deref-2.ensures.value
    c.deref-3.ensures.value c.requires
    c.in_ok-globals.ensures.starts (c.in_ok-globals.ensures.more.down
    (none_down (compiled c.deref-2.result.now (record { code = c.new.result; lambdas = c.new-2.result }))
    c.new.ensures.items))
    c.in_ok-globals.ensures.main (c.in_ok-types.ensures ∙ c.deref-4.ensures.value) in
    record {
      stands = merely (subst (λ m. IsCodeOf m c.write_program.new.out.code.items c.write_program.new.out.lambdas.items
          c.in_ok-globals.globals.items c.in_ok-types.types.items)
          (sym c.of-module.ensures) written);
      few = omega (
        arith,
        c.in_ok-globals.ensures.entries,
        all_length (compiled c.deref-2.result.now c.write_program.new.out) c.deref-3.result.now c.in_ok-globals.globals.items
            c.in_ok-globals.ensures.starts,
        ap length c.new-2.ensures.items,
        ap globals_count c.deref-3.ensures.value,
        ap length (c.in_ok-types.ensures ∙ c.deref-4.ensures.value),
        c.args.m.now.few,
      );
    }

pub returns : goal.returns
returns c = record {
  «module» = c.of-module.ensures;
  code = is_code_as c.args.m.now c.deref-2.result.now c.deref-3.result.now c.write_program.new.out c.in_ok-globals.globals.items
      c.in_ok-types.types.items c.deref-2.ensures.value
      c.deref-3.ensures.value c.requires
      c.in_ok-globals.ensures.starts (c.in_ok-globals.ensures.more.down
      (none_down (compiled c.deref-2.result.now (record { code = c.new.result; lambdas = c.new-2.result }))
      c.new.ensures.items))
      c.in_ok-globals.ensures.main (c.in_ok-types.ensures ∙ c.deref-4.ensures.value);
}
