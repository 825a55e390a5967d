use Rattle.std.proofs.Common.{◌≡◌, ◌++◌, ◌∙◌, sym, ap, map, length, subst, append_assoc, arith}
use Rattle.fst_derivations.specs.Modules.{family_types}
use Rattle.fst_terms.specs.InRange.{AreNumbersBelow}
use Rattle.fst_written.specs.Readings.{closed_readings, global_readings, others, reading_of}
use Rattle.fst_written.specs.declared.readings.Occurrence.{Occurrence}
use Rattle.fst_written.proofs.ModuleLaws.{standing_types, standing_numbers_of, standing_there}
use Rattle.fst_written.proofs.readings.occurrences.Goals as goal

pub other_types-requires-clause-there : goal.other_types-requires-clause-there
other_types-requires-clause-there c =
    let m = c.args.m.now in
    let globals = ap global_readings c.deref.ensures.value in
    let fields : c.deref-3.result.now ≡ family_types m.families.items = c.deref-3.ensures.value ∙ c.in_ok-field_types.ensures
    ∙ ap family_types c.deref-2.ensures.value in
    let some : map reading_of c.deref-4.result.now ≡ global_readings m.globals.items ++ closed_readings
    (family_types m.families.items) =
    ap (map reading_of) c.deref-4.ensures.value ∙ c.in_ok-add_closed.ensures
    ∙ (λ i. (c.in_ok-out.ensures ∙ globals) i ++ closed_readings (fields i)) in
    let long : length m.types.items ≡ c.len.result = omega (arith, c.len.ensures, m.types.ok.0) in
    let numbers = standing_numbers_of m c.deref-4.result.now some in
    subst (λ n. AreNumbersBelow n (map (λ (o : Occurrence). o.number) c.deref-4.result.now)) long
    (subst (AreNumbersBelow (length m.types.items)) (sym numbers) (standing_there m))

pub returns : goal.returns
returns c =
    let m = c.args.m.now in
    let globals = ap global_readings c.deref.ensures.value in
    let fields : c.deref-3.result.now ≡ family_types m.families.items = c.deref-3.ensures.value ∙ c.in_ok-field_types.ensures
    ∙ ap family_types c.deref-2.ensures.value in
    let first : map reading_of c.add_closed.new.out.items ≡ global_readings m.globals.items ++ closed_readings
    (family_types m.families.items) =
    c.in_ok-add_closed.ensures ∙ (λ i. (c.in_ok-out.ensures ∙ globals) i ++ closed_readings (fields i)) in
    let long : length m.types.items ≡ c.len.result = omega (arith, c.len.ensures, m.types.ok.0) in
    let numbers = standing_numbers_of m c.deref-4.result.now (ap (map reading_of) c.deref-4.ensures.value ∙ first) in
    let left : c.deref-5.result.now ≡ others (standing_types m) (length m.types.items) = c.deref-5.ensures.value
    ∙ c.in_ok-others.ensures ∙ (λ i. others (numbers i) (sym long i)) in
    c.in_ok-add_closed-2.ensures ∙ (λ i. first i ++ closed_readings (left i))
    ∙ append_assoc (global_readings m.globals.items) (closed_readings (family_types m.families.items))
    (closed_readings (others (standing_types m) (length m.types.items)))
