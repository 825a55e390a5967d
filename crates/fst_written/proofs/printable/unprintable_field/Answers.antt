use Rattle.std.proofs.Common.{◌≡◌, ◌∙◌, ap, sym, subst, length}
use Rattle.fst_terms.specs.InRange.{AreNumbersBelow}
use Rattle.fst_derivations.specs.Modules.{family_types}
use Rattle.fst_written.specs.Printable.{IsLeastField}
use Rattle.fst_written.proofs.FieldLaws.{least_fields, fields_refused}
use Rattle.fst_written.proofs.RangeLaws.{families_in_range}
use Rattle.fst_written.proofs.printable.unprintable_field.Goals as goal

pub first_field-requires : goal.first_field-requires
first_field-requires c =
    let m = c.args.m.now in
    let fields : c.deref-2.result.now ≡ family_types m.families.items = c.deref-2.ensures.value ∙ c.in_ok-numbers.ensures
    ∙ ap family_types c.deref.ensures.value in
    subst (AreNumbersBelow (length m.types.items)) (sym fields)
    (families_in_range (length m.types.items) m.families.items m.whole.family_parts)

pub returns-clause-printable : goal.returns-clause-printable
returns-clause-printable c =
    let m = c.args.m.now in
    let fields : c.deref-2.result.now ≡ family_types m.families.items = c.deref-2.ensures.value ∙ c.in_ok-numbers.ensures
    ∙ ap family_types c.deref.ensures.value in
    least_fields m c.first_field.result (subst (λ ks. IsLeastField m ks c.first_field.result) fields c.first_field.ensures)

pub returns-clause-refused : goal.returns-clause-refused
returns-clause-refused c =
    let m = c.args.m.now in
    let fields : c.deref-2.result.now ≡ family_types m.families.items = c.deref-2.ensures.value ∙ c.in_ok-numbers.ensures
    ∙ ap family_types c.deref.ensures.value in
    fields_refused m c.first_field.result (subst (λ ks. IsLeastField m ks c.first_field.result) fields c.first_field.ensures)
