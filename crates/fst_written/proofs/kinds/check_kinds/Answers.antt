use Rattle.std.proofs.Common.{◌≡◌, ◌∙◌, ap, map, subst, None, Some}
use Rattle.fst_written.specs.Faults.{IsLeast}
use Rattle.fst_written.specs.Readings.{reading_of, readings}
use Rattle.fst_written.proofs.ModuleLaws.{all_there, types_formed, refused}
use Rattle.fst_written.proofs.ToldLaws.{told}
use Rattle.fst_written.proofs.kinds.check_kinds.Goals as goal

pub first_fault-requires : goal.first_fault-requires
first_fault-requires c =
    all_there c.args.m.now c.deref.result.now (ap (map reading_of) c.deref.ensures.value ∙ c.in_ok-standing.ensures)

pub returns-in-None-clause-formed : goal.returns-in-None-clause-formed
returns-in-None-clause-formed c =
    let m = c.args.m.now in
    let whole : map reading_of c.deref.result.now ≡ readings m = ap (map reading_of) c.deref.ensures.value
    ∙ c.in_ok-standing.ensures in
    types_formed m (subst (λ rs. IsLeast m rs None) whole (rw c.in-None.is at c.in_ok-first_fault.ensures))

pub returns-clause-refused : goal.returns-clause-refused
returns-clause-refused c = λ differs.
    let m = c.args.m.now in
    let whole : map reading_of c.deref.result.now ≡ readings m = ap (map reading_of) c.deref.ensures.value
    ∙ c.in_ok-standing.ensures in
    refused m c.in-Some.first.at c.in-Some.first.fault
    (subst (λ rs. IsLeast m rs (Some c.in-Some.first)) whole (rw c.in-Some.is at c.in_ok-first_fault.ensures))

pub returns-clause-told : goal.returns-clause-told
returns-clause-told c =
    let m = c.args.m.now in
    let whole : map reading_of c.deref.result.now ≡ readings m = ap (map reading_of) c.deref.ensures.value
    ∙ c.in_ok-standing.ensures in
    told m c.in-Some.first.at c.in-Some.first.fault
    (subst (λ rs. IsLeast m rs (Some c.in-Some.first)) whole (rw c.in-Some.is at c.in_ok-first_fault.ensures))
