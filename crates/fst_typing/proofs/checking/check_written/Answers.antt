use Rattle.std.proofs.Common.{◌<◌, ℕ, arith, length, refl, subst, sym}
use Rattle.std.proofs.lemmas.Option.{slice_get_read, slice_get_within}
use Rattle.fst_premises.specs.Shown.{IsShown}
use Rattle.fst_typing.specs.Checked.{IsRefusal}
use Rattle.fst_typing.specs.Checked.IsRefusal.{field}
use Rattle.fst_typing.proofs.Refusing.{kinds_refused}
use Rattle.fst_typing.proofs.checking.check_written.Goals as goal

pub returns-in-Err-clause-refused : goal.returns-in-Err-clause-refused
returns-in-Err-clause-refused c =
    subst (λ f. IsShown f ((budget : ℕ) → IsRefusal c.args.m.now budget f)) (sym c.refusal_of.ensures)
    (kinds_refused c.args.m.now c.in-Err.fault c.in-Err.ensures.fault c.in-Err.ensures.told)

pub index-requires : goal.index-requires
index-requires c =
    let first = rw c.in-Some.is at c.in_ok-unprintable_field.ensures.printable in
    omega (arith, slice_get_within c.args.m.now.types.items c.in-Some.k first.type first.is)

pub index-requires-in-Some : goal.index-requires-in-Some
index-requires-in-Some c =
    let first = rw c.in-Some.is at c.in_ok-unprintable_field.ensures.printable in
    omega (arith, slice_get_within c.args.m.now.types.items c.in-Some.k first.type first.is, c.args.m.now.whole.places_there)

pub returns-in_ok-t-in-Some-clause-refused : goal.returns-in_ok-t-in-Some-clause-refused
returns-in_ok-t-in-Some-clause-refused c =
    let first = rw c.in-Some.is at c.in_ok-unprintable_field.ensures.printable in
    let below = slice_get_within c.args.m.now.types.items c.in-Some.k first.type first.is in
    let there = slice_get_read c.args.m.now.types.items
    (length c.args.m.now.types.items) c.in-Some.k c.index.result.now refl below c.index.ensures in
    let long : c.in-Some.k < length c.args.m.now.places.items = omega (arith, below, c.args.m.now.whole.places_there) in
    let places = slice_get_read c.args.m.now.places.items
    (length c.args.m.now.places.items) c.in-Some.k c.index-in-Some.result.now refl long c.index-in-Some.ensures in
    λ n budget. field c.in-Some.k c.index-in-Some.result.now c.in_ok-t-in-Some.t c.in_default.ensures.formed first places
    (rw c.in_ok-t-in-Some.ensures there) refl
