use Rattle.std.proofs.Common.{◌++◌, ◌∷◌, [], refl, sym, subst, take, length, get_or, arith}
use Rattle.std.proofs.lemmas.List.{take_more}
use Rattle.std.proofs.lemmas.Option.{slice_get_read}
use Rattle.fst_written.specs.Printable.{IsLeastField}
use Rattle.fst_written.proofs.FieldLaws.{found_there}
use Rattle.fst_written.proofs.LeastLaws.{least_printable, least_field}
use Rattle.fst_written.proofs.RangeLaws.{number_at}
use Rattle.fst_written.proofs.printable.first_field.Goals as goal
use Rattle.fst_written.proofs.printable.first_field.Goals.{then-not-is_printable, else-not-is_printable}

pub index-requires : goal.index-requires
index-requires c =
    let there = number_at (length c.args.m.now.types.items) c.args.numbers.now c.loop-number.number-index 0 c.requires
    c.loop-number-test.true in
    omega (arith, there, c.args.m.now.types.ok.0)

pub earlier-requires-clause-found : goal.earlier-requires-clause-found
earlier-requires-clause-found c = found_there c.args.m.now
    (take c.loop-number.number-index c.args.numbers.now) c.loop-number.found c.loop-number.invariant

pub earlier-requires-clause-next : goal.earlier-requires-clause-next
earlier-requires-clause-next c = number_at (length c.args.m.now.types.items) c.args.numbers.now c.loop-number.number-index 0
    c.requires c.loop-number-test.true

pub loop-number-preserved : goal.loop-number-preserved
loop-number-preserved c =
    let m = c.args.m.now in
    let types = m.types.items in
    let numbers = c.args.numbers.now in
    let i = c.loop-number.number-index in
    let k = get_or numbers i 0 in
    let t = c.index.result.now in
    let there = number_at (length types) numbers i 0 c.requires c.loop-number-test.true in
    let is = slice_get_read types (length types) k t refl there c.index.ensures in
    let whole = sym (take_more numbers i 0 c.loop-number-test.true) in
    let test = c.is_printable.ensures in
    elim c.if-not-is_printable.branch [
      | then-not-is_printable w ↦
          subst (λ ks. IsLeastField m ks c.if-not-is_printable.found) whole
          (subst (IsLeastField m (take i numbers ++ k ∷ [])) (sym w.found-is)
          (least_field m (take i numbers) k c.loop-number.found w.earlier.result t c.loop-number.invariant is
          (λ h. absurd (cc (test.1 h, w.if-not-is_printable.true))) w.earlier.ensures))
      | else-not-is_printable w ↦
          subst (λ ks. IsLeastField m ks c.if-not-is_printable.found) whole
          (subst (IsLeastField m (take i numbers ++ k ∷ [])) (sym w.found-is)
          (least_printable m (take i numbers) k c.loop-number.found c.loop-number.invariant
          (t, is, test.0 w.if-not-is_printable.false)))
    ]
