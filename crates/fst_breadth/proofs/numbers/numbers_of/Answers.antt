use Rattle.std.proofs.Common.{sym, ap, ◌∙◌, refl, length, List, ℕ}
use Rattle.std.specs.Prelude.{slice_get}
use Rattle.std.proofs.lemmas.Option.{slice_get_read}
use Rattle.fst_words.specs.declared.rules.Rule.{Rule}
use Rattle.fst_breadth.proofs.RowLaws.{head_row}
use Rattle.fst_breadth.proofs.numbers.numbers_of.Goals as goal

pub returns-in-Some-clause-numbers : goal.returns-in-Some-clause-numbers
returns-in-Some-clause-numbers c rows words all w is i n r at_row at_numbers =
    let head = head_row rows w c.in-Some.first (is ∙ c.in-Some.is) in
    let there = slice_get_read c.args.numbers.now (length c.args.numbers.now) c.in-Some.first c.index-numbers-first.result refl
    (rw c.in-Some.is at c.requires) c.index-numbers-first.is in
    let row = all.row c.in-Some.first c.index-numbers-first.result there in
    row.words_are i n r (ap (λ (z : List Rule). slice_get z i) (sym head) ∙ at_row)
    (ap (λ (z : List ℕ). slice_get z i) (sym c.deref.ensures.value) ∙ at_numbers)

pub returns-in-Some-clause-count : goal.returns-in-Some-clause-count
returns-in-Some-clause-count c rows words all w is =
    let head = head_row rows w c.in-Some.first (is ∙ c.in-Some.is) in
    let there = slice_get_read c.args.numbers.now (length c.args.numbers.now) c.in-Some.first c.index-numbers-first.result refl
    (rw c.in-Some.is at c.requires) c.index-numbers-first.is in
    let row = all.row c.in-Some.first c.index-numbers-first.result there in
    ap length c.deref.ensures.value ∙ row.count ∙ ap length (sym head)
