use Rattle.std.proofs.Common.{◌≡◌, arith, refl, true}
use Rattle.fst_words.specs.Words.{row_of}
use Rattle.fst_words.specs.Marks.{has_marked}
use Rattle.fst_basis.proofs.MarkLaws.{all_have, marked_within, word_has}
use Rattle.fst_basis.proofs.marks.is_unnormed_set.Goals as goal

pub returns-then-not-all_have_marked : goal.returns-then-not-all_have_marked
returns-then-not-all_have_marked c = (
  (λ t. cc),
  (λ h.
      let o = rw c.row_of.ensures.row at c.row_of.ensures.ordered in
      let all = all_have c.args.g.now.rules.items c.args.marks.now c.loop-n.n h c.if-marks-n.true o in
      rw c.if-not-all_have_marked.true at c.all_have_marked.ensures.1 (rw c.row_of.ensures.row all)),
)

pub returns : goal.returns
returns c = (
  (λ t n a v mark rule. word_has (λ w. has_marked c.args.marks.now w ≡ true) (row_of c.args.g.now.rules.items n) a v
      (c.loop-n.invariant n (let l = marked_within c.args.marks.now n mark in omega arith) mark) rule),
  (λ h. refl),
)
