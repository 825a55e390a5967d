use Rattle.std.proofs.Common.{◌++◌, ◌∷◌, [], ◌-◌, sym, ◌∙◌, ap, subst, arith, length}
use Rattle.std.specs.Prelude.{slice_get}
use Rattle.fst_base.proofs.Lists.{get_there}
use Rattle.fst_words.specs.Words.{WordBelow}
use Rattle.fst_breadth.specs.Answer.{IsLabelTrace}
use Rattle.fst_breadth.proofs.PairLaws.{trace_there}
use Rattle.fst_breadth.proofs.RangeLaws.{longer_below}
use Rattle.fst_breadth.proofs.breadth.last_trace.Goals as goal

pub labels_of-requires : goal.labels_of-requires
labels_of-requires c =
    let count = c.len.ensures in
    let some = c.requires.some in
    let e = get_there c.args.table.now (c.len.result - 1) (omega arith) in
    let trace = c.in_ok-numbers.ensures ∙ trace_there c.args.table.now (c.len.result - 1) e.0 e.1 in
    let is = c.deref-2.ensures.value ∙ c.in_ok-push.ensures.items ∙ (λ i. trace i ++ c.args.letter ∷ []) in
    let below = longer_below _ e.0.trace c.args.letter (c.requires.traces (c.len.result - 1) e.0 e.1) c.requires.letter in
    rw c.deref.ensures.value (subst (WordBelow (length c.args.g.now.letters.items)) (sym is) below)

pub returns : goal.returns
returns c e there =
    let at = ap (λ n. slice_get c.args.table.now (n - 1)) c.len.ensures ∙ there in
    let trace = c.in_ok-numbers.ensures ∙ trace_there c.args.table.now (c.len.result - 1) e at in
    let is = c.deref-2.ensures.value ∙ c.in_ok-push.ensures.items ∙ (λ i. trace i ++ c.args.letter ∷ []) in
    subst (λ s. IsLabelTrace c.args.g.now.letters.items s c.in_ok-labels.labels.items) is
    (rw c.deref.ensures.value at c.in_ok-labels.ensures)
