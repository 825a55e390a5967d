use Rattle.std.proofs.Common.{◌≡◌, sym, ◌∙◌, ap, Option, Some, None, ℕ, List, ◌-◌, length, arith}
use Rattle.std.specs.Prelude.{IfSome, IfNone, slice_get}
use Rattle.fst_base.proofs.Lists.{get_there}
use Rattle.fst_types.specs.declared.side.Side.{Side}
use Rattle.fst_words.specs.Ordered.{AreOrdered}
use Rattle.fst_words.specs.Words.{Productions, first_row}
use Rattle.fst_breadth.specs.Rows.{row_difference}
use Rattle.fst_breadth.specs.Reached.{ReachedPair}
use Rattle.fst_breadth.specs.Following.{IsLastAlike, IsLastParted}
use Rattle.fst_breadth.proofs.RowLaws.{same_letters_by_rows, difference_by_rows, head_below}
use Rattle.fst_breadth.proofs.rows.last_difference.Goals as goal

module _ (g : Productions) (found : List ReachedPair) where
  none_of : (o : Option (ℕ × Side)) → ((e : ReachedPair) → slice_get found (length found - 1) ≡ Some e →
      o ≡ row_difference (first_row g e.left) (first_row g e.right)) → IfNone o (IsLastAlike g found)
  none_of None h = λ e there. same_letters_by_rows g e.left e.right (sym (h e there))
  none_of (Some d) h = tt

  some_of : (o : Option (ℕ × Side)) (e : ReachedPair) → slice_get found (length found - 1) ≡ Some e →
      AreOrdered (first_row g e.left) → AreOrdered (first_row g e.right) →
      o ≡ row_difference (first_row g e.left) (first_row g e.right) → IfSome o (λ d. IsLastParted g found d.0 d.1)
  some_of None e there a b h = tt
  some_of (Some d) e there a b h = record {
    entry = e;
    there = there;
    differs =
        difference_by_rows g e.left e.right d.0 d.1 a b (sym h);
  }

pub rules_of-requires : goal.rules_of-requires
rules_of-requires c =
    let count = c.len-count.ensures in
    let some = c.if-count-eq0.false in
    let e = get_there c.args.table.now (c.len-count.result - 1) (omega arith) in
    head_below _ e.0.left _ (c.requires (c.len-count.result - 1) e.0 e.1).0 (c.heads-left.ensures.left e.0 e.1)

pub rules_of-requires-2 : goal.rules_of-requires-2
rules_of-requires-2 c =
    let count = c.len-count.ensures in
    let some = c.if-count-eq0.false in
    let e = get_there c.args.table.now (c.len-count.result - 1) (omega arith) in
    head_below _ e.0.right _ (c.requires (c.len-count.result - 1) e.0 e.1).1 (c.heads-left.ensures.right e.0 e.1)

pub returns-clause-none : goal.returns-clause-none
returns-clause-none c = none_of c.args.g.now.rules.items c.args.table.now c.row_difference.result (λ e is.
    let there = ap (λ n. slice_get c.args.table.now (n - 1)) c.len-count.ensures ∙ is in
    let left = c.rules_of.ensures.value e.left (c.heads-left.ensures.left e there) in
    let right = c.rules_of-2.ensures.value e.right (c.heads-left.ensures.right e there) in
    c.row_difference.ensures ∙ (λ i. row_difference (left i) (right i)))

pub returns-clause-some : goal.returns-clause-some
returns-clause-some c =
    let count = c.len-count.ensures in
    let some = c.if-count-eq0.false in
    let e = get_there c.args.table.now (c.len-count.result - 1) (omega arith) in
    let there = ap (λ n. slice_get c.args.table.now (n - 1)) (sym count) ∙ e.1 in
    let left = c.rules_of.ensures.value e.0.left (c.heads-left.ensures.left e.0 e.1) in
    let right = c.rules_of-2.ensures.value e.0.right (c.heads-left.ensures.right e.0 e.1) in
    some_of c.args.g.now.rules.items c.args.table.now c.row_difference.result e.0 there
    (rw (← left) c.rules_of.ensures.ordered) (rw (← right) c.rules_of-2.ensures.ordered)
    (c.row_difference.ensures ∙ (λ i. row_difference (left i) (right i)))
