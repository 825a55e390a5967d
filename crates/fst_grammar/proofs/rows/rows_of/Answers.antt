use Rattle.std.proofs.Common.{◌≡◌, ◌∙◌, ◌+◌, ◌-◌, ◌<◌, ◌∷◌, [], sym, ap, subst, arith, length}
use Rattle.std.proofs.lemmas.List.{length-append}
use Rattle.std.proofs.lemmas.List.Sorted.{sum_by-IsPermutation}
use Rattle.std.proofs.lemmas.List.Sums.{sum_by_push}
use Rattle.fst_base.specs.Limits.{most_letters}
use Rattle.fst_words.specs.Words.{row_of}
use Rattle.fst_grammar.specs.Equations.{AreLast}
use Rattle.fst_grammar.specs.Translation.{right_side, right_sides}
use Rattle.fst_grammar.proofs.DoneLaws.{fault_stays}
use Rattle.fst_grammar.proofs.HeadLaws.{one_row_more, last_small}
use Rattle.fst_grammar.proofs.rows.rows_of.Goals as goal

pub loop-i-preserved : goal.loop-i-preserved
loop-i-preserved c =
    let items = c.loop-i.rows.items in
    let rules = c.in_ok-rules.rules in
    let solved = c.requires.ordered in
    let sum : right_sides c.add_row.new.rows.items ≡ right_sides items + right_side rules = ap right_sides c.in_ok-add_row.ensures
    ∙ sum_by_push right_side items rules in
    let same : right_side rules ≡ right_side (row_of solved.rows (length c.args.equations.now - 1 - c.loop-i.i)) =
    ap right_side (c.in_ok-rules.ensures.rules solved.rows solved.solves) in
    let left = c.in_ok-rules.ensures.room solved.rows solved.solves in
    let more = length-append items (rules ∷ []) in
    let count : length c.add_row.new.rows.items ≡ length items + 1 = ap length c.in_ok-add_row.ensures ∙ more in
    record {
      rows = λ rows s. subst (AreLast rows) (sym c.in_ok-add_row.ensures)
          (one_row_more rows c.args.equations.now c.loop-i.i items rules s (omega arith) c.loop-i.invariant.count
          (c.loop-i.invariant.rows rows s) (c.in_ok-rules.ensures.rules rows s));
      count = omega (arith, count, c.loop-i.invariant.count);
      room = omega (arith, left, sum, same, c.loop-i.invariant.room);
    }

pub returns-in_err-rules-clause-too_large : goal.returns-in_err-rules-clause-too_large
returns-in_err-rules-clause-too_large c = λ rows s.
    let small = last_small rows c.args.equations.now c.loop-i.i c.loop-i.rows.items s (omega arith) c.loop-i.invariant.count
    (c.loop-i.invariant.rows rows s) in
    fault_stays c.from_residual.result c.in_err-rules.field-0.0 (most_letters < right_sides rows) c.from_residual.ensures.1
    (λ is. let lt = c.in_err-rules.ensures.too_large rows s is in omega (arith, lt, small, c.loop-i.invariant.room))

pub returns-clause-small : goal.returns-clause-small
returns-clause-small c = let same = sum_by-IsPermutation right_side _ _ c.reverse.ensures.permutation in
    omega (arith, same, c.loop-i.invariant.room)
