use Rattle.std.proofs.Common.{◌∙◌, refl, sym, ap, length, map, codes}
use Rattle.std.proofs.lemmas.Result.{err_from_is_err_and}
use Rattle.std.proofs.lemmas.List.{map-append}
use Rattle.fst_reading.specs.Lexeme.{spells}
use Rattle.fst_type_syntax.specs.TypeReading.{alt_with, seq_at, type_at}
use Rattle.fst_type_syntax.specs.Views.{labelled}
use Rattle.fst_reading.proofs.Loops.{begins_empty, goes_on, stops, runs_out, fails}
use Rattle.fst_type_syntax.proofs.types.+reader.Goals as goal

pub alts-loop-init : goal.alts-loop-init
alts-loop-init t c = (
  rw c.new-branches.ensures.items
      (begins_empty (spells (codes ",")) (alt_with (seq_at c.args.left) (type_at c.args.left))
      (length c.args.tokens.now) c.args.tokens.now),
  refl,
)

pub alts-returns-in_err-branch : goal.alts-returns-in_err-branch
alts-returns-in_err-branch t c =
    let alt = alt_with (seq_at c.args.left) (type_at c.args.left) in
    let p = err_from_is_err_and c.from_residual.result c.from_residual.ensures.1 in
    rw (p.1, p.2) (fails (spells (codes ",")) alt (map labelled c.loop.branches.items)
    (length c.args.tokens.now) c.loop.counter c.loop.rest.now _ _ c.loop-test.true c.in_err-branch.ensures c.loop.invariant.0)

pub alts-returns-then-not-comes : goal.alts-returns-then-not-comes
alts-returns-then-not-comes t c =
    let alt = alt_with (seq_at c.args.left) (type_at c.args.left) in
    let last = stops (spells (codes ",")) alt (map labelled c.loop.branches.items)
    (length c.args.tokens.now) c.loop.counter c.loop.rest.now _ (labelled c.in_ok-branch.branch) c.in_ok-branch.remaining.now
    c.loop-test.true c.in_ok-branch.ensures (sym c.comes.ensures ∙ c.if-not-comes.true) c.loop.invariant.0 in
    let items = ap (map labelled) c.in_ok-push.ensures.items ∙ map-append labelled c.loop.branches.items _ in
    rw items last

pub alts-loop-preserved : goal.alts-loop-preserved
alts-loop-preserved t c =
    let alt = alt_with (seq_at c.args.left) (type_at c.args.left) in
    let next = goes_on (spells (codes ",")) alt (map labelled c.loop.branches.items)
    (length c.args.tokens.now) c.loop.counter c.loop.rest.now _ (labelled c.in_ok-branch.branch) c.in_ok-branch.remaining.now
    c.loop-test.true c.in_ok-branch.ensures (sym c.comes.ensures ∙ c.if-not-comes.false) c.loop.invariant.0 in
    let items = ap (map labelled) c.in_ok-push.ensures.items ∙ map-append labelled c.loop.branches.items _ in
    (rw (items, c.behind-rest.ensures) next, refl)

pub alts-returns : goal.alts-returns
alts-returns t c =
    let alt = alt_with (seq_at c.args.left) (type_at c.args.left) in
    runs_out (spells (codes ",")) alt (map labelled c.loop.branches.items)
    (length c.args.tokens.now) c.loop.counter c.loop.rest.now _ c.loop-test.false c.loop.invariant.0
