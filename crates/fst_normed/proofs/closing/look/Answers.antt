use Rattle.std.proofs.Common.{◌≡◌, ◌<◌, ◌∙◌, [], length, sym, true, false}
use Rattle.std.proofs.lemmas.Result.{err_from_is_err_and}
use Rattle.fst_basis.specs.Basis.{same_letters}
use Rattle.fst_basis.proofs.Laws.{as_long}
use Rattle.fst_words.specs.Words.{row_of}
use Rattle.fst_normed.specs.Candidates.{CandidateDiffers, residual}
use Rattle.fst_normed.specs.Closing.{AreToldApart, IsExchangedInTurn}
use Rattle.fst_normed.specs.Needs.{Needs, rewrites_at, rewrites_in_turn}
use Rattle.fst_normed.specs.Normed.{IsNormedGrammar}
use Rattle.fst_normed.proofs.ClosingLaws.{apart_differ, holds, in_turn_needs, letters_differ}
use Rattle.fst_normed.proofs.NotedLaws.{noted_as}
use Rattle.fst_normed.proofs.StopLaws.{shows_on}
use Rattle.fst_normed.proofs.closing.look.Goals as goal

pub returns-then-not-same_letters-clause-stopped : goal.returns-then-not-same_letters-clause-stopped
returns-then-not-same_letters-clause-stopped c g =
    let ry = c.rules_of-rules.ensures.row in
    let rx = c.rules_of-others.ensures.row in
    let oy = rw ry at c.rules_of-rules.ensures.ordered in
    let ox = rw rx at c.rules_of-others.ensures.ordered in
    let no : same_letters c.rules_of-rules.result.now c.rules_of-others.result.now ≡ false = sym c.same_letters.ensures
    ∙ c.if-not-same_letters.true in
    letters_differ c.args.g.now.rules.items c.args.x c.args.y []
    (residual c.args.norms.now c.args.words.now c.args.x c.args.y) ox oy (rw (ry, rx) at no)

pub join_rules-requires-clause-same : goal.join_rules-requires-clause-same
join_rules-requires-clause-same c = as_long c.rules_of-rules.result.now c.rules_of-others.result.now
    (sym c.same_letters.ensures ∙ c.if-not-same_letters.false)

pub returns-clause-holds : goal.returns-clause-holds
returns-clause-holds c =
    let ry = c.rules_of-rules.ensures.row in
    let rx = c.rules_of-others.ensures.row in
    let oy = rw ry at c.rules_of-rules.ensures.ordered in
    let ox = rw rx at c.rules_of-others.ensures.ordered in
    let yes : same_letters c.rules_of-rules.result.now c.rules_of-others.result.now ≡ true = sym c.same_letters.ensures
    ∙ c.if-not-same_letters.false in
    let j = c.in_ok-join_rules.ensures.lead in
    let tail = c.deref.ensures.value ∙ c.in_ok-tail.ensures.residual in
    let turn = rw (ry, rx, tail) at j.2 in (
      j.0,
      j.1,
      holds c.args.g.now.rules.items c.args.norms.now c.args.words.now c.join_rules.new.needed c.args.x c.args.y j.0 ox oy
          (rw (ry, rx) at yes) turn,
    )

pub returns-clause-noted : goal.returns-clause-noted
returns-clause-noted c =
    let rows = c.args.g.now.rules.items in
    let norms = c.args.norms.now in
    let words = c.args.words.now in
    let ry = c.rules_of-rules.ensures.row in
    let rx = c.rules_of-others.ensures.row in
    let oy = rw ry at c.rules_of-rules.ensures.ordered in
    let ox = rw rx at c.rules_of-others.ensures.ordered in
    let yes : same_letters c.rules_of-rules.result.now c.rules_of-others.result.now ≡ true = sym c.same_letters.ensures
    ∙ c.if-not-same_letters.false in
    let tail = c.deref.ensures.value ∙ c.in_ok-tail.ensures.residual in
    noted_as (length words) norms (IsExchangedInTurn norms words (row_of rows c.args.y) (row_of rows c.args.x)
    (residual norms words c.args.x c.args.y)) (Needs rows norms words (c.args.x, c.args.y)) c.args.needed.now
    c.join_rules.new.needed
    (λ d t. in_turn_needs rows norms words c.args.x c.args.y d ox oy (rw (ry, rx) at yes) t)
    (rw (ry, rx, tail) at c.in_ok-join_rules.ensures.noted)

pub returns-clause-spent : goal.returns-clause-spent
returns-clause-spent c =
    rw (c.rules_of-rules.ensures.row, c.rules_of-others.ensures.row, c.deref.ensures.value ∙ c.in_ok-tail.ensures.residual)
    at c.in_ok-join_rules.ensures.spent

pub returns-in_err-join_rules-clause-stopped : goal.returns-in_err-join_rules-clause-stopped
returns-in_err-join_rules-clause-stopped c =
    let rows = c.args.g.now.rules.items in
    let norms = c.args.norms.now in
    let words = c.args.words.now in
    let x = c.args.x in
    let y = c.args.y in
    let ry = c.rules_of-rules.ensures.row in
    let rx = c.rules_of-others.ensures.row in
    let oy = rw ry at c.rules_of-rules.ensures.ordered in
    let ox = rw rx at c.rules_of-others.ensures.ordered in
    let by = rw ry at c.rules_of-rules.ensures.below in
    let bx = rw rx at c.rules_of-others.ensures.below in
    let yes : same_letters c.rules_of-rules.result.now c.rules_of-others.result.now ≡ true = sym c.same_letters.ensures
    ∙ c.if-not-same_letters.false in
    let tail = c.deref.ensures.value ∙ c.in_ok-tail.ensures.residual in
    let below = rw (c.in_ok-tail.ensures.residual, c.requires.size) at c.in_ok-tail.ensures.range in
    let stop = rw (ry, rx, tail) at c.in_err-join_rules.ensures.stopped in
    let s = err_from_is_err_and c.from_residual-in_err-join_rules.result c.from_residual-in_err-join_rules.ensures.1 in
    rw s.1 (shows_on s.0
    (AreToldApart norms words (row_of rows y) (row_of rows x) (residual norms words x y))
    (c.args.rewrites.now < rewrites_in_turn norms words (row_of rows y) (row_of rows x) (residual norms words x y))
    (IsNormedGrammar rows norms words → CandidateDiffers rows norms words (x, y))
    (c.args.rewrites.now < rewrites_at rows norms words (x, y))
    (λ apart g. apart_differ rows norms words g x y below ox oy bx by (rw (ry, rx) at yes) apart) (λ h. h) (rw s.2 stop))
