use Rattle.std.proofs.Common.{◌≡◌, ◌∙◌, ap, length, sym, true≢false, true, false}
use Rattle.fst_words.specs.Words.{row_of}
use Rattle.fst_shared.specs.Shared.{word_of}
use Rattle.fst_basis.specs.declared.proof.Pair.{Pair}
use Rattle.fst_basis.specs.Basis.{same_letters}
use Rattle.fst_expand.specs.Table.{key_pair}
use Rattle.fst_expand.proofs.FollowLaws.{pair_moves}
use Rattle.fst_basis.proofs.Laws.{as_long}
use Rattle.fst_expand.proofs.FrontLaws.{parts_left, parts_right}
use Rattle.fst_expand.proofs.PlaceLaws.{one_item}
use Rattle.fst_expand.proofs.following.follow.Goals as goal

pub returns-then-not-same_letters-clause-stuck : goal.returns-then-not-same_letters-clause-stuck
returns-then-not-same_letters-clause-stuck c b e pair =
    let same = one_item c.args.table.now.pairs c.args.at b
    (key_pair c.args.table.now.words c.key-left.result) e c.key-left.ensures.pair in
    let left = ap (λ (z : Pair). z.left) same ∙ c.in-Some.ensures.some in
    let right = ap (λ (z : Pair). z.right) same ∙ c.in-Some-split_first.ensures.some in
    let on = rw c.rules_of.ensures.row at c.rules_of.ensures.ordered in
    let om = rw c.rules_of-2.ensures.row at c.rules_of-2.ensures.ordered in
    let yes = (pair_moves c.args.m.now.grammar.now.rules.items b c.in-Some.left.0 c.in-Some-split_first.right.0
    (word_of c.args.table.now.words c.in-Some.left.1)
    (word_of c.args.table.now.words c.in-Some-split_first.right.1) left right on om).1 pair in
    let no : same_letters c.rules_of.result.now c.rules_of-2.result.now ≡ false = sym c.same_letters.ensures
    ∙ c.if-not-same_letters.true in
    let no2 = rw (c.rules_of.ensures.row, c.rules_of-2.ensures.row) at no in
    absurd (true≢false (sym yes ∙ no2))

pub places_of-requires-clause-count : goal.places_of-requires-clause-count
places_of-requires-clause-count c =
    let rows = c.args.m.now.grammar.now.rules.items in
    let yes : same_letters c.rules_of.result.now c.rules_of-2.result.now ≡ true = sym c.same_letters.ensures
    ∙ c.if-not-same_letters.false in
    let yes2 = rw (c.rules_of.ensures.row, c.rules_of-2.ensures.row) at yes in
    sym (as_long (row_of rows c.in-Some.left.0) (row_of rows c.in-Some-split_first.right.0) yes2)

pub follow_rules-requires-clause-letters : goal.follow_rules-requires-clause-letters
follow_rules-requires-clause-letters c =
    let yes : same_letters c.rules_of.result.now c.rules_of-2.result.now ≡ true = sym c.same_letters.ensures
    ∙ c.if-not-same_letters.false in
    rw (c.rules_of.ensures.row, c.rules_of-2.ensures.row) at yes

pub follow_rules-requires-clause-left : goal.follow_rules-requires-clause-left
follow_rules-requires-clause-left c =
    parts_left (length c.args.m.now.lowering.now) c.args.m.now.marks.now c.args.table.now.words c.args.table.now.pairs c.args.at
    c.key-left.result c.in-Some.left c.requires.fit c.key-left.ensures.pair
    c.in-Some.ensures.some c.in-Some.ensures.within

pub follow_rules-requires-clause-right : goal.follow_rules-requires-clause-right
follow_rules-requires-clause-right c =
    parts_right (length c.args.m.now.lowering.now) c.args.m.now.marks.now c.args.table.now.words c.args.table.now.pairs c.args.at
    c.key-left.result c.in-Some-split_first.right c.requires.fit
    c.key-left.ensures.pair c.in-Some-split_first.ensures.some c.in-Some-split_first.ensures.within
