use Rattle.std.proofs.Common.{length, subst, sym, ℕ}
use Rattle.fst_words.specs.Words.{WordBelow}
use Rattle.fst_shared.specs.Shared.{word_of}
use Rattle.fst_expand.proofs.BridgeLaws.{crowded_pruned, cut_below, meet_pruned}
use Rattle.fst_expand.proofs.MeasureLaws.{marks_long, norms_long, unmarked, words_below}
use Rattle.fst_expand.proofs.OptionLaws.{none_with, some_with}
use Rattle.fst_expand.proofs.bridge.meet.Goals as goal

pub join-requires-clause-below : goal.join-requires-clause-below
join-requires-clause-below c =
    let e = c.in_ok-from.ensures in
    let n = length c.args.m.now.lowering.now in
    rw (e.left, e.right, e.pairs) (record {
      left = cut_below n c.args.m.now.marks.now c.args.left.now.word.now
          (word_of c.args.table.now.words c.args.left.now.tail) c.requires.left.word c.requires.left.behind;
      right = cut_below n c.args.m.now.marks.now c.args.right.now.word.now
          (word_of c.args.table.now.words c.args.right.now.tail) c.requires.right.word c.requires.right.behind;
      pairs = c.requires.fit.below;
    })

pub join-requires-clause-words : goal.join-requires-clause-words
join-requires-clause-words c = words_below c.args.m.now.grammar.now.rules.items c.args.m.now.marks.now c.args.m.now.norms.now
    c.args.m.now.lowering.now c.requires.measured

pub join-requires-clause-count : goal.join-requires-clause-count
join-requires-clause-count c = norms_long c.args.m.now.grammar.now.rules.items c.args.m.now.marks.now c.args.m.now.norms.now
    c.args.m.now.lowering.now c.requires.measured

pub pruned_words-requires-clause-left_below : goal.pruned_words-requires-clause-left_below
pruned_words-requires-clause-left_below c =
    let long = marks_long c.args.m.now.grammar.now.rules.items c.args.m.now.marks.now c.args.m.now.norms.now
    c.args.m.now.lowering.now c.requires.measured in
    subst (λ (n : ℕ). WordBelow n c.args.left.now.word.now) (sym long) c.requires.left.word

pub pruned_words-requires-clause-right_below : goal.pruned_words-requires-clause-right_below
pruned_words-requires-clause-right_below c =
    let long = marks_long c.args.m.now.grammar.now.rules.items c.args.m.now.marks.now c.args.m.now.norms.now
    c.args.m.now.lowering.now c.requires.measured in
    subst (λ (n : ℕ). WordBelow n c.args.right.now.word.now) (sym long) c.requires.right.word

pub returns-clause-met : goal.returns-clause-met
returns-clause-met c =
    let e = c.in_ok-from.ensures in
    let joined = rw (e.left, e.right, e.pairs) at c.in_ok-joined.ensures.joined in
    let free = unmarked c.args.m.now.grammar.now.rules.items c.args.m.now.marks.now c.args.m.now.norms.now
    c.args.m.now.lowering.now c.requires.measured in
    some_with c.in_ok-joined.joined (λ j k.
    meet_pruned c.args.m.now.marks.now c.args.m.now.norms.now c.args.m.now.lowering.now c.args.left.now.word.now
    (word_of c.args.table.now.words c.args.left.now.tail) c.args.right.now.word.now
    (word_of c.args.table.now.words c.args.right.now.tail) c.args.table.now.pairs c.join.new.table.pairs c.requires.left.pruned
    c.requires.right.pruned j.steps.items j.heads free c.requires.fit.pruned k)
    joined

pub returns-clause-crowded : goal.returns-clause-crowded
returns-clause-crowded c =
    let e = c.in_ok-from.ensures in
    let full = rw (e.left, e.right, e.pairs) at c.in_ok-joined.ensures.crowded in
    none_with c.in_ok-joined.joined (λ k.
    crowded_pruned c.args.m.now.marks.now c.args.m.now.norms.now c.args.m.now.lowering.now c.args.left.now.word.now
    (word_of c.args.table.now.words c.args.left.now.tail) c.args.right.now.word.now
    (word_of c.args.table.now.words c.args.right.now.tail) c.args.table.now.pairs c.join.new.table.pairs c.requires.left.pruned
    c.requires.right.pruned c.args.room k)
    full

pub returns-clause-leads : goal.returns-clause-leads
returns-clause-leads c =
    let e = c.in_ok-from.ensures in
    let joined = rw (e.left, e.right) at c.in_ok-joined.ensures.joined in
    some_with c.in_ok-joined.joined (λ j k. k.leads c.args.m.now.marks.now) joined

pub returns-clause-exchanges : goal.returns-clause-exchanges
returns-clause-exchanges c = some_with c.in_ok-joined.joined (λ j k. k.exchanges) c.in_ok-joined.ensures.joined
