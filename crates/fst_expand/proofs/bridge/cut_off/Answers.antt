use Rattle.std.proofs.Common.{◌+◌, ◌∙◌, length, drop, sym}
use Rattle.fst_shared.specs.Shared.{word_of}
use Rattle.fst_expand.proofs.BridgeLaws.{cut_off, nothing_off, uncut}
use Rattle.fst_expand.proofs.CutLaws.{append_below, drop_below}
use Rattle.fst_expand.proofs.bridge.cut_off.Goals as goal

pub returns-in_default-clause-parts : goal.returns-in_default-clause-parts
returns-in_default-clause-parts c = uncut c.args.marks.now c.args.front.now.word.now
    (word_of c.args.table.now.words c.args.front.now.tail) c.in_default.ensures.none

pub returns-then-is_empty-clause-parts : goal.returns-then-is_empty-clause-parts
returns-then-is_empty-clause-parts c =
    let e = c.in-Some.ensures in
    let none = c.is_empty.ensures.0 c.if-is_empty.true in
    nothing_off c.args.marks.now c.args.front.now.word.now
    (word_of c.args.table.now.words c.args.front.now.tail) c.in-Some.at e.within e.marked e.before
    (sym c.in_ok-rest.ensures ∙ none)

pub returns-clause-parts : goal.returns-clause-parts
returns-clause-parts c =
    let e = c.in-Some.ensures in
    rw c.in_ok-rest.ensures (cut_off c.args.marks.now c.args.front.now.word.now
    (word_of c.args.table.now.words c.args.front.now.tail) c.in-Some.at e.within e.marked e.before)

pub returns-clause-below : goal.returns-clause-below
returns-clause-below c =
    let n = length c.args.marks.now in
    rw c.in_ok-rest.ensures (append_below n (drop (c.in-Some.at + 1) c.args.front.now.word.now)
    (word_of c.args.table.now.words c.args.front.now.tail)
    (drop_below n (c.in-Some.at + 1) c.args.front.now.word.now c.requires.word) c.requires.behind)
