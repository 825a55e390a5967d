use Rattle.std.proofs.Common.{◌≡◌, ◌++◌, length, subst, List, ℕ, Option}
use Rattle.std.specs.Prelude.{IfSome}
use Rattle.fst_words.specs.Words.{WordBelow}
use Rattle.fst_shared.specs.Shared.{word_of}
use Rattle.fst_basis.specs.declared.proof.Pair.{Pair}
use Rattle.fst_expand.specs.Bridge.{IsWay}
use Rattle.fst_expand.proofs.BridgeLaws.{framed_way, have_met, have_room}
use Rattle.fst_expand.proofs.MeasureLaws.{marks_long}
use Rattle.fst_expand.proofs.OptionLaws.{some_unless}
use Rattle.fst_expand.proofs.bridge.bridge.Goals as goal

pub unwrap-joined-requires : goal.unwrap-joined-requires
unwrap-joined-requires c =
    some_unless c.in_ok-found.found
    (have_room c.args.m.now.marks.now c.args.m.now.norms.now c.args.m.now.lowering.now
    (c.args.left.now.word.now ++ word_of c.args.table.now.words c.args.left.now.tail)
    (c.args.right.now.word.now ++ word_of c.args.table.now.words c.args.right.now.tail) c.args.table.now.pairs
    c.meet.new.table.pairs c.args.room c.each_once.ensures.pairs c.requires.room)
    c.in_ok-found.ensures.crowded

-- nothing was added
same : (c : goal.In_ok-steps) → c.meet.new.table.pairs ≡ c.args.table.now.pairs
same c =
    let met = rw c.unwrap-joined.ensures at c.in_ok-found.ensures.met in
    have_met c.args.m.now.marks.now c.args.m.now.norms.now c.args.m.now.lowering.now
    (c.args.left.now.word.now ++ word_of c.args.table.now.words c.args.left.now.tail)
    (c.args.right.now.word.now ++ word_of c.args.table.now.words c.args.right.now.tail) c.args.table.now.pairs
    c.meet.new.table.pairs c.requires.room.0 c.unwrap-joined.result.heads c.each_once.ensures.pairs
    c.requires.room.1 met

pub returns-clause-same : goal.returns-clause-same
returns-clause-same c = same c

pub returns-clause-way : goal.returns-clause-way
returns-clause-way c =
    let leads = rw c.unwrap-joined.ensures at c.in_ok-found.ensures.leads in
    let exchanges = rw c.unwrap-joined.ensures at c.in_ok-found.ensures.exchanges in
    let n = length c.args.m.now.lowering.now in
    let long = marks_long c.args.m.now.grammar.now.rules.items c.args.m.now.marks.now c.args.m.now.norms.now
    c.args.m.now.lowering.now c.requires.measured in
    let Below : Option (ℕ × List ℕ) → ℕ → Type 0 = λ o k. IfSome o (λ p. WordBelow k p.1) in
    subst (λ (P : List Pair). IsWay n c.args.m.now.marks.now P
    (c.args.left.now.word.now ++ word_of c.args.table.now.words c.args.left.now.tail)
    (c.args.right.now.word.now ++ word_of c.args.table.now.words c.args.right.now.tail) (record { steps = c.in_ok-steps.steps }))
    (same c)
    (framed_way n c.args.m.now.marks.now c.args.left.now.word.now
    (word_of c.args.table.now.words c.args.left.now.tail) c.args.right.now.word.now
    (word_of c.args.table.now.words c.args.right.now.tail) c.meet.new.table.pairs c.in_ok-cut.cut c.in_ok-grow.grow
    c.unwrap-joined.result.steps.items (record { steps = c.in_ok-steps.steps })
    c.in_ok-cut.ensures.parts c.in_ok-grow.ensures.parts (subst (Below c.in_ok-cut.cut) long c.in_ok-cut.ensures.below)
    (subst (Below c.in_ok-grow.grow) long c.in_ok-grow.ensures.below)
    leads exchanges c.in_ok-steps.ensures)
