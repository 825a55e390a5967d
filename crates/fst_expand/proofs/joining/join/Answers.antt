use Rattle.std.proofs.Common.{arith, refl}
use Rattle.fst_shared.specs.Shared.{word_of}
use Rattle.fst_shared.proofs.Laws.{keeps_all, keeps_on}
use Rattle.fst_expand.specs.declared.joining.Walk.{Walk}
use Rattle.fst_expand.proofs.FinishLaws.{crowded_joining, crowded_underway, underway_first}
use Rattle.fst_expand.proofs.joining.join.Goals as goal

pub loop-side-init : goal.loop-side-init
loop-side-init c =
    let walk : Walk = record {
      left = c.args.left;
      right = c.args.right;
      heads = 0;
      before = c.new.result;
      after =
          c.new-2.result;
    } in
    record {
      underway = underway_first c.args.norms.now c.args.words.now c.args.table.now walk c.requires.left c.requires.right
          c.new.ensures.items c.new-2.ensures.items refl c.requires.below;
      room = (let room = c.requires.room in omega arith);
      kept = keeps_all c.args.table.now.words;
    }

pub returns-then-len-walk-clause-crowded : goal.returns-then-len-walk-clause-crowded
returns-then-len-walk-clause-crowded c =
    let x = word_of c.args.table.now.words c.args.left in
    let y = word_of c.args.table.now.words c.args.right in
    let u = c.in_ok-drop_next.ensures.underway x y c.args.table.now.pairs c.loop-side.invariant.underway in
    let count = c.len.ensures.count in
    let full = c.if-len-walk.true in
    crowded_underway c.args.norms.now c.args.words.now x y c.args.table.now.pairs c.drop_next.new.table c.drop_next.new.walk
    c.args.room u (omega arith)

pub loop-side-preserved : goal.loop-side-preserved
loop-side-preserved c =
    let x = word_of c.args.table.now.words c.args.left in
    let y = word_of c.args.table.now.words c.args.right in
    let count = c.len.ensures.count in
    let room = c.if-len-walk.false in
    record {
      underway = c.in_ok-drop_next.ensures.underway x y c.args.table.now.pairs c.loop-side.invariant.underway;
      room = omega arith;
      kept = keeps_on c.args.table.now.words c.loop-side.table.words c.drop_next.new.table.words c.loop-side.invariant.kept
          c.in_ok-drop_next.ensures.kept;
    }

pub returns-then-len-joined-clause-crowded : goal.returns-then-len-joined-clause-crowded
returns-then-len-joined-clause-crowded c =
    let x = word_of c.args.table.now.words c.args.left in
    let y = word_of c.args.table.now.words c.args.right in
    let j = c.in_ok-joined.ensures.joining c.args.norms.now c.args.words.now x y c.args.table.now.pairs
    c.loop-side.invariant.underway c.in_default.ensures.none in
    let count = c.len-2.ensures.count in
    let full = c.if-len-joined.true in
    crowded_joining c.args.norms.now c.args.words.now x y c.args.table.now.pairs c.finish.new.table.pairs
    c.in_ok-joined.joined.steps.items c.in_ok-joined.joined.heads c.args.room j (omega arith)

pub returns-clause-joined : goal.returns-clause-joined
returns-clause-joined c =
    let x = word_of c.args.table.now.words c.args.left in
    let y = word_of c.args.table.now.words c.args.right in
    c.in_ok-joined.ensures.joining c.args.norms.now c.args.words.now x y c.args.table.now.pairs c.loop-side.invariant.underway
    c.in_default.ensures.none
