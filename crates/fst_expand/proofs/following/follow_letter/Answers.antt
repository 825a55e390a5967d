use Rattle.std.proofs.Common.{◌++◌, arith}
use Rattle.std.specs.Prelude.{slice_index_or}
use Rattle.fst_shared.specs.Shared.{word_of}
use Rattle.fst_expand.proofs.FollowLaws.{crowded_again, met_again}
use Rattle.fst_expand.proofs.PlaceLaws.{read_at}
use Rattle.fst_expand.proofs.following.follow_letter.Goals as goal

pub returns-then-heads-room-clause-crowded : goal.returns-then-heads-room-clause-crowded
returns-then-heads-room-clause-crowded c =
    let heads = slice_index_or c.args.counts.now c.args.place 0 in
    let met = c.requires.before heads (read_at c.args.counts.now c.args.place 0 c.if-place-counts.true) in
    let count = c.len.ensures.count in
    let full = c.if-heads-room.true in
    let room = c.requires.room in
    crowded_again c.args.m.now.marks.now c.args.m.now.norms.now c.args.m.now.lowering.now
    (c.args.left.now.word.now ++ word_of c.args.table.now.words c.args.left.now.tail)
    (c.args.right.now.word.now ++ word_of c.args.table.now.words c.args.right.now.tail) c.args.table.now.pairs heads c.args.room
    met (omega arith)

pub returns-then-place-counts-clause-met : goal.returns-then-place-counts-clause-met
returns-then-place-counts-clause-met c =
    let heads = slice_index_or c.args.counts.now c.args.place 0 in
    let met = c.requires.before heads (read_at c.args.counts.now c.args.place 0 c.if-place-counts.true) in
    met_again c.args.m.now.marks.now c.args.m.now.norms.now c.args.m.now.lowering.now
    (c.args.left.now.word.now ++ word_of c.args.table.now.words c.args.left.now.tail)
    (c.args.right.now.word.now ++ word_of c.args.table.now.words c.args.right.now.tail) c.args.table.now.pairs heads met
    c.requires.fit
