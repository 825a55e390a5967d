use Rattle.std.proofs.Common.{◌<◌, ◌≤◌, length, sym, arith}
use Rattle.fst_code.proofs.MarkLaws.{marked_level, marked_beyond}
use Rattle.fst_code.proofs.marks.is_marked.Goals as goal

pub returns-then-k-later : goal.returns-then-k-later
returns-then-k-later c = let h : c.args.k < length c.args.later.now = omega arith in
    sym (marked_level c.args.later.now c.args.k h)

pub returns-else-k-later : goal.returns-else-k-later
returns-else-k-later c = let h : length c.args.later.now ≤ c.args.k = omega arith in
    sym (marked_beyond c.args.later.now c.args.k h)
