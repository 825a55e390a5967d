use Rattle.std.proofs.Common.{◌≤◌, length, map, arith}
use Rattle.fst_parts.specs.Once.{position}
use Rattle.fst_parts.specs.Views.{part_of}
use Rattle.fst_parts.proofs.PartLaws.{kept_more}
use Rattle.fst_parts.proofs.parts.note.Goals as goal

pub returns-clause-kept : goal.returns-clause-kept
returns-clause-kept c =
    let past : length c.args.parts.now.found.items ≤ position
    (map part_of c.args.parts.now.found.items) c.args.whole.ty.now c.args.at = omega arith in
    kept_more c.args.trees.now c.args.parts.now (record { found = c.push.new.self; index = c.put.new.self }) _ _ c.requires.kept
    (record { whole = c.requires.whole; part = c.requires.part }) c.in_ok-key.ensures.items past c.in_ok-put.ensures.keys
    c.in_ok-push.ensures.items
