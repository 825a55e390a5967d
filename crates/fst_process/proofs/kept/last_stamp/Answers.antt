use Rattle.std.proofs.Common.{sym, arith}
use Rattle.std.proofs.lemmas.Option.{slice_get_within}
use Rattle.fst_process.proofs.KeptLaws.{stamp_last}
use Rattle.fst_process.proofs.kept.last_stamp.Goals as goal

pub returns-in-Some : goal.returns-in-Some
returns-in-Some c =
    let there = sym c.in-Some.ensures.value in
    let within = slice_get_within c.args.entries.now _ c.in-Some.entry.now there in
    stamp_last c.args.entries.now _ c.in-Some.entry.now (omega (arith, within)) there
