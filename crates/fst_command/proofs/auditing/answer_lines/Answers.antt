use Rattle.std.proofs.Common.{arith}
use Rattle.fst_cert.proofs.Laws.{few_lines}
use Rattle.fst_command.proofs.auditing.answer_lines.Goals as goal

pub answer_bad_line-requires-clause-few : goal.answer_bad_line-requires-clause-few
answer_bad_line-requires-clause-few c =
    let bad = rw c.in-Err-BadLine.field-0-is at c.in-Err-BadLine.ensures.fault in
    omega (arith, few_lines c.args.others.now c.in-Err-BadLine.k bad, c.requires.shorter, c.requires.short)
