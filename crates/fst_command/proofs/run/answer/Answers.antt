use Rattle.std.proofs.Common.{map}
use Rattle.std.specs.Prelude.{string_bytes}
use Rattle.fst_options.specs.Views.{command_of}
use Rattle.fst_options.proofs.Laws.{within}
use Rattle.fst_command.proofs.Runs.{read_whole, read_over}
use Rattle.fst_command.proofs.run.answer.Goals as goal

pub answer_command-requires-clause-within : goal.answer_command-requires-clause-within
answer_command-requires-clause-within g c κs inside =
    within (map string_bytes c.args.words.now) (command_of c.in-Some.command) c.in-Some.ensures

pub returns-in_ok-answer_command-in-Ok-clause-answered : goal.returns-in_ok-answer_command-in-Ok-clause-answered
returns-in_ok-answer_command-in-Ok-clause-answered g c =
    let a = c.in_ok-answer_command-in-Ok in
    let output = rw c.deref.ensures.value at a.ensures.text in
    read_whole c.meanings.ensures a.field-0.status _
    (command_of c.in-Some.command) _ _ c.in-Ok.bytes.items a.field-0.text.items c.in-Some.ensures c.in-Ok.ensures.read output

pub returns-in_ok-fixed-in-Err-TooLong-clause-answered : goal.returns-in_ok-fixed-in-Err-TooLong-clause-answered
returns-in_ok-fixed-in-Err-TooLong-clause-answered g c =
    let lost = rw c.in-Err-TooLong.field-0-is at c.in-Err-TooLong.ensures.fault in
    let a = c.in_ok-fixed-in-Err-TooLong in
    read_over c.meanings.ensures a.field-0.status _
    (command_of c.in-Some.command) _ _ a.field-0.text.items c.in-Some.ensures c.in-Err-TooLong.ensures.wanted lost
    a.ensures.text a.ensures.status
