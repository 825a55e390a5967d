use Rattle.std.proofs.Common.{◌∙◌}
use Rattle.fst_command.proofs.MakeLaws.{bytes_short, made_output}
use Rattle.fst_command.proofs.running.answer_make.Goals as goal

pub answer_source-requires-clause-short : goal.answer_source-requires-clause-short
answer_source-requires-clause-short g c κs within =
    bytes_short c.args.n c.as_bytes-bytes.result.now c.requires (c.as_bytes-bytes.ensures.value ∙ c.in_ok-source.ensures)

pub returns-clause-text : goal.returns-clause-text
returns-clause-text g c =
    made_output c.args.n c.as_bytes-bytes.result.now c.answer_source.result
    (c.as_bytes-bytes.ensures.value ∙ c.in_ok-source.ensures)
    c.answer_source.ensures.text
