use Rattle.std.proofs.Common.{◌∙◌}
use Rattle.fst_type_syntax.proofs.Answering.{type_read}
use Rattle.fst_type_syntax.proofs.answers.read_type.Goals as goal

pub returns-in-Ok : goal.returns-in-Ok
returns-in-Ok c =
    let ahead = c.deref-ahead.ensures.value ∙ c.in_ok-lexemes.ensures in
    let read = rw ahead at c.in-Ok.ensures in
    rw ahead (type_read c.args.text.now c.args.tokens.now c.args.from c.in-Ok.written c.in-Ok.rest.now read)
