use Rattle.std.proofs.Common.{map}
use Rattle.std.specs.Prelude.{string_bytes}
use Rattle.fst_command.proofs.CompleteLaws.{is_complete}
use Rattle.fst_command.proofs.run.top.Goals as goal

pub returns-in-Ok-write_all-clause-complete : goal.returns-in-Ok-write_all-clause-complete
returns-in-Ok-write_all-clause-complete g c = λ whole.
    is_complete c.completeness.ensures (map string_bytes c.args.words.now) (g.S.Source.left c.args.source.now)
    (g.S.Source.left c.answer.new.source)
    c.in-Ok.answer.text.items c.in-Ok.answer.status c.in-Ok.ensures.answered
