use Rattle.std.specs.Prelude.{codes}
use Rattle.std.specs.String.{string_bytes}
use Rattle.fst_type_print.specs.Texts.{variable_text}
use Rattle.fst_type_print.proofs.Appended.{both_written}
use Rattle.fst_type_print.proofs.refusals.push_unbound_type.Goals as goal

pub returns : goal.returns
returns c =
    both_written c.push_variable.result (string_bytes c.args.text.now) (string_bytes c.push_variable.new.text)
    (codes "unbound type ") (variable_text c.args.k)
    (string_bytes c.push_str.new.self) c.in_ok-push_str.ensures.bytes c.push_variable.ensures
