use Rattle.std.proofs.Common.{map, sym, ◌∙◌}
use Rattle.std.specs.Prelude.{string_bytes}
use Rattle.fst_options.specs.Words.{flag, value}
use Rattle.fst_options.proofs.GivenLaws.{none_to_give}
use Rattle.fst_options.proofs.given.gives.Goals as goal

pub returns-in-Some : goal.returns-in-Some
returns-in-Some c =
    flag c.in-Some.flag c.in-Some.ensures (sym c.has_flag.ensures ∙ c.if-has_flag.false) c.give_flag.ensures

pub returns-in_default-next : goal.returns-in_default-next
returns-in_default-next c =
    none_to_give (map string_bytes c.args.words.now) c.args.given c.in_default.ensures c.in_default-next.ensures

pub returns-in-None : goal.returns-in-None
returns-in-None c =
    value c.in-Some-next.setting c.in-Some-next.n c.in-Some-next.ensures (sym c.value.ensures ∙ c.in-None.is) c.give.ensures
