use Rattle.std.proofs.Common.{map}
use Rattle.std.specs.Prelude.{string_bytes}
use Rattle.fst_options.proofs.GivenLaws.{gives_none, gives_so, some_words_left}
use Rattle.fst_options.proofs.given.+values.Goals as goal

pub returns-in-Some : goal.returns-in-Some
returns-in-Some t c =
    gives_so (map string_bytes c.args.words.now) c.args.given c.in-Some.given (map string_bytes c.in-Some.rest.now)
    c.values.result c.in-Some.ensures c.values.ensures

pub returns-in-None : goal.returns-in-None
returns-in-None t c =
    gives_none (map string_bytes c.args.words.now) c.args.given
    (some_words_left string_bytes c.args.words.now c.is_empty.result c.is_empty.ensures c.if-is_empty.false) c.in-None.ensures
