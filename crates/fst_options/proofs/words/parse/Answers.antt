use Rattle.std.proofs.Common.{map}
use Rattle.std.specs.Prelude.{string_bytes}
use Rattle.fst_options.proofs.WordLaws.{no_check, no_equiv, no_make, no_name}
use Rattle.fst_options.proofs.words.parse.Goals as goal

pub returns-in-None : goal.returns-in-None
returns-in-None c =
    no_equiv (map string_bytes c.args.words.now) (map string_bytes c.in-Some-behind-2.rest.now) c.in-Some-behind-2.ensures
    c.in-None.ensures

pub returns-in-None-check_options : goal.returns-in-None-check_options
returns-in-None-check_options c =
    no_check (map string_bytes c.args.words.now) (map string_bytes c.in-Some-behind-3.rest.now) c.in-Some-behind-3.ensures
    c.in-None-check_options.ensures

pub returns-in-None-one_number : goal.returns-in-None-one_number
returns-in-None-one_number c =
    no_make (map string_bytes c.args.words.now) (map string_bytes c.in-Some-behind-5.rest.now) c.in-Some-behind-5.ensures
    c.in-None-one_number.ensures

pub returns-in_default-behind-5 : goal.returns-in_default-behind-5
returns-in_default-behind-5 c =
    no_name (map string_bytes c.args.words.now) c.in_default.ensures c.in_default-behind.ensures
    c.in_default-behind-2.ensures
    c.in_default-behind-3.ensures
    c.in_default-behind-4.ensures
    c.in_default-behind-5.ensures
