use Rattle.std.proofs.Common.{map}
use Rattle.std.specs.Prelude.{string_bytes}
use Rattle.fst_options.proofs.SettingLaws.{sets_none}
use Rattle.fst_options.proofs.given.next.Goals as goal

pub returns-in-None : goal.returns-in-None
returns-in-None c =
    sets_none (map string_bytes c.args.words.now) c.in-None.ensures c.in_default.ensures c.in_default-sets.ensures
    c.in_default-sets-2.ensures
