use Rattle.std.proofs.Common.{◌∙◌, sym, ap}
use Rattle.std.specs.Prelude.{option_map, option_and_then}
use Rattle.std.specs.Option.{option_copied}
use Rattle.fst_lts.specs.Histories.{opposite}
use Rattle.fst_buffered.specs.KeptOf.{asker_at, held_of}
use Rattle.fst_buffered.proofs.config.Config.partner.Goals as goal

pub returns-in-None : goal.returns-in-None
returns-in-None c =
    ap (λ o. option_and_then (asker_at (opposite c.args.end.now.side)) (option_map held_of o))
    (ap option_copied (sym c.in-None.is) ∙ c.get.ensures)
