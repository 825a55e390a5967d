use Rattle.std.proofs.Common.{rules}
use Rattle.fst_cell.proofs.Trying.{tries_idle, tells, wins, holds_one}
use Rattle.fst_cell.proofs.turns.Grip.seize.Goals as goal

pub fetch_or-found-requires : goal.fetch_or-found-requires
fetch_or-found-requires c = (search rules, search rules, tries_idle _ _ _ c.requires)

pub exchange-content-requires : goal.exchange-content-requires
exchange-content-requires c =
    let t = tells _ _ _ c.requires c.fetch_or-found.ensures.2 in
    let w = wins _ _ _ c.if-found-eq1.false t in
    (search rules, holds_one _ _ _ w)
