use Rattle.std.proofs.Common.{rules, ◌∙◌}
use Rattle.fst_cell.proofs.Trying.{filled, goes_back, returned}
use Rattle.fst_cell.proofs.turns.Grip.give_back.Goals as goal

pub fetch_sub-requires : goal.fetch_sub-requires
fetch_sub-requires c = (
  search rules,
  search rules,
  goes_back _ _ _ _ _ (filled _ _ c.requires.out _ c.exchange.ensures.3) c.requires.same,
)

pub returns : goal.returns
returns c = record {
  cell = c.fetch_sub.ensures.0 ∙ c.exchange.ensures.0;
  told = returned _ _ _ _ (filled _ _ c.requires.out _ c.exchange.ensures.3) c.fetch_sub.ensures.2;
}
