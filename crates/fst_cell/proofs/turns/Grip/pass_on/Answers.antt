use Rattle.std.proofs.Common.{rules, ◌∙◌}
use Rattle.fst_cell.proofs.Trying.{filled, goes_on, returned}
use Rattle.fst_cell.proofs.turns.Grip.pass_on.Goals as goal

pub fetch_add-requires : goal.fetch_add-requires
fetch_add-requires c = (
  search rules,
  search rules,
  goes_on _ _ _ _ _ (filled _ _ c.requires.out _ c.exchange.ensures.3) c.requires.next,
)

pub returns : goal.returns
returns c = record {
  cell = c.fetch_add.ensures.0 ∙ c.exchange.ensures.0;
  told = returned _ _ _ _ (filled _ _ c.requires.out _ c.exchange.ensures.3) c.fetch_add.ensures.2;
}
