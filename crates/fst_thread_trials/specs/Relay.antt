-- An end that goes on, whatever it tried.
use Rattle.std.specs.Prelude.{◌≡◌}
use Rattle.fst_cell.specs.End.{EndView}

-- the same end, but for its tries
pub record Same (e f : EndView) : Type 0 where
  pub cell : f.cell ≡ e.cell
  pub side : f.knows.side ≡ e.knows.side
  pub declared : f.knows.declared ≡ e.knows.declared
  pub history : f.knows.history ≡ e.knows.history
  pub offer : f.knows.offer ≡ e.knows.offer

-- the same end, whatever happened at it
pub record Stays (e f : EndView) : Type 0 where
  pub cell : f.cell ≡ e.cell
  pub side : f.knows.side ≡ e.knows.side
