-- What other crates cite of what the ends of a channel send.
-- the two ends of a channel never both send
pub use Rattle.fst_cell.proofs.ResidualLaws.{exclusive}
