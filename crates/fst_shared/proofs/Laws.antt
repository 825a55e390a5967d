-- What other crates cite of tables of words.
-- a table keeps what is in it, and what is kept twice over is kept
pub use Rattle.fst_shared.proofs.TableLaws.{keeps_all, keeps_on}
