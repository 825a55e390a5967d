-- What other crates cite of made modules.
-- A made module is no longer than an input may be.
pub use Rattle.fst_make.proofs.MadeLaws.{made_short}
