-- What other crates cite of tests of types.
pub use Rattle.fst_fits.proofs.TestLaws.{and_both, and_left, and_right, are_types, has_many, has_use, is_formed, of_formed, of_many, of_type, of_use, tree_itself, tree_same, type_is, types_are}
pub use Rattle.fst_fits.proofs.FitLaws.{applied, channel, ended, family_is, function, global_type, of_applied, of_channel, of_ended, of_function, of_global_type, of_operated, of_paired, of_received, of_sent, operated, pair_is, paired, received, sent}
pub use Rattle.fst_fits.proofs.ArmTestLaws.{of_offering, of_once, offering, once}
