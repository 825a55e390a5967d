-- What other crates cite of the tasks of a run.
-- What has ended asks for nothing, as does each task that is found among those that have; what is to step asks for a step.
pub use Rattle.fst_vm.proofs.KeptLaws.{asks_nothing, ended_asks, asks_step}
-- All tasks once a path has another one among those that have not ended.
pub use Rattle.fst_vm.proofs.KeptLaws.{put_after}
-- A task that is found among those that have not ended is there, and each live one is found there.
pub use Rattle.fst_vm.proofs.KeptLaws.{its_slot, live_there}
