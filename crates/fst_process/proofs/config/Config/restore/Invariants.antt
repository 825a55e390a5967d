use Rattle.std.proofs.Common.{◌≡◌}
use Rattle.std.specs.Vec.Iter.{into_iter_items}
use Rattle.fst_process.specs.KeptOf.{kept_of}
use Rattle.fst_process.specs.Resuming.{restored}
use Rattle.fst_process.proofs.config.Config.restore.Given as goal

abbrev pub invariant-loop-history : goal.invariant-loop-history
invariant-loop-history l = record {
  put_in : restored (into_iter_items l.history-iterator) (kept_of l.self) ≡ restored l.fn.channels.items (kept_of l.fn.self);
  events : l.self.events ≡ l.fn.self.events;
}
