use Rattle.std.proofs.Common.{◌≡◌}
use Rattle.std.specs.Vec.Iter.{into_iter_items}
use Rattle.fst_process.specs.Kept.{Kept}
use Rattle.fst_process.specs.KeptOf.{kept_of}
use Rattle.fst_process.specs.Resuming.{HaveNext, AreSettled}
use Rattle.fst_process.proofs.config.Config.settle_all.Given as goal

abbrev pub invariant-loop-task : goal.invariant-loop-task
invariant-loop-task l = record {
  next : ∥ HaveNext l.code (into_iter_items l.task-iterator) ∥₁;
  events : l.self.events ≡ l.fn.self.events;
  settles : (e : Kept) → AreSettled l.code (into_iter_items l.task-iterator) (kept_of l.self) e →
      AreSettled l.code l.fn.tasks.items (kept_of l.fn.self) e;
}
