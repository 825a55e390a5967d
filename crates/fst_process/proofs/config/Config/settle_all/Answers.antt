use Rattle.std.proofs.Common.{◌∙◌, sym, subst}
use Rattle.std.proofs.Math.Logic.{∥∥₁_map}
use Rattle.fst_process.specs.KeptOf.{kept_of}
use Rattle.fst_process.specs.Resuming.{Tasks, HaveNext, AreSettled}
use Rattle.fst_process.proofs.config.Config.settle_all.Goals as goal

pub settle-requires : goal.settle-requires
settle-requires c =
    let first = c.in-Some.ensures.steps.0 in
    ∥∥₁_map c.loop-task.invariant.next (λ x. (subst (λ (ts : Tasks). HaveNext c.args.code.now ts) first x).0)

pub loop-task-preserved : goal.loop-task-preserved
loop-task-preserved c =
    let first = c.in-Some.ensures.steps.0 in
    record {
      next = ∥∥₁_map c.loop-task.invariant.next (λ x. (subst (λ (ts : Tasks). HaveNext c.args.code.now ts) first x).1);
      events = c.settle.ensures.events ∙ c.loop-task.invariant.events;
      settles = λ e z.
          c.loop-task.invariant.settles e
          (subst (λ (ts : Tasks). AreSettled c.args.code.now ts (kept_of c.loop-task.self) e) (sym first)
          (kept_of c.settle.new.self, c.in_ok-settle.ensures.settles, z));
    }
