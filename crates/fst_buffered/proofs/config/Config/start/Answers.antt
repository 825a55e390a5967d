use Rattle.std.proofs.Common.{◌∙◌, length, ap}
use Rattle.std.proofs.Math.Logic.{∥∥₁_map}
use Rattle.fst_buffered.specs.Kept.{settled}
use Rattle.fst_buffered.specs.KeptOf.{kept_in, kept_of}
use Rattle.fst_buffered.proofs.Keeping.{start_next, start_happens}
use Rattle.fst_buffered.proofs.KeptLaws.{kept_nothing}
use Rattle.fst_buffered.proofs.config.Config.start.Goals as goal

pub settle-requires-clause-next : goal.settle-requires-clause-next
settle-requires-clause-next c = ∥∥₁_map c.requires.start (start_next c.args.code.now c.in_ok-task.task c.in_ok-task.ensures)

pub returns-clause-begun : goal.returns-clause-begun
returns-clause-begun c =
    let code = c.args.code.now in
    let s = c.in_ok-settle.ensures.settles in
    start_happens code c.args.capacity c.in_ok-task.task s.slot (kept_of c.settle.new.self) c.in_ok-task.ensures s.settles s.clock
    (s.after ∙ ap (settled (length code.types.items) c.args.capacity s.slot.task.path s.slot)
    ((λ i. kept_in (c.new.ensures i) (c.new-2.ensures i) (c.new-3.ensures.empty i)) ∙ kept_nothing))
