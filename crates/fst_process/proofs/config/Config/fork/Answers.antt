use Rattle.std.proofs.Common.{arith}
use Rattle.std.proofs.Math.Logic.{∥∥₁_map}
use Rattle.std.proofs.lemmas.Result.{on_ok_weaker}
use Rattle.fst_runs.specs.declared.event.CoreEvent.TheVariants.{Fork}
use Rattle.fst_vm.specs.SlotOf.{slot_of}
use Rattle.fst_process.specs.KeptOf.{kept_of}
use Rattle.fst_process.proofs.Stepping.{clock_within}
use Rattle.fst_process.proofs.FireFork.{forks_now, fork_can, child_next, fork_happens}
use Rattle.fst_process.proofs.config.Config.fork.Goals as goal

pub child-requires : goal.child-requires
child-requires c =
    let it = c.slot-parent in
    ∥∥₁_map c.requires (forks_now c.args.code.now (kept_of c.args.self.now) c.args.path.now (slot_of it.result.now) it.ensures)

pub go_on-requires : goal.go_on-requires
go_on-requires c =
    let it = c.slot-parent in
    ∥∥₁_map c.requires (fork_can c.args.code.now (kept_of c.args.self.now) c.args.path.now (slot_of it.result.now) it.ensures)

pub overflow_add-clock : goal.overflow_add-clock
overflow_add-clock c =
    let it = c.slot-parent in
    let few = clock_within c.args.code.now (kept_of c.args.self.now) c.args.path.now (slot_of it.result.now)
    (Fork c.args.path.now) it.ensures c.requires in
    omega (arith, few)

pub settle-requires : goal.settle-requires
settle-requires c =
    let it = c.slot-parent in
    ∥∥₁_map c.requires
    (child_next c.args.code.now (kept_of c.args.self.now) c.args.path.now
    (slot_of it.result.now) it.ensures c.in_ok-child.child c.in_ok-child.ensures.child)

pub returns : goal.returns
returns c =
    let it = c.slot-parent in
    on_ok_weaker c.settle.result
    (fork_happens c.args.code.now (kept_of c.args.self.now) c.args.path.now (slot_of it.result.now) it.ensures c.in_ok-child.child
    (kept_of c.go_on.new.self) (kept_of c.settle.new.self)
    c.in_ok-go_on.ensures c.in_ok-child.ensures.child) c.settle.ensures.settles
