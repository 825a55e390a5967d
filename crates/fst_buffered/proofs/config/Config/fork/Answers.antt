use Rattle.std.proofs.Math.Logic.{∥∥₁_map}
use Rattle.std.proofs.lemmas.Result.{on_ok_weaker}
use Rattle.fst_machine.specs.declared.request.Request.TheVariants as request
use Rattle.fst_vm.specs.SlotOf.{slot_of}
use Rattle.fst_buffered.specs.KeptOf.{kept_of}
use Rattle.fst_buffered.proofs.Doing.{asks_it, forker_live, forks_now, fork_can, child_next, fork_steps}
use Rattle.fst_buffered.proofs.config.Config.fork.Goals as goal

pub slot-requires : goal.slot-requires
slot-requires c = forker_live (kept_of c.args.self.now) c.args.path.now c.requires.asks

pub child-requires : goal.child-requires
child-requires c =
    let d = kept_of c.args.self.now in
    let p = c.args.path.now in
    let s = slot_of c.slot.result.now in
    let asks = asks_it d p request.Fork s c.requires.asks c.slot.ensures in
    ∥∥₁_map c.requires.can (forks_now c.args.code.now c.args.capacity d p s c.slot.ensures asks)

pub go_on-requires-clause-can : goal.go_on-requires-clause-can
go_on-requires-clause-can c =
    let d = kept_of c.args.self.now in
    let p = c.args.path.now in
    let s = slot_of c.slot.result.now in
    let asks = asks_it d p request.Fork s c.requires.asks c.slot.ensures in
    ∥∥₁_map c.requires.can (fork_can c.args.code.now c.args.capacity d p s c.slot.ensures asks)

pub settle-requires-clause-next : goal.settle-requires-clause-next
settle-requires-clause-next c =
    let d = kept_of c.args.self.now in
    let p = c.args.path.now in
    let s = slot_of c.slot.result.now in
    let asks = asks_it d p request.Fork s c.requires.asks c.slot.ensures in
    ∥∥₁_map c.requires.can (child_next c.args.code.now c.args.capacity d p s c.slot.ensures c.in_ok-child.child
    c.in_ok-child.ensures.child asks)

pub returns : goal.returns
returns c =
    let d = kept_of c.args.self.now in
    let p = c.args.path.now in
    let s = slot_of c.slot.result.now in
    let asks = asks_it d p request.Fork s c.requires.asks c.slot.ensures in
    on_ok_weaker c.settle.result (fork_steps c.args.code.now c.args.capacity d p s c.slot.ensures asks c.in_ok-child.child
    (kept_of c.go_on.new.self) (kept_of c.settle.new.self) c.in_ok-go_on.ensures.goes c.in_ok-child.ensures.child)
    c.settle.ensures.settles
