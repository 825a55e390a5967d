use Rattle.std.proofs.Common.{◌≡◌, arith, length, subst, sym}
use Rattle.fst_premises.specs.Scenes.{check_in}
use Rattle.fst_premises.proofs.Arguments.{ArgumentsSoFar, argument_formed, arguments_below, arguments_start, arguments_there}
use Rattle.fst_premises.proofs.leaves.arguments.Goals as goal

pub loop-i-init : goal.loop-i-init
loop-i-init c = subst (ArgumentsSoFar (check_in c.args.scene) c.args.ks.now c.args.kinds.now 0) (sym c.new-args.ensures.items)
    (arguments_start (check_in c.args.scene) c.args.ks.now c.args.kinds.now c.requires.formed)

pub written_kind-requires : goal.written_kind-requires
written_kind-requires c = argument_formed (check_in c.args.scene) c.args.ks.now c.args.kinds.now c.loop-i.i 0 c.loop-i.args.items
    c.loop-i.invariant c.loop-i-test.true

pub returns-clause-there : goal.returns-clause-there
returns-clause-there c =
    let done : c.loop-i.i ≡ length c.args.ks.now = omega (arith, c.loop-i-test.false, c.loop-i.auto.i-end) in
    arguments_there (check_in c.args.scene) c.args.ks.now c.args.kinds.now c.loop-i.args.items
    (subst (λ n. ArgumentsSoFar (check_in c.args.scene) c.args.ks.now c.args.kinds.now n c.loop-i.args.items) done
    c.loop-i.invariant)

pub returns-clause-below : goal.returns-clause-below
returns-clause-below c =
    let done : c.loop-i.i ≡ length c.args.ks.now = omega (arith, c.loop-i-test.false, c.loop-i.auto.i-end) in
    arguments_below (check_in c.args.scene) c.args.ks.now c.args.kinds.now c.loop-i.args.items
    (subst (λ n. ArgumentsSoFar (check_in c.args.scene) c.args.ks.now c.args.kinds.now n c.loop-i.args.items) done
    c.loop-i.invariant) c.requires.long
