use Rattle.std.proofs.Common.{◌∙◌, Bool, [], sym, ap, subst}
use Rattle.std.proofs.Math.Logic.{∥∥₁_elim}
use Rattle.std.proofs.Math.Bridge.{le_prop}
use Rattle.std.specs.declared.result.Result.TheVariants.{Ok}
use Rattle.fst_value.specs.Stacks.{Makes}
use Rattle.fst_machine.specs.Spots.{inner}
use Rattle.fst_machine.proofs.Laws.{inner_lowers}
use Rattle.fst_vm.specs.Running.{ComesTo, here, code_of}
use Rattle.fst_vm.proofs.RunLaws.{one_further}
use Rattle.fst_vm.proofs.running.Running.run_on.Goals as goal

pub loop-init : goal.loop-init
loop-init c = λ fs. here

pub returns-in_err-step-clause-way : goal.returns-in_err-step-clause-way
returns-in_err-step-clause-way c =
    λ fs. subst (λ t. ComesTo (code_of fs c.args.code.now) c.args.self.now t) (sym (c.in_err-step.ensures fs))
    (c.loop.invariant fs)

pub loop-smaller : goal.loop-smaller
loop-smaller c =
    let made = subst (λ (b : Bool). Makes (inner (code_of [] c.args.code.now)) c.loop.self (Ok b) c.step.new.self)
    c.if-branch.true (c.in_ok-step.ensures []) in
    ∥∥₁_elim c.requires le_prop (λ down. inner_lowers (code_of [] c.args.code.now) c.loop.self c.step.new.self (down []) made)

pub loop-preserved : goal.loop-preserved
loop-preserved c =
    λ fs. one_further (code_of fs c.args.code.now) c.args.self.now c.loop.self c.step.new.self (c.loop.invariant fs)
    (subst (λ (b : Bool). Makes (inner (code_of fs c.args.code.now)) c.loop.self (Ok b) c.step.new.self) c.if-branch.true
    (c.in_ok-step.ensures fs))

pub returns-clause-way : goal.returns-clause-way
returns-clause-way c =
    λ fs.
    let still = (subst (λ (b : Bool). Makes (inner (code_of fs c.args.code.now)) c.loop.self (Ok b) c.step.new.self)
    c.if-branch.false (c.in_ok-step.ensures fs)) in
    subst (λ t. ComesTo (code_of fs c.args.code.now) c.args.self.now t) (sym still.1) (c.loop.invariant fs)

pub returns-clause-still : goal.returns-clause-still
returns-clause-still c =
    λ fs.
    let still = (subst (λ (b : Bool). Makes (inner (code_of fs c.args.code.now)) c.loop.self (Ok b) c.step.new.self)
    c.if-branch.false (c.in_ok-step.ensures fs)) in
    ap (inner (code_of fs c.args.code.now)) still.1 ∙ still.0
