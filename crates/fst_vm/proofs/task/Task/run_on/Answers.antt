use Rattle.std.proofs.Common.{◌∙◌, Bool, false, List, [], Ok, ap, subst, sym}
use Rattle.std.proofs.lemmas.Option.{none-some}
use Rattle.fst_types.specs.declared.family.Family.{Family}
use Rattle.fst_value.specs.Stacks.{Makes}
use Rattle.fst_machine.specs.Spots.{Spot, inner}
use Rattle.fst_vm.specs.Moves.{spare_for}
use Rattle.fst_vm.specs.Running.{ComesTo, here, next, code_of}
use Rattle.fst_vm.specs.TaskView.{TaskView}
use Rattle.fst_vm.proofs.TaskLaws.{down_where, stays}
use Rattle.fst_vm.proofs.task.Task.run_on.Goals as goal

pub invariant_of-self : goal.invariant_of-self
invariant_of-self c = λ ready. c.self.invariant ready ∙ ap (λ (s : Spot). spare_for s.operands) (sym (c.in_err-moved.ensures []))

pub returns-in_err-moved-clause-stays : goal.returns-in_err-moved-clause-stays
returns-in_err-moved-clause-stays c =
    let i = c.self.inside in
    stays c.args.code.now i.path i.forked i.running c.step.new.self i.ready i.ready c.args.self.now c.self.view_is
    (λ fs. subst (ComesTo (code_of fs c.args.code.now) i.running) (sym (c.in_err-moved.ensures fs)) here)

pub run_on-requires : goal.run_on-requires
run_on-requires c = down_where c.args.code.now c.args.self.now c.requires

pub returns-in_err-run_on-clause-stays : goal.returns-in_err-run_on-clause-stays
returns-in_err-run_on-clause-stays c =
    let i = c.self.inside in
    let made = λ (fs : List Family). subst (λ (b : Bool). Makes (inner (code_of fs c.args.code.now)) i.running
    (Ok b) c.step.new.self) c.if-moved.true (c.in_ok-moved.ensures fs) in
    stays c.args.code.now i.path i.forked i.running c.run_on.new.self i.ready false c.args.self.now c.self.view_is
    (λ fs. next (made fs) (c.run_on.ensures.way fs))

pub returns-in_err-run_on-clause-kept : goal.returns-in_err-run_on-clause-kept
returns-in_err-run_on-clause-kept c =
    let k = c.args.code.now in
    let made = subst (λ (b : Bool). Makes (inner (code_of [] k)) c.self.inside.running (Ok b) c.step.new.self) c.if-moved.true
    (c.in_ok-moved.ensures []) in
    λ rests. absurd (none-some c.step.new.self (sym (rests []) ∙ ap
    (λ (t : TaskView). inner (code_of [] k) t.spot) (sym c.self.view_is) ∙ made))

pub returns-in_ok-run_on-clause-stays : goal.returns-in_ok-run_on-clause-stays
returns-in_ok-run_on-clause-stays c =
    let i = c.self.inside in
    let made = λ (fs : List Family). subst (λ (b : Bool). Makes (inner (code_of fs c.args.code.now)) i.running
    (Ok b) c.step.new.self) c.if-moved.true (c.in_ok-moved.ensures fs) in
    stays c.args.code.now i.path i.forked i.running c.run_on.new.self i.ready false c.args.self.now c.self.view_is
    (λ fs. next (made fs) (c.run_on.ensures.way fs))

pub returns-in_ok-run_on-clause-kept : goal.returns-in_ok-run_on-clause-kept
returns-in_ok-run_on-clause-kept c =
    let k = c.args.code.now in
    let made = subst (λ (b : Bool). Makes (inner (code_of [] k)) c.self.inside.running (Ok b) c.step.new.self) c.if-moved.true
    (c.in_ok-moved.ensures []) in
    λ rests. absurd (none-some c.step.new.self (sym (rests []) ∙ ap
    (λ (t : TaskView). inner (code_of [] k) t.spot) (sym c.self.view_is) ∙ made))

pub invariant_of-self-else-moved : goal.invariant_of-self-else-moved
invariant_of-self-else-moved c =
    let m = subst (λ (b : Bool). Makes (inner (code_of [] c.args.code.now)) c.self.inside.running (Ok b) c.step.new.self)
    c.if-moved.false (c.in_ok-moved.ensures []) in
    λ ready. c.self.invariant ready ∙ ap (λ (s : Spot). spare_for s.operands) (sym m.1)

pub returns-else-moved-clause-stays : goal.returns-else-moved-clause-stays
returns-else-moved-clause-stays c =
    let i = c.self.inside in
    let still = λ (fs : List Family). subst (λ (b : Bool). Makes (inner (code_of fs c.args.code.now)) i.running
    (Ok b) c.step.new.self) c.if-moved.false (c.in_ok-moved.ensures fs) in
    stays c.args.code.now i.path i.forked i.running c.step.new.self i.ready i.ready c.args.self.now c.self.view_is
    (λ fs. subst (ComesTo (code_of fs c.args.code.now) i.running) (sym (still fs).1) here)

pub returns-else-moved-clause-rests : goal.returns-else-moved-clause-rests
returns-else-moved-clause-rests c = λ fs.
    let m = subst (λ (b : Bool). Makes (inner (code_of fs c.args.code.now)) c.self.inside.running (Ok b) c.step.new.self)
    c.if-moved.false (c.in_ok-moved.ensures fs) in
    ap (inner (code_of fs c.args.code.now)) m.1 ∙ m.0
