use Rattle.std.specs.declared.result.Result.TheVariants.{Ok}
use Rattle.fst_machine.specs.declared.code.Instr.TheVariants as does
use Rattle.fst_machine.specs.declared.request.Answer.TheVariants.{Sent}
use Rattle.fst_machine.specs.Spots.{told}
use Rattle.fst_vm.proofs.RunLaws.{makes_alike}
use Rattle.fst_vm.proofs.answers.sent_instr.Goals as goal

pub returns-in-Send : goal.returns-in-Send
returns-in-Send c =
    let s = c.args.running.now in
    let j = c.args.behind in
    λ k.
    makes_alike (λ z. told k does.Send j z z.operands Sent)
    (λ z. told k c.args.instr.now j z z.operands Sent) s c.go_on_with_end.new.running
    (Ok c.go_on_with_end.result) (λ i. told k (c.in-Send.is i) j s s.operands Sent) (c.go_on_with_end.ensures k)

pub returns-in-Close : goal.returns-in-Close
returns-in-Close c =
    let s = c.args.running.now in
    let j = c.args.behind in
    λ k.
    makes_alike (λ z. told k does.Close j z z.operands Sent)
    (λ z. told k c.args.instr.now j z z.operands Sent) s c.go_on_closed.new.running
    (Ok c.go_on_closed.result) (λ i. told k (c.in-Close.is i) j s s.operands Sent) (c.go_on_closed.ensures k)

pub returns-in-Select : goal.returns-in-Select
returns-in-Select c =
    let s = c.args.running.now in
    let j = c.args.behind in
    λ k.
    makes_alike (λ z. told k (does.Select c.in-Select.field-0) j z z.operands Sent)
    (λ z. told k c.args.instr.now j z z.operands Sent) s c.go_on_selected.new.running
    (Ok c.go_on_selected.result) (λ i. told k (c.in-Select.is i) j s s.operands Sent)
    (c.go_on_selected.ensures k c.in-Select.field-0)
